-- One instruction of a code: what it must have to be carried out, and what it does. `at` is the place behind its kind and type
-- bytes. Nothing here says where the next instruction's result goes.
use Rattle.std.specs.Prelude.{ℕ, ◌+◌, ◌*◌, ◌≤◌, ◌≡◌, true, List, [], ◌∷◌, Float, length, replicate}
use Rattle.std.specs.Float.Ieee as Ieee
use Rattle.std.specs.Float.{binary64}
use Rattle.ports.specs.Kinds.{kind_of}
use Rattle.ports.specs.Ports.{width, widths, takes, gives, arity, constant_words, legal_instruction}
use Rattle.value.specs.declared.Row.{Row}
use Rattle.value.specs.declared.Value.{Value}
use Rattle.value.specs.declared.Operator.{Operator}
use Rattle.value.specs.declared.Operator.TheVariants.{Add, Subtract, Multiply, Divide, Minimum, Maximum, Absolute, Remainder, Select, Clamp}
use Rattle.value.specs.Values.{row, float_at}
use Rattle.value.specs.Steps.{operands_of}
use Rattle.value.specs.Typed.{Canonical, Standing}
use Rattle.base.specs.Bytes.{u16, u64, constants}
use Rattle.bytecode.specs.Run.{Instruction, execute, values_at}
use Rattle.bytecode.specs.Code.{addresses}
use Rattle.executor.specs.declared.Extent.{Extent}

-- the instruction that stands there
abbrev pub instruction_at : ℕ → ℕ → List ℕ → ℕ → ℕ → Instruction
instruction_at k t s at result =
    record {
      kind = k;
      type = t;
      operands = addresses (arity (kind_of k)) s at;
      constants = constants (constant_words (kind_of k)) s (at + 2 * arity (kind_of k));
      result = result;
    }

-- the place behind it
abbrev pub end_of : ℕ → ℕ → ℕ
end_of k at = at + 2 * arity (kind_of k) + 8 * constant_words (kind_of k)

-- the bytes of its operands and constants
abbrev pub code_bytes : ℕ → ℕ
code_bytes k = 2 * arity (kind_of k) + 8 * constant_words (kind_of k)

-- the words of its results
abbrev pub words_given : ℕ → ℕ → ℕ
words_given k t = widths (gives (kind_of k) t)

-- the kind that an operator carries out
abbrev pub kind_for : Operator → ℕ
kind_for Add = 1
kind_for Subtract = 2
kind_for Multiply = 3
kind_for Divide = 4
kind_for Minimum = 18
kind_for Maximum = 19
kind_for Absolute = 20
kind_for Remainder = 21
kind_for Select = 22
kind_for Clamp = 23

abbrev pub constant_at : List ℕ → ℕ → Float
constant_at s at = Ieee.of_bits binary64 (u64 s at)

-- four words of a constant
abbrev pub constant_row : List ℕ → ℕ → Row
constant_row s at = row (constant_at s at) (constant_at s (at + 8)) (constant_at s (at + 8 + 8)) (constant_at s (at + 8 + 8 + 8))

-- the scalars at four addresses
abbrev pub scalars_row : List ℕ → List ℕ → ℕ → Row
scalars_row m s at = row (float_at m (u16 s at)) (float_at m (u16 s (at + 2))) (float_at m (u16 s (at + 2 + 2))) (float_at m (u16 s (at + 2 + 2 + 2)))

-- ---- canonical words

-- n words at an address of m, all of them canonical
abbrev pub Loadable : List ℕ → ℕ → ℕ → Type 0
Loadable = Standing Canonical

-- values of these types at these addresses
abbrev pub AllLoadable : List ℕ → List ℕ → List ℕ → Type 0
AllLoadable m [] xs = Unit {0}
AllLoadable m (t ∷ ts) [] = ⊥
AllLoadable m (t ∷ ts) (a ∷ xs) = Loadable m a (width t) × AllLoadable m ts xs

-- an operand of the type t, whose address stands at `at`
abbrev pub Operand : ℕ → List ℕ → ℕ → List ℕ → Type 0
Operand t s at m = (at + 2 ≤ length s) × Loadable m (u16 s at) (width t)

-- ---- what must be so before, in a memory m

pub record Ready (k t : ℕ) (s : List ℕ) (at result : ℕ) (m : List ℕ) : Type 0 where
  pub fits : end_of k at ≤ length s
  pub operands : AllLoadable m (takes (kind_of k) t) (addresses (arity (kind_of k)) s at)
  pub room : result + words_given k t ≤ length m

pub record Executable (k t : ℕ) (s : List ℕ) (at result : ℕ) (m : List ℕ) : Type 0 where
  pub legal : legal_instruction (kind_of k) t ≡ true
  pub ready : Ready k t s at result m

-- the operands of an operator, of one type
pub record Operands (o : Operator) (t : ℕ) (s : List ℕ) (at : ℕ) (m : List ℕ) : Type 0 where
  pub fits : at + 2 * operands_of o ≤ length s
  pub operands : AllLoadable m (replicate (operands_of o) t) (addresses (operands_of o) s at)

abbrev pub operands_given : Operator → ℕ → List ℕ → ℕ → List ℕ → List Value
operands_given o t s at m = values_at m (replicate (operands_of o) t) (addresses (operands_of o) s at)

-- four scalars
pub record ScalarsReady (s : List ℕ) (at : ℕ) (m : List ℕ) : Type 0 where
  pub fits : at + 8 ≤ length s
  pub operands : AllLoadable m (replicate 4 1) (addresses 4 s at)

-- ---- what is so after: the words, and how much code and memory the instruction takes

pub record Executed (k t : ℕ) (s : List ℕ) (at result : ℕ) (m after : List ℕ) (x : Extent) : Type 0 where
  pub words : after ≡ execute (instruction_at k t s at result) m
  pub bytes : x.bytes ≡ code_bytes k
  pub given : x.words ≡ words_given k t
