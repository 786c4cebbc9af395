-- Names for the words of a function's list. Every value, input or result, takes as many names, so that a name tells its value and the word within it
-- however wide the values before it are.
use Rattle.std.specs.Prelude.{ℕ, zero, suc, ◌+◌, ◌*◌, ◌/◌, ◌%◌, ◌≤◌, ◌<◌, ◌≡◌, List, [], ◌∷◌, ◌++◌, length, get_or}
use Rattle.ports.specs.Kinds.{kind_of}
use Rattle.ports.specs.Ports.{width, widths, takes}
use Rattle.graph.specs.Graph.{Function}
use Rattle.bytecode.specs.declared.Version.{Version}
use Rattle.bytecode.specs.declared.Version.TheVariants.{V1, V2}
use Rattle.bytecode.specs.Run.{Instruction}
use Rattle.bytecode.specs.Ranges.{Range, result_value}
use Rattle.placement.specs.Arrays.{nothing}
use Rattle.lowering.specs.Compile.{Inlined, inline_function, inlined}

-- more than the ports of an instruction: decomposevector has three
abbrev pub name_step : ℕ
name_step = 4

-- what results of these types take: their words, or their names
abbrev pub sizing : Version → List ℕ → ℕ
sizing V1 = widths
sizing V2 = λ ts. name_step

-- of n inputs, from the j-th on
abbrev pub names : ℕ → ℕ → List ℕ
names j zero = []
names j (suc n) = name_step * j ∷ names (suc j) n

-- the list by names
abbrev pub named_of : List Function → Function → Inlined
named_of early f = inline_function (sizing V2) (inlined (sizing V2) early) f (names 0 (length f.inputs)) (name_step * length f.inputs)

-- ---- what a name stands for

-- where these are the values, the name a stands for the word x, and a value of the type t there is within one of them
pub record Names (values : List Range) (t a x : ℕ) : Type 0 where
  pub known : a / name_step < length values
  pub word : x ≡ (get_or values (a / name_step) nothing).first + a % name_step
  pub inside : a % name_step + width t ≤ (get_or values (a / name_step) nothing).width

abbrev pub AllNames : List Range → List ℕ → List ℕ → List ℕ → Type 0
AllNames values [] [] [] = Unit {0}
AllNames values [] [] (x ∷ xs) = ⊥
AllNames values [] (a ∷ at) xs = ⊥
AllNames values (t ∷ ts) [] xs = ⊥
AllNames values (t ∷ ts) (a ∷ at) [] = ⊥
AllNames values (t ∷ ts) (a ∷ at) (x ∷ xs) = Names values t a x × AllNames values ts at xs

-- i by names is j by words, where its result is the next value
pub record Renames (values : List Range) (i j : Instruction) : Type 0 where
  pub kind : i.kind ≡ j.kind
  pub type : i.type ≡ j.type
  pub constants : i.constants ≡ j.constants
  pub operands : AllNames values (takes (kind_of j.kind) j.type) i.operands j.operands
  pub result : i.result ≡ name_step * length values

abbrev pub AllRename : List Range → List Instruction → List Instruction → Type 0
AllRename values [] [] = Unit {0}
AllRename values [] (j ∷ js) = ⊥
AllRename values (i ∷ is) [] = ⊥
AllRename values (i ∷ is) (j ∷ js) = Renames values i j × AllRename (values ++ (result_value j ∷ [])) is js
