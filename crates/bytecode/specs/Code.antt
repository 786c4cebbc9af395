-- The bytes of a board list of either version, and the reading of them: what is not well formed reads as `none`.
use Rattle.std.specs.Prelude.{ℕ, zero, suc, ◌+◌, ◌*◌, Bool, true, false, ◌&&◌, cond, List, [], ◌∷◌, ◌++◌, leb, ltb, eqb, length}
use Rattle.std.proofs.Math.Option.{Option, none, some}
use Rattle.ports.specs.Kinds.{kind_of}
use Rattle.ports.specs.Ports.{takes, arity, constant_words, legal_instruction}
use Rattle.value.specs.Values.{constant_word}
use Rattle.base.specs.Lists.{every}
use Rattle.base.specs.Bytes.{byte, u16, constants, bytes_of, all_bytes}
use Rattle.base.specs.Outcome.{Part}
use Rattle.base.specs.Limits.{port_word_limit, within_limits, header_length}
use Rattle.bytecode.specs.Run.{Instruction, BoardList, spans}
use Rattle.bytecode.specs.Ranges.{any, Range, inside, behind, result_value}
use Rattle.bytecode.specs.declared.Version.{Version}
use Rattle.bytecode.specs.Version.{number, version_of, addressed}

-- ---- writing

-- the result's address stands in front of the operands where the version has it
abbrev pub result_code : Version → ℕ → List ℕ
result_code v a = cond (addressed v) (bytes_of 2 a) []

abbrev pub instruction_code : Version → Instruction → List ℕ
instruction_code v i = i.kind ∷ i.type ∷ result_code v i.result ++ (all_bytes 2 i.operands ++ all_bytes 8 i.constants)

abbrev pub instructions_code : Version → List Instruction → List ℕ
instructions_code v [] = []
instructions_code v (i ∷ is) = instruction_code v i ++ instructions_code v is

abbrev pub header_code : ℕ → ℕ → ℕ → ℕ → ℕ → List ℕ
header_code version arguments outputs count words =
    0x49 ∷ 0x46 ∷ 0x52 ∷ version ∷ 0 ∷ arguments ∷ outputs ∷ 0 ∷ bytes_of 2 count ++ bytes_of 2 words

unfoldable pub encode : Version → BoardList → List ℕ
encode v b =
    header_code (number v) b.arguments (length b.outputs) (length b.instructions) b.words
    ++ instructions_code v b.instructions
    ++ all_bytes 2 b.outputs

-- ---- reading

module _ {A : Type 0} where
  -- go on where the test passes
  unfoldable pub guard : Bool → Option A → Option A
  guard true o = o
  guard false o = none

module _ {A B : Type 0} where
  -- go on with what was read
  unfoldable pub then : Option A → (A → Option B) → Option B
  then none k = none
  then (some a) k = k a

abbrev pub addresses : ℕ → List ℕ → ℕ → List ℕ
addresses zero s at = []
addresses (suc n) s at = u16 s at ∷ addresses n s (at + 2)

-- `written` has the arguments' words and those of the results so far. Version 1: every word before the next result; version 2: an argument's
-- word, or one that was written before
abbrev pub readable : Version → List Range → ℕ → Bool
readable v written a = cond (addressed v) (any (λ r. inside r a) written) (ltb a (behind written))

-- the address of the result of an instruction, whose kind and type byte stand before `at`
abbrev pub result_at : Version → List ℕ → ℕ → List Range → ℕ
result_at v s at written = cond (addressed v) (u16 s at) (behind written)

-- and its bytes
abbrev pub result_bytes : Version → ℕ
result_bytes v = cond (addressed v) 2 0

abbrev pub read_operands : Version → List Range → ℕ → ℕ → ℕ → List ℕ → List ℕ → ℕ → Option (Part Instruction)
read_operands v written k t result operands consts end =
    guard (every (readable v written) (spans (takes (kind_of k) t) operands))
    (guard (every constant_word consts)
    (some (record { it = record { kind = k; type = t; operands = operands; constants = consts; result = result }; next = end })))

abbrev pub read_kind : Version → List Range → ℕ → ℕ → List ℕ → ℕ → Option (Part Instruction)
read_kind v written k t s at =
    let n = arity (kind_of k) in
    let c = constant_words (kind_of k) in
    let from = at + result_bytes v in
    let end = from + 2 * n + 8 * c in
    guard (legal_instruction (kind_of k) t)
    (guard (leb end (length s)) (read_operands v written k t (result_at v s at written) (addresses n s from) (constants c s (from + 2 * n)) end))

abbrev pub read_instruction : Version → List Range → List ℕ → ℕ → Option (Part Instruction)
read_instruction v written s at = guard (leb (at + 2) (length s)) (read_kind v written (byte s at) (byte s (at + 1)) s (at + 2))

-- the instructions, the place behind them, and the words that are written
pub record Listed : Type 0 where
  pub instructions : List Instruction
  pub at : ℕ
  pub written : List Range

abbrev pub read_instructions : Version → ℕ → List ℕ → ℕ → List Range → Option Listed
read_instructions v zero s at written = some (record { instructions = []; at = at; written = written })
read_instructions v (suc n) s at written =
    then (read_instruction v written s at)
    (λ i.
    then (read_instructions v n s i.next (result_value i.it ∷ written))
    (λ r. some (record { instructions = i.it ∷ r.instructions; at = r.at; written = r.written })))

-- the word count is the highest argument or result word plus one, the outputs are the last bytes, and their words are readable
abbrev pub read_outputs : Version → List ℕ → ℕ → ℕ → ℕ → Listed → Option BoardList
read_outputs v s arguments outputs words l =
    let xs = addresses outputs s l.at in
    guard (eqb (behind l.written) words)
    (guard (eqb (l.at + 2 * outputs) (length s))
    (guard (every (readable v l.written) xs) (some (record { arguments = arguments; instructions = l.instructions; words = words; outputs = xs }))))

-- counts that a code may have
abbrev pub counts_fit : ℕ → ℕ → ℕ → ℕ → Bool
counts_fit arguments outputs count words = leb arguments port_word_limit && leb 1 outputs && leb outputs port_word_limit && within_limits count words

-- the arguments take the first words
abbrev pub argument_words : ℕ → List Range
argument_words n = record { first = 0; width = n } ∷ []

abbrev pub read_counts : Version → List ℕ → ℕ → ℕ → ℕ → ℕ → Option BoardList
read_counts v s arguments outputs count words =
    guard (counts_fit arguments outputs count words)
    (then (read_instructions v count s header_length (argument_words arguments)) (read_outputs v s arguments outputs words))

-- mark and zero byte
abbrev pub code_marked : List ℕ → Bool
code_marked s = eqb (byte s 0) 0x49 && eqb (byte s 1) 0x46 && eqb (byte s 2) 0x52 && eqb (byte s 7) 0

-- by the version that the header names
unfoldable pub decode : List ℕ → Option BoardList
decode s =
    guard (leb header_length (length s))
    (guard (code_marked s) (then (version_of (u16 s 3)) (λ v. read_counts v s (byte s 5) (byte s 6) (u16 s 8) (u16 s 10))))
