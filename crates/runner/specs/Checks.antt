-- The check of a code: its counts, or that it is not well formed.
use Rattle.std.specs.Prelude.{Some, None, ℕ, ◌+◌, ◌*◌, ◌≤◌, ◌<◌, max, ◌≡◌, Bool, true, false, ◌&&◌, ◌||◌, cond, List, [], ◌∷◌, ◌↔◌, leb, ltb, eqb, length, get_or}
use Rattle.std.proofs.Math.Option.{Option, none, some}
use Rattle.ports.specs.declared.Ports.{Ports}
use Rattle.ports.specs.Kinds.{kind_of}
use Rattle.ports.specs.Ports.{width, ports_of, own, types, takes_row, constant_in, result_words, executable, type_fits}
use Rattle.base.specs.Bytes.{byte, u16, constants}
use Rattle.base.specs.Lists.{every, span}
use Rattle.base.specs.Limits.{port_word_limit, word_limit, header_length}
use Rattle.value.specs.Values.{constant_word}
use Rattle.bytecode.specs.Run.{BoardList}
use Rattle.bytecode.specs.Ranges.{Range, inside, behind}
use Rattle.bytecode.specs.declared.Version.{Version}
use Rattle.bytecode.specs.declared.Version.TheVariants.{V2}
use Rattle.bytecode.specs.Code.{then, addresses, readable, result_bytes, argument_words, Listed, read_instructions, read_outputs}
use Rattle.bytecode.specs.WellFormed.{Codes}
use Rattle.executor.specs.Instructions.{version_by}
use Rattle.runner.specs.declared.Counts.{Counts}
use Rattle.runner.specs.Answers.{Checked, Progress}
use Rattle.runner.specs.declared.Cursor.{Cursor}

-- the counts of a board list
abbrev pub counts_of : BoardList → Counts
counts_of b = record { arguments = b.arguments; outputs = length b.outputs; instructions = length b.instructions; words = b.words }

unfoldable pub checked_of : Option BoardList → Checked
checked_of none = None
checked_of (some b) = Some (counts_of b)

-- well formed, by the lists that have a code and not by the reading: in no version the code of a list, or in one the code of a list with these counts
pub record Exactly (s : List ℕ) (r : Checked) : Type 0 where
  pub malformed : (r ≡ None) ↔ ((v : Version) (b : BoardList) → Codes v s b → ⊥)
  pub formed : (c : Counts) → (r ≡ Some c) ↔ ((v : Version) × (b : BoardList) × Codes v s b × (counts_of b ≡ c))

-- the counts that a header says
abbrev pub header_counts : List ℕ → Counts
header_counts s = record { arguments = byte s 5; outputs = byte s 6; instructions = u16 s 8; words = u16 s 10 }

-- the list behind the header, read in a version
abbrev pub list_of : Version → List ℕ → Counts → Option BoardList
list_of v s c =
    then (read_instructions v c.instructions s header_length (argument_words c.arguments)) (read_outputs v s c.arguments c.outputs c.words)

-- ---- one instruction

-- the words of each operand stand all before `next`
abbrev pub all_below : ℕ → List ℕ → List ℕ → Bool
all_below next [] xs = true
all_below next (t ∷ ts) [] = true
all_below next (t ∷ ts) (a ∷ xs) = leb (a + width t) next && all_below next ts xs

abbrev pub all_less : ℕ → List ℕ → Bool
all_less n [] = true
all_less n (a ∷ xs) = ltb a n && all_less n xs

-- ---- version 2's record of the words that are written: a mark for each

abbrev pub marked : List Bool → ℕ → Bool
marked marks a = get_or marks a false

pub record Records (written : List Range) (marks : List Bool) : Type 0 where
  pub size : length marks ≡ word_limit
  pub is : (a : ℕ) → marked marks a ≡ readable V2 written a

-- only version 2 keeps it
abbrev pub Recorded : Bool → List Range → List Bool → Type 0
Recorded false written marks = Unit {0}
Recorded true written marks = Records written marks

-- n more words, from `first` on
pub record Extended (first n : ℕ) (marks after : List Bool) : Type 0 where
  pub size : length after ≡ length marks
  pub is : (a : ℕ) → marked after a ≡ inside (record { first = first; width = n }) a || marked marks a

-- ---- one instruction, of version 2 or of version 1: version 2's carries its result's address

abbrev pub legal_row : Ports → ℕ → Bool
legal_row row t = executable row.form && type_fits row t

-- where its operands stand
abbrev pub operands_from : Bool → ℕ → ℕ
operands_from b at = at + 2 + result_bytes (version_by b)

-- an operand of the type t at the word a: in version 1 its words stand before the next result, in version 2 each was written
abbrev pub operand_good : Bool → List Bool → (high t a : ℕ) → Bool
operand_good false marks high t a = leb (a + width t) high
operand_good true marks high t a = every (marked marks) (span a (width t))

abbrev pub operands_good : Bool → List Bool → ℕ → List ℕ → List ℕ → Bool
operands_good b marks high [] xs = true
operands_good b marks high (t ∷ ts) [] = true
operands_good b marks high (t ∷ ts) (a ∷ xs) = operand_good b marks high t a && operands_good b marks high ts xs

-- its operands and its constant from `from` on: the place behind them, and whether they pass
abbrev pub inputs_end : Ports → ℕ → ℕ
inputs_end row from = from + (2 * row.operands + 8 * constant_in row.form row.words)

unfoldable pub inputs_good : Bool → List ℕ → (from : ℕ) → Ports → (t high : ℕ) → List Bool → Bool
inputs_good b s from row t high marks =
    leb (inputs_end row from) (length s) && operands_good b marks high (takes_row row t) (addresses row.operands s from)
    && every constant_word (constants (constant_in row.form row.words) s (from + 2 * row.operands))

-- the same of operands of these types and no constant, of two, and of a constant alone
abbrev pub several_good : Bool → List ℕ → (from count first rest high : ℕ) → List Bool → Bool
several_good b s from count first rest high marks =
    leb (from + 2 * count) (length s) && operands_good b marks high (types count first rest) (addresses count s from)

abbrev pub both_good : Bool → List ℕ → (from first second high : ℕ) → List Bool → Bool
both_good b s from first second high marks =
    leb (from + 4) (length s) && operand_good b marks high first (u16 s from) && operand_good b marks high second (u16 s (from + 2))

abbrev pub constant_good : List ℕ → (from words : ℕ) → Bool
constant_good s from words = leb (from + 8 * words) (length s) && every constant_word (constants words s from)

-- the row, the types of the operands and the words of the result of the instruction at `at`, which is legal
pub record Given (s : List ℕ) (at : ℕ) (row : Ports) (first rest words : ℕ) : Type 0 where
  pub row_is : row ≡ ports_of (kind_of (byte s at))
  pub legal : legal_row row (byte s (at + 1)) ≡ true
  pub first_is : first ≡ own (byte s (at + 1)) row.first
  pub rest_is : rest ≡ own (byte s (at + 1)) row.rest
  pub words_is : words ≡ result_words row (byte s (at + 1))
  pub few : words < 256

-- what follows its result: in version 1 the next words are the result's, in version 2 those at an address, which are within the record, and are marked
abbrev pub placed : Bool → (first words next high room : ℕ) → Progress
placed false first words next high room = Some (record { at = next; result = high + words })
placed true first words next high room = cond (leb (first + words) room) (Some (record { at = next; result = max high (first + words) })) None

abbrev pub Writes : Bool → (first words : ℕ) → (marks after : List Bool) → Type 0
Writes false first words marks after = Unit {0}
Writes true first words marks after = Extended first words marks after

pub record Put (b : Bool) (first words next high : ℕ) (marks after : List Bool) (r : Progress) : Type 0 where
  pub answer : r ≡ placed b first words next high (length marks)
  pub extended : (x : Cursor) → r ≡ Some x → Writes b first words marks after

-- what follows it, where it passes
unfoldable pub step : Bool → List ℕ → (at high : ℕ) → List Bool → Progress
step b s at high marks =
    let row = ports_of (kind_of (byte s at)) in
    let t = byte s (at + 1) in
    let from = operands_from b at in
    cond (legal_row row t && inputs_good b s from row t high marks)
    (placed b (u16 s (at + 2)) (result_words row t) (inputs_end row from) high (length marks))
    None

pub record Stepped (b : Bool) (s : List ℕ) (at high : ℕ) (marks after : List Bool) (r : Progress) : Type 0 where
  pub answer : r ≡ step b s at high marks
  pub extended : (x : Cursor) → r ≡ Some x → Writes b (u16 s (at + 2)) (result_words (ports_of (kind_of (byte s at))) (byte s (at + 1))) marks after

-- ---- all instructions

-- what stands behind them: no code has more words than the limit
unfoldable pub ended_of : Option Listed → Progress
ended_of none = None
ended_of (some l) = cond (leb (behind l.written) word_limit) (Some (record { at = l.at; result = behind l.written })) None

unfoldable pub written_of : Option Listed → Option (List Range)
written_of none = none
written_of (some l) = some l.written

pub record Checkable (b : Bool) (s : List ℕ) (count first : ℕ) (marks : List Bool) : Type 0 where
  pub long : header_length ≤ length s
  pub few : count ≤ 65535
  pub first_small : first ≤ 255
  pub recorded : Recorded b (argument_words first) marks

pub record Ended (b : Bool) (o : Option Listed) (marks : List Bool) (r : Progress) : Type 0 where
  pub answer : r ≡ ended_of o
  pub recorded : (x : Cursor) → r ≡ Some x → (written : List Range) → written_of o ≡ some written → Recorded b written marks

-- ---- the list behind the header

-- what stands behind its instructions
abbrev pub behind_good : Bool → List ℕ → Counts → Cursor → List Bool → Bool
behind_good b s c next marks =
    eqb next.result c.words && eqb (next.at + 2 * c.outputs) (length s)
    && cond b (every (marked marks) (addresses c.outputs s next.at)) (all_less c.words (addresses c.outputs s next.at))

pub record Listable (b : Bool) (s : List ℕ) (c : Counts) (marks : List Bool) : Type 0 where
  pub long : header_length ≤ length s
  pub arguments : c.arguments ≤ port_word_limit
  pub outputs : c.outputs ≤ port_word_limit
  pub instructions : c.instructions ≤ 65535
  pub words : c.words ≤ word_limit
  pub recorded : Recorded b (argument_words c.arguments) marks
