-- 02, request 9: at each instruction no two held values share a word, and the lengths of the held values, summed from the history, plus
-- the words up to the highest so far that the compiler's record has as free make that highest plus one.
use Rattle.std.specs.Prelude.{ℕ, zero, suc, ◌+◌, ◌≡◌, Bool, true, cond, List, [], ◌∷◌, leb, get_or, drop}
use Rattle.base.specs.Lists.{Each}
use Rattle.bytecode.specs.Run.{Instruction, BoardList}
use Rattle.placement.specs.Place.{Placed, words, top, apart, inputs_of, held_at, placed}

-- ---- the history by instructions

abbrev pub blank : Instruction
blank = record { kind = 0; type = 0; operands = []; constants = []; result = 0 }

abbrev pub instruction_at : BoardList → ℕ → Instruction
instruction_at b k = get_or b.instructions k blank

-- all values placed when the first k instructions have their results
abbrev pub history_at : List ℕ → List Placed → List Instruction → ℕ → List Placed
history_at outputs h is zero = h
history_at outputs h [] (suc k) = h
history_at outputs h (i ∷ is) (suc k) = history_at outputs (placed outputs h i is ∷ h) is k

abbrev pub history_of : List ℕ → BoardList → ℕ → List Placed
history_of inputs b k = history_at b.outputs (inputs_of inputs) b.instructions k

-- those of the first k instructions and the inputs that instruction k or a later one reads, or that have an output word
abbrev pub earlier : List ℕ → BoardList → ℕ → List Placed
earlier inputs b k = held_at (drop k b.instructions) b.outputs (history_of inputs b k)

-- at instruction k its result is held with them
abbrev pub held_during : List ℕ → BoardList → ℕ → List Placed
held_during inputs b k = placed b.outputs (history_of inputs b k) (instruction_at b k) (drop (suc k) b.instructions) ∷ earlier inputs b k

-- ---- values, and the record

-- no two share a word
abbrev pub Apart : List Placed → Type 0
Apart [] = Unit {0}
Apart (p ∷ ps) = Each (λ q. apart (words p) (words q) ≡ true) ps × Apart ps

abbrev pub widths_of : List Placed → ℕ
widths_of [] = 0
widths_of (p ∷ ps) = p.value.width + widths_of ps

-- of the first n numbers those that pass a test
abbrev pub count : (ℕ → Bool) → ℕ → ℕ
count t zero = 0
count t (suc n) = cond (t n) 1 0 + count t n

-- the record has for each word the instruction before which it is no longer held: at instruction k it is free where that is not behind k
abbrev pub free : ℕ → List ℕ → ℕ → Bool
free k until a = leb (get_or until a 0) k

-- the record as it stands when instruction k has its result
pub record Balanced (inputs : List ℕ) (b : BoardList) (k : ℕ) (until : List ℕ) : Type 0 where
  pub disjoint : Apart (held_during inputs b k)
  pub complete : widths_of (held_during inputs b k) + count (free k until) (top (history_of inputs b (suc k))) ≡ top (history_of inputs b (suc k))
