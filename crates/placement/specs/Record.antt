-- The record of held words, the search for a gap in it, and what the code has placed.
use Rattle.std.specs.Prelude.{ℕ, suc, Option, Some, None, ◌+◌, ◌*◌, ◌/◌, ◌%◌, ◌≤◌, ◌<◌, max, ◌≡◌, Bool, cond, List, leb, ltb, length, get_or, drop, replicate}
use Rattle.std.proofs.lemmas.List.Edits.{sets}
use Rattle.base.specs.Limits.{port_limit, word_limit, value_limit, placed_limit}
use Rattle.base.specs.Lists.{Each, Is}
use Rattle.bytecode.specs.Run.{BoardList}
use Rattle.bytecode.specs.Ranges.{any, inside}
use Rattle.placement.specs.declared.Look.{Look}
use Rattle.placement.specs.declared.Look.TheVariants.{Gap, Full}
use Rattle.placement.specs.Place.{Placed, words, top, held_at}
use Rattle.placement.specs.Balance.{history_of, Balanced}
use Rattle.placement.specs.Arrays.{value_at, Widths, Lasting}

-- words are searched in blocks
abbrev pub block_words : ℕ
block_words = 64

abbrev pub blocks : ℕ
blocks = word_limit / block_words

-- a bound for each width and block
abbrev pub bound_limit : ℕ
bound_limit = value_limit * blocks

-- ---- the search for a gap

-- one of the n words from c on is held until the instruction x or longer, so that no value takes them before it
abbrev pub Stopped : List ℕ → ℕ → ℕ → ℕ → Type 0
Stopped until c n x = (a : ℕ) × (c ≤ a) × (a < c + n) × (x ≤ get_or until a 0)

-- from `from` on, the lowest word from which n words are free at instruction k; the words from `high` on are not asked
pub record Lowest (until : List ℕ) (k n from high at : ℕ) : Type 0 where
  pub after : from ≤ at
  pub most : at ≤ high
  pub vacant : (a : ℕ) → at ≤ a → a < at + n → a < high → get_or until a 0 ≤ k
  pub lower : (c : ℕ) → from ≤ c → c < at → Stopped until c n (suc k)

-- in a block of words: the lowest gap, or an instruction before which none starts there
abbrev pub Looked : List ℕ → ℕ → ℕ → ℕ → ℕ → Look → Type 0
Looked until k n from high (Gap at) = Lowest until k n from high at
Looked until k n from high (Full bound) = (c : ℕ) → from ≤ c → c < from + block_words → Stopped until c n (max bound (suc k))

-- for each width and block an instruction before which no gap starts there; the words from `high` on are free
pub record Bounds (until low : List ℕ) (high : ℕ) : Type 0 where
  pub size : length low ≡ bound_limit
  pub fresh : (a : ℕ) → high ≤ a → get_or until a 0 ≡ 0
  pub none :
      (i c : ℕ) → i < bound_limit → i % blocks * block_words ≤ c → c < i % blocks * block_words + block_words → Stopped until c (suc (i / blocks)) (get_or low i 0)

-- a value of n words: the lowest gap is taken where it does not pass the limit
pub record Placing (until exit low : List ℕ) (k n last high at : ℕ) : Type 0 where
  pub gap : Lowest until k n 0 high at
  pub stored : at + n ≤ word_limit → exit ≡ sets until at (replicate n (max last (k + 1)))
  pub bounds : at + n ≤ word_limit → Bounds exit low (max high (at + n))

-- the same of its answer: the first word and what is then the highest plus one, or that the gap passes the limit
abbrev pub Taken : List ℕ → List ℕ → List ℕ → ℕ → ℕ → ℕ → ℕ → ℕ → Option ℕ → Type 0
Taken until exit low high' k n last high (Some at) = (at + n ≤ word_limit) × (high' ≡ max high (at + n)) × Placing until exit low k n last high at
Taken until exit low high' k n last high None = (at : ℕ) × (word_limit < at + n) × Placing until exit low k n last high at

-- ---- the record and the history

-- a is a word of one of these
abbrev pub covered : List Placed → ℕ → Bool
covered ps a = any (λ p. inside (words p) a) ps

-- from instruction `from` on the record has exactly the words of those of these values that are held
abbrev pub Marked : BoardList → ℕ → List ℕ → List Placed → Type 0
Marked b from until ps =
    (j a : ℕ) → from ≤ j → j ≤ length b.instructions → ltb j (get_or until a 0) ≡ covered (held_at (drop j b.instructions) b.outputs ps) a

-- the value numbered v stands at place[v]
abbrev pub PlacedAt : List ℕ → BoardList → List ℕ → List Placed → ℕ → Type 0
PlacedAt inputs b place ps v = Is (record { value = value_at inputs b v; place = get_or place v 0 }) ps

-- the values numbered below `count` are placed
pub record Kept (until place : List ℕ) (high count from : ℕ) (history : List Placed) (inputs : List ℕ) (b : BoardList) : Type 0 where
  pub marks : Marked b from until history
  pub highest : top history ≡ high
  pub places : (v : ℕ) → v < count → PlacedAt inputs b place history v
  pub wide : Each (λ p. 1 ≤ p.value.width) history

-- the notes of the values that are still to be placed
abbrev pub Rest : List ℕ → List ℕ → ℕ → Type 0
Rest last place count = (v : ℕ) → count ≤ v → get_or place v 0 ≡ get_or last v 0

-- after the inputs
pub record Begun (widths last : List ℕ) (m : ℕ) (until place : List ℕ) (high : ℕ) : Type 0 where
  pub room : high ≤ port_limit * 255
  pub fresh : (a : ℕ) → high ≤ a → get_or until a 0 ≡ 0
  pub words : length until ≡ word_limit
  pub values : length place ≡ placed_limit
  pub rest : Rest last place m
  pub state : (inputs : List ℕ) (b : BoardList) → Widths widths m inputs b → Lasting last m inputs b → Kept until place high m 0 (history_of inputs b 0) inputs b

-- ---- the first n results of a list with m inputs

-- the highest word and one, or more than the limit
abbrev pub extent_of : ℕ → Option ℕ
extent_of n = cond (leb n word_limit) (Some n) None

-- within the limit every value has its place, and the record is balanced at the last of these instructions: that is at each, as n may
-- be any of them
pub record Placement (m n : ℕ) (place until : List ℕ) (r : Option ℕ) (inputs : List ℕ) (b : BoardList) : Type 0 where
  pub extent : r ≡ extent_of (top (history_of inputs b n))
  pub places : top (history_of inputs b n) ≤ word_limit → (v : ℕ) → v < m + n → PlacedAt inputs b place (history_of inputs b n) v
  pub balanced : top (history_of inputs b n) ≤ word_limit → (k : ℕ) → n ≡ suc k → Balanced inputs b k until
