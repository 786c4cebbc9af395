-- The tests of the code, as it reads two codes and its record: for each word of the proposed list the word of version 1 that it holds, and behind
-- these the first result word of each instruction of version 1, by its number.
use Rattle.std.specs.Prelude as Rust
use Rattle.std.specs.Prelude.{Some, None, ℕ, zero, suc, ◌+◌, ◌*◌, ◌/◌, ◌≤◌, ◌<◌, ◌≡◌, Bool, true, not, ◌&&◌, cond, List, [], ◌∷◌, ◌++◌, eqb, ltb, length, get_or, set, replicate}
use Rattle.std.proofs.Math.Option.{Option, none, some}
use Rattle.std.proofs.lemmas.List.Edits.{sets}
use Rattle.ports.specs.declared.Ports.{Ports}
use Rattle.ports.specs.Kinds.{kind_of}
use Rattle.ports.specs.Ports.{width, takes, arity, constant_words, ports_of, result_words}
use Rattle.base.specs.Bytes.{byte, u16, constants}
use Rattle.base.specs.Lists.{span}
use Rattle.base.specs.Limits.{address_limit, word_limit}
use Rattle.base.specs.Outcome.{Outcome, fault}
use Rattle.bytecode.specs.Run.{BoardList}
use Rattle.bytecode.specs.Sequential.{AllFit}
use Rattle.bytecode.specs.declared.Version.TheVariants.{V1, V2}
use Rattle.bytecode.specs.WellFormed.{Codes}
use Rattle.bytecode.specs.Code.{addresses}
use Rattle.validator.specs.Judge.{alike, followed}
use Rattle.validator.specs.Accepts.{Counted}

-- ---- what a word holds

-- nothing yet: no word of version 1 has this address
abbrev pub no_word : ℕ
no_word = 0xFFFF

abbrev pub held_at : List ℕ → ℕ → ℕ
held_at words a = get_or words a no_word

-- the n words from a on hold version 1's from w on
abbrev pub held_words : List ℕ → ℕ → ℕ → ℕ → Bool
held_words words a w zero = true
held_words words a w (suc n) = eqb (held_at words a) w && held_words words (suc a) (suc w) n

-- operands of these types: `xs` are their addresses in version 1
abbrev pub held_operands : List ℕ → List ℕ → List ℕ → List ℕ → Bool
held_operands words [] xs ys = true
held_operands words (t ∷ ts) [] ys = true
held_operands words (t ∷ ts) (x ∷ xs) [] = true
held_operands words (t ∷ ts) (x ∷ xs) (y ∷ ys) = held_words words y x (width t) && held_operands words ts xs ys

-- ---- one instruction: version 1's at `from` of its code, the proposed one at `at` of the other

-- operands and constants of the kind k, the operands at `at`
abbrev pub operands_of : ℕ → List ℕ → ℕ → List ℕ
operands_of k s at = addresses (arity (kind_of k)) s at

abbrev pub constants_of : ℕ → List ℕ → ℕ → List ℕ
constants_of k s at = constants (constant_words (kind_of k)) s (at + 2 * arity (kind_of k))

unfoldable pub carried_at : List ℕ → ℕ → List ℕ → ℕ → List ℕ → Bool
carried_at ours from code at words =
    let k = byte code at in
    let t = byte code (at + 1) in
    eqb k (byte ours from) && eqb t (byte ours (from + 1)) && alike eqb (constants_of k code (at + 4)) (constants_of k ours (from + 2))
    && held_operands words (takes (kind_of k) t) (operands_of k ours (from + 2)) (operands_of k code (at + 4))

-- the place behind operands and constants of the kind k
abbrev pub behind_at : ℕ → ℕ → ℕ
behind_at k at = at + 2 * arity (kind_of k) + 8 * constant_words (kind_of k)

-- the place behind an instruction of version 1, and behind a proposed one
abbrev pub own_end : List ℕ → ℕ → ℕ
own_end ours from = behind_at (byte ours from) (from + 2)

abbrev pub end_at : List ℕ → ℕ → ℕ
end_at code at = behind_at (byte code at) (at + 4)

-- the words of the result of the instruction at `at`
abbrev pub words_at : List ℕ → ℕ → ℕ
words_at s at = result_words (ports_of (kind_of (byte s at))) (byte s (at + 1))

pub record Comparable (ours : List ℕ) (from : ℕ) (code : List ℕ) (at : ℕ) (row : Ports) : Type 0 where
  pub row_is : row ≡ ports_of (kind_of (byte code at))
  pub own-there : own_end ours from ≤ length ours
  pub there : end_at code at ≤ length code

-- the instruction at `at` has the number m: it is one of version 1's, which has not appeared before; `index` has half the place of each that has
-- not, and 0 for the others
unfoldable pub passed_at : List ℕ → List ℕ → ℕ → ℕ → ℕ → List ℕ → List ℕ → Bool
passed_at ours code at m count index words = ltb m count && not (eqb (get_or index m 0) 0) && carried_at ours (2 * get_or index m 0) code at words

-- the first result word of version 1's instruction m
abbrev pub result_of : List ℕ → ℕ → ℕ
result_of words m = get_or words (word_limit + m) 0

-- the words of the result hold those of version 1
abbrev pub stored_at : List ℕ → ℕ → ℕ → List ℕ → List ℕ
stored_at code at m words = sets words (u16 code (at + 2)) (span (result_of words m) (words_at code at))

pub record Steppable (ours code : List ℕ) (at m count : ℕ) (row : Ports) (index words : List ℕ) : Type 0 where
  pub row_is : row ≡ ports_of (kind_of (byte code at))
  pub there : end_at code at ≤ length code
  pub indexed : count ≤ length index
  pub own-there : m < count → (get_or index m 0 ≡ 0 → ⊥) → own_end ours (2 * get_or index m 0) ≤ length ours
  pub results : word_limit + count ≤ length words
  pub small : m < count → result_of words m + words_at code at ≤ address_limit
  pub room : u16 code (at + 2) + words_at code at ≤ length words

pub record Stepped (ours code : List ℕ) (at m count : ℕ) (index words index' words' : List ℕ) (r : Rust.Option ℕ) : Type 0 where
  pub answer : r ≡ cond (passed_at ours code at m count index words) (Some (end_at code at)) None
  pub indexed : index' ≡ cond (passed_at ours code at m count index words) (set index m 0) index
  pub stored : words' ≡ cond (passed_at ours code at m count index words) (stored_at code at m words) words

-- ---- the index, and the record at the start

-- of so many instructions of version 1 from `at` on: half their places, and their result words where the first has the word w
abbrev pub halves : ℕ → List ℕ → ℕ → List ℕ
halves zero s at = []
halves (suc n) s at = at / 2 ∷ halves n s (own_end s at)

abbrev pub results_from : ℕ → List ℕ → ℕ → ℕ → List ℕ
results_from zero s at w = []
results_from (suc n) s at w = w ∷ results_from n s (own_end s at) (w + words_at s at)

-- they are there, and have addresses
abbrev pub Listed : ℕ → List ℕ → ℕ → ℕ → Type 0
Listed zero s at w = Unit {0}
Listed (suc n) s at w = (own_end s at ≤ length s) × (w < address_limit) × Listed n s (own_end s at) (w + words_at s at)

-- arguments hold themselves, and `rest` words behind them nothing
abbrev pub first_words : ℕ → ℕ → List ℕ
first_words arguments rest = span 0 arguments ++ replicate rest no_word

-- ---- the whole

unfoldable pub followed_in : Option BoardList → Option BoardList → List ℕ → Outcome ℕ
followed_in none c numbers = fault 18 0
followed_in (some b) none numbers = fault 18 0
followed_in (some b) (some b') numbers = followed b b' numbers

-- the code of a list of version 1 as the compiler makes it, that of a proposed list with the same counts, and room for the record
pub record Judgeable (ours code numbers : List ℕ) (arguments outputs count total index words : ℕ) : Type 0 where
  pub list : BoardList
  pub proposed : BoardList
  pub own : Codes V1 ours list
  pub fit : AllFit list.arguments list.instructions list.words
  pub theirs : Codes V2 code proposed
  pub counted : Counted list proposed numbers
  pub arguments-is : arguments ≡ list.arguments
  pub outputs-is : outputs ≡ length list.outputs
  pub count-is : count ≡ length list.instructions
  pub total-is : total ≡ proposed.words
  pub index-room : count ≤ index
  pub words-room : word_limit + count ≤ words
