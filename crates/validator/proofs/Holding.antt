-- The record of what each word holds: a test of each of so many places, and runs of stores.
use Prim.Native.Nat.{ℕ, zero, suc, ◌+◌, ◌-◌, ◌*◌, ◌<◌}
use mathlib.Core.Path.{◌≡◌, refl, ap, ap₂, sym, ◌∙◌}
use mathlib.Core.Bool.{Bool, true, false, ◌&&◌, cond}
use mathlib.Core.List.{List, ◌∷◌, map}
use native.Mathlib.Omega.{arith}
use native.Mathlib.Nat.{add-zero}
use native.Mathlib.Numerals.{add-one}
use Rattle.std.specs.List.{list_all, range_with_len}
use borrow.Author.Tests.{ne_eqb}
use lib.Dec.{eqb}
use lib.ListN.{set, replicate}
use lib.Seq.{sets}
use Rattle.ports.specs.Ports.{width, types}
use Rattle.base.specs.Bytes.{u16, u64, constants}
use Rattle.base.specs.Lists.{span}
use Rattle.base.proofs.Lists.{span-length}
use Rattle.base.proofs.Stores.{then}
use Rattle.bytecode.specs.Code.{addresses}
use Rattle.validator.specs.Judge.{alike}
use Rattle.validator.specs.Tests.{no_word, held_at, held_words, held_operands, first_words}

-- ---- a test of each of so many places

-- R is the test T at n places, each with the next after it
pub record Walk {S : Type 0} (R : ℕ → S → Bool) (T : S → Bool) (next : S → S) : Type 0 where
  pub none : (s : S) → R 0 s ≡ true
  pub more : (n : ℕ) (s : S) → R (suc n) s ≡ (T s && R n (next s))

-- the places by an index
pub walked : {S : Type 0} {R : ℕ → S → Bool} {T : S → Bool} {next : S → S} → Walk R T next → (place : ℕ → S) → ((i : ℕ) → next (place i) ≡ place (i + 1)) → (n i : ℕ)
    → list_all (λ j. T (place j)) (range_with_len i n) ≡ R n (place i)
walked w place step zero i = sym (w.none (place i))
walked {R = R} {T} w place step (suc n) i =
    ap (λ (b : Bool). T (place i) && b) (walked w place step n (i + 1) ∙ ap (R n) (sym (step i))) ∙ sym (w.more n (place i))

-- ---- words and operands

and-true : (b : Bool) → b && true ≡ b
and-true true = refl
and-true false = refl

same-types : (n t : ℕ) → types n t t ≡ replicate n t
same-types zero t = refl
same-types (suc n) t = refl

module _ (words : List ℕ) where
  -- a scalar
  pub one_word : (a w t : ℕ) → t ≡ 1 → {r : Bool} → r ≡ eqb (held_at words a) w → r ≡ held_words words a w (width t)
  one_word a w t e q = rw e (q ∙ sym (and-true (eqb (held_at words a) w)))

  words-walk : Walk (λ n s. held_words words s.0 s.1 n) (λ s. eqb (held_at words s.0) s.1) (λ (s : ℕ × ℕ). (s.0 + 1, s.1 + 1))
  words-walk =
      record {
        none = λ s. refl;
        more = λ n s. ap₂ (λ (a w : ℕ). eqb (held_at words s.0) s.1 && held_words words a w n) (sym (add-one s.0)) (sym (add-one s.1));
      }

  pub words-walked : (a w count : ℕ) → list_all (λ i. eqb (held_at words (a + i)) (w + i)) (range_with_len 0 count) ≡ held_words words a w count
  words-walked a w count =
      walked words-walk (λ i. (a + i, w + i)) (λ i. ap₂ (λ (x y : ℕ). (x, y)) (omega arith) (omega arith)) count 0
      ∙ ap₂ (λ (x y : ℕ). held_words words x y count) (add-zero a) (add-zero w)

  module _ (ours code : List ℕ) where
    -- the place in `ours`, that in `code`, and the type of the next operand
    pub operands-walk : (rest : ℕ)
        → Walk (λ n s. held_operands words (types n s.2 rest) (addresses n ours s.0) (addresses n code s.1))
        (λ s. held_words words (u16 code s.1) (u16 ours s.0) (width s.2)) (λ (s : ℕ × ℕ × ℕ). (s.0 + 2, s.1 + 2, rest))
    operands-walk rest =
        record {
          none = λ s. refl;
          more = λ n s. ap (λ (ts : List ℕ). held_words words (u16 code s.1) (u16 ours s.0) (width s.2)
              && held_operands words ts (addresses n ours (s.0 + 2)) (addresses n code (s.1 + 2))) (sym (same-types n rest));
        }

    pub outputs-walk :
        Walk (λ n s. alike eqb (map (held_at words) (addresses n code s.1)) (addresses n ours s.0)) (λ s. eqb (held_at words (u16 code s.1)) (u16 ours s.0))
        (λ (s : ℕ × ℕ). (s.0 + 2, s.1 + 2))
    outputs-walk = record { none = λ s. refl; more = λ n s. refl }

    pub outputs-walked : (from at count : ℕ) → list_all (λ i. eqb (held_at words (u16 code (at + 2 * i))) (u16 ours (from + 2 * i))) (range_with_len 0 count)
        ≡ alike eqb (map (held_at words) (addresses count code at)) (addresses count ours from)
    outputs-walked from at count =
        walked outputs-walk (λ i. (from + 2 * i, at + 2 * i)) (λ i. ap₂ (λ (x y : ℕ). (x, y)) (omega arith) (omega arith)) count 0
        ∙ ap₂ (λ (x y : ℕ). alike eqb (map (held_at words) (addresses count code y)) (addresses count ours x)) (add-zero from) (add-zero at)

    -- the type of operand i
    abbrev pub type_of : ℕ → ℕ → ℕ → ℕ
    type_of first rest i = cond (eqb i 0) first rest

    pub operands-walked : (from at count first rest : ℕ)
        → list_all (λ i. held_words words (u16 code (at + 2 * i)) (u16 ours (from + 2 * i)) (width (type_of first rest i))) (range_with_len 0 count)
        ≡ held_operands words (types count first rest) (addresses count ours from) (addresses count code at)
    operands-walked from at count first rest =
        walked (operands-walk rest) (λ i. (from + 2 * i, at + 2 * i, type_of first rest i)) step count 0
        ∙ ap₂ (λ (x y : ℕ). held_operands words (types count first rest) (addresses count ours x) (addresses count code y)) (add-zero from) (add-zero at)
      where
        step : (i : ℕ) → ◌≡◌ {A = ℕ × ℕ × ℕ} (from + 2 * i + 2, at + 2 * i + 2, rest) (from + 2 * (i + 1), at + 2 * (i + 1), type_of first rest (i + 1))
        step i =
            let x : from + 2 * i + 2 ≡ from + 2 * (i + 1) = omega arith in
            let y : at + 2 * i + 2 ≡ at + 2 * (i + 1) = omega arith in
            let z : rest ≡ type_of first rest (i + 1) = sym (ap (λ (b : Bool). cond b first rest) (ne_eqb (i + 1) 0 (λ e. omega arith))) in
            λ k. (x k, y k, z k)

pub constants-walk : (ours code : List ℕ)
    → Walk (λ n s. alike eqb (constants n code s.1) (constants n ours s.0)) (λ s. eqb (u64 code s.1) (u64 ours s.0)) (λ (s : ℕ × ℕ). (s.0 + 8, s.1 + 8))
constants-walk ours code = record { none = λ s. refl; more = λ n s. refl }

pub constants-walked : (ours code : List ℕ) (from at count : ℕ)
    → list_all (λ i. eqb (u64 code (at + 8 * i)) (u64 ours (from + 8 * i))) (range_with_len 0 count) ≡ alike eqb (constants count code at) (constants count ours from)
constants-walked ours code from at count =
    walked (constants-walk ours code) (λ i. (from + 8 * i, at + 8 * i)) (λ i. ap₂ (λ (x y : ℕ). (x, y)) (omega arith) (omega arith)) count 0
    ∙ ap₂ (λ (x y : ℕ). alike eqb (constants count code y) (constants count ours x)) (add-zero from) (add-zero at)

-- ---- runs of words

module _ (w n : ℕ) where
  abbrev pub span_left : ℕ → List ℕ
  span_left i = span (w + i) (n - i)

  pub span-next : (i : ℕ) → i < n → span_left i ≡ (w + i) ∷ span_left (i + 1)
  span-next i h =
      let x : n - i ≡ suc (n - (i + 1)) = omega arith in
      let y : suc (w + i) ≡ w + (i + 1) = omega arith in
      rw (x, y)

pub one-held : (words : List ℕ) (a w count : ℕ) → count ≡ 1 → set words a w ≡ sets words a (span w count)
one-held words a w count e = sym (ap (λ (n : ℕ). sets words a (span w n)) e)

-- the words behind the arguments

pub first-words : (l : List ℕ) {m k : List ℕ} (arguments rest : ℕ) → m ≡ sets l 0 (span 0 arguments) → k ≡ sets m arguments (replicate rest no_word)
    → k ≡ sets l 0 (first_words arguments rest)
first-words l {m} {k} arguments rest e f =
    then l 0 (span 0 arguments) (replicate rest no_word) e
    (f ∙ ap (λ (i : ℕ). sets m i (replicate rest no_word)) (let n = span-length 0 arguments in omega arith))
