-- Words of the table, one after another.
use Prim.Native.Nat.{ℕ, zero, suc, ◌+◌, ◌*◌, ◌≤◌, ◌<◌}
use mathlib.Core.Path.{◌≡◌, ap, sym, ◌∙◌, subst}
use mathlib.Core.Bool.{true}
use mathlib.Core.List.{List}
use native.Mathlib.Omega.{arith}
use native.Mathlib.Nat.{not-suc-le-zero}
use borrow.Author.Tests.{ne_eqb}
use lib.ListN.{length, get_or}
use lib.Ieee as Ieee
use lib.Ieee.{Float, binary64}
use Rattle.value.specs.declared.Row.{Row}
use Rattle.value.specs.declared.Value.TheVariants.{Vector, Matrix}
use Rattle.ports.specs.Ports.{width}
use Rattle.value.specs.Values as Values
use Rattle.value.specs.Values.{vec, row, mat, value_of, constant_word}
use Rattle.value.specs.Typed.{Finite, Canonical}
use Rattle.value.proofs.Laws.{same_word, each-finite}
use Rattle.base.specs.Bytes.{u64, constants, Bytes}
use Rattle.base.specs.Lists.{Each, every}
use Rattle.base.proofs.Stands.{constants-words}
use Rattle.reader.specs.Records.{FiniteWords, float_constant, row_at, matrix_at, vector_at}

-- ---- finite words

finite-word : (n i : ℕ) (s : List ℕ) (at : ℕ) → i < n → Each Finite (constants n s at) → Finite (u64 s (at + 8 * i))
finite-word zero i s at l h = absurd (not-suc-le-zero l)
finite-word (suc n) zero s at l (f, h) = let e : at ≡ at + 8 * 0 = omega arith in subst (λ (a : ℕ). Finite (u64 s a)) e f
finite-word (suc n) (suc i) s at l (f, h) =
    let e : at + 8 + 8 * i ≡ at + 8 * suc i = omega arith in
    subst (λ (a : ℕ). Finite (u64 s a)) e (finite-word n i s (at + 8) (omega arith) h)

-- constants that are allowed
pub finite-words : (s : List ℕ) → Bytes s → (at n : ℕ) → at + 8 * n ≤ length s → every constant_word (constants n s at) ≡ true → FiniteWords s at n
finite-words s small at n l e =
    record { fits = l; finite = λ i h. finite-word n i s at h (each-finite (constants n s at) e (constants-words s small n at)) }

-- m of them, from the k-th on
pub part : {s : List ℕ} {at n a m : ℕ} (k : ℕ) → FiniteWords s at n → a ≡ at + 8 * k → k + m ≤ n → FiniteWords s a m
part {s} {at} {n} {a} {m} k h e l =
    let f = h.fits in
    record {
      fits = omega arith;
      finite = λ i q. let z : at + 8 * (k + i) ≡ a + 8 * i = omega arith in subst (λ (b : ℕ). Finite (u64 s b)) z (h.finite (k + i) (omega arith));
    }

-- one word
pub canonical-one : (s : List ℕ) (at w : ℕ) → w ≡ u64 s at → FiniteWords s at 1 → Canonical w
canonical-one s at w e h =
    let z : at + 8 * 0 ≡ at = omega arith in
    same_word w (subst Finite (ap (u64 s) z ∙ sym e) (h.finite 0 (omega arith)))

-- ---- the value that the words stand for

constant-word : (n i : ℕ) (s : List ℕ) (at : ℕ) → i < n → get_or (constants n s at) i 0 ≡ u64 s (at + 8 * i)
constant-word zero i s at h = absurd (not-suc-le-zero h)
constant-word (suc n) zero s at h = let e : at + 8 * 0 ≡ at = omega arith in ap (u64 s) (sym e)
constant-word (suc n) (suc i) s at h =
    let e : at + 8 + 8 * i ≡ at + 8 * suc i = omega arith in
    constant-word n i s (at + 8) (omega arith) ∙ ap (u64 s) e

module _ (w : ℕ → ℕ) (ws : List ℕ) (at n : ℕ) (h : (i : ℕ) → i < n → get_or ws i 0 ≡ w (at + 8 * i)) where
  abbrev word : ℕ → Float
  word a = Ieee.of_bits binary64 (w a)

  row-words :
      (i : ℕ) → i + 3 < n
      → row (word (at + 8 * i)) (word (at + 8 * i + 8)) (word (at + 8 * i + 16)) (word (at + 8 * i + 24)) ≡ Values.row_at ws i
  row-words i l =
      let e1 : at + 8 * (i + 1) ≡ at + 8 * i + 8 = omega arith in
      let e2 : at + 8 * (i + 2) ≡ at + 8 * i + 16 = omega arith in
      let e3 : at + 8 * (i + 3) ≡ at + 8 * i + 24 = omega arith in
      rw (h i (omega arith), h (i + 1) (omega arith), h (i + 2) (omega arith), h (i + 3) l, e1, e2, e3)

pub vector-constant : (s : List ℕ) (at : ℕ) → Vector (vector_at s at) ≡ value_of 2 (constants 3 s at)
vector-constant s at = let e : at + 8 + 8 ≡ at + 16 = omega arith in ap (λ (a : ℕ). Vector (vec (float_constant s at) (float_constant s (at + 8)) (float_constant s a))) (sym e)

pub matrix-constant : (s : List ℕ) (at : ℕ) → Matrix (matrix_at s at) ≡ Matrix (Values.mat_at (constants 16 s at) 0)
matrix-constant s at =
    let ws = constants 16 s at in
    let h : (i : ℕ) → i < 16 → get_or ws i 0 ≡ u64 s (at + 8 * i) = λ i l. constant-word 16 i s at l in
    let z : at + 8 * 0 ≡ at = omega arith in
    let r : (i : ℕ) → i + 3 < 16 → row_at s (at + 8 * i) ≡ Values.row_at ws i = row-words (u64 s) ws at 16 h in
    let a : row_at s at ≡ Values.row_at ws 0 = ap (row_at s) (sym z) ∙ r 0 (omega arith) in
    ap (λ (x : Row). Matrix (mat x (row_at s (at + 32)) (row_at s (at + 64)) (row_at s (at + 96)))) a
    ∙ (ap (λ (x : Row). Matrix (mat (Values.row_at ws 0) x (row_at s (at + 64)) (row_at s (at + 96)))) (r 4 (omega arith))
    ∙ (ap (λ (x : Row). Matrix (mat (Values.row_at ws 0) (Values.row_at ws 4) x (row_at s (at + 96)))) (r 8 (omega arith))
    ∙ ap (λ (x : Row). Matrix (mat (Values.row_at ws 0) (Values.row_at ws 4) (Values.row_at ws 8) x)) (r 12 (omega arith))))

-- every other type is a matrix
pub other_constant : (s : List ℕ) (at t : ℕ) → (t ≡ 1 → ⊥) → (t ≡ 2 → ⊥) → Matrix (matrix_at s at) ≡ value_of t (constants (width t) s at)
other_constant s at t a b = matrix-constant s at ∙ rw (ne_eqb t 1 a, ne_eqb t 2 b)
