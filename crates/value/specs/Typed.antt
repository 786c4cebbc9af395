-- Values of given types, words that stand for finite values, and canonical words, as statements.
use Rattle.std.specs.Prelude.{ℕ, ◌+◌, ◌<◌, length, ◌≤◌, true, List, [], ◌∷◌, ◌≡◌, T, Float}
use Rattle.std.specs.Float.Ieee as Ieee
use Rattle.std.specs.Float.{binary64}
use Rattle.value.specs.declared.Vec3.{Vec3}
use Rattle.value.specs.declared.Row.{Row}
use Rattle.value.specs.declared.Mat4.{Mat4}
use Rattle.value.specs.declared.Value.{Value}
use Rattle.value.specs.declared.Value.TheVariants.{Scalar, Vector, Matrix}
use Rattle.value.specs.Values.{type_of, word, finite}
use Rattle.base.specs.Lists.{Word, word_at}

abbrev pub TypeCode : ℕ → Type 0
TypeCode t = (1 ≤ t) × (t ≤ 3)

-- a word that stands for a finite value
abbrev pub Finite : ℕ → Type 0
Finite w = Word w × (finite w ≡ true)

-- the word of the float that it stands for: a NaN has one
abbrev pub Canonical : ℕ → Type 0
Canonical w = word (Ieee.of_bits binary64 w) ≡ w

-- n words at an address of m, each of which is so
pub record Standing (P : ℕ → Type 0) (m : List ℕ) (at n : ℕ) : Type 0 where
  pub room : at + n ≤ length m
  pub each : (i : ℕ) → at ≤ i → i < at + n → P (word_at m i)

-- ---- floats that binary64 holds

abbrev pub Held : Float → Type 0
Held x = T (Ieee.fits binary64 x)

abbrev pub RowHeld : Row → Type 0
RowHeld r = Held r.c0 × Held r.c1 × Held r.c2 × Held r.c3

abbrev pub VecHeld : Vec3 → Type 0
VecHeld v = Held v.x × Held v.y × Held v.z

abbrev pub MatHeld : Mat4 → Type 0
MatHeld m = RowHeld m.r0 × RowHeld m.r1 × RowHeld m.r2 × RowHeld m.r3

abbrev pub ValueHeld : Value → Type 0
ValueHeld (Scalar a) = Held a
ValueHeld (Vector v) = VecHeld v
ValueHeld (Matrix m) = MatHeld m

-- v is a value of the type t
pub record Of (t : ℕ) (v : Value) : Type 0 where
  pub type : type_of v ≡ t
  pub held : ValueHeld v

-- values of these types, in turn
abbrev pub Typed : List ℕ → List Value → Type 0
Typed [] [] = Unit {0}
Typed [] (v ∷ vs) = ⊥
Typed (t ∷ ts) [] = ⊥
Typed (t ∷ ts) (v ∷ vs) = Of t v × Typed ts vs
