-- A refusal that `?` passes on, and a step that went well.
use mathlib.Core.Path.{◌≡◌, refl, sym}
use Prim.Native.Nat.{ℕ}
use Rattle.base.specs.Refusals.{mapped}
use Rattle.base.specs.Outcome.{Outcome, ok, fault, ◌>>=◌, ◌>>◌}

module _ {A B : Type 0} where
  -- the step gave a fault, which the whole has too
  pub refused : (g : Outcome A) (k : A → Outcome B) (n p : ℕ) → fault n p ≡ g → fault n p ≡ (g >>= k)
  unfolding ◌>>=◌
  refused g k n p e = rw (sym e) refl

  pub refused_then : (g : Outcome A) (h : Outcome B) (n p : ℕ) → fault n p ≡ g → fault n p ≡ (g >> h)
  unfolding ◌>>◌
  refused_then g h n p e = rw (sym e) refl

  -- the step gave a value, with which the whole goes on
  pub went : (g : Outcome A) (k : A → Outcome B) (a : A) (r : Outcome B) → ok a ≡ g → r ≡ k a → r ≡ (g >>= k)
  unfolding ◌>>=◌
  went g k a r e q = rw (sym e) q

  pub went_then : (g : Outcome A) (h : Outcome B) (a : A) (r : Outcome B) → ok a ≡ g → r ≡ h → r ≡ (g >> h)
  unfolding ◌>>◌
  went_then g h a r e q = rw (sym e) q

  -- the same of what was done with a value
  pub refused_mapped : (f : A → B) (g : Outcome A) (n p : ℕ) → fault n p ≡ g → fault n p ≡ mapped f g
  refused_mapped f g n p e = rw (sym e) refl

  pub went_mapped : (f : A → B) (g : Outcome A) (a : A) → ok a ≡ g → ok (f a) ≡ mapped f g
  went_mapped f g a e = rw (sym e) refl
