-- What a step of the reading or of a check gives: a value, or a fault with its number and its place.
use Rattle.std.specs.Prelude.{ℕ, Bool, true, false, List, [], ◌∷◌}
use Rattle.std.proofs.Math.Option.{Option, none, some}

pub data Outcome (A : Type 0) : Type 0 where
  ok : A → Outcome A
  fault : ℕ → ℕ → Outcome A

module _ {A B : Type 0} where
  infixl 10 ◌>>=◌ ◌>>◌
  -- go on with what the step gave; a fault ends it
  unfoldable pub ◌>>=◌ : Outcome A → (A → Outcome B) → Outcome B
  ok a >>= k = k a
  fault n p >>= k = fault n p

  unfoldable pub ◌>>◌ : Outcome A → Outcome B → Outcome B
  ok a >> k = k
  fault n p >> k = fault n p

-- go on where the test passes, and otherwise give the fault n at the place p
unfoldable pub need : Bool → ℕ → ℕ → Outcome (Unit {0})
need true n p = ok tt
need false n p = fault n p

-- go on with what is there, and otherwise give the fault n at the place p
abbrev pub or_else : {A : Type 0} → Option A → ℕ → ℕ → Outcome A
or_else none n p = fault n p
or_else (some a) n p = ok a

-- each in turn, the first fault first
abbrev pub each {ℓ} : {A : Type ℓ} → (A → Outcome (Unit {0})) → List A → Outcome (Unit {0})
each f [] = ok tt
each f (x ∷ xs) = f x >>= λ u. each f xs

-- what was read, and the place behind it
pub record Part (A : Type 0) : Type 0 where
  pub it : A
  pub next : ℕ
