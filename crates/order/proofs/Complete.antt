-- No node of the order lies on a loop; where every node is in the order, none does.
use Prim.Native.Nat.{ℕ, ◌<◌}
use mathlib.Core.Path.{◌≡◌, refl, ap, sym, ◌∙◌, subst}
use mathlib.Core.Bool.{Bool, true, false, not, ◌&&◌}
use mathlib.Core.List.{List, [], ◌∷◌}
use mathlib.Core.Logic.{⊎_elim}
use native.Mathlib.Omega.{arith}
use lib.Dec.{leb}
use lib.ListN.{length}
use borrow.Author.Tests.{leb-true}
use Rattle.base.specs.Lists.{member}
use Rattle.base.proofs.Lists.{member-later, member-inv}
use Rattle.base.proofs.Bools.{and-inv, or-inv}
use Rattle.order.specs.Indices.{slot, settled, ready, eligible, index_order}
use Rattle.order.specs.Paths.{reads_index, Path, one, more, on_loop}
use Rattle.order.proofs.Range.{true-or-false, both, all-each}
use Rattle.order.proofs.Closure.{read_below, read-slot, on-loop-iff}
use Rattle.order.proofs.AnyOrder.{missing-none, Built, fresh, built-size, ordered}
use Rattle.base.specs.Limits.{operand_limit}

-- ---- what is done leads only to what is done, and never back

module _ (ts : List ℕ) (n : ℕ) where
  abbrev Safe : List ℕ → Type 0
  Safe is = (x y : ℕ) → member x is ≡ true → Path ts n x y → (member y is ≡ true) × (x ≡ y → ⊥)

  -- what a ready node reads is done
  pub ready-reads : (is : List ℕ) (f v : ℕ) → ready ts n (λ w. member w is) f ≡ true → reads_index ts n f v ≡ true → member v is ≡ true
  ready-reads is f v e h =
      let (s, l, q) = read-slot ts n f v h in
      let below = read_below ts n f v h in
      let t : settled n (λ w. member w is) v ≡ true =
      subst (λ (k : ℕ). settled n (λ w. member w is) k ≡ true) q
      (all-each (λ j. settled n (λ w. member w is) (slot ts f j)) operand_limit 0 e s (omega arith) (omega arith)) in
      ⊎_elim (λ a. let b = leb-true n v a in absurd (omega arith)) (λ b. b) (or-inv (leb n v) (member v is) t)

  from-ready : (is : List ℕ) (f : ℕ) → Safe is → ready ts n (λ w. member w is) f ≡ true → {x y : ℕ} → Path ts n x y → x ≡ f → member y is ≡ true
  from-ready is f s e (one {i = x} {j = y} r) q = ready-reads is f y e (subst (λ (k : ℕ). reads_index ts n k y ≡ true) q r)
  from-ready is f s e (more {i = x} {k = z} {j = y} r p) q =
      (s z y (ready-reads is f z e (subst (λ (k : ℕ). reads_index ts n k z ≡ true) q r)) p).0

  safe-step : (is : List ℕ) (f : ℕ) → Safe is → eligible ts n (λ w. member w is) f ≡ true → Safe (f ∷ is)
  safe-step is f s e x y m p =
      let b = (and-inv (not (member f is)) (ready ts n (λ w. member w is) f) e).1 in
      ⊎_elim
      (λ g.
      let t = from-ready is f s b p (sym g) in
      (member-later y f is t, λ w. both (member f is) (ap (λ (k : ℕ). member k is) (g ∙ w) ∙ t) (fresh ts n (λ w. member w is) f e)))
      (λ h. let (t, d) = s x y h p in (member-later y f is t, d)) (member-inv x f is m)

  pub path-below : {x y : ℕ} → Path ts n x y → y < n
  path-below (one {i = x} {j = y} r) = read_below ts n x y r
  path-below (more r p) = path-below p

  -- nodes taken in any order
  built-safe : (is : List ℕ) → Built ts n is → Safe is
  built-safe [] b = λ x y m p. let z : ◌≡◌ {A = ℕ} 0 1 = cc in absurd (omega arith)
  built-safe (f ∷ is) (l, e, b) = safe-step is f (built-safe is b) e

  -- no node of the order lies on a loop
  ordered-free : (x : ℕ) → member x (index_order ts n) ≡ true → Path ts n x x → ⊥
  ordered-free x e p = let (os, b, s, size, members) = ordered ts n in (built-safe os b x x (members x ∙ e) p).1 refl

  pub ordered-clear : (x : ℕ) → member x (index_order ts n) ≡ true → on_loop ts n x ≡ false
  ordered-clear x e = ⊎_elim (λ q. absurd (ordered-free x e ((on-loop-iff ts n x).0 q))) (λ q. q) (true-or-false (on_loop ts n x))

  pub complete-free : length (index_order ts n) ≡ n → (x : ℕ) → Path ts n x x → ⊥
  complete-free e x p =
      let (os, b, s, size, members) = ordered ts n in
      let l = path-below p in
      let m = built-size ts n os b in
      (built-safe os b x x (missing-none n 0 os (omega arith) x (omega arith) (omega arith)) p).1 refl

  -- so none need be looked for there
  pub ordered-skip : (x : ℕ) (b : Bool) → b ≡ member x (index_order ts n) → not b && on_loop ts n x ≡ on_loop ts n x
  ordered-skip x true e = sym (ordered-clear x (sym e))
  ordered-skip x false e = refl
