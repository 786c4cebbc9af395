-- `via` tells what `Path` says.
use Prim.Native.Nat.{ℕ, zero, suc, ◌+◌, ◌≤◌, ◌<◌}
use mathlib.Core.Path.{◌≡◌, refl, sym, ◌∙◌}
use mathlib.Core.Bool.{true}
use mathlib.Core.List.{List}
use mathlib.Core.Logic.{inl, inr, ⊎_elim}
use native.Mathlib.Omega.{arith}
use lib.Dec.{eqb, ltb}
use borrow.Author.Tests.{eqb-true, eq-eqb, ltb-true, lt-ltb}
use Rattle.base.specs.Lists.{Is, span}
use Rattle.graph.proofs.Loops.{passing, passing-leads, passing-one, passing-trans}
use Rattle.base.proofs.Bools.{and-inv, and_both}
use Rattle.order.specs.Indices.{any_of, slot}
use Rattle.order.specs.Paths.{reads_index, Path, one, more, via, on_loop}
use Rattle.order.proofs.Range.{eq-or-not, any_some, some-any}
use Rattle.base.specs.Limits.{operand_limit}

span-has : (n a k : ℕ) → a ≤ k → k < a + n → Is k (span a n)
span-has zero a k l h = absurd (omega arith)
span-has (suc n) a k l h = ⊎_elim inl (λ d. inr (span-has n (suc a) k (omega arith) (omega arith))) (eq-or-not k a)

module _ (ts : List ℕ) (n : ℕ) where
  -- ---- one step

  pub read_below : (i j : ℕ) → reads_index ts n i j ≡ true → j < n
  unfolding reads_index
  read_below i j e = ltb-true j n (and-inv (ltb j n) _ e).0

  -- the slot that holds it
  pub read-slot : (i j : ℕ) → reads_index ts n i j ≡ true → (s : ℕ) × (s < operand_limit) × (slot ts i s ≡ j)
  unfolding reads_index
  read-slot i j e =
      let (s, l, h, q) = any_some (λ s. eqb (slot ts i s) j) operand_limit 0 (and-inv (ltb j n) (any_of (λ s. eqb (slot ts i s) j) 0 operand_limit) e).1 in
      (s, omega arith, eqb-true (slot ts i s) j q)

  pub slot_read : (i j s : ℕ) → s < operand_limit → slot ts i s ≡ j → j < n → reads_index ts n i j ≡ true
  unfolding reads_index
  slot_read i j s l e h =
      and_both (ltb j n) _ (lt-ltb j n h) (some-any (λ s. eqb (slot ts i s) j) operand_limit 0 s (omega arith) (omega arith) (eq-eqb (slot ts i s) j e))

  -- ---- loops

  pub follow : {i k j : ℕ} → Path ts n i k → Path ts n k j → Path ts n i j
  follow (one r) q = more r q
  follow (more r p) q = more r (follow p q)

  via-passing : (m k i j : ℕ) → via ts n k m i j ≡ passing (reads_index ts n) (span k m) i j
  unfolding via passing
  via-passing zero k i j = refl
  via-passing (suc m) k i j = rw (via-passing m (suc k) i j, via-passing m (suc k) i k, via-passing m (suc k) k j)

  path-passing : {i j : ℕ} → Path ts n i j → passing (reads_index ts n) (span 0 n) i j ≡ true
  path-passing (one {i = i} {j = j} r) = passing-one (reads_index ts n) (span 0 n) i j r
  path-passing (more {i = i} {k = k} {j = j} r p) =
      let l = read_below i k r in
      passing-trans (reads_index ts n) (span 0 n) i k j (span-has n 0 k (omega arith) (omega arith)) (passing-one (reads_index ts n) (span 0 n) i k r) (path-passing p)

  pub on-loop-iff : (i : ℕ) → (on_loop ts n i ≡ true → Path ts n i i) × (Path ts n i i → on_loop ts n i ≡ true)
  on-loop-iff i = (
    λ e. passing-leads (reads_index ts n) (Path ts n) (λ i j r. one r) (λ i k j. follow) (span 0 n) i i (sym (via-passing n 0 i i) ∙ e),
    λ p. via-passing n 0 i i ∙ path-passing p,
  )
