-- Each number appears once. The numbers of an accepted list are as many as version 1's instructions, none stands twice and all are below their count;
-- a number that was missing would be one more of these.
use Prim.Native.Nat.{ℕ, ◌<◌}
use mathlib.Core.Path.{◌≡◌, refl}
use mathlib.Core.Bool.{Bool, true, false}
use mathlib.Core.List.{List, ◌∷◌}
use native.Mathlib.Omega.{arith}
use lib.ListN.{length}
use Rattle.base.specs.Lists.{member, Distinct}
use Rattle.bytecode.specs.Run.{BoardList}
use Rattle.reordering.proofs.Numbers.{few}
use Rattle.validator.specs.Accepts.{Accepts}
use Rattle.validator.proofs.Deciding.{accepted-distinct, numbers-within}

pub each-once : (b b' : BoardList) (numbers : List ℕ) → Accepts b b' numbers → Distinct numbers × ((k : ℕ) → k < length b.instructions → member k numbers ≡ true)
each-once b b' numbers a = (accepted-distinct b b' numbers a, λ k l. pick k l (member k numbers) refl)
  where
    pick : (k : ℕ) → k < length b.instructions → (t : Bool) → member k numbers ≡ t → t ≡ true
    pick k l true e = refl
    pick k l false e =
        let size = a.counted.numbered in
        let most = few (length b.instructions) (k ∷ numbers) (l, numbers-within b b' numbers a) (e, accepted-distinct b b' numbers a) in
        absurd (omega arith)
