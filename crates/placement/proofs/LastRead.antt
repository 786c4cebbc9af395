-- A value is read from an instruction on exactly when its last reading is still to come.
use Prim.Native.Nat.{ℕ, zero, suc}
use mathlib.Core.Path.{◌≡◌, refl, ap, sym, ◌∙◌}
use mathlib.Core.Bool.{Bool, true, false, ◌||◌, cond}
use mathlib.Core.List.{List, [], ◌∷◌, ◌++◌}
use native.Mathlib.Omega.{arith}
use lib.Dec.{ltb}
use lib.ListN.{length, drop}
use borrow.Author.Tests.{ltb-true, ltb-false, lt-ltb, le-ltb}
use Rattle.bytecode.specs.Run.{Instruction}
use Rattle.bytecode.specs.Ranges.{any, Range, inside}
use Rattle.placement.specs.Live.{read_by, live, last_of, last_read}

less-suc : (k n : ℕ) → ltb (suc k) (suc n) ≡ ltb k n
less-suc k n = pick (ltb k n) refl
  where
    pick : (b : Bool) → ltb k n ≡ b → ltb (suc k) (suc n) ≡ b
    pick true e = lt-ltb (suc k) (suc n) (omega (arith, ltb-true k n e))
    pick false e = le-ltb (suc k) (suc n) (omega (arith, ltb-false k n e))

first : (here : Bool) (n : ℕ) (a : Bool) → a ≡ ltb 0 n → here || a ≡ ltb 0 (last_of here n)
first true zero a e = refl
first false zero a e = e
first true (suc n) a e = sym (lt-ltb 0 (suc (suc n)) (omega arith))
first false (suc n) a e = e ∙ lt-ltb 0 (suc n) (omega arith) ∙ sym (lt-ltb 0 (suc (suc n)) (omega arith))

later : (here : Bool) (n k : ℕ) → ltb k n ≡ ltb (suc k) (last_of here n)
later true zero k = le-ltb k 0 (omega arith) ∙ sym (le-ltb (suc k) 1 (omega arith))
later false zero k = le-ltb k 0 (omega arith) ∙ sym (le-ltb (suc k) 0 (omega arith))
later here (suc n) k = sym (less-suc k (suc n))

pub read-last : (is : List Instruction) (r : Range) (k : ℕ) → any (read_by r) (drop k is) ≡ ltb k (last_read is r)
read-last [] r zero = refl
read-last [] r (suc k) = sym (le-ltb (suc k) 0 (omega arith))
read-last (i ∷ is) r zero = first (read_by r i) (last_read is r) (any (read_by r) is) (read-last is r 0)
read-last (i ∷ is) r (suc k) = read-last is r k ∙ later (read_by r i) (last_read is r) k

-- so at the instruction numbered k
pub live-last : (is : List Instruction) (outputs : List ℕ) (r : Range) (k : ℕ) → live (drop k is) outputs r ≡ ltb k (last_read is r) || any (inside r) outputs
live-last is outputs r k = ap (λ (b : Bool). b || any (inside r) outputs) (read-last is r k)

-- as a loop over the instructions finds it
pub last-next : (is : List Instruction) (i : Instruction) (r : Range) → last_read (is ++ i ∷ []) r ≡ cond (read_by r i) (suc (length is)) (last_read is r)
last-next [] i r = refl
last-next (j ∷ is) i r = ap (last_of (read_by r j)) (last-next is i r) ∙ pick (read_by r i)
  where
    pick : (b : Bool) → last_of (read_by r j) (cond b (suc (length is)) (last_read is r)) ≡ cond b (suc (suc (length is))) (last_of (read_by r j) (last_read is r))
    pick true = refl
    pick false = refl
