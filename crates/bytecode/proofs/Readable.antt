-- The words that an instruction may read: they stand behind no result, and each new result adds its own.
use Prim.Native.Nat.{ℕ, zero, suc, ◌+◌, ◌≤◌, ◌<◌}
use mathlib.Core.Path.{◌≡◌, refl, ap, subst}
use mathlib.Core.Bool.{Bool, true, false, ◌&&◌, cond}
use mathlib.Core.List.{List, [], ◌∷◌, ◌++◌}
use mathlib.Core.Option.{some}
use mathlib.Core.Logic.{◌⊎◌, inl, inr, ⊎_elim}
use native.Mathlib.Omega.{arith}
use lib.Dec.{leb, ltb, eqb}
use borrow.Author.Tests.{leb-true, ltb-true, ltb-false, le-leb, lt-ltb, eqb-true, eqb-false}
use Rattle.ports.specs.Ports.{width}
use Rattle.base.specs.Lists.{every, span}
use Rattle.base.proofs.Bools.{and-inv, and_both, or-inv}
use Rattle.base.proofs.Lists.{some_is}
use Rattle.bytecode.specs.Ranges.{any, Range, end, inside, behind, result_value}
use Rattle.bytecode.specs.declared.Version.{Version}
use Rattle.bytecode.specs.declared.Version.TheVariants.{V1, V2}
use Rattle.bytecode.specs.Code.{readable, result_at, read_instruction, Listed, read_instructions, argument_words}
use Rattle.bytecode.proofs.Decoded.{then-inv}

-- ---- one word

pub inside-inv : (r : Range) (a : ℕ) → inside r a ≡ true → (r.first ≤ a) × (a < end r)
inside-inv r a e = let (x, y) = and-inv (leb r.first a) (ltb a (end r)) e in (leb-true _ _ x, ltb-true _ _ y)

pub is-inside : (r : Range) (a : ℕ) → r.first ≤ a → a < end r → inside r a ≡ true
is-inside r a l h = and_both (leb r.first a) (ltb a (end r)) (le-leb _ _ l) (lt-ltb _ _ h)

any-behind : (written : List Range) (a : ℕ) → any (λ r. inside r a) written ≡ true → a < behind written
any-behind [] a e = let z : ◌≡◌ {A = ℕ} 0 1 = cc in absurd (omega arith)
any-behind (r ∷ rs) a e = ⊎_elim
    (λ x. let (p, q) = inside-inv r a x in omega arith)
    (λ y. let h : a < behind rs = any-behind rs a y in omega arith)
    (or-inv (inside r a) (any (λ r. inside r a) rs) e)

pub readable-behind : (v : Version) (written : List Range) (a : ℕ) → readable v written a ≡ true → a < behind written
readable-behind V1 written a e = ltb-true a (behind written) e
readable-behind V2 written a e = any-behind written a e

-- before the first instruction
pub readable-first : (v : Version) (n a : ℕ) → readable v (argument_words n) a ≡ true → a < n
readable-first v n a e = let h : a < behind (argument_words n) = readable-behind v (argument_words n) a e in omega arith

-- after one: a word of its result, or one that could be read before
pub readable-next : (v : Version) (s : List ℕ) (at : ℕ) (written : List Range) (w a : ℕ)
    → readable v (record { first = result_at v s at written; width = w } ∷ written) a ≡ true
    → ((result_at v s at written ≤ a) × (a < result_at v s at written + w)) ⊎ (readable v written a ≡ true)
readable-next V1 s at written w a e = pick (ltb a (behind written)) refl
  where
    pick : (b : Bool) → ltb a (behind written) ≡ b → ((behind written ≤ a) × (a < behind written + w)) ⊎ (ltb a (behind written) ≡ true)
    pick true q = inr q
    pick false q =
        let h : behind written ≤ a = ltb-false a (behind written) q in
        let l : a < behind (record { first = behind written; width = w } ∷ written) = ltb-true _ _ e in
        inl (omega arith, omega arith)
readable-next V2 s at written w a e = ⊎_elim
    (λ x. inl (inside-inv (record { first = result_at V2 s at written; width = w }) a x))
    inr
    (or-inv (inside (record { first = result_at V2 s at written; width = w }) a) (any (λ r. inside r a) written) e)

-- ---- words of operands

pub width_some : (t : ℕ) → 1 ≤ width t
width_some t = pick (eqb t 1) (eqb t 2)
  where
    pick : (p q : Bool) → 1 ≤ cond p 1 (cond q 3 16)
    pick true q = omega arith
    pick false true = omega arith
    pick false false = omega arith

pub every_append : (test : ℕ → Bool) (xs ys : List ℕ) → every test (xs ++ ys) ≡ every test xs && every test ys
every_append test [] ys = refl
every_append test (x ∷ xs) ys = pick (test x) (every_append test xs ys)
  where
    pick : (b : Bool) → every test (xs ++ ys) ≡ every test xs && every test ys → b && every test (xs ++ ys) ≡ b && every test xs && every test ys
    pick true e = e
    pick false e = refl

pub every-span : (test : ℕ → Bool) (n a : ℕ) → every test (span a n) ≡ true → (i : ℕ) → a ≤ i → i < a + n → test i ≡ true
every-span test zero a e i l h = absurd (omega arith)
every-span test (suc n) a e i l h =
    let (x, y) = and-inv (test a) (every test (span (suc a) n)) e in
    pick x (λ k. every-span test n (suc a) y i k (omega arith)) (eqb a i) refl
  where
    pick : test a ≡ true → (suc a ≤ i → test i ≡ true) → (b : Bool) → eqb a i ≡ b → test i ≡ true
    pick x go true q = subst (λ (j : ℕ). test j ≡ true) (eqb-true a i q) x
    pick x go false q = let d = eqb-false a i q in go (omega (arith, d))

-- ---- all instructions

-- results only add words
pub behind-grows : (v : Version) (n : ℕ) (s : List ℕ) (at : ℕ) (written : List Range) (l : Listed) → read_instructions v n s at written ≡ some l
    → behind written ≤ behind l.written
behind-grows v zero s at written l e = let q : behind written ≡ behind l.written = ap (λ (x : Listed). behind x.written) (some_is e) in omega arith
behind-grows v (suc n) s at written l e =
    let (i, ei, e1) = then-inv (read_instruction v written s at) _ l e in
    let (r, er, e2) = then-inv (read_instructions v n s i.next (result_value i.it ∷ written)) _ l e1 in
    let h : behind (result_value i.it ∷ written) ≤ behind r.written = behind-grows v n s i.next (result_value i.it ∷ written) r er in
    let q : behind r.written ≡ behind l.written = ap (λ (x : Listed). behind x.written) (some_is e2) in
    omega arith
