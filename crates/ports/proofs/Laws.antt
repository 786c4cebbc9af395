-- The port list by numbers and by kinds is one list.
use Prim.Native.Nat.{ℕ, zero, suc, ◌+◌, ◌≤◌}
use mathlib.Core.Path.{◌≡◌, refl, ap, sym, ◌∙◌, subst}
use mathlib.Core.Bool.{Bool, true, false, ◌&&◌, cond}
use mathlib.Core.List.{◌∷◌}
use native.Mathlib.Omega.{arith}
use borrow.Author.Tests.{eqb-true, leb-true, leb-false}
use lib.Dec.{eqb, leb}
use lib.ListN.{length, replicate, length-replicate, get_or-eq_default, get_or-map}
use Rattle.base.specs.Limits.{kind_limit, value_limit}
use Rattle.base.proofs.Bools.{and-inv}
use Rattle.ports.specs.declared.Ports.{Ports}
use Rattle.ports.specs.Kinds.{Kind, unknown, kinds, kind_of}
use Rattle.ports.specs.Ports.{width, widths, absent, ports_of, ports_at, types, takes, own, gives, arity, has_type, result_words, exists, form_of, type_fits, legal}
use Rattle.ports.proofs.Table.{upto-at, every-kind, NoneOf, any_of, last_of, down_from}

pub row_of : (k : ℕ) → ports_at k ≡ ports_of (kind_of k)
row_of k = get_or-map ports_of kinds k unknown

pub no_kind : (k : ℕ) → kind_limit ≤ k → ports_of (kind_of k) ≡ absent
no_kind k h = ap ports_of (get_or-eq_default kinds unknown h)

pub row_at : {k n : ℕ} → k ≡ n → ports_of (kind_of n) ≡ ports_of (kind_of k)
row_at e = ap (λ (i : ℕ). ports_of (kind_of i)) (sym e)

-- the last arm of a `match` on the kinds
pub no_row : (k : ℕ) → NoneOf (down_from 24) k → ports_of (kind_of k) ≡ absent
no_row k r = pick (leb kind_limit k) refl
  where
    pick : (b : Bool) → leb kind_limit k ≡ b → ports_of (kind_of k) ≡ absent
    pick true q = no_kind k (leb-true kind_limit k q)
    pick false q = sym (row_at (last_of 0 (down_from 24) k (upto-at (any_of (0 ∷ down_from 24)) kind_limit refl k (leb-false kind_limit k q)) r))

pub length_types : (n a b : ℕ) → length (types n a b) ≡ n
length_types zero a b = refl
length_types (suc n) a b = ap suc (length-replicate n b)

pub length-takes : (k : Kind) (t : ℕ) → length (takes k t) ≡ arity k
length-takes k t = length_types (arity k) _ _

-- a kind with T has one result of T; every other has its words written out
abbrev words_written : Bool → ℕ → ℕ → ℕ → Bool
words_written true n p w = eqb n 1 && eqb p 0
words_written false n p w = cond (eqb p 0) (eqb n 0 && eqb w 0) (eqb w (widths (replicate n p)))

words-by : (b : Bool) (n p w t : ℕ) → words_written b n p w ≡ true → cond b (width t) w ≡ widths (replicate n (own t p))
words-by true n p w t e =
    let (x, y) = and-inv (eqb n 1) (eqb p 0) e in
    let z : width t ≡ width t + 0 = omega arith in
    rw (eqb-true n 1 x, eqb-true p 0 y) z
words-by false n p w t e = pick (eqb p 0) e
  where
    pick : (b : Bool) → cond b (eqb n 0 && eqb w 0) (eqb w (widths (replicate n p))) ≡ true → w ≡ widths (replicate n (cond b t p))
    pick true e = let (x, y) = and-inv (eqb n 0) (eqb w 0) e in rw (eqb-true n 0 x, eqb-true w 0 y)
    pick false e = eqb-true w (widths (replicate n p)) e

-- a row's words are those of the results that it says
pub words-given : (k : Kind) (t : ℕ) → result_words (ports_of k) t ≡ widths (gives k t)
words-given k t =
    let r = ports_of k in
    words-by (has_type r) r.results r.result r.words t (every-kind (λ k. let r = ports_of k in words_written (has_type r) r.results r.result r.words) refl k)

width-most : (p q : Bool) → cond p 1 (cond q 3 16) ≤ 16
width-most true q = omega arith
width-most false true = omega arith
width-most false false = omega arith

pub width_few : (t : ℕ) → width t ≤ value_limit
width_few t = width-most (eqb t 1) (eqb t 2)

-- and no kind gives more words than a matrix has
pub words-few : (k : Kind) (t : ℕ) → widths (gives k t) ≤ value_limit
words-few k t = subst (λ (n : ℕ). n ≤ value_limit) (words-given k t) (pick (has_type (ports_of k)))
  where
    pick : (b : Bool) → cond b (width t) (ports_of k).words ≤ value_limit
    pick true = width_few t
    pick false = leb-true _ _ (every-kind (λ k. leb (ports_of k).words value_limit) refl k)

-- the legality of a kind byte from its row
pub legal-by : (k : Kind) (t : ℕ) (r : Ports) → r ≡ ports_of k → exists r.form ≡ true → type_fits r t ≡ legal k t
legal-by k t r e h =
    let x : exists (form_of k) ≡ true = ap (λ (p : Ports). exists p.form) (sym e) ∙ h in
    ap (λ (p : Ports). type_fits p t) e ∙ rw x refl
