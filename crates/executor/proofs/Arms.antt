-- The arms of a `match` on the kind: what the code of a kind asks and gives, and which kind the last arm has.
use Prim.Native.Nat.{ℕ, ◌≤◌, ◌<◌}
use mathlib.Core.Path.{◌≡◌, refl, ap, sym, subst}
use mathlib.Core.Bool.{Bool, true, false, not, ◌&&◌, ◌||◌, cond}
use mathlib.Core.List.{List, [], ◌∷◌}
use native.Mathlib.Omega.{arith}
use borrow.Author.Tests.{eqb-true, leb-true, leb-false}
use lib.Dec.{eqb, leb}
use Rattle.ports.specs.Kinds.{kind_of}
use Rattle.ports.specs.declared.Ports.{Ports}
use Rattle.ports.specs.Ports.{is_type, has_type, type_fits, ports_of, executable, legal_instruction}
use Rattle.ports.proofs.Laws.{no_kind}
use Rattle.ports.proofs.Table.{upto, upto-at, NoneOf, any_of, last_of}
use mathlib.Core.Logic.{◌⊎◌, inl, inr}
use Rattle.value.specs.declared.Value.{Value}
use Rattle.value.specs.declared.Value.TheVariants.{Scalar, Vector, Matrix}
use Rattle.value.specs.Values.{type_of}
use Rattle.value.specs.Typed.{TypeCode}
use Rattle.value.proofs.Laws.{type-cases}
use Rattle.base.specs.Limits.{kind_limit}
use Rattle.base.proofs.Bools.{and-inv}
use Rattle.executor.specs.declared.Extent.{Extent}
use Rattle.executor.specs.Execution.{Ready, Executable, Executed}

-- ---- an arm: its number k stands for the kind byte x

module _ {x t : ℕ} {s : List ℕ} {at result : ℕ} {m : List ℕ} (h : Executable x t s at result m) where
  pub plain_ready : {k : ℕ} → x ≡ k → Ready k t s at result m
  plain_ready e = subst (λ (i : ℕ). Ready i t s at result m) e h.ready

pub of-kind : {x k t : ℕ} {s : List ℕ} {at result : ℕ} {m after : List ℕ} {y : Extent} → x ≡ k → Executed k t s at result m after y → Executed x t s at result m after y
of-kind {x} {k} {t} {s} {at} {result} {m} {after} {y} e d = subst (λ (i : ℕ). Executed i t s at result m after y) (sym e) d

-- the same of the type byte t, which is u
pub with-type : {k t u : ℕ} {s : List ℕ} {at result : ℕ} {m : List ℕ} → t ≡ u → Executable k t s at result m → Executable k u s at result m
with-type {k} {t} {u} {s} {at} {result} {m} e h = subst (λ (i : ℕ). Executable k i s at result m) e h

pub of-type : {k t u : ℕ} {s : List ℕ} {at result : ℕ} {m after : List ℕ} {y : Extent} → t ≡ u → Executed k u s at result m after y → Executed k t s at result m after y
of-type {k} {t} {u} {s} {at} {result} {m} {after} {y} e d = subst (λ (i : ℕ). Executed k i s at result m after y) (sym e) d

-- ---- the last arm

-- the kinds that may have the type byte t are among these
abbrev covered : List ℕ → ℕ → ℕ → Bool
covered xs t k = not (legal_instruction (kind_of k) t) || any_of xs k

unless : (a b : Bool) → (not a || b) ≡ true → a ≡ true → b ≡ true
unless true b e h = e
unless false b e h = let z : ◌≡◌ {A = ℕ} 0 1 = cc in absurd (omega arith)

among : (xs : List ℕ) (t : ℕ) → upto (covered xs t) kind_limit ≡ true → (k : ℕ) → legal_instruction (kind_of k) t ≡ true → any_of xs k ≡ true
among xs t e k h = pick (leb kind_limit k) refl
  where
    pick : (b : Bool) → leb kind_limit k ≡ b → any_of xs k ≡ true
    pick true q =
        let p : legal_instruction (kind_of k) t ≡ false = ap (λ (r : Ports). executable r.form && type_fits r t) (no_kind k (leb-true kind_limit k q)) in
        let z : ◌≡◌ {A = ℕ} 0 1 = cc in absurd (omega arith)
    pick false q =
        let l : k < kind_limit = leb-false kind_limit k q in
        unless (legal_instruction (kind_of k) t) (any_of xs k) (upto-at (covered xs t) kind_limit e k l) h

abbrev plain_arms : List ℕ
plain_arms = 16 ∷ 15 ∷ 14 ∷ 13 ∷ 12 ∷ 11 ∷ 10 ∷ 9 ∷ 8 ∷ 7 ∷ 6 ∷ 5 ∷ []

abbrev typed_arms : List ℕ
typed_arms = 22 ∷ 21 ∷ 20 ∷ 19 ∷ 18 ∷ 4 ∷ 3 ∷ 2 ∷ 1 ∷ []

module _ {k : ℕ} {s : List ℕ} {at result : ℕ} {m : List ℕ} where
  pub last-plain : Executable k 0 s at result m → NoneOf plain_arms k → k ≡ 17
  last-plain h r = last_of 17 plain_arms k (among (17 ∷ plain_arms) 0 refl k h.legal) r

  pub last-typed : {t : ℕ} → TypeCode t → Executable k t s at result m → NoneOf typed_arms k → k ≡ 23
  last-typed {t} c h r = by (type-cases t c)
    where
      for : (u : ℕ) → upto (covered (23 ∷ typed_arms) u) kind_limit ≡ true → t ≡ u → k ≡ 23
      for u q e = last_of 23 typed_arms k (among (23 ∷ typed_arms) u q k (subst (λ (i : ℕ). legal_instruction (kind_of k) i ≡ true) e h.legal)) r

      by : (t ≡ 1) ⊎ ((t ≡ 2) ⊎ (t ≡ 3)) → k ≡ 23
      by (inl e) = for 1 refl e
      by (inr (inl e)) = for 2 refl e
      by (inr (inr e)) = for 3 refl e

-- a value's type is one of the three
pub type-code : {t : ℕ} (v : Value) → type_of v ≡ t → TypeCode t
type-code (Scalar a) e = (omega arith, omega arith)
type-code (Vector a) e = (omega arith, omega arith)
type-code (Matrix a) e = (omega arith, omega arith)

last_fits : (b : Bool) (t : ℕ) → cond b (is_type t) (eqb t 0) ≡ true → NoneOf (2 ∷ 1 ∷ 0 ∷ []) t → t ≡ 3
last_fits true t e r =
    let (x, y) = and-inv (leb 1 t) (leb t 3) e in
    let p : 1 ≤ t = leb-true 1 t x in
    let q : t ≤ 3 = leb-true t 3 y in
    omega (arith, r.1, r.0.1)
last_fits false t e r = absurd (r.0.0.1 (eqb-true t 0 e))

pub last-type : {k t : ℕ} {s : List ℕ} {at result : ℕ} {m : List ℕ} → Executable k t s at result m → NoneOf (2 ∷ 1 ∷ 0 ∷ []) t → t ≡ 3
last-type {k} {t} h r = last_fits (has_type (ports_of (kind_of k))) t (and-inv (executable (ports_of (kind_of k)).form) _ h.legal).1 r
