-- The operands and the constant of one instruction, by its kind's row of the port list.
use Prim.Native.Nat.{ℕ, zero, suc, ◌+◌, ◌-◌, ◌*◌, ◌≤◌, ◌<◌}
use mathlib.Core.Path.{◌≡◌, refl, ap, ap₂, sym, ◌∙◌}
use mathlib.Core.Bool.{Bool, true, false, ◌&&◌, cond}
use mathlib.Core.List.{List}
use native.Mathlib.Omega.{arith}
use native.Mathlib.Numerals.{sub-one}
use borrow.Author.Tests.{le-leb, lt-leb, leb-true, ne_eqb, eqb-true}
use lib.Dec.{leb, ltb, eqb}
use lib.ListN.{length, replicate}
use Rattle.ports.specs.declared.Ports.{Ports}
use Rattle.ports.specs.Kinds.{Kind, kind_of}
use Rattle.ports.specs.Ports.{width, ports_of, own, has_type, is_type, types, takes_row, constant_in, executable, type_fits, result_words}
use Rattle.ports.proofs.Table.{every-kind}
use Rattle.value.specs.Values.{constant_word}
use Rattle.base.specs.Lists.{every}
use Rattle.base.proofs.Bools.{and-inv, and_both, and-false}
use Rattle.base.specs.Bytes.{byte, u16, constants}
use Rattle.bytecode.specs.Code.{addresses}
use Rattle.runner.specs.Checks.{all_less, operand_good, operands_good, inputs_end, several_good, inputs_good, both_good, constant_good, legal_row, Given}
use Rattle.runner.proofs.Walks.{Walk}

pub outputs-walk : (s : List ℕ) (words : ℕ) → Walk (λ n at. all_less words (addresses n s at)) (λ at. ltb (u16 s at) words) 2
outputs-walk s words = record { none = λ at. refl; more = λ n at. refl }

-- ---- operands

module _ (b : Bool) (marks : List Bool) (high : ℕ) (s : List ℕ) where
  abbrev pub good_at : ℕ → ℕ → Bool
  good_at t at = operand_good b marks high t (u16 s at)

  same-types : (n t : ℕ) → types n t t ≡ replicate n t
  same-types zero t = refl
  same-types (suc n) t = refl

  -- what is left, at the first of it
  pub good-next : (n at p q : ℕ) → 0 < n
      → operands_good b marks high (types n p q) (addresses n s at) ≡ (good_at p at && operands_good b marks high (types (n - 1) q q) (addresses (n - 1) s (at + 2)))
  good-next zero at p q h = absurd (omega arith)
  good-next (suc n) at p q h = rw (sub-one, same-types n q) refl

  pub good-none : (n at p q : ℕ) → n ≡ 0 → operands_good b marks high (types n p q) (addresses n s at) ≡ true
  good-none zero at p q h = refl
  good-none (suc n) at p q h = absurd (omega arith)

  pub two : (at p q : ℕ) {x y : Bool} → good_at p at ≡ x → good_at q (at + 2) ≡ y → operands_good b marks high (types 2 p q) (addresses 2 s at) ≡ (x && y)
  two at p q {x} {y} e f = rw (e, f) (and-right x y)
    where
      and-right : (x y : Bool) → (x && (y && true)) ≡ (x && y)
      and-right true true = refl
      and-right true false = refl
      and-right false y = refl

-- ---- rows: what an instruction has, by its operands

-- none: the words of a constant; some: no constant, and where there is T they are all of it
abbrev shaped : Ports → Bool
shaped r =
    cond (eqb r.operands 0) (cond (executable r.form) (eqb (constant_in r.form r.words) r.words) true)
    (executable r.form && eqb (constant_in r.form r.words) 0 && cond (has_type r) (eqb r.first 0 && eqb r.rest 0) true)

every-shaped : (k : Kind) → shaped (ports_of k) ≡ true
every-shaped = every-kind (λ k. shaped (ports_of k)) refl

of-operands : (r : Ports) → shaped r ≡ true → (r.operands ≡ 0 → ⊥)
    → (executable r.form ≡ true) × (constant_in r.form r.words ≡ 0) × (cond (has_type r) (eqb r.first 0 && eqb r.rest 0) true ≡ true)
of-operands r e n =
    let some = executable r.form && eqb (constant_in r.form r.words) 0 && cond (has_type r) (eqb r.first 0 && eqb r.rest 0) true in
    let none = cond (executable r.form) (eqb (constant_in r.form r.words) r.words) true in
    let z : some ≡ true = ap (λ (b : Bool). cond b none some) (sym (ne_eqb r.operands 0 n)) ∙ e in
    let (x, y) = and-inv (executable r.form && eqb (constant_in r.form r.words) 0) (cond (has_type r) (eqb r.first 0 && eqb r.rest 0) true) z in
    let (u, v) = and-inv (executable r.form) (eqb (constant_in r.form r.words) 0) x in
    (u, eqb-true _ _ v, y)

-- a kind with operands has no constant
pub operands-no-constant : (row : Ports) (k : Kind) → row ≡ ports_of k → (row.operands ≡ 0 → ⊥) → constant_in row.form row.words ≡ 0
operands-no-constant row k e n = (of-operands row (ap shaped e ∙ every-shaped k) n).1

-- a legal kind without has one of the words of its result
pub constant-words : (row : Ports) (k : Kind) → row ≡ ports_of k → (t : ℕ) → row.operands ≡ 0 → legal_row row t ≡ true → {words : ℕ}
    → words ≡ result_words row t → constant_in row.form row.words ≡ words
constant-words row k e t n l {words} ew =
    let some = executable row.form && eqb (constant_in row.form row.words) 0 && cond (has_type row) (eqb row.first 0 && eqb row.rest 0) true in
    let none = cond (executable row.form) (eqb (constant_in row.form row.words) row.words) true in
    let x : none ≡ true = ap (λ (m : ℕ). cond (eqb m 0) none some) (sym n) ∙ ap shaped e ∙ every-shaped k in
    let can = (and-inv (executable row.form) (type_fits row t) l).0 in
    let y = eqb-true _ _ (ap (λ (b : Bool). cond b (eqb (constant_in row.form row.words) row.words) true) (sym can) ∙ x) in
    let plain : result_words row t ≡ row.words =
    ap (λ (m : ℕ). cond (eqb row.words 0 && leb 1 m) (width t) row.words) n ∙ ap (λ (b : Bool). cond b (width t) row.words) (and-false (eqb row.words 0)) in
    y ∙ sym (ew ∙ plain)

-- ---- operands and constant

pub within : {P v : Bool} (end size : ℕ) → end ≤ size → v ≡ P → v ≡ (leb end size && P)
within {P} {v} end size l e = rw (le-leb end size l) e

pub past : (P : Bool) {v : Bool} (end size : ℕ) → size < end → v ≡ false → v ≡ (leb end size && P)
past P {v} end size l e = rw (lt-leb end size l) e

module _ (b : Bool) (s : List ℕ) (from : ℕ) (row : Ports) (t high : ℕ) (marks : List Bool) where
  abbrev pub good_operands : Bool
  good_operands = operands_good b marks high (takes_row row t) (addresses row.operands s from)

  abbrev pub good_constant : Bool
  good_constant = every constant_word (constants (constant_in row.form row.words) s (from + 2 * row.operands))

  pub too-short : length s < inputs_end row from → inputs_good b s from row t high marks ≡ false
  unfolding inputs_good
  too-short l = rw (lt-leb (inputs_end row from) (length s) l) refl

  and-right : (x : Bool) → (x && true) ≡ x
  and-right true = refl
  and-right false = refl

  -- a constant alone
  pub constant-is : {words : ℕ} → row.operands ≡ 0 → constant_in row.form row.words ≡ words → {r : Bool} → r ≡ constant_good s from words
      → r ≡ inputs_good b s from row t high marks
  unfolding inputs_good
  constant-is {words} n c {r} e =
      let end : from + 8 * words ≡ inputs_end row from = omega (arith, n, c) in
      let at : from ≡ from + 2 * row.operands = omega (arith, n) in
      e ∙ ap₂ (λ (x y : ℕ). leb x (length s) && every constant_word (constants words s y)) end at
      ∙ ap (λ (k : ℕ). leb (inputs_end row from) (length s) && every constant_word (constants k s (from + 2 * row.operands))) (sym c)
      ∙ ap (λ (x : Bool). x && good_constant) (sym (and-right (leb (inputs_end row from) (length s))))
      ∙ ap (λ (x : Bool). leb (inputs_end row from) (length s) && x && good_constant)
      (sym (good-none b marks high s row.operands from (own t row.first) (own t row.rest) n))

  -- operands alone
  module _ (c : constant_in row.form row.words ≡ 0) where
    pub several-end : {count : ℕ} → count ≡ row.operands → from + 2 * count ≡ inputs_end row from
    several-end n = omega (arith, n, c)

    alone : inputs_good b s from row t high marks ≡ (leb (inputs_end row from) (length s) && good_operands)
    unfolding inputs_good
    alone =
        ap (λ (y : Bool). leb (inputs_end row from) (length s) && good_operands && y)
        (ap (λ (k : ℕ). every constant_word (constants k s (from + 2 * row.operands))) c)
        ∙ and-right (leb (inputs_end row from) (length s) && good_operands)

    -- of these types
    module _ {u v : ℕ} (eu : u ≡ own t row.first) (ev : v ≡ own t row.rest) where
      pub several-is : {count : ℕ} → count ≡ row.operands → {r : Bool} → r ≡ several_good b s from count u v high marks
          → r ≡ inputs_good b s from row t high marks
      several-is {count} n {r} e =
          e ∙ ap (λ (x : ℕ). leb x (length s) && operands_good b marks high (types count u v) (addresses count s from)) (several-end n)
          ∙ ap (λ (k : ℕ). leb (inputs_end row from) (length s) && operands_good b marks high (types k u v) (addresses k s from)) n
          ∙ ap₂ (λ (x y : ℕ). leb (inputs_end row from) (length s) && operands_good b marks high (types row.operands x y) (addresses row.operands s from)) eu ev
          ∙ sym alone

      pub two-is : row.operands ≡ 2 → {r : Bool} → r ≡ both_good b s from u v high marks → r ≡ inputs_good b s from row t high marks
      two-is n {r} e =
          several-is (sym n)
          (e ∙ and-three (leb (from + 4) (length s)) (operand_good b marks high u (u16 s from)) (operand_good b marks high v (u16 s (from + 2)))
          ∙ ap (λ (y : Bool). leb (from + 4) (length s) && y) (sym (two b marks high s from u v refl refl)))
        where
          and-three : (x y z : Bool) → (x && y && z) ≡ (x && (y && z))
          and-three true y z = refl
          and-three false y z = refl

own-none : (p : ℕ) → own 0 p ≡ p
own-none zero = refl
own-none (suc p) = ap (λ (b : Bool). cond b 0 (suc p)) (ne_eqb (suc p) 0 (λ e. absurd (omega arith)))

-- the instruction of a kind with T, and of one without
module _ (s : List ℕ) (at : ℕ) (row : Ports) (e : row ≡ ports_of (kind_of (byte s at))) where
  abbrev type_here : ℕ
  type_here = byte s (at + 1)

  module _ (h : has_type row ≡ true) where
    fits-typed : type_fits row type_here ≡ is_type type_here
    fits-typed = ap (λ (b : Bool). cond b (is_type type_here) (eqb type_here 0)) h

    pub no-type : is_type type_here ≡ false → legal_row row type_here ≡ false
    no-type f = ap (λ (b : Bool). executable row.form && b) (fits-typed ∙ f) ∙ and-false (executable row.form)

    pub given-typed : is_type type_here ≡ true → {words : ℕ} → words ≡ width type_here → words < 256 → Given s at row type_here type_here words
    given-typed f ew l =
        let some = and-inv (eqb row.words 0) (leb 1 row.operands) h in
        let one : 1 ≤ row.operands = leb-true _ _ some.1 in
        let (can, z, w) = of-operands row (ap shaped e ∙ every-shaped (kind_of (byte s at))) (λ q. absurd (omega (arith, one, q))) in
        let (x, y) = and-inv (eqb row.first 0) (eqb row.rest 0) (ap (λ (b : Bool). cond b (eqb row.first 0 && eqb row.rest 0) true) (sym h) ∙ w) in
        record {
          row_is = e;
          legal = and_both (executable row.form) (type_fits row type_here) can (fits-typed ∙ f);
          first_is = sym (ap (own type_here) (eqb-true row.first 0 x));
          rest_is = sym (ap (own type_here) (eqb-true row.rest 0 y));
          words_is = ew ∙ ap (λ (b : Bool). cond b (width type_here) row.words) (sym h);
          few = l;
        }

  module _ (h : has_type row ≡ false) where
    fits-plain : type_fits row type_here ≡ eqb type_here 0
    fits-plain = ap (λ (b : Bool). cond b (is_type type_here) (eqb type_here 0)) h

    pub type-given : (type_here ≡ 0 → ⊥) → legal_row row type_here ≡ false
    type-given n =
        ap (λ (b : Bool). executable row.form && b) (fits-plain ∙ ne_eqb type_here 0 n) ∙ and-false (executable row.form)

    pub not-executed : executable row.form ≡ false → legal_row row type_here ≡ false
    not-executed f = ap (λ (b : Bool). b && type_fits row type_here) f

    pub given-plain : type_here ≡ 0 → executable row.form ≡ true → {words : ℕ} → words ≡ row.words → words < 256
        → Given s at row row.first row.rest words
    given-plain z can ew l =
        record {
          row_is = e;
          legal = and_both (executable row.form) (type_fits row type_here) can (fits-plain ∙ ap (λ (n : ℕ). eqb n 0) z);
          first_is = sym (ap (λ (n : ℕ). own n row.first) z ∙ own-none row.first);
          rest_is = sym (ap (λ (n : ℕ). own n row.rest) z ∙ own-none row.rest);
          words_is = ew ∙ ap (λ (b : Bool). cond b (width type_here) row.words) (sym h);
          few = l;
        }
