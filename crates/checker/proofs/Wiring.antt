-- 11 and 12: references one at a time.
use Prim.Native.Nat.{ℕ, zero, suc, ◌+◌, ◌-◌, ◌<◌, ◌≤◌}
use mathlib.Core.Path.{◌≡◌, refl, ap, sym, ◌∙◌}
use mathlib.Core.Bool.{Bool, true, false, cond}
use mathlib.Core.List.{List, [], ◌∷◌}
use mathlib.Core.Option.{Option, none, some}
use native.Mathlib.Omega.{arith}
use native.Mathlib.Nat.{not-suc-le-zero}
use native.Mathlib.Numerals.{add-one}
use lib.Dec.{eqb}
use lib.ListN.{length, get_or, get_elem?, drop, get_or-replicate}
use lib.Seq.{drop-cons}
use borrow.Author.Tests.{eq-eqb, ne_eqb, eqb-true, eqb-false}
use Rattle.ports.specs.declared.Form.{Form}
use Rattle.ports.specs.declared.Form.TheVariants.{Absent, Constant, References, Call}
use Rattle.ports.specs.declared.Ports.{Ports}
use Rattle.ports.specs.Ports.{ports_of, form_of, types, takes_row}
use Rattle.ports.proofs.Laws.{length_types}
use Rattle.base.specs.Outcome.{ok, fault, need, ◌>>◌}
use Rattle.base.specs.Bytes.{byte, u16}
use Rattle.graph.specs.Graph.{Function}
use Rattle.graph.specs.Look.{find_node, find_function, reads_of}
use Rattle.graph.specs.Read.{reference, references}
use Rattle.graph.specs.Judge.{call_ok, ref_ok}
use Rattle.graph.specs.Types.{inputs_of, ref_type, wants_of, gives_of}
use Rattle.base.proofs.Outcomes.{takes, stops, goes, halts, needed}
use Rattle.base.proofs.Numbers.{one_less}
use Rattle.reader.specs.Layout.{kind_at, payload_at, node_at, nodes_at, node_count, nodes_place, inputs_at, outputs_at, function_at}
use Rattle.std.specs.Prelude.{Some, None}
use Rattle.reader.proofs.Passed.{form-is}
use Rattle.checker.specs.declared.types.Want.{Want}
use Rattle.checker.specs.declared.types.Want.TheVariants.{Types, Inputs}
use Rattle.checker.specs.Answers.{port_of, type_at, wanted, wants_list, WantFits, outputs_checked, references_checked, node_checked}
use Rattle.checker.proofs.Calls.{inputs-length, call-some, call_none}

-- ---- one reference

pub nodes-of : (s : List ℕ) (f : ℕ) → (function_at s f).nodes ≡ nodes_at (node_count s f) s (nodes_place s f)
unfolding function_at
nodes-of s f = refl

module _ (s : List ℕ) (early : List Function) (f at : ℕ) where
  pub input-typed : u16 s at ≡ 0 → type_at s early f at ≡ port_of (get_elem? (function_at s f).inputs (byte s (at + 2)))
  input-typed e = rw (eq-eqb (u16 s at) 0 e)

  pub node-typed :
      (p : ℕ) → (u16 s at ≡ 0 → ⊥) → find_node (u16 s at) (function_at s f).nodes ≡ some (node_at s p)
      → type_at s early f at ≡ port_of (get_elem? (gives_of early (node_at s p) (node_at s p).payload) (byte s (at + 2)))
  node-typed p d e = rw (ne_eqb (u16 s at) 0 d, e)

  pub none-typed : (u16 s at ≡ 0 → ⊥) → find_node (u16 s at) (function_at s f).nodes ≡ none → type_at s early f at ≡ None
  none-typed d e = rw (ne_eqb (u16 s at) 0 d, e)

  -- ---- what the answer tells of 11 and 12

  nothing_is : (o : Option ℕ) → port_of o ≡ None → o ≡ none
  nothing_is none e = refl
  nothing_is (some t) e = let z : ◌≡◌ {A = ℕ} 0 1 = cc in absurd (omega arith)

  some_is : (o : Option ℕ) (t : ℕ) → port_of o ≡ Some t → o ≡ some t
  some_is none t e = let z : ◌≡◌ {A = ℕ} 0 1 = cc in absurd (omega arith)
  some_is (some u) t e = cc

  pub lost : (w : ℕ) → type_at s early f at ≡ None → ref_ok early (function_at s f) w (reference s at) ≡ fault 11 at
  lost w e = rw (nothing_is (ref_type early (function_at s f) (reference s at)) e)

  module _ (t : ℕ) (e : type_at s early f at ≡ Some t) where
    type-is : ref_type early (function_at s f) (reference s at) ≡ some t
    type-is = some_is (ref_type early (function_at s f) (reference s at)) t e

    pub mistyped : (w : ℕ) → (t ≡ w → ⊥) → ref_ok early (function_at s f) w (reference s at) ≡ fault 12 at
    unfolding need
    mistyped w d = rw (type-is, ne_eqb t w d)

    pub welltyped : (w : ℕ) → t ≡ w → ref_ok early (function_at s f) w (reference s at) ≡ ok tt
    unfolding need
    welltyped w q = rw (type-is, eq-eqb t w q)

-- ---- outputs

module _ (s : List ℕ) (early : List Function) (f : ℕ) where
  pub outputs-fault :
      (n at a p : ℕ) → 0 < n → ref_ok early (function_at s f) (byte s at) (reference s (at + 1)) ≡ fault a p
      → outputs_checked s early f (outputs_at n s at) ≡ fault a p
  outputs-fault zero at a p l e = absurd (not-suc-le-zero l)
  outputs-fault (suc n) at a p l e = stops _ _ a p e

  pub outputs-on :
      (n at : ℕ) → 0 < n → ref_ok early (function_at s f) (byte s at) (reference s (at + 1)) ≡ ok tt
      → outputs_checked s early f (outputs_at n s at) ≡ outputs_checked s early f (outputs_at (n - 1) s (at + 4))
  outputs-on zero at l e = absurd (not-suc-le-zero l)
  outputs-on (suc n) at l e =
      let m : suc n - 1 ≡ n = omega arith in
      takes _ _ tt e ∙ ap (λ (i : ℕ). outputs_checked s early f (outputs_at i s (at + 4))) (sym m)

-- ---- what references want

module _ (s : List ℕ) (n : ℕ) where
  pub wants-length : (w : Want) → length (wants_list s n w) ≡ n
  wants-length (Types a b) = length_types n a b
  wants-length (Inputs p) = inputs-length n s (p + 6)

pub first-type : (n a b : ℕ) → 0 < n → get_or (types n a b) 0 0 ≡ a
first-type zero a b h = absurd (not-suc-le-zero h)
first-type (suc n) a b h = refl

pub other-type : (n a b j : ℕ) → j < n → (j ≡ 0 → ⊥) → get_or (types n a b) j 0 ≡ b
other-type zero a b j h d = absurd (not-suc-le-zero h)
other-type (suc n) a b zero h d = absurd (d refl)
other-type (suc n) a b (suc j) h d = get_or-replicate n j b 0 (omega arith)

pub input-type : (n : ℕ) (s : List ℕ) (at j : ℕ) → j < n → get_or (inputs_at n s at) j 0 ≡ byte s (at + j)
input-type zero s at j h = absurd (not-suc-le-zero h)
input-type (suc n) s at zero h = let e : at + 0 ≡ at = omega arith in ap (byte s) (sym e)
input-type (suc n) s at (suc j) h =
    let e : at + 1 + j ≡ at + suc j = omega arith in
    input-type n s (at + 1) j (omega arith) ∙ ap (byte s) e

-- the j-th of n
module _ (s : List ℕ) (n j : ℕ) (h : j < n) where
  of-types : (a b : ℕ) (q : Bool) → eqb j 0 ≡ q → cond q a b ≡ get_or (types n a b) j 0
  of-types a b true e = let z = eqb-true j 0 e in rw z (sym (first-type n a b (omega arith)))
  of-types a b false e = sym (other-type n a b j h (eqb-false j 0 e))

  pub wanted-is : (w : Want) → wanted s w j ≡ get_or (wants_list s n w) j 0
  wanted-is (Types a b) = of-types a b (eqb j 0) refl
  wanted-is (Inputs p) = sym (input-type n s (p + 6) j h)

pub wants_fit : (s : List ℕ) (n m : ℕ) → m ≤ n → (w : Want) → WantFits s n w → WantFits s m w
wants_fit s n m l (Types a b) h = tt
wants_fit s n m l (Inputs p) h = omega arith

-- ---- several references

no-references : (s : List ℕ) (early : List Function) (f : ℕ) (ws : List ℕ) → references_checked s early f ws [] ≡ ok tt
no-references s early f [] = refl
no-references s early f (w ∷ ws) = refl

-- the j-th of n and those after it
module _ (s : List ℕ) (early : List Function) (f n : ℕ) (want : Want) (at j : ℕ) where
  abbrev wants : List ℕ
  wants = wants_list s n want

  module _ (l : j < n) where
    next : references_checked s early f (drop j wants) (references (n - j) s at)
        ≡ (ref_ok early (function_at s f) (get_or wants j 0) (reference s at) >> references_checked s early f (drop (j + 1) wants) (references (n - (j + 1)) s (at + 3)))
    next =
        let e = wants-length s n want in
        ap (λ (m : ℕ). references_checked s early f (drop j wants) (references m s at)) (one_less n j l)
        ∙ ap (λ (vs : List ℕ). references_checked s early f vs (references (suc (n - (j + 1))) s at))
        (drop-cons wants j 0 (omega (arith, e, l)) ∙ ap (λ (i : ℕ). get_or wants j 0 ∷ drop i wants) (sym (add-one j)))

    pub references-fault :
        {a p : ℕ} → ref_ok early (function_at s f) (get_or (wants_list s n want) j 0) (reference s at) ≡ fault a p
        → references_checked s early f (drop j (wants_list s n want)) (references (n - j) s at) ≡ fault a p
    references-fault e = next ∙ halts _ _ _ _ e

    pub references-on :
        ref_ok early (function_at s f) (get_or (wants_list s n want) j 0) (reference s at) ≡ ok tt
        → references_checked s early f (drop j (wants_list s n want)) (references (n - j) s at)
        ≡ references_checked s early f (drop (j + 1) (wants_list s n want)) (references (n - (j + 1)) s (at + 3))
    references-on e = next ∙ goes _ _ tt e

  pub references-none : n ≤ j → references_checked s early f (drop j (wants_list s n want)) (references (n - j) s at) ≡ ok tt
  references-none h =
      let z : n - j ≡ 0 = omega arith in
      ap (λ (m : ℕ). references_checked s early f (drop j wants) (references m s at)) z ∙ no-references s early f (drop j wants)

-- ---- the references of a node

module _ (s : List ℕ) (early : List Function) (f at : ℕ) where
  by_form : (h : Form) → form_of (kind_at s at) ≡ h
      → node_checked s early f (node_at s at)
      ≡ references_checked s early f (wants_of early (node_at s at) (payload_at h (kind_at s at) s (at + 4))) (reads_of (payload_at h (kind_at s at) s (at + 4)))
  unfolding node_at
  by_form h e =
      ap
      (λ (x : Form). references_checked s early f (wants_of early (node_at s at) (payload_at x (kind_at s at) s (at + 4)))
      (reads_of (payload_at x (kind_at s at) s (at + 4))))
      e

  -- a node that reads nothing
  pub bare-node : (h : Form) → form_of (kind_at s at) ≡ h → reads_of (payload_at h (kind_at s at) s (at + 4)) ≡ [] → node_checked s early f (node_at s at) ≡ ok tt
  bare-node h e q =
      let ws = wants_of early (node_at s at) (payload_at h (kind_at s at) s (at + 4)) in
      by_form h e ∙ ap (references_checked s early f ws) q ∙ no-references s early f ws

  bare : (h : Form) → (h ≡ References → ⊥) → (h ≡ Call → ⊥) → reads_of (payload_at h (kind_at s at) s (at + 4)) ≡ []
  bare Absent a b = refl
  bare Constant a b = refl
  bare References a b = absurd (a refl)
  bare Call a b = absurd (b refl)

  pub bare-row : (row : Ports) → row ≡ ports_of (kind_at s at) → (row.form ≡ References → ⊥) → (row.form ≡ Call → ⊥) → node_checked s early f (node_at s at) ≡ ok tt
  bare-row row q a b = bare-node row.form (form-is s at row q row.form refl) (bare row.form a b)

  pub references-node :
      (row : Ports) → row ≡ ports_of (kind_at s at) → form_of (kind_at s at) ≡ References
      → node_checked s early f (node_at s at) ≡ references_checked s early f (takes_row row (byte s (at + 3))) (references row.operands s (at + 4))
  unfolding node_at
  references-node row q e =
      by_form References e ∙ ap (λ (r : Ports). references_checked s early f (takes_row r (byte s (at + 3))) (references r.operands s (at + 4))) (sym q)

  -- a call that passed 10
  module _ (c : form_of (kind_at s at) ≡ Call) (good : call_ok early at (node_at s at).payload ≡ ok tt) where
    pub call-found : find_function (u16 s (at + 4)) early ≡ none → ⊥
    call-found e =
        let h = needed false 10 at tt (sym (call_none s at early c e) ∙ good) in
        let z : ◌≡◌ {A = ℕ} 0 1 = cc in
        omega arith

    pub call-count : (p : ℕ) → find_function (u16 s (at + 4)) early ≡ some (function_at s p) → byte s (at + 4 + 2) ≡ byte s (p + 2)
    call-count p e =
        eqb-true _ _
        (needed (eqb (byte s (at + 4 + 2)) (byte s (p + 2))) 10 at tt (sym (call-some s at early c p e) ∙ good))

    pub call-node :
        (p : ℕ) → find_function (u16 s (at + 4)) early ≡ some (function_at s p)
        → node_checked s early f (node_at s at)
        ≡ references_checked s early f (inputs_at (byte s (at + 4 + 2)) s (p + 6)) (references (byte s (at + 4 + 2)) s (at + 4 + 3))
    unfolding function_at
    call-node p e =
        by_form Call c
        ∙ (ap (λ (o : Option Function). references_checked s early f (inputs_of o) (references (byte s (at + 4 + 2)) s (at + 4 + 3))) e
        ∙ ap (λ (n : ℕ). references_checked s early f (inputs_at n s (p + 6)) (references (byte s (at + 4 + 2)) s (at + 4 + 3))) (sym (call-count p e)))
