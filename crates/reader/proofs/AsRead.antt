-- A node that was read, taken from its bytes: each form's payload, and what it reads.
use Prim.Native.Nat.{ℕ, ◌+◌, ◌*◌, ◌≤◌}
use mathlib.Core.Path.{◌≡◌, refl, sym, ap, ◌∙◌, subst}
use mathlib.Core.Bool.{Bool, true, false, cond}
use mathlib.Core.List.{List, []}
use native.Mathlib.Omega.{arith}
use lib.ListN.{length}
use Rattle.ports.specs.declared.Form.{Form}
use Rattle.ports.specs.declared.Form as Forms
use Rattle.ports.specs.declared.Ports.{Ports}
use Rattle.ports.specs.Ports.{width, ports_of, arity, constant_in, constant_words, form_of, calling, exists, type_fits}
use Rattle.base.specs.Bytes.{byte, u16, constants, Bytes}
use Rattle.base.proofs.Bools.{and-inv}
use Rattle.value.specs.Values.{value_of}
use Rattle.graph.specs.Formed.{FormedPayload}
use Rattle.graph.specs.Look.{reads_of}
use Rattle.graph.specs.Read.{references}
use Rattle.graph.proofs.Formed.{refs-length}
use Rattle.reader.specs.declared.Payload.{Payload}
use Rattle.reader.specs.declared.Payload.TheVariants.{Constant, Call, References}
use Rattle.reader.specs.Layout.{kind_at, payload_at, node_at, node_end}
use Rattle.reader.specs.Records.{FiniteWords, payload_of, arguments_at, operands_at, reads_by, node_of}
use Rattle.reader.specs.Find.{ReadsNode, ReadsOf}
use Rattle.reader.proofs.Words.{finite-words}
use Rattle.reader.proofs.Standing.{standing-formed}
use Rattle.reader.proofs.Rows.{operands-few, constant-operands, constant-width, constant-bytes, reference-bytes, call-bytes, row-some}
use Rattle.reader.proofs.Passed.{head-fits, end_fits, callee-fits, node-legal, form-is, end-by-form}

-- ---- the payload, by the form

module _ (s : List ℕ) (at : ℕ) where
  -- the node's payload is that of its form
  by : (h : Form) → form_of (kind_at s at) ≡ h → payload_at h (kind_at s at) s (at + 4) ≡ (node_at s at).payload
  unfolding node_at
  by h q = ap (λ (f : Form). payload_at f (kind_at s at) s (at + 4)) (sym q)

  abbrev kept : Payload
  kept = payload_of (kind_at s at) (at + 4) (node_at s at).payload

  pub kept-absent : form_of (kind_at s at) ≡ Forms.Form.Absent → References (record { first = at + 4; count = 0 }) ≡ kept
  kept-absent q = ap (payload_of (kind_at s at) (at + 4)) (by Forms.Form.Absent q)

  pub kept-constant : form_of (kind_at s at) ≡ Forms.Form.Constant
      → Constant (value_of (ports_of (kind_at s at)).result (constants (width (ports_of (kind_at s at)).result) s (at + 4))) ≡ kept
  kept-constant q =
      ap (λ (n : ℕ). Constant (value_of (ports_of (kind_at s at)).result (constants n s (at + 4)))) (sym (constant-width (byte s (at + 2)) q))
      ∙ ap (payload_of (kind_at s at) (at + 4)) (by Forms.Form.Constant q)

  pub kept_references : form_of (kind_at s at) ≡ Forms.Form.References → References (operands_at at (arity (kind_at s at))) ≡ kept
  kept_references q =
      ap (λ (n : ℕ). References (record { first = at + 4; count = n })) (sym (refs-length (arity (kind_at s at)) s (at + 4)))
      ∙ ap (payload_of (kind_at s at) (at + 4)) (by Forms.Form.References q)

  pub kept-call : form_of (kind_at s at) ≡ Forms.Form.Call → Call (u16 s (at + 4)) (arguments_at s at) ≡ kept
  kept-call q =
      ap (λ (n : ℕ). Call (u16 s (at + 4)) (record { first = at + 4 + 3; count = n })) (sym (refs-length (byte s (at + 4 + 2)) s (at + 4 + 3)))
      ∙ ap (payload_of (kind_at s at) (at + 4)) (by Forms.Form.Call q)

  -- the node as read, from its parts
  pub node_kept : (i : ℕ) → i ≡ u16 s at → (p : Payload) → p ≡ kept
      → record { id = i; place = at; kind = byte s (at + 2); ty = byte s (at + 3); payload = p } ≡ node_of (node_at s at)
  unfolding node_at
  node_kept i e p q =
      ap (λ (j : ℕ). record { id = j; place = at; kind = byte s (at + 2); ty = byte s (at + 3); payload = p }) e
      ∙ ap (λ (r : Payload). record { id = u16 s at; place = at; kind = byte s (at + 2); ty = byte s (at + 3); payload = r }) q

  -- a constant's words are finite
  pub constant-finite : Bytes s → ReadsNode s at → form_of (kind_at s at) ≡ Forms.Form.Constant → FiniteWords s (at + 4) (width (ports_of (kind_at s at)).result)
  unfolding node_at
  constant-finite small r q =
      let f : FormedPayload (kind_at s at) (node_at s at).payload = (standing-formed s small at r).payload in
      subst (FiniteWords s (at + 4)) (constant-width (byte s (at + 2)) q)
      (finite-words s small (at + 4) _
      (subst (λ (n : ℕ). n ≤ length s) (sym (end-by-form s at Forms.Form.Constant q)) (end_fits s at r))
      (subst (FormedPayload (kind_at s at)) (sym (by Forms.Form.Constant q)) f).2)

  -- whether it is a call, by its row
  module _ (row : Ports) (e : row ≡ ports_of (kind_at s at)) where
    pub calling-call : calling row.form ≡ true → form_of (kind_at s at) ≡ Forms.Form.Call
    calling-call t = form-is s at row e Forms.Form.Call (pick_one row.form t)
      where
        pick_one : (h : Form) → calling h ≡ true → h ≡ Forms.Form.Call
        pick_one Forms.Form.Absent t = let z : ◌≡◌ {A = ℕ} 0 1 = cc in absurd (omega arith)
        pick_one Forms.Form.Constant t = let z : ◌≡◌ {A = ℕ} 0 1 = cc in absurd (omega arith)
        pick_one Forms.Form.References t = let z : ◌≡◌ {A = ℕ} 0 1 = cc in absurd (omega arith)
        pick_one Forms.Form.Call t = refl

    pub call-calling : calling row.form ≡ false → form_of (kind_at s at) ≡ Forms.Form.Call → ⊥
    call-calling t q =
        let w : false ≡ true = sym t ∙ ap (λ (r : Ports). calling r.form) e ∙ ap calling q in
        let z : ◌≡◌ {A = ℕ} 0 1 = cc in
        omega arith

-- ---- what it reads

module _ (s : List ℕ) (at : ℕ) (r : ReadsNode s at) where
  pub call-reads : form_of (kind_at s at) ≡ Forms.Form.Call → ReadsOf s at (arguments_at s at)
  call-reads c =
      let (a, b) = callee-fits s at r c in
      let f = end_fits s at r in
      let g = end-by-form s at Forms.Form.Call c in
      record {
        refs = ap reads_of (sym (by s at Forms.Form.Call c));
        few = omega (arith, b);
        fits = omega (arith, f, g);
      }

  pub operand-reads : form_of (kind_at s at) ≡ Forms.Form.References → (n : ℕ) → n ≡ arity (kind_at s at) → ReadsOf s at (operands_at at n)
  operand-reads w n q =
      let b = operands-few (byte s (at + 2)) in
      let c = end-by-form s at Forms.Form.References w in
      let f = end_fits s at r in
      record {
        refs = ap reads_of (sym (by s at Forms.Form.References w)) ∙ ap (λ (k : ℕ). references k s (at + 4)) (sym q);
        few = omega (arith, b, q);
        fits = omega (arith, c, f, q);
      }

  pub other-reads : (form_of (kind_at s at) ≡ Forms.Form.Call → ⊥) → (n : ℕ) → n ≡ arity (kind_at s at) → ReadsOf s at (operands_at at n)
  other-reads z n q =
      pick_one (form_of (kind_at s at)) refl (and-inv (exists (form_of (kind_at s at))) (type_fits (ports_of (kind_at s at)) (byte s (at + 3))) (node-legal s at r).1).0
    where
      none : arity (kind_at s at) ≡ 0 → (h : Form) → form_of (kind_at s at) ≡ h → reads_of (payload_at h (kind_at s at) s (at + 4)) ≡ []
          → ReadsOf s at (operands_at at n)
      none a h w p =
          let b = head-fits s at r in
          let m : 0 ≡ n = omega (arith, a, q) in
          record {
            refs = ap reads_of (sym (by s at h w)) ∙ p ∙ ap (λ (k : ℕ). references k s (at + 4)) m;
            few = omega (arith, m);
            fits = omega (arith, m, b);
          }

      pick_one : (h : Form) → form_of (kind_at s at) ≡ h → exists h ≡ true → ReadsOf s at (operands_at at n)
      pick_one Forms.Form.Absent w l = let y : ◌≡◌ {A = ℕ} 0 1 = cc in absurd (omega arith)
      pick_one Forms.Form.Constant w l = none (constant-operands (byte s (at + 2)) w) Forms.Form.Constant w refl
      pick_one Forms.Form.References w l = operand-reads w n q
      pick_one Forms.Form.Call w l = absurd (z w)

-- ---- by its row: what it reads, and where it ends

module _ (s : List ℕ) (at : ℕ) (r : ReadsNode s at) where
  there-is : exists (form_of (kind_at s at)) ≡ true
  there-is = (and-inv (exists (form_of (kind_at s at))) (type_fits (ports_of (kind_at s at)) (byte s (at + 3))) (node-legal s at r).1).0

  module _ (row : Ports) (e : row ≡ ports_of (kind_at s at)) where
    pub row_reads : ReadsOf s at (reads_by row s at)
    row_reads = pick_one (calling row.form) refl
      where
        pick_one : (b : Bool) → calling row.form ≡ b → ReadsOf s at (cond b (arguments_at s at) (operands_at at row.operands))
        pick_one true q = call-reads s at r (calling-call s at row e q)
        pick_one false q = other-reads s at r (call-calling s at row e q) row.operands (ap (λ (p : Ports). p.operands) e)

    -- behind the row's bytes, and a call's arguments
    abbrev end_by : Ports → ℕ
    end_by p = at + 4 + p.bytes + cond (calling p.form) (3 * byte s (at + 4 + 2)) 0

    pub row-end : end_by row ≡ node_end s at
    row-end = ap end_by e ∙ pick_one (form_of (kind_at s at)) refl there-is
      where
        by_form : {h : Form} → form_of (kind_at s at) ≡ h → end_by (ports_of (kind_at s at)) ≡ at + 4 + (ports_of (kind_at s at)).bytes + cond (calling h) (3 * byte s (at + 4 + 2)) 0
        by_form q = ap (λ (f : Form). at + 4 + (ports_of (kind_at s at)).bytes + cond (calling f) (3 * byte s (at + 4 + 2)) 0) q

        pick_one : (h : Form) → form_of (kind_at s at) ≡ h → exists h ≡ true → end_by (ports_of (kind_at s at)) ≡ node_end s at
        pick_one Forms.Form.Absent q x = let z : ◌≡◌ {A = ℕ} 0 1 = cc in absurd (omega arith)
        pick_one Forms.Form.Constant q x =
            let b = constant-bytes (byte s (at + 2)) q in
            let c : constant_words (kind_at s at) ≡ (ports_of (kind_at s at)).words = ap (λ (f : Form). constant_in f (ports_of (kind_at s at)).words) q in
            let a : at + 4 + 8 * constant_words (kind_at s at) ≡ node_end s at = end-by-form s at Forms.Form.Constant q in
            by_form q ∙ omega (arith, b, c, a)
        pick_one Forms.Form.References q x =
            let b = reference-bytes (byte s (at + 2)) q in
            let a : at + 4 + 3 * arity (kind_at s at) ≡ node_end s at = end-by-form s at Forms.Form.References q in
            by_form q ∙ omega (arith, b, a)
        pick_one Forms.Form.Call q x =
            let b = call-bytes (byte s (at + 2)) q in
            let a = end-by-form s at Forms.Form.Call q in
            by_form q ∙ omega (arith, b, a)

  -- a byte where a call has its argument count
  pub count_fits : at + 4 + 3 ≤ length s
  count_fits = omega (arith, row-some (byte s (at + 2)) there-is, end_fits s at r, row-end (ports_of (kind_at s at)) refl)
