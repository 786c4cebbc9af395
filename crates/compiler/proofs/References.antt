-- What a node that was read reads, and what it is as read.
use Prim.Native.Nat.{ℕ, ◌+◌, ◌≤◌}
use mathlib.Core.Path.{◌≡◌, refl, sym, ap, ◌∙◌, subst}
use mathlib.Core.Bool.{Bool, true, false, ◌&&◌}
use mathlib.Core.List.{List}
use native.Mathlib.Omega.{arith}
use lib.Dec.{eqb, leb}
use lib.ListN.{length}
use Rattle.base.specs.Limits.{operand_limit}
use Rattle.base.specs.Bytes.{byte, u16, Bytes}
use Rattle.base.specs.Lists.{Each}
use Rattle.base.proofs.Bools.{and-false}
use Rattle.ports.specs.Kinds.{Kind, kind_of}
use Rattle.ports.specs.declared.Form.{Form}
use Rattle.ports.specs.declared.Form.TheVariants.{Absent, Constant, References, Call}
use Rattle.ports.specs.Ports.{ports_of, arity, form_of, calling, has_type}
use Rattle.value.specs.declared.Value.{Value}
use Rattle.value.specs.Values.{words_of, value_of}
use Rattle.value.specs.Typed.{Finite}
use Rattle.value.proofs.Laws.{words-of-value, each-finite}
use Rattle.graph.specs.Graph as Graph
use Rattle.graph.specs.Graph.{Ref, consts, refs, calls}
use Rattle.graph.specs.Formed.{FormedPayload}
use Rattle.graph.specs.Look.{reads}
use Rattle.graph.specs.Read.{references}
use Rattle.graph.proofs.Formed.{refs-length}
use Rattle.reader.specs.declared.Node.{Node}
use Rattle.reader.specs.declared.Payload.{Payload}
use Rattle.reader.specs.declared.Payload as Payloads
use Rattle.reader.specs.declared.Reads.{Reads}
use Rattle.reader.specs.Layout.{kind_at, payload_at, node_at}
use Rattle.reader.specs.Records.{payload_of, arguments_at, operands_at, node_of}
use Rattle.reader.specs.Find.{ReadsNode, ReadsOf}
use Rattle.reader.proofs.Standing.{standing-formed}
use Rattle.reader.proofs.Rows.{constant-width, constant-operands}
use Rattle.reader.proofs.AsRead.{calling-call, call-calling, call-reads, other-reads}

-- ---- how many

pub count-reads : (s : List ℕ) (p : ℕ) (r : Reads) → ReadsOf s p r → r.count ≡ length (reads (node_at s p))
count-reads s p r h = sym (ap length h.refs ∙ refs-length r.count s r.first)

-- a node that was read reads at most 16 values
pub few-reads : (s : List ℕ) (p : ℕ) → ReadsNode s p → length (reads (node_at s p)) ≤ operand_limit
few-reads s p h = pick_one (calling (form_of (kind_at s p))) refl
  where
    few : (r : Reads) → ReadsOf s p r → length (reads (node_at s p)) ≤ operand_limit
    few r o = let a = count-reads s p r o in let b = o.few in omega arith

    pick_one : (b : Bool) → calling (form_of (kind_at s p)) ≡ b → length (reads (node_at s p)) ≤ operand_limit
    pick_one true e = few (arguments_at s p) (call-reads s p h (calling-call s p (ports_of (kind_at s p)) refl e))
    pick_one false e = few (operands_at p (arity (kind_at s p))) (other-reads s p h (call-calling s p (ports_of (kind_at s p)) refl e) (arity (kind_at s p)) refl)

-- ---- the node as read

module _ (s : List ℕ) (p : ℕ) (n : Node) (e : n ≡ node_of (node_at s p)) where
  abbrev payload_by : Form → Payload
  payload_by f = payload_of (kind_at s p) (p + 4) (payload_at f (kind_at s p) s (p + 4))

  payload-is : n.payload ≡ payload_by (form_of (kind_at s p))
  unfolding node_at
  payload-is = ap (λ (m : Node). m.payload) e

  abbrev kind : Kind
  kind = kind_of (node_at s p).kind

  payload-kept : n.payload ≡ payload_of kind ((node_at s p).place + 4) (node_at s p).payload
  payload-kept = ap (λ (m : Node). m.payload) e

  -- a constant: its words are those of its value, since all of them are finite
  pub constant-is : Bytes s → ReadsNode s p → (v : Value) → n.payload ≡ Payloads.Payload.Constant v
      → ((node_at s p).payload ≡ consts (words_of v)) × Each Finite (words_of v)
  constant-is small r v q = pick_one (node_at s p).payload (standing-formed s small p r).payload (sym q ∙ payload-kept)
    where
      pick_one : (y : Graph.Payload) → FormedPayload kind y → Payloads.Payload.Constant v ≡ payload_of kind ((node_at s p).place + 4) y
          → (y ≡ consts (words_of v)) × Each Finite (words_of v)
      pick_one (consts ws) (f, l, t, h) z =
          let a : v ≡ value_of (ports_of kind).result ws = cc in
          let finite = each-finite ws t h in
          let e : ws ≡ words_of v = sym (ap words_of a ∙ words-of-value (ports_of kind).result ws finite (l ∙ constant-width (node_at s p).kind f)) in
          (ap consts e, subst (Each Finite) e finite)
      pick_one (refs rs) h z = let y : ◌≡◌ {A = ℕ} 0 1 = cc in absurd (omega arith)
      pick_one (calls c rs) h z = let y : ◌≡◌ {A = ℕ} 0 1 = cc in absurd (omega arith)

  -- the kind of a constant has no T: its words are its row's
  pub constant-untyped : Bytes s → ReadsNode s p → (v : Value) → n.payload ≡ Payloads.Payload.Constant v → has_type (ports_of (kind_of n.kind)) ≡ false
  constant-untyped small r v q =
      ap (λ (m : Node). has_type (ports_of (kind_of m.kind))) e ∙ pick_one (node_at s p).payload (standing-formed s small p r).payload (sym q ∙ payload-kept)
    where
      pick_one : (y : Graph.Payload) → FormedPayload kind y → Payloads.Payload.Constant v ≡ payload_of kind ((node_at s p).place + 4) y
          → has_type (ports_of kind) ≡ false
      pick_one (consts ws) (f, l, t, h) z =
          ap (λ (m : ℕ). eqb (ports_of kind).words 0 && leb 1 m) (constant-operands (node_at s p).kind f) ∙ and-false (eqb (ports_of kind).words 0)
      pick_one (refs rs) h z = let y : ◌≡◌ {A = ℕ} 0 1 = cc in absurd (omega arith)
      pick_one (calls c rs) h z = let y : ◌≡◌ {A = ℕ} 0 1 = cc in absurd (omega arith)

  -- references: how many there are
  pub references-are : (r : Reads) → n.payload ≡ Payloads.Payload.References r → (rs : List Ref) × ((node_at s p).payload ≡ refs rs) × (length rs ≡ r.count)
  references-are r q = pick_one (node_at s p).payload (sym q ∙ payload-kept)
    where
      pick_one : (y : Graph.Payload) → Payloads.Payload.References r ≡ payload_of kind ((node_at s p).place + 4) y → (rs : List Ref) × (y ≡ refs rs) × (length rs ≡ r.count)
      pick_one (consts ws) z = let y : ◌≡◌ {A = ℕ} 0 1 = cc in absurd (omega arith)
      pick_one (refs rs) z =
          let a : record { first = (node_at s p).place + 4; count = length rs } ≡ r = cc in
          (rs, refl, ap (λ (x : Reads). x.count) a)
      pick_one (calls c rs) z = let y : ◌≡◌ {A = ℕ} 0 1 = cc in absurd (omega arith)

  -- a call: its callee, and how many arguments it has
  pub call-is : (c : ℕ) (r : Reads) → n.payload ≡ Payloads.Payload.Call c r → (calling (form_of (kind_at s p)) ≡ true) × (c ≡ u16 s (p + 4)) × (r.count ≡ byte s (p + 4 + 2))
  call-is c r q = pick_one (form_of (kind_at s p)) (sym q ∙ payload-is)
    where
      pick_one : (f : Form) → Payloads.Payload.Call c r ≡ payload_by f → (calling f ≡ true) × (c ≡ u16 s (p + 4)) × (r.count ≡ byte s (p + 4 + 2))
      pick_one Absent z = let y : ◌≡◌ {A = ℕ} 0 1 = cc in absurd (omega arith)
      pick_one Constant z = let y : ◌≡◌ {A = ℕ} 0 1 = cc in absurd (omega arith)
      pick_one References z = let y : ◌≡◌ {A = ℕ} 0 1 = cc in absurd (omega arith)
      pick_one Call z =
          let a : c ≡ u16 s (p + 4) = cc in
          let b : r ≡ record { first = p + 4 + 3; count = length (references (byte s (p + 4 + 2)) s (p + 4 + 3)) } = cc in
          (refl, a, ap (λ (x : Reads). x.count) b ∙ refs-length (byte s (p + 4 + 2)) s (p + 4 + 3))
