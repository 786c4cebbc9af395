-- The reading of a payload and of a node, step by step.
use Prim.Native.Nat.{ℕ, ◌+◌, ◌*◌, ◌≤◌, ◌<◌}
use mathlib.Core.Path.{◌≡◌, refl, ap, sym, ◌∙◌}
use mathlib.Core.Bool.{Bool, true, false, ◌&&◌}
use mathlib.Core.List.{List}
use native.Mathlib.Omega.{arith}
use lib.Dec.{leb}
use lib.ListN.{length}
use borrow.Author.Tests.{le-leb, lt-leb}
use Rattle.ports.specs.declared.Form.{Form}
use Rattle.ports.specs.declared.Form as Forms
use Rattle.ports.specs.Kinds.{Kind}
use Rattle.ports.specs.declared.Ports.{Ports}
use Rattle.ports.specs.Ports.{ports_of, arity, constant_words, form_of, exists, type_fits, legal}
use Rattle.value.specs.Values.{value_of, constant_word}
use Rattle.base.specs.Lists.{every}
use Rattle.base.specs.Outcome.{Outcome, ok, fault, ◌>>=◌, Part}
use Rattle.graph.specs.Graph as Graph
use Rattle.graph.specs.Graph.{consts}
use Rattle.base.specs.Bytes.{byte, u16, constants}
use Rattle.graph.specs.Read.{payload, node}
use Rattle.base.proofs.Outcomes.{takes, stops, passes, fails}
use Rattle.graph.proofs.Formed.{refs-length}
use Rattle.reader.specs.Layout.{kind_at}
use Rattle.reader.proofs.Extents.{ok-read, cut}
use Rattle.reader.specs.Records.{payload_of, payload_read, node_read}
use Rattle.reader.specs.declared.Payload.{Payload}
use Rattle.reader.specs.declared.Payload.TheVariants.{Constant, Call, References}

-- ---- constants

module _ (s : List ℕ) (at : ℕ) (k : Kind) where
  module _ (n : ℕ) (e : n ≡ constant_words k) where
    pub constant-short : length s < at + 8 * n → fault 5 at ≡ payload_read k at (payload Forms.Form.Constant k s at)
    constant-short h = cut s at (8 * constant_words k) _ _ (rw e at h)

    pub constant-infinite :
        at + 8 * n ≤ length s → every constant_word (constants n s at) ≡ false → payload_read k at (payload Forms.Form.Constant k s at) ≡ fault 7 at
    constant-infinite h f =
        ap (payload_read k at) (passes _ 5 at _ (le-leb (at + 8 * constant_words k) (length s) (rw e at h)) ∙ fails (every constant_word (constants (constant_words k) s at)) 7 at _ (rw e at f))

    constant-good :
        at + 8 * n ≤ length s → every constant_word (constants n s at) ≡ true
        → payload Forms.Form.Constant k s at ≡ ok (record { it = consts (constants (constant_words k) s at); next = at + 8 * constant_words k })
    constant-good h f =
        passes _ 5 at _ (le-leb (at + 8 * constant_words k) (length s) (rw e at h)) ∙ passes (every constant_word (constants (constant_words k) s at)) 7 at _ (rw e at f)

    pub constant-read :
        at + 8 * n ≤ length s → every constant_word (constants n s at) ≡ true
        → payload_read k at (payload Forms.Form.Constant k s at) ≡ ok (Constant (value_of (ports_of k).result (constants n s at)), at + 8 * n)
    constant-read h f =
        ap (payload_read k at) (constant-good h f)
        ∙ ap (λ (m : ℕ). ok (Constant (value_of (ports_of k).result (constants m s at)), at + 8 * m)) (sym e)

  -- ---- references

  module _ (n : ℕ) (e : n ≡ arity k) where
    pub refs-short : length s < at + 3 * n → fault 5 at ≡ payload_read k at (payload Forms.Form.References k s at)
    refs-short h = cut s at (3 * arity k) _ _ (rw e at h)

    pub refs-good : at + 3 * n ≤ length s → payload_read k at (payload Forms.Form.References k s at) ≡ ok (References (record { first = at; count = n }), at + 3 * n)
    refs-good h =
        ap (payload_read k at) (passes _ 5 at _ (le-leb (at + 3 * arity k) (length s) (rw e at h)))
        ∙ ap (λ (m : ℕ). ok (References (record { first = at; count = m }), at + 3 * arity k)) (refs-length (arity k) s at)
        ∙ ap (λ (m : ℕ). ok (References (record { first = at; count = m }), at + 3 * m)) (sym e)

  -- ---- calls

  pub call-short : length s < at + 3 → fault 5 at ≡ payload_read k at (payload Forms.Form.Call k s at)
  call-short h = cut s at 3 _ _ h

  pub call-many : at + 3 ≤ length s → 8 < byte s (at + 2) → payload_read k at (payload Forms.Form.Call k s at) ≡ fault 6 at
  call-many h m = ap (payload_read k at) (passes _ 5 at _ (le-leb _ _ h) ∙ fails _ 6 at _ (lt-leb _ _ m))

  pub call-cut :
      at + 3 ≤ length s → byte s (at + 2) ≤ 8 → length s < at + 3 + 3 * byte s (at + 2) → fault 5 (at + 3) ≡ payload_read k at (payload Forms.Form.Call k s at)
  call-cut h q l =
      cut s (at + 3) (3 * byte s (at + 2)) _ _ l ∙ ap (payload_read k at) (sym (passes _ 5 at _ (le-leb _ _ h) ∙ passes _ 6 at _ (le-leb _ _ q)))

  pub call-good :
      at + 3 ≤ length s → byte s (at + 2) ≤ 8 → at + 3 + 3 * byte s (at + 2) ≤ length s
      → payload_read k at (payload Forms.Form.Call k s at) ≡ ok (Call (u16 s at) (record { first = at + 3; count = byte s (at + 2) }), at + 3 + 3 * byte s (at + 2))
  call-good h m l =
      ap (payload_read k at) (passes _ 5 at _ (le-leb _ _ h) ∙ (passes _ 6 at _ (le-leb _ _ m) ∙ passes _ 5 (at + 3) _ (le-leb _ _ l)))
      ∙ ap (λ (n : ℕ). ok (Call (u16 s at) (record { first = at + 3; count = n }), at + 3 + 3 * byte s (at + 2))) (refs-length (byte s (at + 2)) s (at + 3))

-- ---- nodes

-- whether the kind and the type byte are legal, by the kind's row
pub legal-by : (row : Ports) (k : Kind) (t : ℕ) {a b : Bool} → row ≡ ports_of k → exists row.form ≡ a → type_fits row t ≡ b → legal k t ≡ a && b
legal-by row k t e x y = ap (λ (r : Ports). exists r.form && type_fits r t) (sym e) ∙ rw (x, y)

-- a head that passes
pub record NodeHead (s : List ℕ) (at : ℕ) : Type 0 where
  pub fits : at + 4 ≤ length s
  pub named : 1 ≤ u16 s at
  pub typed : legal (kind_at s at) (byte s (at + 3)) ≡ true

module _ (s : List ℕ) (at : ℕ) where
  pub node-short : length s < at + 4 → fault 5 at ≡ node_read (node s at)
  node-short h = cut s at 4 _ _ h

  pub node-zero : at + 4 ≤ length s → u16 s at < 1 → node_read (node s at) ≡ fault 6 at
  node-zero h z = ap node_read (passes _ 5 at _ (le-leb _ _ h) ∙ fails _ 6 at _ (rw (lt-leb 1 (u16 s at) z)))

  pub node-illegal : at + 4 ≤ length s → 1 ≤ u16 s at → legal (kind_at s at) (byte s (at + 3)) ≡ false → node_read (node s at) ≡ fault 6 at
  node-illegal h i e = ap node_read (passes _ 5 at _ (le-leb _ _ h) ∙ fails _ 6 at _ (rw (le-leb 1 (u16 s at) i) e))

-- what was read of a payload, or its fault
module _ (k : Kind) (at : ℕ) where
  payload-is : (g : Outcome (Part Graph.Payload)) (q : Payload) (e : ℕ) → ok (q, e) ≡ payload_read k at g
      → (p : Part Graph.Payload) × (g ≡ ok p) × (q ≡ payload_of k at p.it) × (e ≡ p.next)
  payload-is (ok p) q e r = let (a, b) = ok-read r in (p, refl, a, b)
  payload-is (fault n p) q e r = let z : ◌≡◌ {A = ℕ} 0 1 = cc in absurd (omega arith)

  payload-refused : (g : Outcome (Part Graph.Payload)) (n p : ℕ) → fault n p ≡ payload_read k at g → g ≡ fault n p
  payload-refused (ok q) n p r = let z : ◌≡◌ {A = ℕ} 0 1 = cc in absurd (omega arith)
  payload-refused (fault m q) n p r = cc

module _ {s : List ℕ} {at : ℕ} (h : NodeHead s at) where
  abbrev payload-here : Outcome (Part Graph.Payload)
  payload-here = payload (form_of (kind_at s at)) (kind_at s at) s (at + 4)

  goes : node s at ≡ (payload-here >>= λ p. ok (record {
    it = record { id = u16 s at; place = at; kind = byte s (at + 2); type = byte s (at + 3); payload = p.it };
    next = p.next;
  }))
  goes =
      passes _ 5 at _ (le-leb _ _ h.fits) ∙ passes (leb 1 (u16 s at) && legal (kind_at s at) (byte s (at + 3))) 6 at _ (rw (le-leb 1 (u16 s at) h.named) h.typed)

  pub node-read-is :
      (q : Payload) (e : ℕ) → ok (q, e) ≡ payload_read (kind_at s at) (at + 4) payload-here
      → node_read (node s at) ≡ ok (record { id = u16 s at; place = at; kind = byte s (at + 2); ty = byte s (at + 3); payload = q }, e)
  node-read-is q e r = let (p, ep, a, b) = payload-is (kind_at s at) (at + 4) payload-here q e r in ap node_read (goes ∙ takes _ _ p ep) ∙ (cc)

  pub node-read-fault : (n p : ℕ) → fault n p ≡ payload_read (kind_at s at) (at + 4) payload-here → node_read (node s at) ≡ fault n p
  node-read-fault n p r = ap node_read (goes ∙ stops _ _ n p (payload-refused (kind_at s at) (at + 4) payload-here n p r))
