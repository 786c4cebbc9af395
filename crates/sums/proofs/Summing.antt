-- The sums over the nodes of a function, capped as they are taken.
use Prim.Native.Nat.{ℕ, suc, ◌+◌, ◌-◌, ◌*◌, ◌≤◌, ◌<◌, min}
use mathlib.Core.Path.{◌≡◌, refl, sym, ap, ◌∙◌, subst}
use mathlib.Core.Bool.{true, false}
use mathlib.Core.List.{List}
use native.Mathlib.Omega.{arith}
use Rattle.ports.specs.declared.Form.{Form}
use Rattle.ports.specs.declared.Form.TheVariants.{Absent, Constant, References, Call}
use Rattle.ports.specs.declared.Ports.{Ports}
use Rattle.ports.specs.Kinds.{kind_of}
use Rattle.ports.specs.Ports.{widths, gives, ports_of, arity, form_of, constant_words, calling}
use Rattle.ports.specs.Ports as PortList
use Rattle.ports.proofs.Laws.{words-given}
use Rattle.base.specs.Bytes.{byte, u16}
use Rattle.base.specs.Limits.{function_limit}
use Rattle.graph.specs.Graph.{Payload}
use Rattle.graph.specs.Sums.{node_operations, operations_of, node_words, result_words_of}
use Rattle.reader.specs.Layout.{kind_at, payload_at, node_at, node_end, nodes_at, nodes_place, node_count, function_at}
use Rattle.reader.specs.Find.{ReadsNode, ReadsNodes}
use Rattle.reader.proofs.Passed.{first_reads, rest-reads}
use Rattle.sums.specs.declared.Sums.{Sums}
use Rattle.sums.specs.CodeSums.{node_instructions, node_bytes, instructions_of, bytes_of_function}
use Rattle.sums.specs.Position.{place_of, before, position_of}
use Rattle.sums.specs.Capped.{operation_cap, word_cap, byte_cap, operations_at, result_words_at, instructions_at, bytes_at, own_sums, adds_words, adds_sums, no_sums, both, cap_sums, Small, nodes_sums, call_sums, plain_sums, Caps, sums_at, SumsHeld}
use Rattle.sums.proofs.Nodes.{row_is, call-payload, plain_form}
use Rattle.sums.proofs.Positions.{sums_of, sums-at, sums_none}

equal : (x y : Sums) → x.operations ≡ y.operations → x.words ≡ y.words → x.instructions ≡ y.instructions → x.bytes ≡ y.bytes → x ≡ y
equal x y o w m b =
    ap (λ (n : ℕ). record { operations = n; words = x.words; instructions = x.instructions; bytes = x.bytes }) o
    ∙ ap (λ (n : ℕ). record { operations = y.operations; words = n; instructions = x.instructions; bytes = x.bytes }) w
    ∙ ap (λ (n : ℕ). record { operations = y.operations; words = y.words; instructions = n; bytes = x.bytes }) m
    ∙ ap (λ (n : ℕ). record { operations = y.operations; words = y.words; instructions = y.instructions; bytes = n }) b

-- ---- what a node adds

module _ (s : List ℕ) (k p kind : ℕ) (row : Ports) (ek : kind ≡ byte s (p + 2)) (er : row ≡ ports_of (kind_of kind)) where
  -- by its payload
  abbrev payload_sums : Payload → Sums
  payload_sums q =
      record {
        operations = node_operations (operations_of (before s k)) q;
        words = node_words (result_words_of (before s k)) (node_at s p) q;
        instructions = node_instructions (instructions_of (before s k)) q;
        bytes = node_bytes (bytes_of_function (before s k)) (node_at s p) q;
      }

  module _ (c : calling row.form ≡ true) (callee g : ℕ) (ec : callee ≡ u16 s (p + 4)) (eg : g ≡ position_of s k callee) where
    -- a call adds what its callee has
    pub added : adds_sums s k (node_at s p) ≡ call_sums (sums_of (before s k) callee)
    added = ap payload_sums (call-payload s p kind row ek er c) ∙ ap (λ (d : ℕ). call_sums (sums_of (before s k) d)) (sym ec)

    pub added-words : adds_words s k (node_at s p) ≡ result_words_of (before s k) callee
    added-words = ap (λ (x : Sums). x.words) added

    -- capping the callee's sums changes nothing
    cap-call : (x : Sums) → cap_sums (call_sums (cap_sums x)) ≡ cap_sums (call_sums x)
    cap-call x = equal _ _ (omega arith) (omega arith) (omega arith) (omega arith)

    pub called-sums : k ≤ function_limit → (xs : List Sums) → SumsHeld s xs k → g < k → (y : Sums) → y ≡ sums_at xs g → Caps s k (node_at s p) (call_sums y)
    called-sums le xs all lt y ey =
        let e : y ≡ cap_sums (own_sums s g) = ey ∙ all g lt in
        let a : adds_sums s k (node_at s p) ≡ call_sums (own_sums s g) = added ∙ ap call_sums (sums-at s k callee g eg le lt) in
        record {
          same = ap (λ (x : Sums). cap_sums (call_sums x)) e ∙ cap-call (own_sums s g) ∙ sym (ap cap_sums a);
          small = subst (λ (x : Sums). Small (call_sums x)) (sym e) (omega arith, omega arith, omega arith, omega arith);
        }

    pub no-callee-sums : k ≤ g → Caps s k (node_at s p) (call_sums no_sums)
    no-callee-sums le =
        record {
          same = sym (ap cap_sums (added ∙ ap call_sums (sums_none s k callee g eg le)));
          small = (omega arith, omega arith, omega arith, omega arith);
        }

  -- any other node adds what its row says
  module _ (c : calling row.form ≡ false) where
    by_form : (f : Form) → form_of (kind_at s p) ≡ f → calling f ≡ false
        → adds_sums s k (node_at s p)
        ≡ record { operations = 1; words = widths (gives (kind_at s p) (byte s (p + 3))); instructions = 1; bytes = 2 + 2 * arity (kind_at s p) + 8 * constant_words (kind_at s p) }
    unfolding node_at
    by_form Absent e q = ap (λ (f : Form). payload_sums (payload_at f (kind_at s p) s (p + 4))) e
    by_form Constant e q = ap (λ (f : Form). payload_sums (payload_at f (kind_at s p) s (p + 4))) e
    by_form References e q = ap (λ (f : Form). payload_sums (payload_at f (kind_at s p) s (p + 4))) e
    by_form Call e q = let z : ◌≡◌ {A = ℕ} 0 1 = cc in absurd (omega arith)

    pub plain : adds_sums s k (node_at s p) ≡ plain_sums row (byte s (p + 3))
    plain =
        by_form (form_of (kind_at s p)) refl (plain_form s p kind row ek er c)
        ∙ ap (λ (w : ℕ). record { operations = 1; words = w; instructions = 1; bytes = 2 + 2 * arity (kind_at s p) + 8 * constant_words (kind_at s p) })
        (sym (words-given (kind_at s p) (byte s (p + 3))))
        ∙ ap (λ (r : Ports). plain_sums r (byte s (p + 3))) (sym (row_is s p kind row ek er))

    pub plain-words : (ty w : ℕ) → ty ≡ byte s (p + 3) → w ≡ PortList.result_words row ty → adds_words s k (node_at s p) ≡ w
    plain-words ty w et ew = ap (λ (x : Sums). x.words) plain ∙ ap (PortList.result_words row) (sym et) ∙ sym ew

    pub plain-sums : (y : Sums) → y ≡ plain_sums row (byte s (p + 3)) → Small y → Caps s k (node_at s p) y
    plain-sums y ey small = record { same = ap cap_sums (ey ∙ sym plain); small = small }

-- ---- the loop over a function's nodes

-- capping early changes nothing
cap-add : (cap a r x rest : ℕ) → min cap r ≡ min cap x → min cap (a + (x + rest)) ≡ min cap (min cap (a + r) + rest)
cap-add cap a r x rest e = omega arith

cap-both : (a r x rest : Sums) → cap_sums r ≡ cap_sums x → cap_sums (both a (both x rest)) ≡ cap_sums (both (cap_sums (both a r)) rest)
cap-both a r x rest e =
    equal _ _ (cap-add operation_cap a.operations r.operations x.operations rest.operations (ap (λ (y : Sums). y.operations) e))
    (cap-add word_cap a.words r.words x.words rest.words (ap (λ (y : Sums). y.words) e))
    (cap-add operation_cap a.instructions r.instructions x.instructions rest.instructions (ap (λ (y : Sums). y.instructions) e))
    (cap-add byte_cap a.bytes r.bytes x.bytes rest.bytes (ap (λ (y : Sums). y.bytes) e))

module _ (s : List ℕ) (n first k : ℕ) where
  -- x is summed, and the nodes from p on are left
  pub record Summing (x : Sums) (i p : ℕ) : Type 0 where
    pub reads : ReadsNodes (n - i) s p
    pub capped : cap_sums x ≡ x
    pub rest : cap_sums (nodes_sums s k (nodes_at n s first)) ≡ cap_sums (both x (nodes_sums s k (nodes_at (n - i) s p)))

  pub sum-start : ReadsNodes n s first → Summing no_sums 0 first
  sum-start h = let z : n - 0 ≡ n = omega arith in record { reads = rw z h; capped = refl; rest = rw z (equal _ _ (omega arith) (omega arith) (omega arith) (omega arith)) }

  pub sum-here : (x : Sums) (i p : ℕ) → Summing x i p → i < n → ReadsNode s p
  sum-here x i p h l = first_reads s (n - i) p (omega arith) h.reads

  pub sum-small : (x : Sums) (i p : ℕ) → Summing x i p → Small x
  sum-small x i p h = subst Small h.capped (omega arith, omega arith, omega arith, omega arith)

  pub sum_step : (x : Sums) (i p : ℕ) → Summing x i p → i < n → (r : Sums) → Caps s k (node_at s p) r → (y : Sums) (q : ℕ) → y ≡ cap_sums (both x r) → q ≡ node_end s p → Summing y (i + 1) q
  unfolding nodes_at
  sum_step x i p h l r c y q ey eq =
      let z : n - i ≡ suc (n - (i + 1)) = omega arith in
      let w : n - i - 1 ≡ n - (i + 1) = omega arith in
      rw (ey, eq)
      (record {
        reads = subst (λ (m : ℕ). ReadsNodes m s (node_end s p)) w (rest-reads s (n - i) p (omega arith) h.reads);
        capped = equal _ _ (omega arith) (omega arith) (omega arith) (omega arith);
        rest = h.rest ∙ rw z (cap-both x r (adds_sums s k (node_at s p)) (nodes_sums s k (nodes_at (n - (i + 1)) s (node_end s p))) c.same);
      })

  pub sum_done : (x : Sums) (i p : ℕ) → Summing x i p → n ≤ i → x ≡ cap_sums (nodes_sums s k (nodes_at n s first))
  unfolding nodes_at
  sum_done x i p h l =
      let z : n - i ≡ 0 = omega arith in
      let e = h.rest in
      let a : cap_sums (nodes_sums s k (nodes_at n s first)) ≡ cap_sums (both x no_sums) = rw z at e in
      sym (a ∙ equal _ (cap_sums x) (omega arith) (omega arith) (omega arith) (omega arith) ∙ h.capped)

-- the sums of the function at position k are those over its nodes
pub sums-are : (s : List ℕ) (k : ℕ) → own_sums s k ≡ nodes_sums s k (nodes_at (node_count s (place_of s k)) s (nodes_place s (place_of s k)))
unfolding operations_at result_words_at instructions_at bytes_at function_at
sums-are s k = refl
