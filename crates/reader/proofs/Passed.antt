-- Nodes and functions whose reading passed.
use Prim.Native.Nat.{ℕ, zero, suc, ◌+◌, ◌-◌, ◌*◌, ◌≤◌, ◌<◌}
use mathlib.Core.Path.{◌≡◌, refl, ap, sym, ◌∙◌, subst}
use mathlib.Core.Bool.{Bool, true, false, ◌&&◌, cond}
use mathlib.Core.Logic.{inl, inr, ⊎_elim}
use mathlib.Core.Option.{none, some}
use mathlib.Core.List.{List, ◌∷◌}
use native.Mathlib.Omega.{arith}
use native.Mathlib.Nat.{not-suc-le-zero}
use native.Mathlib.Numerals.{add-one}
use lib.Dec.{leb, eqb}
use lib.ListN.{length, get_or}
use borrow.Author.Tests.{leb-true, eq-eqb, ne_eqb}
use Rattle.base.specs.Limits.{port_limit, node_limit, kind_limit}
use Rattle.ports.specs.declared.Form.{Form}
use Rattle.ports.specs.declared.Form.TheVariants.{Absent, Constant, References, Call}
use Rattle.ports.specs.declared.Ports.{Ports}
use Rattle.ports.specs.Kinds.{Kind, kind_of}
use Rattle.ports.specs.Ports.{absent, ports_of, form_of, exists, type_fits, legal}
use Rattle.ports.proofs.Laws.{no_kind}
use Rattle.base.specs.Lists.{Is}
use Rattle.base.specs.Outcome.{ok, Part}
use Rattle.base.specs.Bytes.{byte, u16}
use Rattle.graph.specs.Graph.{Payload, Node, Output, Function}
use Rattle.graph.specs.Look.{find_node, find_function}
use Rattle.graph.specs.Read.{inputs, outputs, payload, nodes}
use Rattle.base.proofs.Bools.{and-inv}
use Rattle.base.proofs.Numbers.{lt-or-le}
use Rattle.base.proofs.Outcomes.{took, passed}
use Rattle.reader.specs.Layout.{kind_at, payload_end, node_at, node_end, nodes_at, node_place, input_count, node_count, nodes_place, function_at, function_place, function_of, earlier, known}
use Rattle.reader.specs.Find.{ReadsNode, ReadsNodes, ReadsFunction, found_at, node_found, function_found}
use Rattle.reader.specs.declared.Found.{Found}
use Rattle.std.specs.Prelude.{Some, None}
use Rattle.reader.proofs.Standing.{node-read}

-- ---- one node

payload-fits : (h : Form) (k : Kind) (s : List ℕ) (at : ℕ) (p : Part Payload) → payload h k s at ≡ ok p → payload_end h k s at ≤ length s
payload-fits Absent k s at p e = let z : ◌≡◌ {A = ℕ} 0 1 = cc in absurd (omega arith)
payload-fits Constant k s at p e = let (t, e1) = passed _ _ _ _ _ e in leb-true _ _ t
payload-fits References k s at p e = let (t, e1) = passed _ _ _ _ _ e in leb-true _ _ t
payload-fits Call k s at p e =
    let (t, e1) = passed _ _ _ _ _ e in
    let (f, e2) = passed _ _ _ _ _ e1 in
    let (u, e3) = passed _ _ _ _ _ e2 in
    leb-true _ _ u

-- the head of a call fits too
call_fits : (h : Form) (k : Kind) (s : List ℕ) (at : ℕ) (p : Part Payload) → payload h k s at ≡ ok p → h ≡ Call → (at + 3 ≤ length s) × (byte s (at + 2) ≤ 8)
call_fits Absent k s at p e q = let z : ◌≡◌ {A = ℕ} 0 1 = cc in absurd (omega arith)
call_fits Constant k s at p e q = let z : ◌≡◌ {A = ℕ} 0 1 = cc in absurd (omega arith)
call_fits References k s at p e q = let z : ◌≡◌ {A = ℕ} 0 1 = cc in absurd (omega arith)
call_fits Call k s at p e q =
    let (t, e1) = passed _ _ _ _ _ e in
    let (f, e2) = passed _ _ _ _ _ e1 in
    (leb-true _ _ t, leb-true _ _ f)

illegal : (k t : ℕ) → legal (kind_of k) t ≡ true → kind_limit ≤ k → ⊥
illegal k t l h =
    let e : ports_of (kind_of k) ≡ absent = no_kind k h in
    let (a, b) = and-inv (exists (form_of (kind_of k))) (type_fits (ports_of (kind_of k)) t) l in
    let q : false ≡ true = sym (ap (λ (r : Ports). exists r.form) e) ∙ a in
    let z : ◌≡◌ {A = ℕ} 0 1 = cc in
    omega arith

module _ (s : List ℕ) (at : ℕ) where
  -- the tests that a node's reading passes
  inside : ReadsNode s at → (leb (at + 4) (length s) ≡ true) × (leb 1 (u16 s at) && legal (kind_at s at) (byte s (at + 3)) ≡ true)
      × ((p : Part Payload) × (payload (form_of (kind_at s at)) (kind_at s at) s (at + 4) ≡ ok p))
  inside (x, e) =
      let (t, e1) = passed _ _ _ _ _ e in
      let (u, e2) = passed _ _ _ _ _ e1 in
      let (p, ep, e3) = took _ _ _ e2 in
      (t, u, (p, ep))

  pub head-fits : ReadsNode s at → at + 4 ≤ length s
  head-fits r = leb-true _ _ (inside r).0

  pub end_fits : ReadsNode s at → node_end s at ≤ length s
  unfolding node_end
  end_fits r = let (p, ep) = (inside r).2 in payload-fits (form_of (kind_at s at)) (kind_at s at) s (at + 4) p ep

  pub callee-fits : ReadsNode s at → form_of (kind_at s at) ≡ Call → (at + 4 + 3 ≤ length s) × (byte s (at + 4 + 2) ≤ 8)
  callee-fits r q = let (p, ep) = (inside r).2 in call_fits (form_of (kind_at s at)) (kind_at s at) s (at + 4) p ep q

  -- its kind is one of the port list, and its id is not 0
  pub node-legal : ReadsNode s at → (1 ≤ u16 s at) × (legal (kind_at s at) (byte s (at + 3)) ≡ true)
  node-legal r = let (i, l) = and-inv (leb 1 (u16 s at)) (legal (kind_at s at) (byte s (at + 3))) (inside r).1 in (leb-true _ _ i, l)

  pub kind-below : ReadsNode s at → byte s (at + 2) < kind_limit
  kind-below r = ⊎_elim (λ l. l) (λ h. absurd (illegal (byte s (at + 2)) (byte s (at + 3)) (node-legal r).1 h)) (lt-or-le (byte s (at + 2)) kind_limit)

-- where it ends, by the form of its kind
pub end-by-form : (s : List ℕ) (at : ℕ) (h : Form) → form_of (kind_at s at) ≡ h → payload_end h (kind_at s at) s (at + 4) ≡ node_end s at
unfolding node_end
end-by-form s at h q = ap (λ (f : Form). payload_end f (kind_at s at) s (at + 4)) (sym q)

pub form-is : (s : List ℕ) (at : ℕ) (row : Ports) → row ≡ ports_of (kind_at s at) → (h : Form) → row.form ≡ h → form_of (kind_at s at) ≡ h
form-is s at row e h q = ap (λ (r : Ports). r.form) (sym e) ∙ q

-- ---- several nodes

module _ (s : List ℕ) where
  pub first_reads : (n at : ℕ) → 0 < n → ReadsNodes n s at → ReadsNode s at
  first_reads zero at h r = absurd (not-suc-le-zero h)
  first_reads (suc n) at h (p, e) = let (x, ex, e1) = took _ _ _ e in (x, ex)

  pub rest-reads : (n at : ℕ) → 0 < n → ReadsNodes n s at → ReadsNodes (n - 1) s (node_end s at)
  rest-reads zero at h r = absurd (not-suc-le-zero h)
  rest-reads (suc n) at h (p, e) =
      let (x, ex, e1) = took _ _ _ e in
      let (r, er, e2) = took _ _ _ e1 in
      let m : suc n - 1 ≡ n = omega arith in
      let w : x.next ≡ node_end s at = ap (λ (y : Part Node). y.next) (node-read s at x ex) in
      (r, ap (λ (k : ℕ). nodes k s (node_end s at)) m ∙ (ap (nodes n s) (sym w) ∙ er))

  pub place-next : (j at : ℕ) → node_place s at (j + 1) ≡ node_end s (node_place s at j)
  unfolding node_place
  place-next zero at = refl
  place-next (suc j) at = rw (add-one (suc j)) (rw add-one at (place-next j (node_end s at)))

  pub place-reads : (n j at : ℕ) → j < n → ReadsNodes n s at → ReadsNode s (node_place s at j)
  unfolding node_place
  place-reads n zero at h r = first_reads n at h r
  place-reads n (suc j) at h r = place-reads (n - 1) j (node_end s at) (omega arith) (rest-reads n at (omega arith) r)

  -- no node has the id 0
  pub nodes-named : (n at : ℕ) → ReadsNodes n s at → (x : Node) → Is x (nodes_at n s at) → 1 ≤ x.id
  unfolding nodes_at node_at
  nodes-named zero at r x h = absurd h
  nodes-named (suc n) at r x (inl e) = subst (λ (y : Node). 1 ≤ y.id) (sym e) (node-legal s at (first_reads (suc n) at (omega arith) r)).0
  nodes-named (suc n) at r x (inr h) =
      let z : suc n - 1 ≡ n = omega arith in
      nodes-named n (node_end s at) (subst (λ (k : ℕ). ReadsNodes k s (node_end s at)) z (rest-reads (suc n) at (omega arith) r)) x h

-- ---- a function

inputs-fit : (n : ℕ) (s : List ℕ) (at : ℕ) (ts : List ℕ) → inputs n s at ≡ ok ts → at ≤ length s → at + n ≤ length s
inputs-fit zero s at ts e h = omega arith
inputs-fit (suc n) s at ts e h =
    let (a, e1) = passed _ _ _ _ _ e in
    let (b, e2) = passed _ _ _ _ _ e1 in
    let (r, er, e3) = took _ _ _ e2 in
    let l : at + 1 ≤ length s = leb-true _ _ a in
    let m = inputs-fit n s (at + 1) r er l in
    omega arith

outputs-fit : (n : ℕ) (s : List ℕ) (at : ℕ) (os : List Output) → outputs n s at ≡ ok os → at ≤ length s → at + 4 * n ≤ length s
outputs-fit zero s at os e h = omega arith
outputs-fit (suc n) s at os e h =
    let (a, e1) = passed _ _ _ _ _ e in
    let (b, e2) = passed _ _ _ _ _ e1 in
    let (r, er, e3) = took _ _ _ e2 in
    let l : at + 4 ≤ length s = leb-true _ _ a in
    let m = outputs-fit n s (at + 4) r er l in
    omega arith

-- what is known of a function that was read
pub record Holds (s : List ℕ) (at : ℕ) : Type 0 where
  pub head : at + 6 ≤ length s
  pub inputs : at + 6 + input_count s at ≤ length s
  pub outputs : nodes_place s at ≤ length s
  pub few : node_count s at ≤ node_limit
  pub nodes : ReadsNodes (node_count s at) s (nodes_place s at)

pub function-holds : (s : List ℕ) (at : ℕ) → ReadsFunction s at → Holds s at
function-holds s at (x, e) =
    let (t, e1) = passed _ _ _ _ _ e in
    let (u, e2) = passed _ _ _ _ _ e1 in
    let (ins, ei, e3) = took _ _ _ e2 in
    let (outs, eo, e4) = took _ _ _ e3 in
    let (ns, en, e5) = took _ _ _ e4 in
    let nin = byte s (at + 2) in
    let nout = byte s (at + 3) in
    let (u1, u2) = and-inv (leb 1 (u16 s at) && leb nin port_limit && (leb 1 nout && leb nout port_limit)) (leb (u16 s (at + 4)) node_limit) u in
    let h : at + 6 ≤ length s = leb-true _ _ t in
    let i : at + 6 + nin ≤ length s = inputs-fit nin s (at + 6) ins ei h in
    record { head = h; inputs = i; outputs = outputs-fit nout s (at + 6 + nin) outs eo i; few = leb-true _ _ u2; nodes = (ns, en) }

module _ (s : List ℕ) (at : ℕ) where
  pub function-fits : ReadsFunction s at → at + 6 ≤ length s
  function-fits r = (function-holds s at r).head

-- ---- looking up

some-is : {A : Type 0} {a b : A} → Some a ≡ Some b → a ≡ b
some-is e = cc

-- two answers that are one tell the same index and place
pub found-is : {i j p q : ℕ} → found_at i p ≡ found_at j q → (i ≡ j) × (p ≡ q)
found-is {i} {j} {p} {q} e =
    let r : ◌≡◌ {A = Found} (record { index = i; place = p }) (record { index = j; place = q }) = some-is e in
    (ap (λ (f : Found). f.index) r, ap (λ (f : Found). f.place) r)

module _ (s : List ℕ) (id at i : ℕ) {left rest : List Node} (l : left ≡ node_at s at ∷ rest) where
  pub node-hit : u16 s at ≡ id → node_found i id left ≡ found_at i at
  unfolding node_at
  node-hit e = ap (node_found i id) l ∙ rw (eq-eqb (u16 s at) id e)

  pub node-miss : (u16 s at ≡ id → ⊥) → node_found i id left ≡ node_found (i + 1) id rest
  unfolding node_at
  node-miss e = ap (node_found i id) l ∙ rw (ne_eqb (u16 s at) id e)

pub length-earlier : (begin : ℕ) (s : List ℕ) (k : ℕ) → length (earlier begin s k) ≡ k
unfolding earlier
length-earlier begin s zero = refl
length-earlier begin s (suc k) = ap suc (length-earlier begin s k)

-- the functions of a table are those at its functions' places
pub known-earlier : (begin : ℕ) (s starts : List ℕ) (k : ℕ) → ((j : ℕ) → j < k → get_or starts j 0 ≡ function_place begin s j) → known s starts k ≡ earlier begin s k
unfolding known earlier
known-earlier begin s starts zero h = refl
known-earlier begin s starts (suc k) h =
    ap (λ (p : ℕ). function_at s p ∷ known s starts k) (h k (omega arith))
    ∙ ap (λ (fs : List Function). function_of begin s k ∷ fs) (known-earlier begin s starts k (λ j l. h j (omega arith)))

module _ (s starts : List ℕ) where
  length-known : (k : ℕ) → length (known s starts k) ≡ k
  unfolding known
  length-known zero = refl
  length-known (suc k) = ap suc (length-known k)

  module _ (id : ℕ) where
    pub function-hit : (k : ℕ) → 0 < k → u16 s (get_or starts (k - 1) 0) ≡ id → function_found id (known s starts k) ≡ found_at (k - 1) (get_or starts (k - 1) 0)
    unfolding function_at known
    function-hit zero h e = absurd (not-suc-le-zero h)
    function-hit (suc k) h e =
        let m : suc k - 1 ≡ k = omega arith in
        rw (eq-eqb (u16 s (get_or starts k 0)) id (rw m at e), length-known k, m)

    pub function-miss : (k : ℕ) → 0 < k → (u16 s (get_or starts (k - 1) 0) ≡ id → ⊥) → function_found id (known s starts k) ≡ function_found id (known s starts (k - 1))
    unfolding function_at known
    function-miss zero h e = absurd (not-suc-le-zero h)
    function-miss (suc k) h e =
        let m : suc k - 1 ≡ k = omega arith in
        rw (ne_eqb (u16 s (get_or starts k 0)) id (rw m at e), m)

    -- what a function that is found is
    pub found-function :
        (k j p : ℕ) → function_found id (known s starts k) ≡ found_at j p → (j < k) × (p ≡ get_or starts j 0) × (find_function id (known s starts k) ≡ some (function_at s p))
    unfolding function_at known
    found-function zero j p e = let z : ◌≡◌ {A = ℕ} 0 1 = cc in absurd (omega arith)
    found-function (suc k) j p e = pick_one (eqb (u16 s (get_or starts k 0)) id) (λ w. found-function k j p w) e
      where
        pick_one :
            (b : Bool)
            → (function_found id (known s starts k) ≡ found_at j p → (j < k) × (p ≡ get_or starts j 0) × (find_function id (known s starts k) ≡ some (function_at s p)))
            → cond b (found_at (length (known s starts k)) (get_or starts k 0)) (function_found id (known s starts k)) ≡ found_at j p
            → (j < suc k) × (p ≡ get_or starts j 0) × (cond b (some (function_at s (get_or starts k 0))) (find_function id (known s starts k)) ≡ some (function_at s p))
        pick_one true ih w =
            let (a, q) = found-is w in
            let m : j ≡ k = sym a ∙ length-known k in
            (omega arith, sym q ∙ ap (λ (i : ℕ). get_or starts i 0) (sym m), ap (λ (x : ℕ). some (function_at s x)) q)
        pick_one false ih w = let (a, q, f) = ih w in (omega arith, q, f)

    pub no-function : (k : ℕ) → function_found id (known s starts k) ≡ None → find_function id (known s starts k) ≡ none
    unfolding function_at known
    no-function zero e = refl
    no-function (suc k) e = pick_one (eqb (u16 s (get_or starts k 0)) id) (λ w. no-function k w) e
      where
        pick_one :
            (b : Bool) → (function_found id (known s starts k) ≡ None → find_function id (known s starts k) ≡ none)
            → cond b (found_at (length (known s starts k)) (get_or starts k 0)) (function_found id (known s starts k)) ≡ None
            → cond b (some (function_at s (get_or starts k 0))) (find_function id (known s starts k)) ≡ none
        pick_one true ih w = let z : ◌≡◌ {A = ℕ} 0 1 = cc in absurd (omega arith)
        pick_one false ih w = ih w

-- what a node that is found is
pub record FoundNode (s : List ℕ) (id n first i j p : ℕ) : Type 0 where
  pub reads : ReadsNode s p
  pub find : find_node id (nodes_at n s first) ≡ some (node_at s p)
  pub low : i ≤ j
  pub below : j < i + n

pub found-node : (s : List ℕ) (id n first i j p : ℕ) → ReadsNodes n s first → node_found i id (nodes_at n s first) ≡ found_at j p → FoundNode s id n first i j p
unfolding node_at nodes_at
found-node s id zero first i j p r e = let z : ◌≡◌ {A = ℕ} 0 1 = cc in absurd (omega arith)
found-node s id (suc n) first i j p r e =
    let m : suc n - 1 ≡ n = omega arith in
    let q = subst (λ (k : ℕ). ReadsNodes k s (node_end s first)) m (rest-reads s (suc n) first (omega arith) r) in
    let (a, b, c, d) = pick_one (eqb (u16 s first) id) (λ w. found-node s id n (node_end s first) (i + 1) j p q w) e in
    record { reads = a; find = b; low = c; below = d }
  where
    pick_one :
        (b : Bool) → (node_found (i + 1) id (nodes_at n s (node_end s first)) ≡ found_at j p → FoundNode s id n (node_end s first) (i + 1) j p)
        → cond b (found_at i first) (node_found (i + 1) id (nodes_at n s (node_end s first))) ≡ found_at j p
        → ReadsNode s p × (cond b (some (node_at s first)) (find_node id (nodes_at n s (node_end s first))) ≡ some (node_at s p)) × (i ≤ j) × (j < i + suc n)
    pick_one true ih w =
        let (a, q) = found-is w in
        (subst (ReadsNode s) q (first_reads s (suc n) first (omega arith) r), ap (λ (x : ℕ). some (node_at s x)) q, omega arith, omega arith)
    pick_one false ih w =
        let g = ih w in
        let a = g.low in
        let b = g.below in
        (g.reads, g.find, omega arith, omega arith)

pub no_node : (s : List ℕ) (id n first i : ℕ) → node_found i id (nodes_at n s first) ≡ None → find_node id (nodes_at n s first) ≡ none
unfolding node_at nodes_at
no_node s id zero first i e = refl
no_node s id (suc n) first i e = pick_one (eqb (u16 s first) id) (λ w. no_node s id n (node_end s first) (i + 1) w) e
  where
    pick_one :
        (b : Bool) → (node_found (i + 1) id (nodes_at n s (node_end s first)) ≡ None → find_node id (nodes_at n s (node_end s first)) ≡ none)
        → cond b (found_at i first) (node_found (i + 1) id (nodes_at n s (node_end s first))) ≡ None
        → cond b (some (node_at s first)) (find_node id (nodes_at n s (node_end s first))) ≡ none
    pick_one true ih w = let z : ◌≡◌ {A = ℕ} 0 1 = cc in absurd (omega arith)
    pick_one false ih w = ih w
