-- The functions of a table are allocated one after another. A later function leaves what earlier ones stored, since each has
-- its own stretch of every array. All references fit: one takes three bytes of the table, and a node has at most sixteen and
-- four bytes besides.
use Prim.Native.Nat.{ℕ, zero, suc, ◌+◌, ◌-◌, ◌*◌, ◌≤◌, ◌<◌}
use mathlib.Core.Path.{◌≡◌, sym, ap, ◌∙◌, subst}
use mathlib.Core.List.{List, [], ◌∷◌}
use mathlib.Core.Logic.{⊎_elim}
use native.Mathlib.Omega.{arith}
use lib.ListN.{length, get_or, set}
use lib.Seq.{get_or-set_same, get_or-set_other}
use Rattle.compiler.specs.declared.Layout.{Layout}
use Rattle.base.specs.Limits.{node_limit, table_limit, reference_limit, function_limit}
use Rattle.base.proofs.Numbers.{lt-or-eq}
use Rattle.ports.specs.declared.Form.{Form}
use Rattle.ports.specs.declared.Form.TheVariants.{Absent, Constant, References, Call}
use Rattle.ports.specs.Kinds.{Kind}
use Rattle.ports.specs.Ports.{arity, form_of}
use Rattle.base.specs.Bytes.{byte}
use Rattle.graph.specs.Graph.{Ref, Node}
use Rattle.graph.specs.Look.{reads, reads_of}
use Rattle.graph.specs.Schedule.{schedule}
use Rattle.graph.specs.Sums.{sum}
use Rattle.graph.proofs.Formed.{refs-length}
use Rattle.graph.proofs.Order.{scheduled}
use Rattle.reader.specs.Layout.{kind_at, payload_at, payload_end, node_at, node_end, nodes_at, node_place, nodes_place, node_count, function_at, function_end, function_place, earlier}
use Rattle.reader.specs.Find.{ReadsNode, ReadsNodes}
use Rattle.reader.proofs.Passed.{end_fits, first_reads, rest-reads, function-holds}
use Rattle.compiler.specs.Static.{Location, nowhere, summary}
use Rattle.sums.specs.Position.{place_of, function_in, before, Accepted}
use Rattle.compiler.specs.Emit.{Stands, location_table, Coded, Placed, summary_at, Allocated}
use Rattle.compiler.specs.Locating.{Codes, PortsCoded, read_count, FunctionAllocated, AllocatedTo}
use Rattle.compiler.proofs.Locations.{function-agrees}
use Rattle.compiler.proofs.Units.{units-at, function-units}
use Rattle.compiler.proofs.References.{few-reads}
use Rattle.resolver.proofs.Rows.{length-nodes}
use Rattle.sums.proofs.Accepted.{few, sound-below, read_below, short, fewer}
use Rattle.compiler.proofs.Accepting.{single-at}
use Rattle.bytecode.specs.declared.Version.{Version}
use Rattle.compiler.specs.Units.{units_at, unit_limit}

-- ---- what a later store leaves

coded-keep : (locations locations' : List ℕ) (table : Ref → Location) (c : ℕ) (rs : List Ref) → ((q : ℕ) → q < c + length rs → get_or locations' q 0 ≡ get_or locations q 0) → Coded locations table c rs → Coded locations' table c rs
coded-keep locations locations' table c [] h x = x
coded-keep locations locations' table c (r ∷ rs) h (x, xs) =
    (subst (λ (e : ℕ). Stands e (table r)) (sym (h c (omega arith))) x, coded-keep locations locations' table (c + 1) rs (λ q l. h q (omega arith)) xs)

abbrev size_of : Node → ℕ
size_of x = length (reads x)

placed-keep : (s order order' locations locations' : List ℕ) (table : Ref → Location) (b c : ℕ) (ns : List Node) → ((q : ℕ) → q < b + length ns → get_or order' q 0 ≡ get_or order q 0)
    → ((q : ℕ) → q < c + sum size_of ns → get_or locations' q 0 ≡ get_or locations q 0) → Placed s order locations table b c ns → Placed s order' locations' table b c ns
placed-keep s order order' locations locations' table b c [] ho hs x = x
placed-keep s order order' locations locations' table b c (n ∷ ns) ho hs ((e, f, x), xs) =
    let z : get_or order' b 0 ≡ get_or order b 0 = ho b (omega arith) in (
      (ap (node_at s) z ∙ e, subst (ReadsNode s) (sym z) f, coded-keep locations locations' table c (reads n) (λ q l. hs q (omega arith)) x),
      placed-keep s order order' locations locations' table (b + 1) (c + length (reads n)) ns (λ q l. ho q (omega arith)) (λ q l. hs q (omega arith)) xs,
    )

-- ---- how many references fit into a table

payload-space : (f : Form) (k : Kind) (s : List ℕ) (at : ℕ) → at + 3 * length (reads_of (payload_at f k s at)) ≤ payload_end f k s at
payload-space Absent k s at = omega arith
payload-space Constant k s at = omega arith
payload-space References k s at = let a = refs-length (arity k) s at in omega arith
payload-space Call k s at = let a = refs-length (byte s (at + 2)) s (at + 3) in omega arith

node-space : (s : List ℕ) (p : ℕ) → p + 4 + 3 * length (reads (node_at s p)) ≤ node_end s p
unfolding node_at node_end
node-space s p = payload-space (form_of (kind_at s p)) (kind_at s p) s (p + 4)

nodes-space : (s : List ℕ) (n at : ℕ) → ReadsNodes n s at → 13 * sum size_of (nodes_at n s at) + 4 * at ≤ 4 * node_place s at n
unfolding nodes_at node_place
nodes-space s zero at h = omega arith
nodes-space s (suc n) at h =
    let z : suc n - 1 ≡ n = omega arith in
    let y = rest-reads s (suc n) at (omega arith) h in
    let a = nodes-space s n (node_end s at) (rw z at y) in
    let b = node-space s at in
    let e = few-reads s at (first_reads s (suc n) at (omega arith) h) in
    omega arith

nodes-end-low : (s : List ℕ) (n at : ℕ) → ReadsNodes n s at → at ≤ length s → node_place s at n ≤ length s
unfolding node_place
nodes-end-low s zero at h l = l
nodes-end-low s (suc n) at h l =
    let z : suc n - 1 ≡ n = omega arith in
    let y = rest-reads s (suc n) at (omega arith) h in
    nodes-end-low s n (node_end s at) (rw z at y) (end_fits s at (first_reads s (suc n) at (omega arith) h))

module _ (ver : Version) (s : List ℕ) (j : ℕ) (acc : Accepted s (suc j)) where
  function-space : (13 * read_count s j + 4 * place_of s j ≤ 4 * place_of s (suc j)) × (place_of s (suc j) < table_limit)
  unfolding function_place function_end function_at
  function-space =
      let h = function-holds s (place_of s j) (read_below s (suc j) acc j (omega arith)) in
      let a = nodes-space s (node_count s (place_of s j)) (nodes_place s (place_of s j)) h.nodes in
      let b = nodes-end-low s (node_count s (place_of s j)) (nodes_place s (place_of s j)) h.nodes h.outputs in
      let m = short s (suc j) acc in
      (omega arith, omega arith)

  summary-is : (summary_at ver s j).words ≡ units_at ver s j
  unfolding earlier
  summary-is = function-units ver (before s j) (function_in s j) (sound-below s (suc j) acc j (omega arith)) ∙ units-at ver s j

  -- the schedule has all nodes
  schedule-size : (length (schedule (function_in s j).nodes) ≡ node_count s (place_of s j)) × (sum size_of (schedule (function_in s j).nodes) ≡ read_count s j)
  unfolding function_at earlier
  schedule-size =
      let right = scheduled (before s j) (function_in s j) (sound-below s (suc j) acc j (omega arith)).0 in
      (right.size ∙ length-nodes (node_count s (place_of s j)) s (nodes_place s (place_of s j)), right.total size_of)

module _ {ver : Version} {s : List ℕ} {j : ℕ} (acc : Accepted s (suc j)) {lay : Layout} {cell : ℕ} (st : AllocatedTo ver s j lay cell) where
  -- there is room for one function more
  pub room-here : (cell + read_count s j ≤ reference_limit) × (cell < 65536) × (j < function_limit)
  room-here =
      let (a, b) = function-space ver s j acc in
      let e = st.room in
      let l = few s (suc j) acc in
      (omega arith, omega arith, omega arith)

  -- a function over the limit is passed over
  pub passed_over : unit_limit ver < units_at ver s j → AllocatedTo ver s (suc j) lay cell
  passed_over over =
      let (a, b) = function-space ver s j acc in
      let e = st.room in
      let c = summary-is ver s j acc in
      record {
        allocated = λ g l w. ⊎_elim (λ h. st.allocated g h w) (λ q. absurd (let z = ap (λ (x : ℕ). (summary_at ver s x).words) q in omega arith)) (lt-or-eq g j l);
        ports = λ g l w. ⊎_elim (λ h. st.ports g h w) (λ q. absurd (let z = ap (units_at ver s) q in omega arith)) (lt-or-eq g j l);
        room = omega arith;
        ends = λ g l w. ⊎_elim (λ h. st.ends g h w) (λ q. absurd (let z = ap (λ (x : ℕ). (summary_at ver s x).words) q in omega arith)) (lt-or-eq g j l);
      }

  -- the place of the function's locations is stored, and it is allocated
  module _ {lay' : Layout} {r : ℕ} (size : length lay.begins ≡ function_limit) (f : FunctionAllocated ver s j cell (record lay { begins = set lay.begins j cell }) lay' r) where
    begin-here : get_or lay'.begins j 0 ≡ cell
    begin-here = ap (λ (ys : List ℕ). get_or ys j 0) f.same ∙ get_or-set_same lay.begins j cell 0 (let b = few s (suc j) acc in omega arith)

    begin-below : (g : ℕ) → g < j → get_or lay'.begins g 0 ≡ get_or lay.begins g 0
    begin-below g l = ap (λ (ys : List ℕ). get_or ys g 0) f.same ∙ get_or-set_other lay.begins j g cell 0 (λ e. omega arith)

    here : Allocated ver s lay' j
    unfolding earlier
    here =
        record {
          count = (function-holds s (place_of s j) (read_below s (suc j) acc j (omega arith))).few;
          size = (schedule-size ver s j acc).0;
          nodes = subst (λ (b : ℕ). Placed s lay'.order lay'.locations (location_table ver s j) (node_limit * j) b (schedule (function_in s j).nodes)) (sym begin-here) f.placed;
          agrees = function-agrees ver (summary ver (before s j)) (before s j) (function_in s j) (sound-below s (suc j) acc j (omega arith)).0 (single-at s (suc j) acc j (omega arith));
        }

    below : (g : ℕ) → g < j → (summary_at ver s g).words ≤ unit_limit ver → Allocated ver s lay' g
    below g l w =
        let x = st.allocated g l w in
        let e = st.ends g l w in
        let (a, b) = schedule-size ver s g (fewer s (suc j) (suc g) acc (omega arith)) in
        let m = x.count in
        record {
          count = x.count;
          size = x.size;
          nodes =
              subst (λ (q : ℕ). Placed s lay'.order lay'.locations (location_table ver s g) (node_limit * g) q (schedule (function_in s g).nodes)) (sym (begin-below g l))
              (placed-keep s lay.order lay'.order lay.locations lay'.locations (location_table ver s g) (node_limit * g) (get_or lay.begins g 0) (schedule (function_in s g).nodes) (λ q ql. f.old-order q (omega arith)) (λ q ql. f.old-locations q (omega arith)) x.nodes);
          agrees = x.agrees;
        }

    ports-below : (g : ℕ) → g < j → units_at ver s g ≤ unit_limit ver → PortsCoded (summary_at ver s g).outputs lay'.outs (8 * g)
    ports-below g l w =
        let x = st.ports g l w in
        record { few = x.few; coded = λ q ql. subst (λ (e : ℕ). Codes e (get_or (summary_at ver s g).outputs q nowhere)) (sym (f.old-outs (8 * g + q) (omega arith))) (x.coded q ql) }

    pub one_more : AllocatedTo ver s (suc j) lay' r
    one_more =
        let (a, b) = function-space ver s j acc in
        let e = st.room in
        let n = f.end in
        record {
          allocated = λ g l w. ⊎_elim (λ h. below g h w) (λ q. subst (Allocated ver s lay') (sym q) here) (lt-or-eq g j l);
          ports = λ g l w. ⊎_elim (λ h. ports-below g h w) (λ q. subst (λ (x : ℕ). PortsCoded (summary_at ver s x).outputs lay'.outs (8 * x)) (sym q) f.ports) (lt-or-eq g j l);
          room = omega arith;
          ends = λ g l w. ⊎_elim (λ h. let z = st.ends g h w in let y = begin-below g h in omega arith)
              (λ q. let z : get_or lay'.begins g 0 ≡ cell = ap (λ (x : ℕ). get_or lay'.begins x 0) q ∙ begin-here in let y = ap (read_count s) q in omega arith) (lt-or-eq g j l);
        }

-- at the start nothing is allocated
pub allocated-none : (ver : Version) → {s : List ℕ} {lay : Layout} → AllocatedTo ver s 0 lay 0
allocated-none ver =
    record { allocated = λ g l w. absurd (omega arith); ports = λ g l w. absurd (omega arith); room = omega arith; ends = λ g l w. absurd (omega arith) }
