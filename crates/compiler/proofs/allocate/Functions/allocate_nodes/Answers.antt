use Prim.Native.Nat.{ℕ, suc, ◌+◌, ◌*◌, ◌≤◌, ◌<◌}
use mathlib.Core.Path.{◌≡◌, refl, sym, ap, ◌∙◌, subst}
use mathlib.Core.List.{List, []}
use native.Mathlib.Omega.{arith}
use lib.ListN.{length, get_or, replicate}
use lib.Seq.{sets}
use Rattle.base.specs.Limits.{node_limit, reference_limit, address_limit, function_limit}
use Rattle.graph.specs.Look.{reads}
use Rattle.reader.specs.Layout.{node_at, nodes_place, node_count}
use Rattle.reader.specs.Find.{ReadsNode}
use Rattle.reader.proofs.Passed.{function-holds}
use Rattle.reader.proofs.Walking.{node-here}
use Rattle.order.specs.Indices.{index_order}
use Rattle.bytecode.specs.declared.Version.{Version}
use Rattle.sums.specs.Position.{place_of, Accepted}
use Rattle.sums.proofs.Accepted.{few, read_below}
use Rattle.resolver.specs.Slots.{PlacesAre}
use Rattle.compiler.specs.Units.{units_at, adds_units, unit_limit}
use Rattle.compiler.specs.Locating.{Slots, AllOuts, read_count, node_codes}
use Rattle.compiler.proofs.References.{count-reads}
use Rattle.compiler.proofs.Allocating.{Lent, State, start, index-low, node-fits, advance, finished}
use Rattle.compiler.proofs.allocate.Functions.allocate_nodes.Goals as goal

-- ---- what is required, in plain terms

-- an accepted function with n nodes, which fits
abbrev Taken : Version → List ℕ → ℕ → ℕ → ℕ → Type 0
Taken ver s k n cell = Accepted s (suc k) × (n ≡ node_count s (place_of s k)) × (units_at ver s k ≤ unit_limit ver) × (cell + read_count s k ≤ reference_limit)

-- what was resolved of it
abbrev Resolved : List ℕ → ℕ → ℕ → List ℕ → List ℕ → List ℕ → Type 0
Resolved s k n ts ps index =
    Slots s (nodes_place s (place_of s k)) n ts × PlacesAre s (nodes_place s (place_of s k)) n ps × (index ≡ sets (replicate node_limit 0) 0 (index_order ts n))

lent : {ver : Version} {s outs ts ps index : List ℕ} {k n cell : ℕ} → Taken ver s k n cell → AllOuts ver s outs k → Resolved s k n ts ps index → Lent ver s k cell outs ts ps
lent {s = s} {ts = ts} {ps = ps} {k = k} a all r =
    record {
      limit = a.2;
      room = a.3;
      slots = subst (λ (m : ℕ). Slots s (nodes_place s (place_of s k)) m ts) a.1 r.0;
      held = subst (λ (m : ℕ). PlacesAre s (nodes_place s (place_of s k)) m ps) a.1 r.1;
      all = all;
    }

small : {s : List ℕ} {k n : ℕ} → Accepted s (suc k) → n ≡ node_count s (place_of s k) → (n ≤ node_limit) × (k < function_limit)
small {s} {k} a e =
    let l = few s (suc k) a in
    let h = function-holds s (place_of s k) (read_below s (suc k) a k (omega arith)) in
    let f = h.few in
    (omega (arith, e, f), omega arith)

-- the node at hand: its index, and what it needs where it stands
module _ {ver : Version} {s outs ts ps index : List ℕ} {k n cell : ℕ} (a : Taken ver s k n cell) (l : Lent ver s k cell outs ts ps) {acc : Accepted s (suc k)}
    {order₀ locations₀ order locations allocated : List ℕ} {here d m : ℕ} (st : State ver s k cell acc outs ts ps index order₀ locations₀ order locations allocated here d m)
    (lt : m < n) {i : ℕ} (ei : i ≡ get_or index m 0) where
  more : m < node_count s (place_of s k)
  more = let e = a.1 in omega (arith, e, lt)

  low : i < node_limit
  low = let x = index-low l st more ei in let e = a.1 in let f = (small a.0 a.1).0 in omega (arith, x, e, f)

  fits : {p : ℕ} → p ≡ get_or ps i 0
      → ReadsNode s p × (p < address_limit) × (here + length (reads (node_at s p)) ≤ reference_limit) × (d + adds_units ver s k (node_at s p) ≤ unit_limit ver)
  fits ep = node-fits l st more ei ep

-- ---- the loop

pub loop-m-init : goal.loop-m-init
loop-m-init c =
    let r = c.requires in
    let z = subst (λ (m : ℕ). c.args.index.now ≡ sets (replicate node_limit 0) 0 (index_order c.args.targets.now m)) r.accepted.1 r.slots.2 in
    (r.accepted.0, start (lent r.accepted r.started.2 r.slots) z (omega arith) (omega arith) (omega arith), refl, refl)

pub bounds-index-m : goal.bounds-index-m
bounds-index-m c = let t = c.loop-m-test.true in let (x, y) = small c.requires.accepted.0 c.requires.accepted.1 in omega arith

pub bounds-places-i : goal.bounds-places-i
bounds-places-i c =
    let r = c.requires in
    let x = low r.accepted (lent r.accepted r.started.2 r.slots) c.loop-m.invariant.1 c.loop-m-test.true c.from-i.ensures in
    omega (arith, x)

pub overflow_cast-layout : goal.overflow_cast-layout
overflow_cast-layout c =
    let r = c.requires in
    let x = fits r.accepted (lent r.accepted r.started.2 r.slots) c.loop-m.invariant.1 c.loop-m-test.true c.from-i.ensures refl in
    let y = x.1 in
    omega (arith, y)

pub overflow_mul-layout : goal.overflow_mul-layout
overflow_mul-layout c = let (x, y) = small c.requires.accepted.0 c.requires.accepted.1 in omega arith

pub overflow_add-layout : goal.overflow_add-layout
overflow_add-layout c = let t = c.loop-m-test.true in let (x, y) = small c.requires.accepted.0 c.requires.accepted.1 in omega arith

pub offset_bounds-layout-k : goal.offset_bounds-layout-k
offset_bounds-layout-k c = let t = c.loop-m-test.true in let (x, y) = small c.requires.accepted.0 c.requires.accepted.1 in omega arith

pub bounds-layout-k : goal.bounds-layout-k
bounds-layout-k c = let t = c.loop-m-test.true in let (x, y) = small c.requires.accepted.0 c.requires.accepted.1 in omega arith

pub overflow_add-p : goal.overflow_add-p
overflow_add-p c =
    let r = c.requires in
    let x = fits r.accepted (lent r.accepted r.started.2 r.slots) c.loop-m.invariant.1 c.loop-m-test.true c.from-i.ensures refl in
    let y = x.1 in
    omega (arith, y)

pub bounds-self-p : goal.bounds-self-p
bounds-self-p c =
    let r = c.requires in
    let x = fits r.accepted (lent r.accepted r.started.2 r.slots) c.loop-m.invariant.1 c.loop-m-test.true c.from-i.ensures refl in
    let here = node-here c.args.self.table.now (get_or c.args.places.now c.from-i.result 0) x.0 in
    omega (arith, here.head)

pub reads_by-r-requires : goal.reads_by-r-requires
reads_by-r-requires c =
    let r = c.requires in
    let x = fits r.accepted (lent r.accepted r.started.2 r.slots) c.loop-m.invariant.1 c.loop-m-test.true c.from-i.ensures refl in
    let here = node-here c.args.self.table.now (get_or c.args.places.now c.from-i.result 0) x.0 in
    (here.reads, c.ports_of-row.ensures)

pub allocate_reads-requires : goal.allocate_reads-requires
allocate_reads-requires c =
    let r = c.requires in
    let l = lent r.accepted r.started.2 r.slots in
    let x = fits r.accepted l c.loop-m.invariant.1 c.loop-m-test.true c.from-i.ensures refl in
    let y = low r.accepted l c.loop-m.invariant.1 c.loop-m-test.true c.from-i.ensures in
    let n = count-reads c.args.self.table.now (get_or c.args.places.now c.from-i.result 0) c.reads_by-r.result c.reads_by-r.ensures.1 in
    let o = c.reads_by-r.ensures.1 in
    let z = x.2 in
    (y, o.few, o.fits, omega (arith, z, n))

pub allocate_node-d-requires : goal.allocate_node-d-requires
allocate_node-d-requires c =
    let r = c.requires in
    let l = lent r.accepted r.started.2 r.slots in
    let x = fits r.accepted l c.loop-m.invariant.1 c.loop-m-test.true c.from-i.ensures refl in
    let y = low r.accepted l c.loop-m.invariant.1 c.loop-m-test.true c.from-i.ensures in
    let n = count-reads c.args.self.table.now (get_or c.args.places.now c.from-i.result 0) c.reads_by-r.result c.reads_by-r.ensures.1 in
    let z = x.2 in
    let k16 = (small r.accepted.0 r.accepted.1).1 in
    record {
      k_le_function_limit = (omega arith, y, x.0, r.started.0, r.started.1);
      all_outs = (subst (λ (outs : List ℕ). AllOuts c.args.self.version c.args.self.table.now outs c.args.k) (sym c.loop-m.invariant.2) r.started.2, omega (arith, z, n), n);
      p_bound = x.3;
    }

pub loop-m-preserved : goal.loop-m-preserved
loop-m-preserved c =
    let r = c.requires in
    let (acc, st, outs, begins) = c.loop-m.invariant in
    let l = lent r.accepted r.started.2 r.slots in
    let t = c.loop-m-test.true in
    let m = more r.accepted l st t c.from-i.ensures in
    let v = c.allocate_node-d.ensures in
    let e =
    v.allocated_after
    ∙ ap (λ (ys : List ℕ). sets c.loop-m.allocated (8 * c.from-i.result) (node_codes c.args.self.table.now ys c.allocate_reads.new.locations c.args.k (get_or c.args.places.now c.from-i.result 0) c.loop-m.here c.loop-m.d)) outs in
    (acc, advance l st m c.from-i.ensures refl c.reads_by-r.ensures.1 c.allocate_reads.ensures e v.value, outs, begins)

pub returns : goal.returns
returns c =
    let (acc, st, outs, begins) = c.loop-m.invariant in
    let e = c.requires.accepted.1 in
    let t = c.loop-m-test.false in
    let h = finished {ins₀ = []} {ins = []} st (omega (arith, e, t)) begins in
    record { placed = h.placed; known = h.known; end = h.end; same = (outs, begins); old-order = h.old-order; old-locations = h.old-locations }
