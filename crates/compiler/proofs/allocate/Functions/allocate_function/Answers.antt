use Prim.Native.Nat.{ℕ, suc, ◌+◌, ◌≤◌, ◌<◌}
use mathlib.Core.Path.{◌≡◌, sym, ap, ◌∙◌, subst}
use mathlib.Core.List.{[]}
use native.Mathlib.Omega.{arith}
use lib.ListN.{length, get_or, length-replicate}
use Rattle.base.specs.Limits.{node_limit, slot_limit, function_limit}
use Rattle.base.specs.Outcome.{ok}
use Rattle.base.specs.Bytes.{u16}
use Rattle.graph.specs.Judge.{fresh}
use Rattle.reader.specs.Layout.{nodes_at, nodes_place, node_count}
use Rattle.reader.specs.Find.{ReadsNodes, ReadsFunction}
use Rattle.reader.proofs.Passed.{function-fits}
use Rattle.sums.specs.Position.{place_of}
use Rattle.sums.proofs.Accepted.{few, short}
use Rattle.sums.proofs.Tabulate.{fewer-starts}
use Rattle.resolver.specs.Slots.{PlacesAre}
use Rattle.resolver.proofs.ByPlaces.{all-by, all_read}
use Rattle.compiler.specs.Locating.{Slots}
use Rattle.compiler.proofs.Filling.{places-are, slots-are}
use Rattle.compiler.proofs.Accepting.{nodes-held}
use Rattle.compiler.proofs.Outputs.{function-allocated}
use Rattle.compiler.proofs.allocate.Functions.allocate_function.Goals as goal

pub offset_bounds-self-k : goal.offset_bounds-self-k
offset_bounds-self-k c =
    let low : c.args.k < function_limit =
    let l = few c.args.self.table.now (suc c.args.k) c.requires.accepted.0 in omega arith in
    let l = low in omega arith

pub bounds-self-k : goal.bounds-self-k
bounds-self-k c =
    let low : c.args.k < function_limit =
    let l = few c.args.self.table.now (suc c.args.k) c.requires.accepted.0 in omega arith in
    let l = low in omega arith

pub overflow_add-p : goal.overflow_add-p
overflow_add-p c =
    let place : get_or c.args.self.starts.now c.args.k 0 ≡ place_of c.args.self.table.now c.args.k =
    c.requires.started.0.places c.args.k (omega arith) in
    let was_read : ReadsFunction c.args.self.table.now (get_or c.args.self.starts.now c.args.k 0) =
    subst (ReadsFunction c.args.self.table.now) (sym place) (c.requires.started.0.reads c.args.k (omega arith)) in
    let fits : get_or c.args.self.starts.now c.args.k 0 + 6 ≤ length c.args.self.table.now =
    function-fits c.args.self.table.now (get_or c.args.self.starts.now c.args.k 0) was_read in
    omega (arith, fits)

pub u16_at-n-requires : goal.u16_at-n-requires
u16_at-n-requires c =
    let place : get_or c.args.self.starts.now c.args.k 0 ≡ place_of c.args.self.table.now c.args.k =
    c.requires.started.0.places c.args.k (omega arith) in
    let was_read : ReadsFunction c.args.self.table.now (get_or c.args.self.starts.now c.args.k 0) =
    subst (ReadsFunction c.args.self.table.now) (sym place) (c.requires.started.0.reads c.args.k (omega arith)) in
    let fits : get_or c.args.self.starts.now c.args.k 0 + 6 ≤ length c.args.self.table.now =
    function-fits c.args.self.table.now (get_or c.args.self.starts.now c.args.k 0) was_read in
    omega (arith, fits)

pub nodes_place-at-requires : goal.nodes_place-at-requires
nodes_place-at-requires c =
    let place : get_or c.args.self.starts.now c.args.k 0 ≡ place_of c.args.self.table.now c.args.k =
    c.requires.started.0.places c.args.k (omega arith) in
    let was_read : ReadsFunction c.args.self.table.now (get_or c.args.self.starts.now c.args.k 0) =
    subst (ReadsFunction c.args.self.table.now) (sym place) (c.requires.started.0.reads c.args.k (omega arith)) in
    was_read

-- ---- needs
pub places-requires : goal.places-requires
places-requires c =
    let place : get_or c.args.self.starts.now c.args.k 0 ≡ place_of c.args.self.table.now c.args.k =
    c.requires.started.0.places c.args.k (omega arith) in
    let count : let a = c.args in c.u16_at-n.result ≡ node_count a.self.table.now (place_of a.self.table.now a.k) =
    c.u16_at-n.ensures.0 ∙ ap (λ (q : ℕ). u16 c.args.self.table.now (q + 4)) place in
    let begin : let a = c.args in c.nodes_place-at.result ≡ nodes_place a.self.table.now (place_of a.self.table.now a.k) =
    c.nodes_place-at.ensures ∙ ap (nodes_place c.args.self.table.now) place in
    let nodes : let n = c.u16_at-n.result in let s = c.args.self.table.now in let at = c.nodes_place-at.result in
    (n ≤ node_limit) × ReadsNodes n s at × (fresh [] (nodes_at n s at) ≡ ok tt) =
    nodes-held c.args.self.table.now (suc c.args.k) c.requires.accepted.0 c.args.k (omega arith) count begin in
    let (few, read, single) = nodes in
    let l = short c.args.self.table.now (suc c.args.k) c.requires.accepted.0 in
    (read, few, omega arith, length-replicate {A = ℕ} node_limit 0)

pub resolve-requires : goal.resolve-requires
resolve-requires c =
    let place : get_or c.args.self.starts.now c.args.k 0 ≡ place_of c.args.self.table.now c.args.k =
    c.requires.started.0.places c.args.k (omega arith) in
    let count : let a = c.args in c.u16_at-n.result ≡ node_count a.self.table.now (place_of a.self.table.now a.k) =
    c.u16_at-n.ensures.0 ∙ ap (λ (q : ℕ). u16 c.args.self.table.now (q + 4)) place in
    let begin : let a = c.args in c.nodes_place-at.result ≡ nodes_place a.self.table.now (place_of a.self.table.now a.k) =
    c.nodes_place-at.ensures ∙ ap (nodes_place c.args.self.table.now) place in
    let nodes : let n = c.u16_at-n.result in let s = c.args.self.table.now in let at = c.nodes_place-at.result in
    (n ≤ node_limit) × ReadsNodes n s at × (fresh [] (nodes_at n s at) ≡ ok tt) =
    nodes-held c.args.self.table.now (suc c.args.k) c.requires.accepted.0 c.args.k (omega arith) count begin in
    let filled = c.places.new.places in
    let placed : PlacesAre c.args.self.table.now c.nodes_place-at.result c.u16_at-n.result filled =
    places-are c.args.self.table.now c.nodes_place-at.result c.u16_at-n.result nodes.0 _ c.places.ensures in
    let (few, read, single) = nodes in
    let s = c.args.self.table.now in
    let n = c.u16_at-n.result in
    let at = c.nodes_place-at.result in
    (all_read s filled n at placed read, few, length-replicate {A = ℕ} slot_limit 0, ap (fresh []) (all-by s filled n at placed) ∙ single)

pub schedule-requires : goal.schedule-requires
schedule-requires c =
    let place : get_or c.args.self.starts.now c.args.k 0 ≡ place_of c.args.self.table.now c.args.k =
    c.requires.started.0.places c.args.k (omega arith) in
    let count : let a = c.args in c.u16_at-n.result ≡ node_count a.self.table.now (place_of a.self.table.now a.k) =
    c.u16_at-n.ensures.0 ∙ ap (λ (q : ℕ). u16 c.args.self.table.now (q + 4)) place in
    let begin : let a = c.args in c.nodes_place-at.result ≡ nodes_place a.self.table.now (place_of a.self.table.now a.k) =
    c.nodes_place-at.ensures ∙ ap (nodes_place c.args.self.table.now) place in
    let nodes : let n = c.u16_at-n.result in let s = c.args.self.table.now in let at = c.nodes_place-at.result in
    (n ≤ node_limit) × ReadsNodes n s at × (fresh [] (nodes_at n s at) ≡ ok tt) =
    nodes-held c.args.self.table.now (suc c.args.k) c.requires.accepted.0 c.args.k (omega arith) count begin in
    nodes.0

pub allocate_nodes-end-requires : goal.allocate_nodes-end-requires
allocate_nodes-end-requires c =
    let place : get_or c.args.self.starts.now c.args.k 0 ≡ place_of c.args.self.table.now c.args.k =
    c.requires.started.0.places c.args.k (omega arith) in
    let count : let a = c.args in c.u16_at-n.result ≡ node_count a.self.table.now (place_of a.self.table.now a.k) =
    c.u16_at-n.ensures.0 ∙ ap (λ (q : ℕ). u16 c.args.self.table.now (q + 4)) place in
    let begin : let a = c.args in c.nodes_place-at.result ≡ nodes_place a.self.table.now (place_of a.self.table.now a.k) =
    c.nodes_place-at.ensures ∙ ap (nodes_place c.args.self.table.now) place in
    let nodes : let n = c.u16_at-n.result in let s = c.args.self.table.now in let at = c.nodes_place-at.result in
    (n ≤ node_limit) × ReadsNodes n s at × (fresh [] (nodes_at n s at) ≡ ok tt) =
    nodes-held c.args.self.table.now (suc c.args.k) c.requires.accepted.0 c.args.k (omega arith) count begin in
    let filled = c.places.new.places in
    let placed : PlacesAre c.args.self.table.now c.nodes_place-at.result c.u16_at-n.result filled =
    places-are c.args.self.table.now c.nodes_place-at.result c.u16_at-n.result nodes.0 _ c.places.ensures in
    let s = c.args.self.table.now in
    let n = c.u16_at-n.result in
    let few = nodes.0 in
    record {
      accepted = (c.requires.accepted.0, count, c.requires.accepted.1, c.requires.accepted.2);
      started = (fewer-starts _ _ _ _ c.requires.started.0 (omega arith), c.requires.started.1, c.requires.started.2);
      slots = (
        subst (λ (q : ℕ). Slots s q n c.resolve.new.targets) begin (slots-are s c.nodes_place-at.result n few filled c.places.ensures c.resolve.ensures),
        subst (λ (q : ℕ). PlacesAre s q n filled) begin placed,
        c.schedule.ensures.order_after,
      );
    }

pub allocate_outputs-requires : goal.allocate_outputs-requires
allocate_outputs-requires c =
    let low : c.args.k < function_limit =
    let l = few c.args.self.table.now (suc c.args.k) c.requires.accepted.0 in omega arith in
    let place : get_or c.args.self.starts.now c.args.k 0 ≡ place_of c.args.self.table.now c.args.k =
    c.requires.started.0.places c.args.k (omega arith) in
    let was_read : ReadsFunction c.args.self.table.now (get_or c.args.self.starts.now c.args.k 0) =
    subst (ReadsFunction c.args.self.table.now) (sym place) (c.requires.started.0.reads c.args.k (omega arith)) in
    let count : let a = c.args in c.u16_at-n.result ≡ node_count a.self.table.now (place_of a.self.table.now a.k) =
    c.u16_at-n.ensures.0 ∙ ap (λ (q : ℕ). u16 c.args.self.table.now (q + 4)) place in
    let begin : let a = c.args in c.nodes_place-at.result ≡ nodes_place a.self.table.now (place_of a.self.table.now a.k) =
    c.nodes_place-at.ensures ∙ ap (nodes_place c.args.self.table.now) place in
    let nodes : let n = c.u16_at-n.result in let s = c.args.self.table.now in let at = c.nodes_place-at.result in
    (n ≤ node_limit) × ReadsNodes n s at × (fresh [] (nodes_at n s at) ≡ ok tt) =
    nodes-held c.args.self.table.now (suc c.args.k) c.requires.accepted.0 c.args.k (omega arith) count begin in
    let (few, read, single) = nodes in
    (low, was_read, few, read)

pub returns : goal.returns
returns c =
    let place : get_or c.args.self.starts.now c.args.k 0 ≡ place_of c.args.self.table.now c.args.k =
    c.requires.started.0.places c.args.k (omega arith) in
    let count : let a = c.args in c.u16_at-n.result ≡ node_count a.self.table.now (place_of a.self.table.now a.k) =
    c.u16_at-n.ensures.0 ∙ ap (λ (q : ℕ). u16 c.args.self.table.now (q + 4)) place in
    let begin : let a = c.args in c.nodes_place-at.result ≡ nodes_place a.self.table.now (place_of a.self.table.now a.k) =
    c.nodes_place-at.ensures ∙ ap (nodes_place c.args.self.table.now) place in
    let v = c.allocate_nodes-end in
    function-allocated c.args.self.version c.args.self.table.now c.args.k c.args.cell c.requires.accepted.0 _ _ _ _ v.result v.ensures place count begin c.allocate_outputs.ensures (let e = ap length v.ensures.same.0 in omega arith)
