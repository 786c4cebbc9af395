use Rattle.std.proofs.Common.{sym, ap, ◌∙◌, subst, ℕ, arith}
use lib.Seq.{length-take-le}
use Rattle.graph.specs.Format.{format_of}
use Rattle.reader.specs.Layout.{node_place, nodes_place, function_end}
use Rattle.reader.specs.Find.{ReadsNodes, ReadsFunction}
use Rattle.reader.proofs.Passed.{function-fits, function-holds}
use Rattle.sums.proofs.Nodes.{start_none, start-step, start-done}
use Rattle.sums.proofs.Tabulate.{starts-in, all-stored}
use Rattle.sums.proofs.find_starts.Goals as goal

pub loop-start-init : goal.loop-start-init
unfolding format_of
loop-start-init c = let a = c.args in start_none a.table.now a.n _

pub overflow_add-p : goal.overflow_add-p
overflow_add-p c = let l = c.loop-start in
    let a = c.args in
    let s = a.table.now in
    let here : ReadsFunction s l.p = subst (ReadsFunction s) (sym l.invariant.place) (c.requires.1 l.start-index (omega arith)) in
    omega (arith, function-fits s l.p here)

pub u16_at-count-requires : goal.u16_at-count-requires
u16_at-count-requires c = let l = c.loop-start in
    let a = c.args in
    let s = a.table.now in
    let here : ReadsFunction s l.p = subst (ReadsFunction s) (sym l.invariant.place) (c.requires.1 l.start-index (omega arith)) in
    omega (arith, function-fits s l.p here)

pub nodes_place-requires : goal.nodes_place-requires
nodes_place-requires c = let l = c.loop-start in
    let a = c.args in
    let s = a.table.now in
    let here : ReadsFunction s l.p = subst (ReadsFunction s) (sym l.invariant.place) (c.requires.1 l.start-index (omega arith)) in
    here

pub node_place-p-requires : goal.node_place-p-requires
node_place-p-requires c = let l = c.loop-start in
    let a = c.args in
    let s = a.table.now in
    let here : ReadsFunction s l.p = subst (ReadsFunction s) (sym l.invariant.place) (c.requires.1 l.start-index (omega arith)) in (
      subst (λ (q : ℕ). ReadsNodes c.u16_at-count.result s q) (sym c.nodes_place.ensures)
          (subst (λ (n : ℕ). ReadsNodes n s (nodes_place s l.p)) (sym c.u16_at-count.ensures.0) (function-holds s l.p here).nodes),
      omega arith,
    )

pub loop-start-preserved : goal.loop-start-preserved
unfolding function_end
loop-start-preserved c =
    let l = c.loop-start in
    let a = c.args in
    let s = a.table.now in
    start-step s a.n _ l.start-items l.p l.start-index c.node_place-p.result l.invariant (omega arith)
    (c.node_place-p.ensures ∙ ap (λ (q : ℕ). node_place s q c.u16_at-count.result) c.nodes_place.ensures ∙ ap (node_place s (nodes_place s l.p)) c.u16_at-count.ensures.0)

pub returns : goal.returns
returns c = let l = c.loop-start in
    let a = c.args in
    let few = c.requires.0 in
    let long = length-take-le a.n a.starts.now (omega arith) in
    let e = all-stored a.table.now a.starts.now a.n (omega arith) (start-done a.table.now a.n _ l.start-items l.p l.start-index l.invariant (omega arith)) in
    record { starts_after = e; started = starts-in a.table.now a.starts.now _ a.n e (omega arith) c.requires.1 }
