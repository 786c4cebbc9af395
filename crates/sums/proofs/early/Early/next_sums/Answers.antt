use Rattle.std.proofs.Common.{sym, ap, ◌∙◌, subst, ℕ, arith}
use Rattle.reader.specs.Layout.{nodes_at, nodes_place, node_count}
use Rattle.reader.specs.Find.{ReadsNodes}
use Rattle.reader.proofs.Passed.{function-fits, function-holds}
use Rattle.sums.specs.Capped.{cap_sums, nodes_sums}
use Rattle.sums.proofs.Summing.{sums-are}
use Rattle.sums.proofs.early.Early.next_sums.Goals as goal

pub overflow_add-p : goal.overflow_add-p
overflow_add-p c = omega (arith, function-fits c.args.self.now.table.now c.args.p c.requires.1)

pub u16_at-n-requires : goal.u16_at-n-requires
u16_at-n-requires c = omega (arith, function-fits c.args.self.now.table.now c.args.p c.requires.1)

pub nodes_sums-requires : goal.nodes_sums-requires
nodes_sums-requires c = let s = c.args.self.now.table.now in
    let p = c.args.p in
    subst (λ (n : ℕ). ReadsNodes n s c.nodes_place-first.result) (sym c.u16_at-n.ensures.0)
    (subst (ReadsNodes (node_count s p) s) (sym c.nodes_place-first.ensures) (function-holds s p c.requires.1).nodes)

pub returns : goal.returns
returns c = let s = c.args.self.now.table.now in
    let p = c.args.p in
    let k = c.args.self.now.count in
    c.nodes_sums.ensures
    ∙ ap (λ (n : ℕ). cap_sums (nodes_sums s k (nodes_at n s c.nodes_place-first.result))) c.u16_at-n.ensures.0
    ∙ ap (λ (q : ℕ). cap_sums (nodes_sums s k (nodes_at (node_count s p) s q))) c.nodes_place-first.ensures
    ∙ ap (λ (q : ℕ). cap_sums (nodes_sums s k (nodes_at (node_count s q) s (nodes_place s q)))) c.requires.0
    ∙ ap cap_sums (sym (sums-are s k))
