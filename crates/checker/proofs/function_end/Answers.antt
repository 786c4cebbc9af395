use Rattle.std.proofs.Common.{get_or, ℕ, ◌≡◌, ◌-◌, ◌<◌, ap, sym, subst, ◌∙◌, arith}
use Rattle.reader.specs.Layout.{node_end, node_place, nodes_place, node_count}
use Rattle.reader.specs.Find.{ReadsNode}
use Rattle.reader.proofs.Passed.{function-holds, place-reads}
use Rattle.checker.proofs.Whole.{end_none, end-last}
use Rattle.checker.proofs.function_end.Goals as goal

pub overflow_add-at : goal.overflow_add-at
overflow_add-at c = let h = function-holds c.args.s.now c.args.at c.requires.0 in omega (arith, h.head)

pub u16_at-count-requires : goal.u16_at-count-requires
u16_at-count-requires c = let h = function-holds c.args.s.now c.args.at c.requires.0 in omega (arith, h.head)

pub bounds-places-count : goal.bounds-places-count
bounds-places-count c = let h = function-holds c.args.s.now c.args.at c.requires.0 in omega (arith, h.few, c.u16_at-count.ensures.0, c.if-count-eq0.false)

pub node_end-requires : goal.node_end-requires
node_end-requires c =
    let s = c.args.s.now in
    let at = c.args.at in
    let count = c.u16_at-count.ensures.0 in
    let some : 0 < node_count s at = omega (arith, count, c.if-count-eq0.false) in
    let last : get_or c.args.places.now (c.u16_at-count.result - 1) 0 ≡ node_place s (nodes_place s at) (node_count s at - 1) =
    c.requires.1 (c.u16_at-count.result - 1) (omega (arith, count, some))
    ∙ ap (λ (n : ℕ). node_place s (nodes_place s at) (n - 1)) count in
    subst (ReadsNode s) (sym last)
    (place-reads s (node_count s at) (node_count s at - 1) (nodes_place s at) (omega (arith, some)) (function-holds s at c.requires.0).nodes)

pub returns-then-count-eq0 : goal.returns-then-count-eq0
returns-then-count-eq0 c =
    c.nodes_place.ensures ∙ end_none c.args.s.now c.args.at (sym c.u16_at-count.ensures.0 ∙ c.if-count-eq0.true)

pub returns-else-count-eq0 : goal.returns-else-count-eq0
returns-else-count-eq0 c =
    let s = c.args.s.now in
    let at = c.args.at in
    let count = c.u16_at-count.ensures.0 in
    let some : 0 < node_count s at = omega (arith, count, c.if-count-eq0.false) in
    let last : get_or c.args.places.now (c.u16_at-count.result - 1) 0 ≡ node_place s (nodes_place s at) (node_count s at - 1) =
    c.requires.1 (c.u16_at-count.result - 1) (omega (arith, count, some))
    ∙ ap (λ (n : ℕ). node_place s (nodes_place s at) (n - 1)) count in
    c.node_end.ensures ∙ ap (node_end s) last ∙ end-last s at some
