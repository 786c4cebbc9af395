use Rattle.std.proofs.Common.{ℕ, List, ap, sym, ◌∙◌, arith}
use Rattle.std.proofs.Math.ListN.{get_elem?}
use Rattle.graph.specs.Look.{find_function}
use Rattle.graph.specs.Types.{outputs_of}
use Rattle.reader.proofs.Passed.{head-fits}
use Rattle.checker.specs.Answers.{port_of}
use Rattle.checker.specs.Scenes.{early}
use Rattle.checker.proofs.AtPorts.{plain_gives, call-gives, is-calling}
use Rattle.checker.proofs.scene.Scene.node_port.Goals as goal

pub overflow_add-at : goal.overflow_add-at
overflow_add-at c = let h = head-fits c.args.self.now.s.now c.args.at c.requires in omega (arith, h)

pub bounds-self-at : goal.bounds-self-at
bounds-self-at c = let h = head-fits c.args.self.now.s.now c.args.at c.requires in omega (arith, h)

pub overflow_add-at-else-is_call : goal.overflow_add-at-else-is_call
overflow_add-at-else-is_call c = let h = head-fits c.args.self.now.s.now c.args.at c.requires in omega (arith, h)

pub bounds-self-at-else-is_call : goal.bounds-self-at-else-is_call
bounds-self-at-else-is_call c = let h = head-fits c.args.self.now.s.now c.args.at c.requires in omega (arith, h)

pub callee_at-requires : goal.callee_at-requires
callee_at-requires c = (c.requires, is-calling c.args.self.now.s.now c.args.at _ c.ports_of-row.ensures (sym c.is_call.ensures ∙ c.if-is_call.true))

pub returns-then-is_call : goal.returns-then-is_call
returns-then-is_call c =
    let w = c.args.self.now in
    c.callee_port.ensures
    ∙ ap (λ (i : ℕ). port_of (get_elem? (outputs_of (find_function i (early w))) c.args.port)) c.callee_at.ensures
    ∙ ap (λ (ts : List ℕ). port_of (get_elem? ts c.args.port))
    (sym (call-gives w.s.now c.args.at (early w) (is-calling c.args.self.now.s.now c.args.at _ c.ports_of-row.ensures (sym c.is_call.ensures ∙ c.if-is_call.true))))

pub returns-else-is_call : goal.returns-else-is_call
returns-else-is_call c =
    let w = c.args.self.now in
    c.row_port.ensures
    ∙ ap (λ (ts : List ℕ). port_of (get_elem? ts c.args.port))
    (sym (plain_gives w.s.now c.args.at (early w) _ c.ports_of-row.ensures (sym c.is_call.ensures ∙ c.if-is_call.false)))
