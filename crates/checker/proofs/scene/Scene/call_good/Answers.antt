use Rattle.std.proofs.Common.{ℕ, ◌+◌, ◌≡◌, ap, sym, ◌∙◌, arith}
use lib.Dec.{eqb}
use Rattle.ports.specs.Ports.{form_of}
use Rattle.ports.specs.declared.Form.{Form}
use Rattle.base.specs.Bytes.{byte}
use Rattle.base.specs.Outcome.{need}
use Rattle.graph.specs.Look.{find_function}
use Rattle.reader.specs.Layout.{kind_at}
use Rattle.reader.specs.declared.Reads.{Reads}
use Rattle.reader.proofs.Passed.{head-fits, function-fits}
use Rattle.checker.specs.Scenes.{early}
use Rattle.checker.proofs.AtPorts.{is-calling}
use Rattle.checker.proofs.Calls.{plain-call, call_none, call-some}
use Rattle.checker.proofs.scene.Scene.call_good.Goals as goal

pub overflow_add-at : goal.overflow_add-at
overflow_add-at c = let h = head-fits c.args.self.now.s.now c.args.at c.requires in omega (arith, h)

pub bounds-self-at : goal.bounds-self-at
bounds-self-at c = let h = head-fits c.args.self.now.s.now c.args.at c.requires in omega (arith, h)

pub returns-then-not-is_call : goal.returns-then-not-is_call
returns-then-not-is_call c =
    let w = c.args.self.now in
    plain-call w.s.now c.args.at (early w) _ c.ports_of-form.ensures (sym c.is_call.ensures ∙ c.if-not-is_call.true)

pub callee_at-requires : goal.callee_at-requires
callee_at-requires c =
    (c.requires, is-calling c.args.self.now.s.now c.args.at _ c.ports_of-form.ensures (sym c.is_call.ensures ∙ c.if-not-is_call.false))

pub returns-in_default : goal.returns-in_default
returns-in_default c =
    let w = c.args.self.now in
    let calls : form_of (kind_at w.s.now c.args.at) ≡ Form.Call =
    is-calling w.s.now c.args.at _ c.ports_of-form.ensures (sym c.is_call.ensures ∙ c.if-not-is_call.false) in
    call_none w.s.now c.args.at (early w) calls (ap (λ (i : ℕ). find_function i (early w)) (sym c.callee_at.ensures) ∙ c.in_default.ensures)

pub arguments_at-requires : goal.arguments_at-requires
arguments_at-requires c =
    (c.requires, is-calling c.args.self.now.s.now c.args.at _ c.ports_of-form.ensures (sym c.is_call.ensures ∙ c.if-not-is_call.false))

pub overflow_add-place : goal.overflow_add-place
overflow_add-place c = let h = function-fits c.args.self.now.s.now _ c.in-Some.ensures.0 in omega (arith, h)

pub bounds-self-place : goal.bounds-self-place
bounds-self-place c = let h = function-fits c.args.self.now.s.now _ c.in-Some.ensures.0 in omega (arith, h)

pub returns : goal.returns
returns c =
    let w = c.args.self.now in
    let s = w.s.now in
    let at = c.args.at in
    let p = c.in-Some.place in
    let calls : form_of (kind_at s at) ≡ Form.Call =
    is-calling s at _ c.ports_of-form.ensures (sym c.is_call.ensures ∙ c.if-not-is_call.false) in
    call-some s at (early w) calls p (ap (λ (i : ℕ). find_function i (early w)) (sym c.callee_at.ensures) ∙ c.in-Some.ensures.1)
    ∙ ap (λ (m : ℕ). need (eqb m (byte s (p + 2))) 10 at) (sym (ap (λ (r : Reads). r.count) c.arguments_at.ensures.0))
    ∙ ap (λ (m : ℕ). need (eqb c.arguments_at.result.count m) 10 at) (sym c.from.ensures)
