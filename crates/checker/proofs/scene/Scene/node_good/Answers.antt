use Rattle.std.proofs.Common.{ℕ, ◌≡◌, ◌+◌, ap, sym, subst, ◌∙◌, arith}
use Rattle.std.proofs.Math.Option.{some}
use Rattle.ports.specs.declared.Form.{Form}
use Rattle.ports.specs.Ports.{form_of, own, types}
use Rattle.base.specs.Bytes.{byte, u16}
use Rattle.base.specs.Outcome.{Outcome, ok}
use Rattle.graph.specs.Judge.{call_ok}
use Rattle.graph.specs.Look.{find_function}
use Rattle.graph.specs.Read.{references}
use Rattle.reader.specs.declared.Reads.{Reads}
use Rattle.reader.specs.Layout.{kind_at, node_at, inputs_at, function_at}
use Rattle.reader.specs.Records.{operands_at}
use Rattle.reader.proofs.Passed.{function-holds, form-is}
use Rattle.checker.specs.Answers.{node_checked, references_checked}
use Rattle.checker.specs.Scenes.{early}
use Rattle.checker.proofs.Slotting.{held, reads_row}
use Rattle.checker.proofs.Wiring.{bare-row, references-node, call-found, call-count, call-node}
use Rattle.checker.proofs.scene.Scene.node_good.Goals as goal

pub returns-in_default : goal.returns-in_default
returns-in_default c =
    let w = c.args.self.now in
    sym
    (ap (λ (p : ℕ). node_checked w.s.now (early w) w.head.place (node_at w.s.now p)) (sym c.node-at.ensures.place)
    ∙ bare-row w.s.now (early w) w.head.place c.node-at.result c.ports_of-row.result c.ports_of-row.ensures c.in_default.not-References c.in_default.not-Call)

-- ---- operands

pub references_good-requires : goal.references_good-requires
references_good-requires c =
    let h = held c.args.self.now in
    let r = c.references_at in
    let o = r.ensures.1 in
    (tt, o.fits, o.few, omega (arith, c.args.self.now.small, c.requires.1), reads_row h c.args.targets.now c.requires.0 c.args.i c.node-at.result c.requires.1 c.node-at.ensures.place r.result o)

pub returns-in-References : goal.returns-in-References
returns-in-References c =
    let w = c.args.self.now in
    let s = w.s.now in
    let at = c.node-at.result in
    let row = c.ports_of-row.result in
    let check : Reads → ℕ → ℕ → Outcome (Unit {0}) =
    λ m x y. references_checked s (early w) w.head.place (types m.count x y) (references m.count s m.first) in
    c.references_good.ensures
    ∙ ap (λ (m : Reads). check m c.own.result c.own-in-References.result) c.references_at.ensures.0
    ∙ ap (λ (x : ℕ). check (operands_at at row.operands) x c.own-in-References.result) c.own.ensures
    ∙ ap (λ (y : ℕ). check (operands_at at row.operands) (own (byte s (at + 3)) row.first) y) c.own-in-References.ensures
    ∙ sym (references-node s (early w) w.head.place at row c.ports_of-row.ensures (form-is s at row c.ports_of-row.ensures _ c.in-References.is))
    ∙ ap (λ (p : ℕ). node_checked s (early w) w.head.place (node_at s p)) c.node-at.ensures.place

-- ---- arguments

pub returns-in_default-earlier : goal.returns-in_default-earlier
returns-in_default-earlier c =
    let w = c.args.self.now in
    let s = w.s.now in
    let at = c.node-at.result in
    let calls : form_of (kind_at s at) ≡ Form.Call = form-is s at c.ports_of-row.result c.ports_of-row.ensures _ c.in-Call.is in
    let good = subst (λ (p : ℕ). call_ok (early w) p (node_at s p).payload ≡ ok tt) (sym c.node-at.ensures.place) c.requires.2 in
    absurd
    (call-found s (early w) w.head.place at calls good
    (ap (λ (i : ℕ). find_function i (early w)) (sym c.callee_at.ensures) ∙ c.in_default-earlier.ensures))

pub references_good-requires-in-Call : goal.references_good-requires-in-Call
references_good-requires-in-Call c =
    let w = c.args.self.now in
    let s = w.s.now in
    let at = c.node-at.result in
    let calls : form_of (kind_at s at) ≡ Form.Call = form-is s at c.ports_of-row.result c.ports_of-row.ensures _ c.in-Call.is in
    let good = subst (λ (p : ℕ). call_ok (early w) p (node_at s p).payload ≡ ok tt) (sym c.node-at.ensures.place) c.requires.2 in
    let callee : find_function (u16 s (at + 4)) (early w) ≡ some (function_at s c.in-Some.place) =
    ap (λ (i : ℕ). find_function i (early w)) (sym c.callee_at.ensures) ∙ c.in-Some.ensures.1 in
    let inputs = (function-holds s c.in-Some.place c.in-Some.ensures.0).inputs in
    let same = call-count s (early w) w.head.place at calls good c.in-Some.place callee in
    let r = c.arguments_at-arguments in
    let o = r.ensures.1 in
    let count : r.result.count ≡ byte s (at + 4 + 2) = ap (λ (m : Reads). m.count) r.ensures.0 in
    let h = held w in (
      omega (arith, inputs, same, count),
      o.fits,
      o.few,
      omega (arith, c.args.self.now.small, c.requires.1),
      reads_row h c.args.targets.now c.requires.0 c.args.i at c.requires.1 c.node-at.ensures.place r.result o,
    )

pub returns-in-Some : goal.returns-in-Some
returns-in-Some c =
    let w = c.args.self.now in
    let s = w.s.now in
    let at = c.node-at.result in
    let p = c.in-Some.place in
    let calls : form_of (kind_at s at) ≡ Form.Call = form-is s at c.ports_of-row.result c.ports_of-row.ensures _ c.in-Call.is in
    let good = subst (λ (p : ℕ). call_ok (early w) p (node_at s p).payload ≡ ok tt) (sym c.node-at.ensures.place) c.requires.2 in
    let callee : find_function (u16 s (at + 4)) (early w) ≡ some (function_at s p) =
    ap (λ (i : ℕ). find_function i (early w)) (sym c.callee_at.ensures) ∙ c.in-Some.ensures.1 in
    c.references_good-in-Call.ensures
    ∙ ap (λ (m : Reads). references_checked s (early w) w.head.place (inputs_at m.count s (p + 6)) (references m.count s m.first)) c.arguments_at-arguments.ensures.0
    ∙ sym (call-node s (early w) w.head.place at calls good p callee)
    ∙ ap (λ (p : ℕ). node_checked s (early w) w.head.place (node_at s p)) c.node-at.ensures.place
