use Rattle.std.proofs.Common.{ℕ, ◌≡◌, ◌+◌, ◌-◌, ◌*◌, ap, sym, ◌∙◌, arith}
use Rattle.base.specs.Bytes.{byte}
use Rattle.reader.specs.Layout.{outputs_at, function_at}
use Rattle.checker.specs.Answers.{outputs_checked}
use Rattle.checker.specs.Scenes.{early}
use Rattle.checker.proofs.Whole.{told}
use Rattle.checker.proofs.Wiring.{lost, mistyped, welltyped, outputs-fault, outputs-on}
use Rattle.checker.proofs.scene.Scene.outputs_good.Goals as goal

pub loop-i-init : goal.loop-i-init
unfolding function_at
loop-i-init c =
    let w = c.args.self.now in
    let s = w.s.now in
    let count : byte s (w.head.place + 3) ≡ c.from-i-end.result - 0 = omega (arith, c.from-i-end.ensures) in
    let begin : w.head.place + 6 + byte s (w.head.place + 2) ≡ w.head.place + 6 + c.from.result + 0 = omega (arith, c.from.ensures) in
    ap (λ (n : ℕ). outputs_checked s (early w) w.head.place (outputs_at n s (w.head.place + 6 + byte s (w.head.place + 2)))) count
    ∙ ap (λ (p : ℕ). outputs_checked s (early w) w.head.place (outputs_at (c.from-i-end.result - 0) s p)) begin

pub returns-in_default : goal.returns-in_default
returns-in_default c =
    let w = c.args.self.now in
    let at = w.head.place + 6 + c.from.result + 4 * c.loop-i.i in
    told c.at.ensures
    ∙ sym
    (c.loop-i.invariant
    ∙ outputs-fault w.s.now (early w) w.head.place (c.from-i-end.result - c.loop-i.i) at 11 (at + 1) (omega (arith, c.loop-i-test.true))
    (lost w.s.now (early w) w.head.place (at + 1) (byte w.s.now at) (sym c.in_default.ensures)))

pub returns-then-ty-self : goal.returns-then-ty-self
returns-then-ty-self c =
    let w = c.args.self.now in
    let at = w.head.place + 6 + c.from.result + 4 * c.loop-i.i in
    told c.at-then-ty-self.ensures
    ∙ sym
    (c.loop-i.invariant
    ∙ outputs-fault w.s.now (early w) w.head.place (c.from-i-end.result - c.loop-i.i) at 12 (at + 1) (omega (arith, c.loop-i-test.true))
    (mistyped w.s.now (early w) w.head.place (at + 1) c.in-Some.ty (sym c.in-Some.ensures) (byte w.s.now at) c.if-ty-self.true))

pub loop-i-preserved : goal.loop-i-preserved
loop-i-preserved c =
    let w = c.args.self.now in
    let s = w.s.now in
    let n = c.from-i-end.result in
    let i = c.loop-i.i in
    let begin = w.head.place + 6 + c.from.result in
    let at = begin + 4 * i in
    let left : n - i - 1 ≡ n - (i + 1) = omega arith in
    let next : at + 4 ≡ begin + 4 * (i + 1) = omega arith in
    c.loop-i.invariant
    ∙ outputs-on s (early w) w.head.place (n - i) at (omega (arith, c.loop-i-test.true))
    (welltyped s (early w) w.head.place (at + 1) c.in-Some.ty (sym c.in-Some.ensures) (byte s at) c.if-ty-self.false)
    ∙ ap (λ (m : ℕ). outputs_checked s (early w) w.head.place (outputs_at m s (at + 4))) left
    ∙ ap (λ (p : ℕ). outputs_checked s (early w) w.head.place (outputs_at (n - (i + 1)) s p)) next
