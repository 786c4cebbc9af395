-- `runner::row::operands_good`: what is left decides.
use Prim.Native.Nat.{ℕ, ◌+◌, ◌-◌, ◌*◌}
use mathlib.Core.Path.{◌≡◌, refl, ap, ap₂, sym, ◌∙◌}
use mathlib.Core.Bool.{Bool, not, ◌&&◌}
use native.Mathlib.Omega.{arith}
use lib.Dec.{eqb}
use Rattle.ports.specs.Ports.{types}
use Rattle.bytecode.specs.Code.{addresses}
use Rattle.runner.specs.Checks.{operands_good}
use Rattle.runner.proofs.Checking.{good-next, good-none}
use Rattle.runner.proofs.row.operands_good.Goals as goal

pub loop-i-init : goal.loop-i-init
loop-i-init g c =
    let a = c.args in
    let n : a.count - 0 ≡ a.count = omega arith in
    let f : a.from + 2 * 0 ≡ a.from = omega arith in
    rw (n, f) refl

pub returns-then-not-operand_good : goal.returns-then-not-operand_good
returns-then-not-operand_good g c =
    let b = not (eqb g.row.ADDRESSED 0) in
    let a = c.args in
    let l = c.loop-i in
    let e = sym c.operand_good.ensures ∙ c.if-not-operand_good.true in
    let q = good-next b a.marks.now a.high a.s.now (a.count - l.i) (a.from + 2 * l.i) l.t a.rest (omega arith) in
    sym (sym l.invariant ∙ q ∙ ap (λ (x : Bool). x && operands_good b a.marks.now a.high (types (a.count - l.i - 1) a.rest a.rest) (addresses (a.count - l.i - 1) a.s.now (a.from + 2 * l.i + 2))) e)

pub loop-i-preserved : goal.loop-i-preserved
loop-i-preserved g c =
    let b = not (eqb g.row.ADDRESSED 0) in
    let a = c.args in
    let l = c.loop-i in
    let e = sym c.operand_good.ensures ∙ c.if-not-operand_good.false in
    let q = good-next b a.marks.now a.high a.s.now (a.count - l.i) (a.from + 2 * l.i) l.t a.rest (omega arith) in
    let n : a.count - (l.i + 1) ≡ a.count - l.i - 1 = omega arith in
    let f : a.from + 2 * (l.i + 1) ≡ a.from + 2 * l.i + 2 = omega arith in
    ap₂ (λ (k p : ℕ). operands_good b a.marks.now a.high (types k a.rest a.rest) (addresses k a.s.now p)) n f
    ∙ sym (ap (λ (x : Bool). x && operands_good b a.marks.now a.high (types (a.count - l.i - 1) a.rest a.rest) (addresses (a.count - l.i - 1) a.s.now (a.from + 2 * l.i + 2))) e)
    ∙ sym q
    ∙ l.invariant

pub returns : goal.returns
returns g c =
    let b = not (eqb g.row.ADDRESSED 0) in
    let a = c.args in
    let l = c.loop-i in
    sym (sym l.invariant ∙ good-none b a.marks.now a.high a.s.now (a.count - l.i) (a.from + 2 * l.i) l.t a.rest (omega arith))
