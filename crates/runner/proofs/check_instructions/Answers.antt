-- `runner::check_instructions`: what is left decides.
use Prim.Native.Nat.{ℕ, ◌+◌, ◌-◌}
use mathlib.Core.Path.{◌≡◌, refl, ap, ◌∙◌}
use mathlib.Core.Bool.{not}
use native.Mathlib.Omega.{arith}
use lib.Dec.{eqb}
use Rattle.ports.specs.Kinds.{kind_of}
use Rattle.ports.specs.Ports.{ports_of}
use Rattle.ports.proofs.Laws.{row_of}
use Rattle.runner.proofs.Passing.{no-head, kind-high, start, stopped, turned, too_many, ended}
use Rattle.runner.proofs.check_instructions.Goals as goal

pub loop-init : goal.loop-init
loop-init g c =
    let a = c.args in
    let n : a.count - 0 ≡ a.count = omega arith in
    rw n (start (not (eqb g.row.ADDRESSED 0)) a.s.now a.count a.first a.marks.now c.requires)

pub returns-then-s-operands_from : goal.returns-then-s-operands_from
returns-then-s-operands_from g c =
    let b = not (eqb g.row.ADDRESSED 0) in
    let l = c.loop in
    stopped
    ((turned b l.invariant (omega (arith, c.loop-test.true))
    (no-head b c.args.s.now l.cursor.at l.cursor.result l.marks l.marks (omega (arith, c.if-s-operands_from.true, c.operands_from.ensures)))).refused refl)

pub returns-then-kind-ge25 : goal.returns-then-kind-ge25
returns-then-kind-ge25 g c =
    let b = not (eqb g.row.ADDRESSED 0) in
    let l = c.loop in
    stopped
    ((turned b l.invariant (omega (arith, c.loop-test.true))
    (kind-high b c.args.s.now l.cursor.at l.cursor.result l.marks l.marks (omega (arith, c.if-kind-ge25.true, c.from-kind.ensures)))).refused refl)

pub check_instruction-requires : goal.check_instruction-requires
check_instruction-requires g c =
    let i = c.loop.invariant in
    (omega (arith, c.if-s-operands_from.false, c.operands_from.ensures), omega (arith, i.small, i.few), row_of c.from-kind.result ∙ ap (λ (k : ℕ). ports_of (kind_of k)) c.from-kind.ensures)

pub returns-in_err-cursor : goal.returns-in_err-cursor
returns-in_err-cursor g c =
    let t = turned (not (eqb g.row.ADDRESSED 0)) c.loop.invariant (omega (arith, c.loop-test.true)) c.check_instruction.ensures in
    rw c.from_residual.ensures (stopped (t.refused c.in_err-cursor.was))

pub loop-preserved : goal.loop-preserved
loop-preserved g c =
    let t = turned (not (eqb g.row.ADDRESSED 0)) c.loop.invariant (omega (arith, c.loop-test.true)) c.check_instruction.ensures in
    let n : c.args.count - (c.loop.counter + 1) ≡ c.args.count - c.loop.counter - 1 = omega arith in
    rw n (t.passed _ c.in_ok-cursor.was)

pub returns-then-cursor-gt-WORD_LIMIT : goal.returns-then-cursor-gt-WORD_LIMIT
returns-then-cursor-gt-WORD_LIMIT g c =
    stopped (too_many (not (eqb g.row.ADDRESSED 0)) c.loop.invariant (omega (arith, c.loop-test.false)) c.if-cursor-gt-WORD_LIMIT.true)

pub returns : goal.returns
returns g c = ended (not (eqb g.row.ADDRESSED 0)) c.loop.invariant (omega (arith, c.loop-test.false)) c.if-cursor-gt-WORD_LIMIT.false
