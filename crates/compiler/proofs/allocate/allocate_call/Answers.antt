use Prim.Native.Nat.{◌+◌, ◌-◌, ◌*◌}
use mathlib.Core.Path.{◌≡◌, refl, ap, ◌∙◌}
use native.Mathlib.Omega.{arith}
use Rattle.base.proofs.Stores.{run-start, run_step, run-done, none_left}
use Rattle.compiler.specs.Locating.{rebased_code, rebased_codes}
use Rattle.compiler.proofs.Filling.{rebase-next}
use Rattle.compiler.proofs.allocate.allocate_call.Goals as goal

pub loop-q-init : goal.loop-q-init
loop-q-init c =
    let a = c.args in
    let z : a.count - 0 ≡ a.count = omega arith in
    let y : 8 * a.g + 0 ≡ 8 * a.g = omega arith in
    run-start (omega arith) (rw (z, y))

pub rebase-requires : goal.rebase-requires
rebase-requires c =
    let (g, count, locations, i, d) = c.requires in (locations, omega arith, omega (arith, c.from-e.ensures))

pub loop-q-preserved : goal.loop-q-preserved
loop-q-preserved c =
    let a = c.args in
    let e = c.rebase.ensures ∙ ap (rebased_code a.layout.now.locations a.cell a.n a.d) c.from-e.ensures in
    run_step c.loop-q.invariant (rebase-next a.layout.now.outs a.layout.now.locations a.cell a.n a.d (8 * a.g) c.loop-q-test.true e) (omega arith)

pub returns : goal.returns
unfolding rebased_codes
returns c =
    let a = c.args in
    let l = c.loop-q in
    run-done l.invariant (none_left (rebased_codes a.layout.now.outs a.layout.now.locations a.cell a.n a.d (8 * a.g + l.q)) c.loop-q-test.false refl)
