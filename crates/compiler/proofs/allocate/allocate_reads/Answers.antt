use Prim.Native.Nat.{ℕ, ◌+◌, ◌-◌, ◌*◌}
use mathlib.Core.Path.{◌≡◌, refl, ap, ◌∙◌}
use mathlib.Core.List.{◌∷◌}
use native.Mathlib.Omega.{arith}
use lib.ListN.{get_or}
use Rattle.base.proofs.Stores.{run-start, run_step, run-done, none_left}
use Rattle.compiler.specs.Locating.{port_code, read_codes}
use Rattle.compiler.proofs.Filling.{reads-next}
use Rattle.compiler.proofs.allocate.allocate_reads.Goals as goal

pub loop-j-init : goal.loop-j-init
loop-j-init c =
    let a = c.args in
    let z : a.n - 0 ≡ a.n = omega arith in
    let y : 16 * a.i + 0 ≡ 16 * a.i = omega arith in
    let x : a.first + 3 * 0 ≡ a.first = omega arith in
    run-start (omega arith) (rw (z, y, x))

pub loop-j-preserved : goal.loop-j-preserved
loop-j-preserved c =
    let a = c.args in
    let l = c.loop-j in
    let e =
    c.location_of.ensures ∙ ap (λ (v : ℕ). port_code a.allocated.now v c.from-port.result) c.from-v.ensures
    ∙ ap (port_code a.allocated.now (get_or a.targets.now (16 * a.i + l.j) 0)) c.from-port.ensures in
    let q = a.first + 3 * l.j in
    let z : q + 3 ≡ a.first + 3 * (l.j + 1) = omega arith in
    run_step l.invariant
    (reads-next a.table.now a.targets.now a.allocated.now (16 * a.i) q c.loop-j-test.true e
    ∙ ap (λ (x : ℕ). c.location_of.result ∷ read_codes a.table.now a.targets.now a.allocated.now (16 * a.i + (l.j + 1)) (a.n - (l.j + 1)) x) z)
    (omega arith)

pub returns : goal.returns
unfolding read_codes
returns c =
    let a = c.args in
    let l = c.loop-j in
    run-done l.invariant (none_left (λ m. read_codes a.table.now a.targets.now a.allocated.now (16 * a.i + l.j) m (a.first + 3 * l.j)) c.loop-j-test.false refl)
