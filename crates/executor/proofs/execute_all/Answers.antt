-- `executor::execute_all`, instruction by instruction: only here a result's place is by the version.
use Prim.Native.Nat.{◌+◌}
use native.Mathlib.Omega.{arith}
use Rattle.base.specs.Bytes.{byte}
use Rattle.executor.specs.Execution.{Executable}
use Rattle.executor.proofs.Loop.{start, head-there, ready, turned, left-is, done}
use Rattle.executor.proofs.execute_all.Goals as goal

pub loop-init : goal.loop-init
loop-init c = left-is (omega arith) (start _ _ _ _ _ c.requires)

pub locate-place-requires : goal.locate-place-requires
locate-place-requires c = head-there c.args.addressed c.loop.invariant (omega (arith, c.loop-test.true))

pub execute-extent-requires : goal.execute-extent-requires
execute-extent-requires c =
    let fits : let l = c.loop in let s = c.args.code.now in Executable (byte s l.at) (byte s (l.at + 1)) s c.locate-place.result.from c.locate-place.result.result l.work = ready c.args.addressed c.loop.invariant (omega (arith, c.loop-test.true)) c.locate-place.ensures.0 c.locate-place.ensures.1 in
    (omega (arith, c.locate-place.ensures.0), fits)

pub overflow_add-at : goal.overflow_add-at
overflow_add-at c =
    let fits : let l = c.loop in let s = c.args.code.now in Executable (byte s l.at) (byte s (l.at + 1)) s c.locate-place.result.from c.locate-place.result.result l.work = ready c.args.addressed c.loop.invariant (omega (arith, c.loop-test.true)) c.locate-place.ensures.0 c.locate-place.ensures.1 in
    omega (arith, fits.ready.fits, c.execute-extent.ensures.bytes, c.well_formed)

pub overflow_add-next : goal.overflow_add-next
overflow_add-next c =
    let fits : let l = c.loop in let s = c.args.code.now in Executable (byte s l.at) (byte s (l.at + 1)) s c.locate-place.result.from c.locate-place.result.result l.work = ready c.args.addressed c.loop.invariant (omega (arith, c.loop-test.true)) c.locate-place.ensures.0 c.locate-place.ensures.1 in
    omega (arith, fits.ready.room, c.execute-extent.ensures.given, c.loop.auto.work, c.well_formed)

pub loop-preserved : goal.loop-preserved
loop-preserved c =
    left-is (omega (arith, c.loop-test.true))
    (turned c.args.addressed c.loop.invariant (omega (arith, c.loop-test.true)) c.locate-place.ensures.0 c.locate-place.ensures.1 c.execute-extent.ensures)

pub returns : goal.returns
returns c = done _ _ _ _ _ _ _ c.loop.invariant (omega arith)
