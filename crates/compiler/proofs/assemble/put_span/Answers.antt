use Prim.Native.Nat.{◌+◌, ◌*◌}
use mathlib.Core.Path.{ap, ◌∙◌}
use native.Mathlib.Omega.{arith}
use lib.Seq.{sets}
use Rattle.base.proofs.Stores.{run_more}
use Rattle.base.specs.Bytes.{all_bytes, bytes_of}
use Rattle.compiler.proofs.Filling.{span-next}
use Rattle.compiler.proofs.Ending.{address-bytes}
use Rattle.compiler.proofs.assemble.put_span.Goals as goal

pub loop-j-preserved : goal.loop-j-preserved
loop-j-preserved c =
    let b = c.args in
    let h = c.loop-j in
    let x = b.a + h.j in
    let e = c.put16.ensures ∙ ap (sets h.code (b.at + 2 * h.j)) (address-bytes x) in
    run_more h.invariant (bytes_of 2 x) (ap (all_bytes 2) (span-next b.a c.loop-j-test.true)) e (omega arith)
