-- `runner::run_checked`: the arguments, the instructions of the header's version, the outputs.
use mathlib.Core.Path.{◌≡◌, ap, ◌∙◌}
use native.Mathlib.Omega.{arith}
use lib.ListN.{length}
use Rattle.executor.specs.Instructions.{version_by}
use Rattle.runner.proofs.Decoding.{Decoded, decoded, version-by, copied, instructions-ready, outputs-ready, length-after, length-copy, ran-memory, ran-outputs}
use Rattle.runner.proofs.run_checked.Goals as goal

pub overflow_sub-at : goal.overflow_sub-at
overflow_sub-at c =
    let list : Decoded c.args.code.now c.args.counts = decoded _ _ c.requires.formed in
    omega (arith, list.fits)

pub is_addressed-addressed-requires : goal.is_addressed-addressed-requires
is_addressed-addressed-requires c =
    let list : Decoded c.args.code.now c.args.counts = decoded _ _ c.requires.formed in
    list.long

pub copy-requires : goal.copy-requires
copy-requires c =
    let list : Decoded c.args.code.now c.args.counts = decoded _ _ c.requires.formed in
    omega (arith, c.requires.arguments-all, list.first, c.requires.work-room)

pub execute_all-requires : goal.execute_all-requires
execute_all-requires c =
    let list : Decoded c.args.code.now c.args.counts = decoded _ _ c.requires.formed in
    let version-is : version_by c.is_addressed-addressed.result ≡ list.version = version-by c.args.code.now list.version list.version-is c.is_addressed-addressed.ensures in
    let a = c.args in
    let h = c.requires in
    let l = length-copy a.work.now a.arguments.now c.copy.ensures in
    instructions-ready _ _ _ list (omega (arith, h.work-room, l)) version-is
    (copied (version_by c.is_addressed-addressed.result) a.work.now a.arguments.now c.copy.ensures h.arguments-all (omega (arith, list.first, h.work-room)) h.allowed
    (λ i. omega (arith, c.type_inv.arguments i)))

pub copy_outputs-requires : goal.copy_outputs-requires
copy_outputs-requires c =
    let list : Decoded c.args.code.now c.args.counts = decoded _ _ c.requires.formed in
    let l = ap length c.execute_all.ensures ∙ length-after _ _ ∙ length-copy c.args.work.now c.args.arguments.now c.copy.ensures in
    outputs-ready _ _ _ _ list (omega (arith, c.requires.work-room, l)) c.requires.out-room

pub returns : goal.returns
returns c =
    let list : Decoded c.args.code.now c.args.counts = decoded _ _ c.requires.formed in
    let version-is : version_by c.is_addressed-addressed.result ≡ list.version = version-by c.args.code.now list.version list.version-is c.is_addressed-addressed.ensures in
    let a = c.args in
    let d = list in
    let m = ran-memory a.code.now a.arguments.now a.work.now a.out.now d version-is c.copy.ensures c.execute_all.ensures in
    (m, ran-outputs a.code.now a.arguments.now a.work.now a.out.now d version-is c.copy.ensures c.execute_all.ensures c.copy_outputs.ensures)
