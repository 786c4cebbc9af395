use Prim.Native.Nat.{suc, ◌+◌}
use mathlib.Core.Path.{◌≡◌, ◌∙◌}
use native.Mathlib.Omega.{arith}
use Rattle.compiler.proofs.Head.{low, place, holds, input-count}
use Rattle.compiler.proofs.Inputs.{by-words, by-names, prepared}
use Rattle.compiler.specs.Locating.{AllocatedTo}
use Rattle.compiler.proofs.prepare.Goals as goal
use Rattle.compiler.proofs.prepare.Goals.{in-V1, in-V2}

pub offset_bounds-starts-k : goal.offset_bounds-starts-k
offset_bounds-starts-k c = omega (arith, low c.args.table.now c.args.k c.requires.accepted.0)

pub bounds-starts-k : goal.bounds-starts-k
bounds-starts-k c = omega (arith, low c.args.table.now c.args.k c.requires.accepted.0)

pub overflow_add-p : goal.overflow_add-p
overflow_add-p c = omega (arith, place c.requires.accepted.1, (holds c.requires.accepted.1).head)

pub bounds-table-p : goal.bounds-table-p
bounds-table-p c = omega (arith, place c.requires.accepted.1, (holds c.requires.accepted.1).head)

pub allocate-requires : goal.allocate-requires
allocate-requires c = let z : c.args.k + 1 ≡ suc c.args.k = omega arith in rw z (record { accepted = c.requires.accepted })

pub overflow_add-k : goal.overflow_add-k
overflow_add-k c = omega (arith, low c.args.table.now c.args.k c.requires.accepted.0)

pub overflow_add-p-in-V1 : goal.overflow_add-p-in-V1
overflow_add-p-in-V1 c = omega (arith, place c.requires.accepted.1, (holds c.requires.accepted.1).head)

pub input_places-layout-requires : goal.input_places-layout-requires
input_places-layout-requires c =
    let b = c.requires.accepted.1 in
    let (e, l) = input-count b c.from-n.ensures in
    let p = place b in
    let h = (holds b).inputs in
    (omega (arith, e, p, h), l)

pub input_names-layout-requires : goal.input_names-layout-requires
input_names-layout-requires c = (input-count c.requires.accepted.1 c.from-n.ensures).1

pub returns : goal.returns
returns c =
    let (accepted, started, held) = c.requires.accepted in
    let z : suc c.args.k ≡ c.args.k + 1 = omega arith in
    let all : AllocatedTo c.args.version c.args.table.now (suc c.args.k) c.allocate.new.layout c.allocate.result = rw z c.allocate.ensures in
    let (n, l) = input-count started c.from-n.ensures in
    elim c.match-version.branch [
      | in-V1 w ↦ prepared w.in-V1.is all (by-words c.args.table.now c.args.k n (place started) (w.layout-is ∙ w.input_places-layout.ensures))
      | in-V2 w ↦ prepared w.in-V2.is all (by-names c.args.table.now c.args.k n (w.layout-is ∙ w.input_names-layout.ensures))
    ]
