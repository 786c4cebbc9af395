use mathlib.Core.Path.{refl}
use native.Mathlib.Omega.{arith}
use Rattle.compiler.proofs.Head.{low, place, holds, input-count, inputs}
use Rattle.compiler.proofs.Texts.{wide_enough, placed-texts}
use Rattle.compiler.proofs.placed.place.Goals as goal

pub offset_bounds-starts-k : goal.offset_bounds-starts-k
offset_bounds-starts-k c = omega (arith, low c.args.chosen.table.now c.args.chosen.k c.requires.accepted.0)

pub bounds-starts-k : goal.bounds-starts-k
bounds-starts-k c = omega (arith, low c.args.chosen.table.now c.args.chosen.k c.requires.accepted.0)

pub overflow_add-starts : goal.overflow_add-starts
overflow_add-starts c = omega (arith, place c.requires.accepted.1, (holds c.requires.accepted.1).head)

pub bounds-table-starts : goal.bounds-table-starts
bounds-table-starts c = omega (arith, place c.requires.accepted.1, (holds c.requires.accepted.1).head)

pub place_all-requires : goal.place_all-requires
place_all-requires c =
    let (accepted, started, prepared) = c.requires.accepted in
    let measured = c.requires.measured.0 in
    let n = inputs started c.from-m.ensures in
    ((input-count started c.from-m.ensures).1, measured.few, wide_enough accepted measured c.survey.ensures n, refl, c.survey.ensures.size)

pub returns : goal.returns
returns c =
    let (accepted, started, prepared) = c.requires.accepted in
    placed-texts accepted c.requires.measured.0 c.survey.ensures (inputs started c.from-m.ensures) c.place_all.ensures.by_index
