-- `quetlapin::evaluate_sequential`: the refusals in their order, then the compiler and the runner.
use lib.Seq.{length-take-le}
use Rattle.std.proofs.Common.{refl, sym, arith}
use Rattle.std.proofs.lemmas.Result.{err_from_is_err_and}
use Rattle.bytecode.specs.declared.Version.TheVariants.{V1}
use Rattle.quetlapin.proofs.Choosing.{compilable-refused}
use Rattle.quetlapin.proofs.Compiling.{not_ready, ready, room-there, no-room, code_is, words_are, measured}
use Rattle.quetlapin.proofs.Evaluating.{meant, sized, refused-table, refused-compiled, refused-lent, completed}
use Rattle.quetlapin.proofs.sequential.evaluate_sequential.Goals as goal

pub returns-in_err-find-clause-answered : goal.returns-in_err-find-clause-answered
returns-in_err-find-clause-answered c =
    let p = err_from_is_err_and c.from_residual.result c.from_residual.ensures.1 in
    rw (p.1, p.2) (refused-table c.args.table.now c.args.id 1 c.args.arguments.now c.args.code.now c.args.work.now c.args.out.now (compilable-refused c.args.table.now c.args.id 1 _ _ c.in_err-find.ensures))

pub returns-in_err-find-clause-demand3 : goal.returns-in_err-find-clause-demand3
returns-in_err-find-clause-demand3 c = meant c.args.table.now c.args.id 1 c.args.arguments.now c.args.code.now c.args.work.now c.args.out.now _ _ _ _ (returns-in_err-find-clause-answered c)

pub returns-in_err-check_limits-clause-answered : goal.returns-in_err-check_limits-clause-answered
returns-in_err-check_limits-clause-answered c =
    let p = err_from_is_err_and c.from_residual-in_err-check_limits.result c.from_residual-in_err-check_limits.ensures.1 in
    rw (p.1, p.2) (refused-table c.args.table.now c.args.id 1 c.args.arguments.now c.args.code.now c.args.work.now c.args.out.now (not_ready _ _ _ c.in_ok-find.ensures _ _ c.in_err-check_limits.ensures))

pub returns-in_err-check_limits-clause-demand3 : goal.returns-in_err-check_limits-clause-demand3
returns-in_err-check_limits-clause-demand3 c = meant c.args.table.now c.args.id 1 c.args.arguments.now c.args.code.now c.args.work.now c.args.out.now _ _ _ _ (returns-in_err-check_limits-clause-answered c)

pub returns-in_err-check_room-clause-answered : goal.returns-in_err-check_room-clause-answered
returns-in_err-check_room-clause-answered c =
    let p = err_from_is_err_and c.from_residual-in_err-check_room.result c.from_residual-in_err-check_room.ensures.1 in
    rw (p.1, p.2) (refused-compiled c.args.table.now c.args.id 1 c.args.arguments.now c.args.code.now c.args.work.now c.args.out.now (no-room _ _ _ (ready _ _ _ c.in_ok-find.ensures _ c.in_ok-check_limits.ensures) c.args.code.now _ _ c.in_err-check_room.ensures))

pub returns-in_err-check_room-clause-demand3 : goal.returns-in_err-check_room-clause-demand3
returns-in_err-check_room-clause-demand3 c = meant c.args.table.now c.args.id 1 c.args.arguments.now c.args.code.now c.args.work.now c.args.out.now _ _ _ _ (returns-in_err-check_room-clause-answered c)

pub returns-in_err-check_lent-clause-answered : goal.returns-in_err-check_lent-clause-answered
returns-in_err-check_lent-clause-answered c =
    let r = ready _ _ _ c.in_ok-find.ensures _ c.in_ok-check_limits.ensures in
    let l = room-there c.find.new.found.sizes _ _ c.in_ok-check_room.ensures in
    let p = err_from_is_err_and c.from_residual-in_err-check_lent.result c.from_residual-in_err-check_lent.ensures.1 in
    rw (p.1, p.2) (refused-lent c.args.table.now c.args.id 1 c.args.arguments.now c.args.code.now c.args.work.now c.args.out.now (λ i. omega (arith, c.type_inv.table i)) V1 c.find.new.found.sizes _ _ _ (sized _ _ _ r) l c.in_err-check_lent.ensures)

pub returns-in_err-check_lent-clause-demand3 : goal.returns-in_err-check_lent-clause-demand3
returns-in_err-check_lent-clause-demand3 c = meant c.args.table.now c.args.id 1 c.args.arguments.now c.args.code.now c.args.work.now c.args.out.now _ _ _ _ (returns-in_err-check_lent-clause-answered c)

pub compile-requires-clause-measured : goal.compile-requires-clause-measured
compile-requires-clause-measured c =
    let r = ready _ _ _ c.in_ok-find.ensures _ c.in_ok-check_limits.ensures in
    let l = room-there c.find.new.found.sizes _ _ c.in_ok-check_room.ensures in
    let q = code_is _ _ _ r in
    (measured _ _ _ r, words_are _ _ _ r, r.few_words, omega (arith, q, l))

pub slice_bounds-run-end : goal.slice_bounds-run-end
slice_bounds-run-end c =
    let l = room-there c.find.new.found.sizes _ _ c.in_ok-check_room.ensures in
    omega (arith, l)

pub slice_bounds-run-end-2 : goal.slice_bounds-run-end-2
slice_bounds-run-end-2 c =
    let l = room-there c.find.new.found.sizes _ _ c.in_ok-check_room.ensures in
    sym (length-take-le _ _ (omega (arith, l)))

pub returns-clause-answered : goal.returns-clause-answered
returns-clause-answered c =
    let r = ready _ _ _ c.in_ok-find.ensures _ c.in_ok-check_limits.ensures in
    let l = room-there c.find.new.found.sizes _ _ c.in_ok-check_room.ensures in
    completed c.args.table.now c.args.id 1 c.args.arguments.now c.args.code.now c.args.work.now c.args.out.now (λ i. omega (arith, c.type_inv.table i)) V1 c.find.new.found.sizes _ _ _ (sized _ _ _ r) l _ c.in_ok-check_lent.ensures (λ i. omega (arith, c.type_inv.arguments i)) c.compile.ensures c.run.ensures.answered

pub returns-clause-demand3 : goal.returns-clause-demand3
returns-clause-demand3 c = meant c.args.table.now c.args.id 1 c.args.arguments.now c.args.code.now c.args.work.now c.args.out.now _ _ _ _ (returns-clause-answered c)
