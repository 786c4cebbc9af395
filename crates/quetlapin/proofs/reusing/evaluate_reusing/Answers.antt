-- `quetlapin::evaluate_reusing`: the refusals in their order, then the compiler and the runner.
use Rattle.std.proofs.Common.{refl, arith}
use Rattle.std.proofs.lemmas.Result.{err_from_is_err_and}
use Rattle.bytecode.specs.declared.Version.TheVariants.{V2}
use Rattle.quetlapin.proofs.Choosing.{compilable-refused}
use Rattle.quetlapin.proofs.Compiling.{few-there, too_many, sizes-low, placed-length, measured-placed}
use Rattle.quetlapin.proofs.Evaluating.{meant, sized-placed, refused-table, refused-compiled, refused-lent, completed}
use Rattle.quetlapin.proofs.reusing.evaluate_reusing.Goals as goal

pub returns-in_err-find-clause-answered : goal.returns-in_err-find-clause-answered
returns-in_err-find-clause-answered c =
    let p = err_from_is_err_and c.from_residual.result c.from_residual.ensures.1 in
    rw (p.1, p.2) (refused-table c.args.table.now c.args.id 2 c.args.arguments.now c.args.code.now c.args.work.now c.args.out.now (compilable-refused c.args.table.now c.args.id 2 _ _ c.in_err-find.ensures))

pub returns-in_err-find-clause-demand3 : goal.returns-in_err-find-clause-demand3
returns-in_err-find-clause-demand3 c = meant c.args.table.now c.args.id 2 c.args.arguments.now c.args.code.now c.args.work.now c.args.out.now _ _ _ _ (returns-in_err-find-clause-answered c)

pub returns-in_err-check_operations-clause-answered : goal.returns-in_err-check_operations-clause-answered
returns-in_err-check_operations-clause-answered c =
    let p = err_from_is_err_and c.from_residual-in_err-check_operations.result c.from_residual-in_err-check_operations.ensures.1 in
    rw (p.1, p.2) (refused-table c.args.table.now c.args.id 2 c.args.arguments.now c.args.code.now c.args.work.now c.args.out.now (too_many _ _ _ c.in_ok-find.ensures 2 V2 _ _ refl c.in_err-check_operations.ensures))

pub returns-in_err-check_operations-clause-demand3 : goal.returns-in_err-check_operations-clause-demand3
returns-in_err-check_operations-clause-demand3 c = meant c.args.table.now c.args.id 2 c.args.arguments.now c.args.code.now c.args.work.now c.args.out.now _ _ _ _ (returns-in_err-check_operations-clause-answered c)

pub returns-in_err-words-clause-answered : goal.returns-in_err-words-clause-answered
returns-in_err-words-clause-answered c =
    let p = err_from_is_err_and c.from_residual-in_err-words.result c.from_residual-in_err-words.ensures.1 in
    rw (p.1, p.2) (refused-compiled c.args.table.now c.args.id 2 c.args.arguments.now c.args.code.now c.args.work.now c.args.out.now (c.in_err-words.ensures c.args.id c.in_ok-find.ensures.named c.args.code.now refl))

pub returns-in_err-words-clause-demand3 : goal.returns-in_err-words-clause-demand3
returns-in_err-words-clause-demand3 c = meant c.args.table.now c.args.id 2 c.args.arguments.now c.args.code.now c.args.work.now c.args.out.now _ _ _ _ (returns-in_err-words-clause-answered c)

pub returns-in_err-check_lent-clause-answered : goal.returns-in_err-check_lent-clause-answered
returns-in_err-check_lent-clause-answered c =
    let f = c.in_ok-find.ensures in
    let few = few-there c.find.new.found.sizes _ c.in_ok-check_operations.ensures in
    let w = c.in_ok-words.ensures in
    let p = err_from_is_err_and c.from_residual-in_err-check_lent.result c.from_residual-in_err-check_lent.ensures.1 in
    rw (p.1, p.2) (refused-lent c.args.table.now c.args.id 2 c.args.arguments.now c.args.code.now c.args.work.now c.args.out.now (λ i. omega (arith, c.type_inv.table i)) V2 c.find.new.found.sizes _ _ _ (sized-placed _ _ _ f few w.1 w.2) w.3 c.in_err-check_lent.ensures)

pub returns-in_err-check_lent-clause-demand3 : goal.returns-in_err-check_lent-clause-demand3
returns-in_err-check_lent-clause-demand3 c = meant c.args.table.now c.args.id 2 c.args.arguments.now c.args.code.now c.args.work.now c.args.out.now _ _ _ _ (returns-in_err-check_lent-clause-answered c)

pub lay_out-requires : goal.lay_out-requires
lay_out-requires c = ((c.args.id, c.in_ok-find.ensures), few-there c.find.new.found.sizes _ c.in_ok-check_operations.ensures, refl)

pub compile_placed-requires-clause-accepted : goal.compile_placed-requires-clause-accepted
compile_placed-requires-clause-accepted c = let f = c.in_ok-find.ensures in (f.accepted, f.places, c.in_ok-words.ensures.0)

pub compile_placed-requires-clause-measured : goal.compile_placed-requires-clause-measured
compile_placed-requires-clause-measured c =
    let f = c.in_ok-find.ensures in
    let few = few-there c.find.new.found.sizes _ c.in_ok-check_operations.ensures in
    let w = c.in_ok-words.ensures in
    let q = placed-length _ _ _ f few in
    (measured-placed _ _ _ f few, w.2, omega (arith, q, w.3))

pub placed_length-requires : goal.placed_length-requires
placed_length-requires c = sizes-low _ _ _ c.in_ok-find.ensures (few-there c.find.new.found.sizes _ c.in_ok-check_operations.ensures)

pub returns-clause-answered : goal.returns-clause-answered
returns-clause-answered c =
    let f = c.in_ok-find.ensures in
    let few = few-there c.find.new.found.sizes _ c.in_ok-check_operations.ensures in
    let w = c.in_ok-words.ensures in
    completed c.args.table.now c.args.id 2 c.args.arguments.now c.args.code.now c.args.work.now c.args.out.now (λ i. omega (arith, c.type_inv.table i)) V2 c.find.new.found.sizes _ _ _ (sized-placed _ _ _ f few w.1 w.2) w.3 _ c.in_ok-check_lent.ensures (λ i. omega (arith, c.type_inv.arguments i)) c.compile_placed.ensures (rw c.placed_length.ensures at c.run.ensures.answered)

pub returns-clause-demand3 : goal.returns-clause-demand3
returns-clause-demand3 c = meant c.args.table.now c.args.id 2 c.args.arguments.now c.args.code.now c.args.work.now c.args.out.now _ _ _ _ (returns-clause-answered c)
