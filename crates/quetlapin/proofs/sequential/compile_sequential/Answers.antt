use Rattle.std.proofs.Common.{◌≡◌, refl, sym, ap, ◌∙◌, arith}
use Rattle.std.proofs.lemmas.Result.{err_from_is_err_and}
use Rattle.base.specs.Outcome.{ok}
use Rattle.bytecode.specs.declared.Version.TheVariants.{V1}
use Rattle.quetlapin.specs.Compiling.{answer_of, code_after}
use Rattle.quetlapin.proofs.Choosing.{compilable-refused}
use Rattle.quetlapin.proofs.Compiling.{refused, written, not_ready, ready, room-there, no-room, code_is, words_are, measured}
use Rattle.quetlapin.proofs.sequential.compile_sequential.Goals as goal

pub returns-in_err-find-clause-value : goal.returns-in_err-find-clause-value
returns-in_err-find-clause-value c =
    let p = err_from_is_err_and c.from_residual.result c.from_residual.ensures.1 in
    rw (p.1, p.2) (sym (ap answer_of (refused c.args.table.now c.args.id 1 c.args.code.now _ _ (compilable-refused c.args.table.now c.args.id 1 _ _ c.in_err-find.ensures))))

pub returns-in_err-find-clause-code_after : goal.returns-in_err-find-clause-code_after
returns-in_err-find-clause-code_after c = sym (ap (code_after c.args.code.now) (refused c.args.table.now c.args.id 1 c.args.code.now _ _ (compilable-refused c.args.table.now c.args.id 1 _ _ c.in_err-find.ensures)))

pub returns-in_err-check_limits-clause-value : goal.returns-in_err-check_limits-clause-value
returns-in_err-check_limits-clause-value c =
    let p = err_from_is_err_and c.from_residual-in_err-check_limits.result c.from_residual-in_err-check_limits.ensures.1 in
    rw (p.1, p.2) (sym (ap answer_of (refused c.args.table.now c.args.id 1 c.args.code.now _ _ (not_ready _ _ _ c.in_ok-find.ensures _ _ c.in_err-check_limits.ensures))))

pub returns-in_err-check_limits-clause-code_after : goal.returns-in_err-check_limits-clause-code_after
returns-in_err-check_limits-clause-code_after c = sym (ap (code_after c.args.code.now) (refused c.args.table.now c.args.id 1 c.args.code.now _ _ (not_ready _ _ _ c.in_ok-find.ensures _ _ c.in_err-check_limits.ensures)))

pub returns-in_err-check_room-clause-value : goal.returns-in_err-check_room-clause-value
returns-in_err-check_room-clause-value c =
    let p = err_from_is_err_and c.from_residual-in_err-check_room.result c.from_residual-in_err-check_room.ensures.1 in
    rw (p.1, p.2) (sym (ap answer_of (no-room _ _ _ (ready _ _ _ c.in_ok-find.ensures _ c.in_ok-check_limits.ensures) c.args.code.now _ _ c.in_err-check_room.ensures)))

pub returns-in_err-check_room-clause-code_after : goal.returns-in_err-check_room-clause-code_after
returns-in_err-check_room-clause-code_after c = sym (ap (code_after c.args.code.now) (no-room _ _ _ (ready _ _ _ c.in_ok-find.ensures _ c.in_ok-check_limits.ensures) c.args.code.now _ _ c.in_err-check_room.ensures))

pub compile-requires-clause-measured : goal.compile-requires-clause-measured
compile-requires-clause-measured c =
    let r = ready _ _ _ c.in_ok-find.ensures _ c.in_ok-check_limits.ensures in
    let l = room-there c.find.new.found.sizes _ _ c.in_ok-check_room.ensures in
    let q = code_is _ _ _ r in
    (measured _ _ _ r, words_are _ _ _ r, r.few_words, omega (arith, q, l))

pub returns-clause-value : goal.returns-clause-value
returns-clause-value c =
    let r = ready _ _ _ c.in_ok-find.ensures _ c.in_ok-check_limits.ensures in
    let fits = room-there c.find.new.found.sizes _ _ c.in_ok-check_room.ensures in
    let q = code_is _ _ _ r in
    ap ok q ∙ sym (ap answer_of (written c.args.table.now c.args.id 1 c.args.code.now V1 _ r.compilable (omega (arith, q, fits))))

pub returns-clause-code_after : goal.returns-clause-code_after
returns-clause-code_after c =
    let r = ready _ _ _ c.in_ok-find.ensures _ c.in_ok-check_limits.ensures in
    let room = room-there c.find.new.found.sizes _ _ c.in_ok-check_room.ensures in
    let q = code_is _ _ _ r in
    c.compile.ensures ∙ sym (ap (code_after c.args.code.now) (written c.args.table.now c.args.id 1 c.args.code.now V1 _ r.compilable (omega (arith, q, room))))
