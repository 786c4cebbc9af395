use Rattle.std.proofs.Common.{◌≡◌, refl, sym, ap, ◌∙◌, arith}
use Rattle.std.proofs.lemmas.Result.{err_from_is_err_and}
use Rattle.base.specs.Outcome.{ok}
use Rattle.bytecode.specs.declared.Version.TheVariants.{V2}
use Rattle.quetlapin.specs.Compiling.{answer_of, code_after}
use Rattle.quetlapin.proofs.Choosing.{compilable-refused, within-placed}
use Rattle.quetlapin.proofs.Compiling.{refused, written, few-there, too_many, sizes-low, placed-length, measured-placed}
use Rattle.quetlapin.proofs.reusing.compile_reusing.Goals as goal

pub returns-in_err-find-clause-value : goal.returns-in_err-find-clause-value
returns-in_err-find-clause-value c =
    let p = err_from_is_err_and c.from_residual.result c.from_residual.ensures.1 in
    rw (p.1, p.2) (sym (ap answer_of (refused c.args.table.now c.args.id 2 c.args.code.now _ _ (compilable-refused c.args.table.now c.args.id 2 _ _ c.in_err-find.ensures))))

pub returns-in_err-find-clause-code_after : goal.returns-in_err-find-clause-code_after
returns-in_err-find-clause-code_after c = sym (ap (code_after c.args.code.now) (refused c.args.table.now c.args.id 2 c.args.code.now _ _ (compilable-refused c.args.table.now c.args.id 2 _ _ c.in_err-find.ensures)))

pub returns-in_err-check_operations-clause-value : goal.returns-in_err-check_operations-clause-value
returns-in_err-check_operations-clause-value c =
    let p = err_from_is_err_and c.from_residual-in_err-check_operations.result c.from_residual-in_err-check_operations.ensures.1 in
    rw (p.1, p.2) (sym (ap answer_of (refused c.args.table.now c.args.id 2 c.args.code.now _ _ (too_many _ _ _ c.in_ok-find.ensures 2 V2 _ _ refl c.in_err-check_operations.ensures))))

pub returns-in_err-check_operations-clause-code_after : goal.returns-in_err-check_operations-clause-code_after
returns-in_err-check_operations-clause-code_after c = sym (ap (code_after c.args.code.now) (refused c.args.table.now c.args.id 2 c.args.code.now _ _ (too_many _ _ _ c.in_ok-find.ensures 2 V2 _ _ refl c.in_err-check_operations.ensures)))

pub returns-in_err-words-clause-value : goal.returns-in_err-words-clause-value
returns-in_err-words-clause-value c =
    let p = err_from_is_err_and c.from_residual-in_err-words.result c.from_residual-in_err-words.ensures.1 in
    rw (p.1, p.2) (sym (ap answer_of (c.in_err-words.ensures c.args.id c.in_ok-find.ensures.named c.args.code.now refl)))

pub returns-in_err-words-clause-code_after : goal.returns-in_err-words-clause-code_after
returns-in_err-words-clause-code_after c = sym (ap (code_after c.args.code.now) (c.in_err-words.ensures c.args.id c.in_ok-find.ensures.named c.args.code.now refl))

pub lay_out-requires : goal.lay_out-requires
lay_out-requires c = ((c.args.id, c.in_ok-find.ensures), few-there c.find.new.found.sizes _ c.in_ok-check_operations.ensures, refl)

pub compile_placed-requires-clause-accepted : goal.compile_placed-requires-clause-accepted
compile_placed-requires-clause-accepted c = let f = c.in_ok-find.ensures in (f.accepted, f.places, c.in_ok-words.ensures.0)

pub compile_placed-requires-clause-measured : goal.compile_placed-requires-clause-measured
compile_placed-requires-clause-measured c =
    let f = c.in_ok-find.ensures in
    let few = few-there c.find.new.found.sizes _ c.in_ok-check_operations.ensures in
    let w = c.in_ok-words.ensures in
    let q = placed-length _ _ _ f few in
    (measured-placed _ _ _ f few, w.2, omega (arith, q, w.3))

pub placed_length-requires : goal.placed_length-requires
placed_length-requires c = sizes-low _ _ _ c.in_ok-find.ensures (few-there c.find.new.found.sizes _ c.in_ok-check_operations.ensures)

pub returns-clause-value : goal.returns-clause-value
returns-clause-value c =
    let f = c.in_ok-find.ensures in
    let few = few-there c.find.new.found.sizes _ c.in_ok-check_operations.ensures in
    let w = c.in_ok-words.ensures in
    let q = placed-length _ _ _ f few in
    let can = within-placed c.args.table.now c.args.id _ f.named _ f.sizes.sizes few (omega (arith, w.1, w.2)) in
    ap ok (c.placed_length.ensures ∙ q) ∙ sym (ap answer_of (written c.args.table.now c.args.id 2 c.args.code.now V2 _ can (omega (arith, q, w.3))))

pub returns-clause-code_after : goal.returns-clause-code_after
returns-clause-code_after c =
    let f = c.in_ok-find.ensures in
    let few = few-there c.find.new.found.sizes _ c.in_ok-check_operations.ensures in
    let w = c.in_ok-words.ensures in
    let q = placed-length _ _ _ f few in
    let can = within-placed c.args.table.now c.args.id _ f.named _ f.sizes.sizes few (omega (arith, w.1, w.2)) in
    c.compile_placed.ensures ∙ sym (ap (code_after c.args.code.now) (written c.args.table.now c.args.id 2 c.args.code.now V2 _ can (omega (arith, q, w.3))))
