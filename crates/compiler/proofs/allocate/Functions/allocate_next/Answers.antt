use Rattle.std.proofs.Common.{sym, ◌∙◌, arith}
use Rattle.std.proofs.lemmas.Bool.{leb-true, leb-false}
use Rattle.compiler.proofs.Tables.{room-here, passed_over, one_more}
use Rattle.compiler.proofs.allocate.Functions.allocate_next.Goals as goal

pub offset_bounds-self-j : goal.offset_bounds-self-j
offset_bounds-self-j c =
    let (x, y, z) = room-here c.requires.accepted.0 c.requires.allocated_to in omega arith

pub bounds-self-j : goal.bounds-self-j
bounds-self-j c =
    let (x, y, z) = room-here c.requires.accepted.0 c.requires.allocated_to in omega arith

pub returns-then-not-fits : goal.returns-then-not-fits
returns-then-not-fits c =
    let held = c.requires.accepted.2 c.args.j (omega arith) in
    passed_over c.requires.accepted.0 c.requires.allocated_to (held.over (leb-false _ _ (sym c.fits.ensures ∙ c.if-not-fits.true)))

pub overflow_cast-layout : goal.overflow_cast-layout
overflow_cast-layout c =
    let (x, y, z) = room-here c.requires.accepted.0 c.requires.allocated_to in omega arith

pub offset_bounds-layout-j : goal.offset_bounds-layout-j
offset_bounds-layout-j c =
    let (x, y, z) = room-here c.requires.accepted.0 c.requires.allocated_to in omega arith

pub bounds-layout-j : goal.bounds-layout-j
bounds-layout-j c =
    let (x, y, z) = room-here c.requires.accepted.0 c.requires.allocated_to in omega arith

pub allocate_function-requires : goal.allocate_function-requires
allocate_function-requires c =
    let held = c.requires.accepted.2 c.args.j (omega arith) in
    let low = leb-true _ _ (sym c.fits.ensures ∙ c.if-not-fits.false) in
    let w = held.within low in
    record {
      accepted = (c.requires.accepted.0, omega (arith, w, low), (room-here c.requires.accepted.0 c.requires.allocated_to).0);
      started = (c.requires.accepted.1, (λ g l. c.requires.accepted.2 g (omega arith)), c.requires.allocated_to.ports);
    }

pub returns : goal.returns
returns c =
    one_more c.requires.accepted.0 c.requires.allocated_to (omega arith) c.allocate_function.ensures
