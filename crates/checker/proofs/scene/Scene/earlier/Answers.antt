use Rattle.std.proofs.Common.{sym, subst}
use Rattle.reader.specs.Layout.{known}
use Rattle.reader.proofs.Passed.{no-function}
use Rattle.checker.specs.Slots.{CalleeIs}
use Rattle.checker.proofs.Calls.{found-callee}
use Rattle.checker.proofs.Slotting.{held}
use Rattle.checker.proofs.scene.Scene.earlier.Goals as goal

pub find_function-requires : goal.find_function-requires
find_function-requires c = let h = held c.args.self.now in (h.started, h.few)

pub returns-in_err-found : goal.returns-in_err-found
returns-in_err-found c =
    let w = c.args.self.now in
    subst (CalleeIs w.s.now (known w.s.now w.starts.now w.k) c.args.id) (sym c.from_residual.ensures)
    (no-function w.s.now w.starts.now c.args.id w.k (sym c.in_err-found.ensures))

pub returns : goal.returns
returns c =
    let w = c.args.self.now in
    found-callee w.s.now w.starts.now w.k (held w).started c.args.id c.in_ok-found.found.index c.in_ok-found.found.place (sym c.in_ok-found.ensures)
