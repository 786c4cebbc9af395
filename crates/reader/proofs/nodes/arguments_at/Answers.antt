use Rattle.std.proofs.Common.{◌≡◌, sym, ap, subst, ℕ, ◌+◌, arith}
use Rattle.reader.specs.Records.{arguments_at}
use Rattle.reader.specs.Find.{ReadsOf}
use Rattle.reader.proofs.Passed.{callee-fits}
use Rattle.reader.proofs.AsRead.{call-reads}
use Rattle.reader.proofs.nodes.arguments_at.Goals as goal

pub bounds-s-at : goal.bounds-s-at
bounds-s-at c = omega (arith, (callee-fits c.args.s.now c.args.at c.requires.0 c.requires.1).0)

pub returns : goal.returns
returns c = let a = c.args in
    let e : record { first = a.at + 4 + 3; count = c.from.result } ≡ arguments_at a.s.now a.at = ap (λ (n : ℕ). record { first = a.at + 4 + 3; count = n }) c.from.ensures in
    (e, subst (ReadsOf a.s.now a.at) (sym e) (call-reads a.s.now a.at c.requires.0 c.requires.1))
