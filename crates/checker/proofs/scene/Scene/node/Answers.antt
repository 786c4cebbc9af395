use Rattle.std.proofs.Common.{sym, subst}
use Rattle.reader.specs.Find.{ReadsNode}
use Rattle.reader.proofs.Passed.{head-fits, place-reads}
use Rattle.checker.proofs.Slotting.{held, nodes-read}
use Rattle.checker.proofs.scene.Scene.node.Goals as goal

pub returns-clause-reads : goal.returns-clause-reads
returns-clause-reads c =
    let w = c.args.self.now in
    let i = c.args.i in
    subst (ReadsNode w.s.now) (sym (w.placed i c.requires)) (place-reads w.s.now w.head.count i w.head.first c.requires (nodes-read (held w)))

pub returns-clause-fits : goal.returns-clause-fits
returns-clause-fits c =
    let w = c.args.self.now in
    let i = c.args.i in
    head-fits w.s.now _ (subst (ReadsNode w.s.now) (sym (w.placed i c.requires)) (place-reads w.s.now w.head.count i w.head.first c.requires (nodes-read (held w))))
