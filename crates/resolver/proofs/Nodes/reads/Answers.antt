use Rattle.std.proofs.Common.{get_or, arith}
use Rattle.reader.proofs.Walking.{node-here}
use Rattle.resolver.proofs.ByPlaces.{read-at}
use Rattle.resolver.proofs.Nodes.reads.Goals as goal

pub bounds-self-at : goal.bounds-self-at
bounds-self-at c =
    let s = c.args.self in
    omega (arith, (node-here s.bytes.now (get_or s.places.now c.args.i 0) (read-at s.bytes.now s.places.now s.count c.args.i s.read c.requires)).head)

pub reads_by-requires : goal.reads_by-requires
reads_by-requires c =
    let s = c.args.self in
    (read-at s.bytes.now s.places.now s.count c.args.i s.read c.requires, c.ports_of-row.ensures)
