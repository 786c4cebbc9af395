use Rattle.std.proofs.Common.{sym, subst, suc, arith}
use Rattle.reader.specs.Find.{ReadsFunction}
use Rattle.sums.specs.Capped.{sums_at}
use Rattle.sums.proofs.Accepted.{few, read_below, sound-below}
use Rattle.sums.proofs.Measuring.{measured-at}
use Rattle.sums.proofs.sizes_at.Goals as goal

pub offset_bounds-starts-k : goal.offset_bounds-starts-k
offset_bounds-starts-k c = omega (arith, (few c.args.table.now (suc c.args.k) c.requires.0))

pub bounds-starts-k : goal.bounds-starts-k
bounds-starts-k c = omega (arith, (few c.args.table.now (suc c.args.k) c.requires.0))

pub port_words-ports-requires : goal.port_words-ports-requires
port_words-ports-requires c = subst (ReadsFunction c.args.table.now) (sym c.requires.1) (read_below c.args.table.now (suc c.args.k) c.requires.0 c.args.k (omega arith))

pub offset_bounds-sums-k : goal.offset_bounds-sums-k
offset_bounds-sums-k c = omega (arith, (few c.args.table.now (suc c.args.k) c.requires.0))

pub bounds-sums-k : goal.bounds-sums-k
bounds-sums-k c = omega (arith, (few c.args.table.now (suc c.args.k) c.requires.0))

pub returns : goal.returns
returns c = let a = c.args in
    measured-at a.table.now a.k (sound-below a.table.now (suc a.k) c.requires.0 a.k (omega arith)) (read_below c.args.table.now (suc c.args.k) c.requires.0 c.args.k (omega arith))
    _ c.min-all.result c.code_length-code.result (sums_at a.sums.now a.k) c.port_words-ports.result c.requires.1 c.requires.2 c.port_words-ports.ensures (omega (arith, c.min-all.ensures)) c.code_length-code.ensures
