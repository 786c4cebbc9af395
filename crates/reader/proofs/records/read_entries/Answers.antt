use Rattle.std.proofs.Common.{sym, ◌∙◌, arith}
use Rattle.reader.proofs.Extents.{ends, short}
use Rattle.reader.proofs.Functions.{left-start, left-short, left-untyped, left-on, left-end}
use Rattle.reader.proofs.records.read_entries.Goals as goal

pub loop-init : goal.loop-init
loop-init c = left-start c.args.size c.args.s.now c.args.at c.args.n

pub returns-in_default : goal.returns-in_default
returns-in_default c =
    rw c.at.ensures (left-short c.loop.invariant c.loop-test.true _ (short c.args.s.now _ _ c.read_record.ensures c.in_default.is))

pub bounds-s-p : goal.bounds-s-p
bounds-s-p c = omega (arith, (ends c.args.s.now _ _ c.read_record.ensures c.in-Some.is).0, c.requires)

pub returns-then-not-is_type : goal.returns-then-not-is_type
returns-then-not-is_type c =
    let h = (ends c.args.s.now _ _ c.read_record.ensures c.in-Some.is).0 in
    rw c.at-then-not-is_type.ensures (left-untyped c.loop.invariant c.loop-test.true h _ (sym c.is_type.ensures ∙ c.if-not-is_type.true))

pub loop-preserved : goal.loop-preserved
loop-preserved c =
    let (h, e) = ends c.args.s.now _ _ c.read_record.ensures c.in-Some.is in
    left-on c.loop.invariant c.loop-test.true h (sym c.is_type.ensures ∙ c.if-not-is_type.false) _ e

pub returns : goal.returns
returns c = left-end c.loop.invariant (omega (arith, c.loop-test.false, c.loop.auto.counter-end))
