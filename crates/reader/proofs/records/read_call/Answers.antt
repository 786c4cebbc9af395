use Rattle.std.proofs.Common.{sym, ◌*◌, arith}
use Rattle.ports.specs.Kinds.{kind_of}
use Rattle.reader.proofs.Extents.{ends, short}
use Rattle.reader.proofs.Payloads.{call-short, call-many, call-cut, call-good}
use Rattle.reader.proofs.records.read_call.Goals as goal

pub returns-in_default : goal.returns-in_default
returns-in_default c = let a = c.args in
    rw c.at.ensures (call-short a.s.now a.at (kind_of a.kind) (short c.args.s.now _ _ c.read_record.ensures c.in_default.is))

pub overflow_add-at : goal.overflow_add-at
overflow_add-at c = omega (arith, (ends c.args.s.now _ _ c.read_record.ensures c.in-Some.is).0)

pub bounds-s-at : goal.bounds-s-at
bounds-s-at c = omega (arith, (ends c.args.s.now _ _ c.read_record.ensures c.in-Some.is).0)

pub returns-then-count-gt-PORT_LIMIT : goal.returns-then-count-gt-PORT_LIMIT
returns-then-count-gt-PORT_LIMIT c = let a = c.args in
    let (h, q) = ends c.args.s.now _ _ c.read_record.ensures c.in-Some.is in
    rw c.at-then-count-gt-PORT_LIMIT.ensures (sym (call-many a.s.now a.at (kind_of a.kind) h (rw c.from-count.ensures at c.if-count-gt-PORT_LIMIT.true)))

pub returns-in_default-read_record : goal.returns-in_default-read_record
returns-in_default-read_record c = let a = c.args in
    let (h, q) = ends c.args.s.now _ _ c.read_record.ensures c.in-Some.is in
    let l = rw (q, c.from-count.ensures) at (short a.s.now c.in-Some.begin (3 * c.from-count.result) c.read_record-2.ensures c.in_default-read_record.is) in
    rw (c.at-in_default-read_record.ensures, q) (call-cut a.s.now a.at (kind_of a.kind) h (rw c.from-count.ensures at c.if-count-gt-PORT_LIMIT.false) l)

pub u16_at-requires : goal.u16_at-requires
u16_at-requires c = omega (arith, (ends c.args.s.now _ _ c.read_record.ensures c.in-Some.is).0)

pub returns : goal.returns
returns c = let a = c.args in
    let (h, q) = ends c.args.s.now _ _ c.read_record.ensures c.in-Some.is in
    let (f, l) = ends a.s.now c.in-Some.begin (3 * c.from-count.result) c.read_record-2.ensures c.in-Some-read_record.is in
    let n = c.from-count.ensures in
    rw (c.u16_at.ensures.0, l, q, n) (sym (call-good a.s.now a.at (kind_of a.kind) h (rw n at c.if-count-gt-PORT_LIMIT.false) (rw (q, n) at f)))
