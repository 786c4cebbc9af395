use Rattle.std.proofs.Common.{arith}
use Rattle.reader.proofs.Passed.{function-holds}
use Rattle.sums.proofs.Accepted.{few-ports}
use Rattle.sums.proofs.Widths.{port-words}
use Rattle.sums.proofs.port_words.Goals as goal

pub overflow_add-p : goal.overflow_add-p
overflow_add-p c = omega (arith, (function-holds c.args.table.now c.args.p c.requires).head)

pub bounds-table-p : goal.bounds-table-p
bounds-table-p c = omega (arith, (function-holds c.args.table.now c.args.p c.requires).head)

pub overflow_add-p-2 : goal.overflow_add-p-2
overflow_add-p-2 c = omega (arith, (function-holds c.args.table.now c.args.p c.requires).head)

pub overflow_add-p-3 : goal.overflow_add-p-3
overflow_add-p-3 c = omega (arith, (function-holds c.args.table.now c.args.p c.requires).head)

pub bounds-table-p-2 : goal.bounds-table-p-2
bounds-table-p-2 c = omega (arith, (function-holds c.args.table.now c.args.p c.requires).head)

pub overflow_add-p-4 : goal.overflow_add-p-4
overflow_add-p-4 c = omega (arith, (function-holds c.args.table.now c.args.p c.requires).head)

pub widths_at-inputs-requires : goal.widths_at-inputs-requires
widths_at-inputs-requires c = let e = c.from-input_count.ensures in
    (omega arith, omega (arith, e, (few-ports c.args.table.now c.args.p c.requires).0), omega (arith, e, (function-holds c.args.table.now c.args.p c.requires).inputs))

pub overflow_add-p-5 : goal.overflow_add-p-5
overflow_add-p-5 c = omega (arith, (function-holds c.args.table.now c.args.p c.requires).inputs, c.from-input_count.ensures)

pub widths_at-outputs-requires : goal.widths_at-outputs-requires
widths_at-outputs-requires c = let e = c.from-output_count.ensures in
    (omega arith, omega (arith, e, (few-ports c.args.table.now c.args.p c.requires).1), omega (arith, e, c.from-input_count.ensures, (function-holds c.args.table.now c.args.p c.requires).outputs))

pub returns : goal.returns
returns c = let a = c.args in
    port-words a.table.now a.p c.from-input_count.result c.from-output_count.result c.widths_at-inputs.result c.widths_at-outputs.result c.from-input_count.ensures
    c.from-output_count.ensures c.widths_at-inputs.ensures.0 c.widths_at-outputs.ensures.0 c.widths_at-inputs.ensures.1 c.widths_at-outputs.ensures.1
