use Rattle.std.proofs.Common.{arith}
use Rattle.validator.proofs.Stepping.{list-there, list-small, list-turned, end_is, word-is}
use Rattle.validator.proofs.instruction.index_list.Goals as goal

pub bounds-ours-at-in-loop-i : goal.bounds-ours-at-in-loop-i
bounds-ours-at-in-loop-i c = omega (arith, list-there c.loop-i.invariant c.loop-i-test.true)

pub overflow_add-w : goal.overflow_add-w
overflow_add-w c = omega (arith, list-small c.loop-i.invariant c.loop-i-test.true, c.result_words-w.ensures.bounded)

pub loop-i-preserved : goal.loop-i-preserved
loop-i-preserved c =
    let l = c.loop-i in
    let s = c.args.ours.now in
    list-turned l.invariant c.loop-i-test.true (end_is s l.at c.ports_of-row.ensures c.from.ensures c.constant_words.ensures.0)
    (word-is s l.at c.ports_of-row.ensures l.w c.result_words-w.ensures.value)
