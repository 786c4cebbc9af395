use Rattle.std.proofs.Common.{◌+◌}
use Rattle.base.specs.Lists.{span}
use Rattle.base.proofs.Stores.{Run}
use Rattle.validator.proofs.Holding.{span_left}
use Rattle.validator.proofs.held.note_words.Given as goal

abbrev pub invariant-loop-j : goal.invariant-loop-j
invariant-loop-j l = Run (span l.w l.count) l.fn.words l.a l.words (l.a + l.j) (span_left l.w l.count l.j)
