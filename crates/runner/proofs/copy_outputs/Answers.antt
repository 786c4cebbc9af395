-- `runner::copy_outputs`, word by word.
use Prim.Native.Nat.{ℕ}
use mathlib.Core.Path.{ap, ◌∙◌}
use native.Mathlib.Omega.{arith}
use lib.ListN.{length, set, length-set}
use Rattle.base.specs.Lists.{word_at}
use Rattle.runner.proofs.Buffers.{output-more, address_below}
use Rattle.runner.proofs.copy_outputs.Goals as goal

pub bounds-work-u16_at : goal.bounds-work-u16_at
bounds-work-u16_at c =
    let a = c.args in
    let b = address_below a.count a.s.now a.from (length a.work.now) c.loop-i.i c.requires.below (omega arith) in
    omega (arith, b, c.u16_at.ensures.0)

pub loop-i-preserved : goal.loop-i-preserved
loop-i-preserved c =
    let l = c.loop-i in
    let a = c.args in
    let m = a.work.now in (
      ap (λ (k : ℕ). set l.out l.i (word_at m k)) c.u16_at.ensures.0
          ∙ output-more a.out.now l.out m a.s.now a.from l.i l.invariant.0,
      length-set l.out l.i _ ∙ l.invariant.1,
    )
