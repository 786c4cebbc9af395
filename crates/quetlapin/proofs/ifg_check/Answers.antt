-- `quetlapin::ifg_check`: the verdict as a number.
use Rattle.std.proofs.Common.{arith}
use Rattle.quetlapin.proofs.Telling.{verdict-bounded, may-tell, told}
use Rattle.quetlapin.proofs.ifg_check.Goals as goal

pub tell-requires : goal.tell-requires
tell-requires c = may-tell (verdict-bounded _ (λ i. omega (arith, c.type_inv.table i))) c.check.ensures.value

pub returns : goal.returns
returns c = told (verdict-bounded _ (λ i. omega (arith, c.type_inv.table i))) c.check.ensures.value c.tell.ensures
