-- `quetlapin::ifg_compile`: the compiler's answer as a number.
use Rattle.std.proofs.Common.{arith}
use Rattle.quetlapin.proofs.Telling.{compiled-bounded, may-tell, told}
use Rattle.quetlapin.proofs.ifg_compile.Goals as goal

pub tell-requires : goal.tell-requires
tell-requires c = may-tell (compiled-bounded c.args.table.now (λ i. omega (arith, c.type_inv.table i)) c.args.id 1 c.args.code.now) c.compile_sequential.ensures.value

pub returns-clause-told : goal.returns-clause-told
returns-clause-told c = told (compiled-bounded c.args.table.now (λ i. omega (arith, c.type_inv.table i)) c.args.id 1 c.args.code.now) c.compile_sequential.ensures.value c.tell.ensures
