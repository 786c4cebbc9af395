-- `quetlapin::ifg_compile_version`: the compiler's answer as a number.
use Rattle.std.proofs.Common.{arith}
use Rattle.quetlapin.proofs.Telling.{compiled-bounded, may-tell, told}
use Rattle.quetlapin.proofs.ifg_compile_version.Goals as goal

pub tell-requires : goal.tell-requires
tell-requires c = may-tell (compiled-bounded c.args.table.now (λ i. omega (arith, c.type_inv.table i)) c.args.id c.args.version c.args.code.now) c.compile.ensures.value

pub returns-clause-told : goal.returns-clause-told
returns-clause-told c = told (compiled-bounded c.args.table.now (λ i. omega (arith, c.type_inv.table i)) c.args.id c.args.version c.args.code.now) c.compile.ensures.value c.tell.ensures
