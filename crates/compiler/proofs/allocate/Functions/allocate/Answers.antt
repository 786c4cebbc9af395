use Prim.Native.Nat.{suc, ◌+◌}
use mathlib.Core.Path.{◌≡◌}
use native.Mathlib.Omega.{arith}
use Rattle.sums.proofs.Accepted.{fewer}
use Rattle.sums.proofs.Tabulate.{fewer-starts}
use Rattle.compiler.proofs.Tables.{allocated-none}
use Rattle.compiler.proofs.allocate.Functions.allocate.Goals as goal

pub loop-j-init : goal.loop-j-init
loop-j-init c = allocated-none c.args.self.version

pub allocate_next-cell-requires : goal.allocate_next-cell-requires
allocate_next-cell-requires c =
    let l = c.loop-j in
    let t = c.loop-j-test.true in
    record {
      accepted = (fewer c.args.self.table.now c.args.k (suc l.j) c.requires.accepted.0 (omega arith), fewer-starts _ _ _ _ c.requires.accepted.1 (omega arith), (λ j l. c.requires.accepted.2 j (omega arith)));
      allocated_to = l.invariant;
    }

pub loop-j-preserved : goal.loop-j-preserved
loop-j-preserved c =
    let j = c.loop-j.j in let z : j + 1 ≡ suc j = omega arith in rw z c.allocate_next-cell.ensures

pub returns : goal.returns
returns c =
    let z : c.args.k ≡ c.loop-j.j = omega arith in rw z c.loop-j.invariant
