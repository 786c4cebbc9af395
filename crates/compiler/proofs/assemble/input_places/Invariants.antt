use Prim.Native.Nat.{◌+◌, ◌-◌, ◌*◌, ◌≤◌}
use Rattle.base.proofs.Stores.{Run}
use Rattle.bytecode.specs.Run.{places}
use Rattle.sums.specs.Answers.{types_by}
use Rattle.compiler.proofs.assemble.input_places.Given as goal

abbrev pub invariant-loop-j : goal.invariant-loop-j
invariant-loop-j l = (l.w ≤ 16 * l.j) × Run (places 0 (types_by 1 l.n l.table l.at)) l.initial.ins 0 l.ins l.j (places l.w (types_by 1 (l.n - l.j) l.table (l.at + l.j)))
