use Prim.Native.Nat.{◌+◌}
use mathlib.Core.Path.{◌≡◌}
use lib.ListN.{length}
use Rattle.compiler.proofs.Emission.{State}
use Rattle.compiler.proofs.walk.Walk.+function_node.Given as goal

-- the position falls from caller to callee; in a function the nodes come below it
abbrev pub decreases-function : goal.decreases-function
decreases-function l = l.k + l.k + 1

abbrev pub decreases-node : goal.decreases-node
decreases-node l = l.k + l.k

abbrev pub invariant-function-loop-i : goal.invariant-function-loop-i
invariant-function-loop-i l =
    State l.self.pass l.self.table.now l.self.layout.now.order l.self.layout.now.locations l.k l.ins l.self.inputs l.fn.code l.fn.place l.fn.wide l.at l.next l.code l.place l.wide
    l.reached.cell l.reached.at l.reached.next l.i l.n
    × (length l.place ≡ length l.fn.place) × (length l.wide ≡ length l.fn.wide)
