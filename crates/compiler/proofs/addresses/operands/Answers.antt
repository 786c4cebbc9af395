use Prim.Native.Nat.{ℕ, ◌+◌}
use mathlib.Core.Path.{ap, ◌∙◌, sym}
use mathlib.Core.List.{List, ◌∷◌, map}
use native.Mathlib.Omega.{arith}
use lib.ListN.{drop}
use Rattle.base.proofs.Stores.{run_more, run-done}
use Rattle.base.specs.Bytes.{all_bytes, bytes_of}
use Rattle.compiler.specs.Emit.{address_of}
use Rattle.compiler.specs.Whole.{relocate_by}
use Rattle.compiler.proofs.Filling.{map-next, map-none}
use Rattle.compiler.proofs.addresses.operands.Goals as goal

pub loop-j-preserved : goal.loop-j-preserved
loop-j-preserved c =
    let a = c.args in
    let f = address_of a.frame.ins.now a.frame.first in
    let g = relocate_by a.pass a.place.now in
    let e =
    ap (map g) (map-next f a.cells.now c.loop-j-test.true c.address.ensures)
    ∙ ap (λ (x : ℕ). x ∷ map g (map f (drop (c.loop-j.j + 1) a.cells.now))) (sym c.written.ensures) in
    run_more c.loop-j.invariant (bytes_of 2 c.written.result) (ap (all_bytes 2) e) c.put16.ensures (omega arith)

pub returns : goal.returns
returns c =
    let a = c.args in
    run-done c.loop-j.invariant
    (ap (λ (xs : List ℕ). all_bytes 2 (map (relocate_by a.pass a.place.now) xs)) (map-none (address_of a.frame.ins.now a.frame.first) a.cells.now c.loop-j-test.false))
