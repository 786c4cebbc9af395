use Prim.Native.Nat.{ℕ}
use mathlib.Core.Path.{◌≡◌, sym, ap, ◌∙◌}
use native.Mathlib.Omega.{arith}
use Rattle.base.specs.Bytes.{u16}
use Rattle.reader.specs.Layout.{nodes_at}
use Rattle.reader.proofs.Passed.{nodes-named}
use Rattle.order.specs.Resolve.{index_of}
use Rattle.order.proofs.Nodes.{index-none}
use Rattle.resolver.proofs.Rows.{length-nodes}
use Rattle.compiler.proofs.Filling.{found-index, none-index}
use Rattle.compiler.proofs.allocate.target.Goals as goal

-- no node has an input's id
pub returns-then-id-eq0 : goal.returns-then-id-eq0
returns-then-id-eq0 c =
    let a = c.args in
    let z : u16 a.table.now a.q ≡ 0 = sym c.u16_at-id.ensures.0 ∙ c.if-id-eq0.true in
    sym (index-none _ (nodes_at a.n a.table.now a.at) (λ x i e. let l = nodes-named a.table.now a.n a.at c.requires.2 x i in omega (arith, l, e, z)))

pub overflow_cast-result : goal.overflow_cast-result
overflow_cast-result c =
    let a = c.args in
    let (x, y) = found-index c.u16_at-id.result (nodes_at a.n a.table.now a.at) c.in-Some.found c.in-Some.ensures in
    let z = length-nodes a.n a.table.now a.at in
    let n = c.requires.0 in
    omega arith

pub returns-in-Some : goal.returns-in-Some
returns-in-Some c =
    let a = c.args in
    (found-index c.u16_at-id.result (nodes_at a.n a.table.now a.at) c.in-Some.found c.in-Some.ensures).0
    ∙ ap (λ (i : ℕ). index_of i (nodes_at a.n a.table.now a.at)) c.u16_at-id.ensures.0

pub returns-in-None : goal.returns-in-None
returns-in-None c =
    let a = c.args in
    let ns = nodes_at a.n a.table.now a.at in
    sym (ap (λ (v : ℕ). index_of v ns) (sym c.u16_at-id.ensures.0) ∙ none-index c.u16_at-id.result ns c.in-None.ensures)
