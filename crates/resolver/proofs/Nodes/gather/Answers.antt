use Rattle.std.proofs.Common.{ℕ, ◌≡◌, ◌≤◌, ◌+◌, ◌-◌, length, refl, sym, ◌∙◌, ap, arith}
use Rattle.base.specs.Limits.{node_limit, operand_limit}
use Rattle.graph.specs.Read.{references}
use Rattle.resolver.specs.Groups.{ids_of}
use Rattle.resolver.proofs.Parts.{length-mid, part-stored}
use Rattle.resolver.proofs.Gathering.{ids-size, gather-start, gather-step, gather-full}
use Rattle.resolver.proofs.Nodes.gather.Goals as goal

pub loop-nodes-init : goal.loop-nodes-init
loop-nodes-init c = gather-start

pub returns-then-refs-gt-GROUP_LIMIT : goal.returns-then-refs-gt-GROUP_LIMIT
returns-then-refs-gt-GROUP_LIMIT c = gather-full c.loop-nodes.invariant (omega arith)

pub loop-nodes-preserved : goal.loop-nodes-preserved
loop-nodes-preserved c =
    let room : c.loop-nodes.refs ≤ node_limit - operand_limit = omega arith in
    let r = c.reads-reads.result in
    let s = c.args.self.bytes.now in
    let m = c.loop-nodes.refs in
    let few : m + r.count ≤ length c.loop-nodes.wanted = omega (arith, c.reads-reads.ensures.few) in
    let same : m + r.count - m ≡ r.count = omega arith in
    gather-step c.loop-nodes.invariant c.loop-nodes-test.true room refl c.reads-reads.ensures
    (part-stored m (m + r.count - m) c.loop-nodes.wanted c.gather_node.new.wanted (ids_of (references r.count s r.first))
    (c.gather_node.ensures ∙ ap (λ (n : ℕ). ids_of (references n s r.first)) (length-mid m (m + r.count - m) r.count c.loop-nodes.wanted same few))
    (ids-size s r.count r.first ∙ sym same) (omega arith))
