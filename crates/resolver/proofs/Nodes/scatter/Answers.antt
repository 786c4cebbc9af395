use Rattle.std.proofs.Common.{ℕ, ◌≡◌, ◌+◌, ◌-◌, ◌*◌, ◌≤◌, length, take, drop, refl, sym, ap, ◌∙◌, arith}
use Rattle.base.specs.Limits.{operand_limit}
use Rattle.resolver.specs.Slots.{padded}
use Rattle.resolver.specs.Groups.{entries}
use Rattle.resolver.proofs.Parts.{length-mid, part-stored, entries-part}
use Rattle.resolver.proofs.Rows.{length-padded}
use Rattle.resolver.proofs.Scattering.{scatter-fits, scatter-step, scatter-done}
use Rattle.resolver.proofs.Nodes.scatter.Goals as goal

pub slice_bounds-put_slots-end-in-loop-n : goal.slice_bounds-put_slots-end-in-loop-n
slice_bounds-put_slots-end-in-loop-n c = scatter-fits c.loop-n.invariant c.loop-n-test.true refl c.reads.ensures c.requires.each

pub loop-n-preserved : goal.loop-n-preserved
loop-n-preserved c =
    let l = c.loop-n in
    let at = operand_limit * (c.args.i + l.n) in
    let count = c.reads.result.count in
    let found = c.args.found.now in
    let room : at + operand_limit ≤ length l.targets = omega (arith, c.requires.within, c.args.self.few) in
    let same : at + operand_limit - at ≡ operand_limit = omega arith in
    let part : take (l.from + count - l.from) (drop l.from found) ≡ entries count found l.from =
    (let z : l.from + count - l.from ≡ count = omega arith in ap (λ (k : ℕ). take k (drop l.from found)) z)
    ∙ entries-part count found l.from (scatter-fits l.invariant c.loop-n-test.true refl c.reads.ensures c.requires.each) in
    scatter-step l.invariant c.loop-n-test.true refl c.reads.ensures
    (part-stored at (at + operand_limit - at) l.targets c.put_slots.new.slots (padded operand_limit (entries count found l.from))
    (c.put_slots.ensures ∙ (ap (λ (k : ℕ). padded k (take (l.from + count - l.from) (drop l.from found))) (length-mid at (at + operand_limit - at) operand_limit l.targets same room)
    ∙ ap (padded operand_limit) part))
    (length-padded operand_limit (entries count found l.from) ∙ sym same) (omega arith))

pub returns : goal.returns
returns c = scatter-done c.loop-n.invariant c.loop-n-test.false
