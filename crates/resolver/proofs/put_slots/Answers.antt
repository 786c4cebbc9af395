use Rattle.std.proofs.Common.{◌≡◌, ◌++◌, List, ℕ, length, drop, replicate, ap, ◌∙◌}
use Rattle.base.specs.Limits.{no_node}
use Rattle.resolver.proofs.Parts.{over-cleared}
use Rattle.resolver.proofs.put_slots.Goals as goal

pub returns : goal.returns
returns c =
    let xs = c.args.found.now in
    let f : c.fill.new.self ≡ replicate (length c.args.slots.now) no_node = c.fill.ensures.after (λ y e. e) in
    ap (λ (ys : List ℕ). ys ++ drop (length xs) c.fill.new.self) c.copy_from_slice.ensures.after
    ∙ (ap (λ (ys : List ℕ). xs ++ drop (length xs) ys) f ∙ over-cleared (length c.args.slots.now) xs c.requires)
