use Rattle.std.proofs.Common.{ℕ, ◌≡◌, ◌*◌, List, ◌++◌, take, drop, replicate, ap, ◌∙◌, arith}
use Rattle.std.proofs.lemmas.List.{take_at, length-take-le}
use lib.ListN.{length-replicate}
use Rattle.base.specs.Limits.{node_limit, operand_limit, no_node}
use Rattle.base.proofs.Stores.{front}
use Rattle.std.proofs.lemmas.List.Edits.{sets}
use Rattle.resolver.specs.Slots.{nodes_by}
use Rattle.resolver.specs.Groups.{named, rows_from}
use Rattle.resolver.proofs.Parts.{front-cleared}
use Rattle.resolver.proofs.Scattering.{found_rows, group-done}
use Rattle.resolver.proofs.Nodes.resolve_group.Goals as goal

pub find_all-requires-clause-nothing : goal.find_all-requires-clause-nothing
find_all-requires-clause-nothing c =
    front-cleared c.gather-group.result.refs node_limit c.gather-group.new.wanted c.gather-group.ensures.fits (omega (arith, c.gather-group.ensures.fits))

pub returns : goal.returns
returns c =
    let s = c.args.self in
    let g = c.gather-group.ensures in
    let m = c.gather-group.result.refs in
    let ns = nodes_by s.bytes.now s.places.now c.args.i c.gather-group.result.nodes in
    let wanted : take m c.gather-group.new.wanted ≡ named ns =
    ap (take m) g.ids ∙ (ap (λ (k : ℕ). take k (sets (replicate node_limit 0) 0 (named ns))) g.size
    ∙ front (replicate node_limit 0) (named ns) (omega (arith, g.size, g.fits, length-replicate {A = ℕ} node_limit 0))) in
    let found : take m (c.find_all.new.found ++ drop m (replicate node_limit no_node)) ≡ c.find_all.new.found =
    take_at c.find_all.new.found (drop m (replicate node_limit no_node)) m (c.find_all.auto.found ∙ length-take-le m (replicate node_limit no_node) g.fits) in
    group-done s.bytes.now s.places.now s.count c.args.i c.args.targets.now _ c.gather-group.result.nodes g.some g.most c.requires
    (c.scatter.ensures
    ∙ (ap (λ (fs : List ℕ). sets c.args.targets.now (operand_limit * c.args.i) (rows_from fs 0 ns)) found
    ∙ ap (sets c.args.targets.now (operand_limit * c.args.i))
    (found_rows (nodes_by s.bytes.now s.places.now 0 s.count) ns (take m c.gather-group.new.wanted) c.find_all.new.found wanted c.find_all.ensures)))
