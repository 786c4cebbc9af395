use Rattle.std.proofs.Common.{◌≡◌, sym, ◌∙◌, arith}
use Rattle.bytecode.specs.declared.Version.TheVariants.{V2}
use Rattle.compiler.proofs.Units.{sums-held-all}
use Rattle.quetlapin.proofs.Choosing.{over-placed, within-placed}
use Rattle.quetlapin.proofs.Compiling.{refused, too_long, extent-words, extent-over, sizes-low, placed-length, measured-placed}
use Rattle.quetlapin.proofs.reusing.lay_out.Goals as goal

pub lay_out-requires-clause-accepted : goal.lay_out-requires-clause-accepted
lay_out-requires-clause-accepted c = let f = c.requires.0.1 in (f.accepted, f.places, sums-held-all V2 _ f.held)

pub lay_out-requires-clause-measured : goal.lay_out-requires-clause-measured
lay_out-requires-clause-measured c = (measured-placed _ _ _ c.requires.0.1 c.requires.1, c.requires.2)

pub returns-in_default : goal.returns-in_default
returns-in_default c = let f = c.requires.0.1 in
    let w = extent-over _ (sym c.in_default.is ∙ c.lay_out.ensures.places.extent) in
    rw c.at.ensures (λ i named code l. refused c.args.table.now i 2 code 16 0 (over-placed c.args.table.now i _ named _ f.sizes.sizes c.requires.1 w))

pub placed_length-requires : goal.placed_length-requires
placed_length-requires c = sizes-low _ _ _ c.requires.0.1 c.requires.1

pub returns-then-room-placed_length : goal.returns-then-room-placed_length
returns-then-room-placed_length c = let f = c.requires.0.1 in
    let w = extent-words _ _ (sym c.in-Some.is ∙ c.lay_out.ensures.places.extent) in
    let q = c.placed_length.ensures ∙ placed-length _ _ _ f c.requires.1 in
    rw c.at-then-room-placed_length.ensures
    (λ i named code l. too_long c.args.table.now i 2 code V2 _ (within-placed c.args.table.now i _ named _ f.sizes.sizes c.requires.1 w.1) (omega (arith, q, l, c.if-room-placed_length.true)))

pub returns : goal.returns
returns c =
    let w = extent-words _ _ (sym c.in-Some.is ∙ c.lay_out.ensures.places.extent) in
    let q = c.placed_length.ensures in
    (rw (sym c.in-Some.is) c.lay_out.ensures, w.0, omega arith, omega (arith, q, c.if-room-placed_length.false))
