use Rattle.std.proofs.Common.{◌∙◌, arith}
use Rattle.listing.proofs.Digits.{decimal-most}
use Rattle.listing.proofs.Lines.{refused-parts}
use Rattle.listing.proofs.Runs.{then, same}
use Rattle.listing.proofs.Text.put_refused.Goals as goal

pub put_field-requires : goal.put_field-requires
put_field-requires c = omega (arith, decimal-most c.from.result (omega arith))

pub put_field-requires-2 : goal.put_field-requires-2
put_field-requires-2 c = let middle = c.put_field.ensures.end in
    omega (arith, decimal-most c.from.result (omega arith), decimal-most c.args.refusal.place (omega arith))

pub put_bytes-requires : goal.put_bytes-requires
put_bytes-requires c = let middle = c.put_field.ensures.end in
    let end = c.put_field-2.ensures.end in
    omega (arith, decimal-most c.from.result (omega arith), decimal-most c.args.refusal.place (omega arith))

pub returns : goal.returns
returns c = let middle = c.put_field.ensures.end in
    let end = c.put_field-2.ensures.end in
    let behind = c.put_bytes.ensures.end in (
      same (refused-parts c.args.refusal.place (c.from.ensures ∙ c.number.ensures)) (then (then c.put_field.ensures c.put_field-2.ensures) c.put_bytes.ensures),
      omega (arith, decimal-most c.from.result (omega arith), decimal-most c.args.refusal.place (omega arith)),
    )
