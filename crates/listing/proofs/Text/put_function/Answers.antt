use Rattle.std.proofs.Common.{◌≡◌, ◌+◌, ◌++◌, arith}
use Rattle.listing.specs.Lines.{head_text, counts_text, line_at}
use Rattle.listing.proofs.Lines.{head-length, counts-length, line-is}
use Rattle.listing.proofs.Runs.{then, same}
use Rattle.listing.proofs.Text.put_function.Goals as goal

pub put_head-requires : goal.put_head-requires
put_head-requires c = omega (arith, c.requires.0, (head-length c.u16_at-id.result c.from-inputs.result c.from-outputs.result c.u16_at-nodes.result c.u16_at-id.ensures.1 (omega (arith, c.from-inputs.ensures, c.type_inv.table (c.args.sizes.place + 2))) (omega (arith, c.from-outputs.ensures, c.type_inv.table (c.args.sizes.place + 3))) c.u16_at-nodes.ensures.1))

pub put_counts-requires : goal.put_counts-requires
put_counts-requires c = omega (arith, c.requires.0, c.put_head.ensures.end, (head-length c.u16_at-id.result c.from-inputs.result c.from-outputs.result c.u16_at-nodes.result c.u16_at-id.ensures.1 (omega (arith, c.from-inputs.ensures, c.type_inv.table (c.args.sizes.place + 2))) (omega (arith, c.from-outputs.ensures, c.type_inv.table (c.args.sizes.place + 3))) c.u16_at-nodes.ensures.1), counts-length c.args.sizes.operations c.args.sizes.words c.args.sizes.code (omega arith))

pub returns : goal.returns
returns c = let a = c.args in
    let z = a.sizes in
    let middle = c.put_head.ensures.end in
    let end = c.put_counts.ensures.end in
    let line : head_text c.u16_at-id.result c.from-inputs.result c.from-outputs.result c.u16_at-nodes.result ++ counts_text z.operations z.words z.code ≡ line_at a.table.now z.place z.operations z.words z.code =
    line-is a.table.now z.place z.operations z.words z.code c.u16_at-id.ensures.0 c.from-inputs.ensures c.from-outputs.ensures c.u16_at-nodes.ensures.0 in
    (same line (then c.put_head.ensures c.put_counts.ensures), omega (arith, (head-length c.u16_at-id.result c.from-inputs.result c.from-outputs.result c.u16_at-nodes.result c.u16_at-id.ensures.1 (omega (arith, c.from-inputs.ensures, c.type_inv.table (c.args.sizes.place + 2))) (omega (arith, c.from-outputs.ensures, c.type_inv.table (c.args.sizes.place + 3))) c.u16_at-nodes.ensures.1), counts-length z.operations z.words z.code (omega arith)))
