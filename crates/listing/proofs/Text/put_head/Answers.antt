use Rattle.std.proofs.Common.{◌++◌}
use Rattle.lowering.specs.Listing.{decimal, inputs_text, outputs_text, nodes_text}
use Rattle.listing.specs.Lines.{head_text}
use Rattle.listing.proofs.Lines.{head-rooms}
use Rattle.listing.proofs.Runs.{then, room-rest}
use Rattle.listing.proofs.Text.put_head.Goals as goal

pub put_field-requires : goal.put_field-requires
put_field-requires c = (head-rooms c.args.id c.args.inputs c.args.outputs c.args.nodes c.args.self.now.length c.requires).0

pub put_field-requires-2 : goal.put_field-requires-2
put_field-requires-2 c = room-rest (inputs_text ++ decimal c.args.inputs) c.put_field.ensures (head-rooms c.args.id c.args.inputs c.args.outputs c.args.nodes c.args.self.now.length c.requires).1

pub put_field-requires-3 : goal.put_field-requires-3
put_field-requires-3 c = room-rest (outputs_text ++ decimal c.args.outputs) (then c.put_field.ensures c.put_field-2.ensures) (head-rooms c.args.id c.args.inputs c.args.outputs c.args.nodes c.args.self.now.length c.requires).2

pub put_field-requires-4 : goal.put_field-requires-4
unfolding head_text
put_field-requires-4 c = room-rest (nodes_text ++ decimal c.args.nodes) (then (then c.put_field.ensures c.put_field-2.ensures) c.put_field-3.ensures) c.requires

pub returns : goal.returns
unfolding head_text
returns c = then (then (then c.put_field.ensures c.put_field-2.ensures) c.put_field-3.ensures) c.put_field-4.ensures
