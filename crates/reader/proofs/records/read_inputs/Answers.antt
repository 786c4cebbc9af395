use Rattle.std.proofs.Common.{◌∙◌}
use Rattle.reader.proofs.Functions.{input-entries, entries-same}
use Rattle.reader.proofs.records.read_inputs.Goals as goal

pub returns : goal.returns
returns c = c.read_entries.ensures ∙ entries-same input-entries _ c.args.n c.args.s.now c.args.at
