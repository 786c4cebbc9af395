use Rattle.std.proofs.Common.{◌∙◌}
use Rattle.reader.proofs.Functions.{output-entries, entries-same}
use Rattle.reader.proofs.records.read_outputs.Goals as goal

pub returns : goal.returns
returns c = c.read_entries.ensures ∙ entries-same output-entries _ c.args.n c.args.s.now c.args.at
