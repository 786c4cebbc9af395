use Rattle.std.proofs.Common.{arith}
use Rattle.reader.proofs.Words.{part}
use Rattle.reader.proofs.constants.matrix_at.Goals as goal

pub row_at-requires-2 : goal.row_at-requires-2
row_at-requires-2 c = part 4 c.requires (omega arith) (omega arith)

pub row_at-requires-3 : goal.row_at-requires-3
row_at-requires-3 c = part 8 c.requires (omega arith) (omega arith)

pub row_at-requires-4 : goal.row_at-requires-4
row_at-requires-4 c = part 12 c.requires (omega arith) (omega arith)
