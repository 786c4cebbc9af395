use Rattle.reader.proofs.Words.{canonical-one}
use Rattle.reader.proofs.constants.float_at.Goals as goal

pub read_word-requires : goal.read_word-requires
read_word-requires c = canonical-one c.args.s.now c.args.at _ c.u64_at.ensures c.requires
