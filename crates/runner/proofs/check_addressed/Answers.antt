-- `runner::check_addressed`: the arguments are marked on a record of no word.
use Rattle.runner.proofs.Whole.{with-marks}
use Rattle.runner.proofs.check_addressed.Goals as goal

pub check_list-requires : goal.check_list-requires
check_list-requires c = with-marks c.requires c.mark_words.ensures
