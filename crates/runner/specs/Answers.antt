-- What the check and its steps answer.
use Rattle.std.specs.Prelude.{Option}
use Rattle.runner.specs.declared.Counts.{Counts}
use Rattle.runner.specs.declared.Cursor.{Cursor}

-- what follows instructions that passed; nothing, where one is refused
abbrev pub Progress : Type 0
Progress = Option Cursor

-- the counts of a code that is well formed; nothing, where it is not
abbrev pub Checked : Type 0
Checked = Option Counts
