-- What `compile` answers, and the buffer after it.
use Rattle.std.specs.Prelude.{ℕ, List}
use Rattle.base.specs.Outcome.{Outcome, ok, fault}
use Rattle.base.specs.Refusals.{mapped}
use Rattle.lowering.specs.Answers as Answers

-- the length, or the refusal with its number and place
abbrev pub answer_of : Outcome Answers.Compiled → Outcome ℕ
answer_of = mapped (λ r. r.size)

-- the buffer after it: a refusal leaves every byte
abbrev pub code_after : List ℕ → Outcome Answers.Compiled → List ℕ
code_after code (ok r) = r.buffer
code_after code (fault n p) = code
