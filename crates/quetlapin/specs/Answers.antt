-- What `evaluate` answers, and the three buffers after it.
use Rattle.std.specs.Prelude.{ℕ, ◌≡◌, ◌&&◌, List, leb, eqb, length}
use Rattle.base.specs.Lists.{every}
use Rattle.base.specs.Outcome.{Outcome, ok, fault, ◌>>◌, need}
use Rattle.base.specs.Refusals.{mapped}
use Rattle.value.specs.Values.{argument_word}
use Rattle.lowering.specs.Answers as Answers
use Rattle.sums.specs.declared.Sizes.{Sizes}

-- the count of output words, or the refusal with its number and place
abbrev pub answer_of : Outcome Answers.Evaluated → Outcome ℕ
answer_of = mapped (λ e. e.count)

-- what a list with these sizes and words asks of what is lent to its run: 19, 20, 21
abbrev pub lent : Sizes → ℕ → List ℕ → ℕ → ℕ → Outcome (Unit {0})
lent m words arguments work out = do
  need (eqb (length arguments) m.arguments) 19 0
  need (every argument_word arguments) 20 0
  need (leb words work && leb m.outputs out) 21 0

-- a refusal leaves all three buffers as they were

unfoldable pub code_after : Outcome Answers.Evaluated → List ℕ → List ℕ
code_after (ok e) code = e.code
code_after (fault n p) code = code

unfoldable pub work_after : Outcome Answers.Evaluated → List ℕ → List ℕ
work_after (ok e) work = e.work
work_after (fault n p) work = work

unfoldable pub out_after : Outcome Answers.Evaluated → List ℕ → List ℕ
out_after (ok e) out = e.out
out_after (fault n p) out = out

pub record Answered (g : Outcome Answers.Evaluated) (code work out code' work' out' : List ℕ) (r : Outcome ℕ) : Type 0 where
  pub answer : r ≡ answer_of g
  pub code-after : code' ≡ code_after g code
  pub work-after : work' ≡ work_after g work
  pub out-after : out' ≡ out_after g out
