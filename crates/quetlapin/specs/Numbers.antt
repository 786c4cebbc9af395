-- Answers as one number, for other programs.
use Rattle.std.specs.Prelude.{ℕ, ◌+◌, ◌*◌, ◌≤◌, ◌<◌, List, [], ◌∷◌, ◌≡◌, ◌⊎◌}
use Rattle.base.specs.Lists.{Is}
use Rattle.base.specs.Outcome.{Outcome, ok, fault}
use Rattle.base.specs.Refusals.{mapped}
use Rattle.bytecode.specs.Answers.{Buffers}
use Rattle.lowering.specs.Answers as Answers
use Rattle.runner.specs.Runs.{work_after, out_after}
use Rattle.quetlapin.specs.Answers as evaluation

-- ---- the number

-- a refusal: its number times 2^32, and its place
abbrev pub refusal_number : ℕ → ℕ → ℕ
refusal_number n p = n * 0x1_0000_0000 + p

-- a success stands for itself
abbrev pub number_of : Outcome ℕ → ℕ
number_of (ok n) = n
number_of (fault n p) = refusal_number n p

-- a refusal's place is below 2^32, as the number asks
abbrev pub Tellable : Outcome ℕ → Type 0
Tellable (ok n) = Unit {0}
Tellable (fault n p) = p < 0x1_0000_0000

-- one of 01's numbers or 02's 22 and 31, and a place below 2^32
abbrev pub Refusal : ℕ → ℕ → Type 0
Refusal n p = (1 ≤ n) × ((n ≤ 22) ⊎ (n ≡ 31)) × (p < 0x1_0000_0000)

-- a success is below 2^32 too
abbrev pub Bounded : Outcome ℕ → Type 0
Bounded (ok n) = n < 0x1_0000_0000
Bounded (fault n p) = Refusal n p

-- so no two answers have the same number, and what another program is told is the answer
pub record Told (o : Outcome ℕ) (r : ℕ) : Type 0 where
  pub number : r ≡ number_of o
  pub bounds : Bounded o

-- the same of a judgement, which has 02's 29 and 33 besides
abbrev pub JudgeRefusal : ℕ → ℕ → Type 0
JudgeRefusal n p = (1 ≤ n) × ((n ≤ 22) ⊎ Is n (29 ∷ 31 ∷ 33 ∷ [])) × (p < 0x1_0000_0000)

abbrev pub JudgeBounded : Outcome ℕ → Type 0
JudgeBounded (ok n) = n < 0x1_0000_0000
JudgeBounded (fault n p) = JudgeRefusal n p

pub record JudgeTold (o : Outcome ℕ) (r : ℕ) : Type 0 where
  pub number : r ≡ number_of o
  pub bounds : JudgeBounded o

-- ---- what is told: the function count, the code's length, the count of output words, or the refusal

module _ {A : Type 0} where
  abbrev pub counted : (A → ℕ) → Outcome A → Outcome ℕ
  counted = mapped

abbrev pub code_length : Outcome Answers.Compiled → Outcome ℕ
code_length = counted (λ a. a.size)

abbrev pub run_count : Outcome Buffers → Outcome ℕ
run_count = counted (λ b. b.count)

abbrev pub evaluation_count : Outcome Answers.Evaluated → Outcome ℕ
evaluation_count = counted (λ e. e.count)

-- ---- with the buffers after it: of a run, at one point or at many

pub record RunAnswered (g : Outcome Buffers) (work out work' out' : List ℕ) (r : ℕ) : Type 0 where
  pub answer : Told (run_count g) r
  pub work-after : work' ≡ work_after g work
  pub out-after : out' ≡ out_after g out

pub record EvaluationAnswered (g : Outcome Answers.Evaluated) (code work out code' work' out' : List ℕ) (r : ℕ) : Type 0 where
  pub answer : Told (evaluation_count g) r
  pub code-after : code' ≡ evaluation.code_after g code
  pub work-after : work' ≡ evaluation.work_after g work
  pub out-after : out' ≡ evaluation.out_after g out
