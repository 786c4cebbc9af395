-- What a run answers, and the buffers after it.
use Rattle.std.specs.Prelude.{Some, ℕ, ◌+◌, ◌*◌, ◌≤◌, ◌<◌, ◌≡◌, List, true, ◌↔◌, length}
use Rattle.std.proofs.Math.Option.{Option, none, some}
use Rattle.std.proofs.lemmas.List.Edits.{sets}
use Rattle.value.specs.Values.{argument_word}
use Rattle.base.specs.Lists.{every, Each}
use Rattle.base.specs.Outcome.{Outcome, ok, fault}
use Rattle.base.specs.Refusals.{mapped}
use Rattle.bytecode.specs.Run.{BoardList, run}
use Rattle.bytecode.specs.declared.Version.{Version}
use Rattle.bytecode.specs.Code.{addresses, decode}
use Rattle.bytecode.specs.WellFormed.{Codes}
use Rattle.bytecode.specs.Answers.{Buffers}
use Rattle.runner.specs.declared.Counts.{Counts}
use Rattle.runner.specs.Checks.{checked_of}

-- ---- a run with its refusals

-- the count of output words
abbrev pub answer_of : Outcome Buffers → Outcome ℕ
answer_of = mapped (λ b. b.count)

-- a refusal leaves both buffers as they were

unfoldable pub work_after : Outcome Buffers → List ℕ → List ℕ
work_after (ok b) work = b.work
work_after (fault n p) work = work

unfoldable pub out_after : Outcome Buffers → List ℕ → List ℕ
out_after (ok b) out = b.out
out_after (fault n p) out = out

pub record Answered (g : Outcome Buffers) (work out work' out' : List ℕ) (r : Outcome ℕ) : Type 0 where
  pub answer : r ≡ answer_of g
  pub work-after : work' ≡ work_after g work
  pub out-after : out' ≡ out_after g out

-- 18 exactly when the bytes are in no version the code of a list
abbrev pub Refused18 : List ℕ → Outcome ℕ → Type 0
Refused18 s r = (r ≡ fault 18 0) ↔ ((v : Version) (b : BoardList) → Codes v s b → ⊥)

-- ---- a run of a code that was checked

-- with these counts, on these arguments and buffers of these lengths
pub record Runnable (s : List ℕ) (c : Counts) (arguments : List ℕ) (work out : ℕ) : Type 0 where
  pub formed : checked_of (decode s) ≡ Some c
  pub arguments-all : length arguments ≡ c.arguments
  pub allowed : every argument_word arguments ≡ true
  pub work-room : c.words ≤ work
  pub out-room : c.outputs ≤ out

unfoldable pub memory_of : Option BoardList → List ℕ → List ℕ → List ℕ
memory_of none arguments work = work
memory_of (some b) arguments work = (run b arguments work).memory

unfoldable pub outputs_of : Option BoardList → List ℕ → List ℕ → List ℕ → List ℕ
outputs_of none arguments work out = out
outputs_of (some b) arguments work out = sets out 0 (run b arguments work).outputs

-- the addresses of outputs, and room for the words there
pub record OutputsReady (s : List ℕ) (from count size room : ℕ) : Type 0 where
  pub fits : from + 2 * count ≤ length s
  pub below : Each (λ a. a < size) (addresses count s from)
  pub out : count ≤ room
