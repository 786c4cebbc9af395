-- What the runner answers: 18, 19, 20, 21, or the run.
use Rattle.std.specs.Prelude.{ℕ, ◌&&◌, List, leb, eqb, length}
use Rattle.std.proofs.lemmas.List.Edits.{sets}
use Rattle.base.specs.Outcome.{Outcome, ok, ◌>>=◌, ◌>>◌, need, or_else}
use Rattle.base.specs.Lists.{every}
use Rattle.value.specs.Values.{argument_word}
use Rattle.bytecode.specs.Run.{run}
use Rattle.bytecode.specs.Code.{decode}

-- the count of output words, and both buffers after the run
pub record Buffers : Type 0 where
  pub count : ℕ
  pub work : List ℕ
  pub out : List ℕ

unfoldable pub ran : List ℕ → List ℕ → List ℕ → List ℕ → Outcome Buffers
ran code arguments work out = do
  b ← or_else (decode code) 18 0
  need (eqb (length arguments) b.arguments) 19 0
  need (every argument_word arguments) 20 0
  need (leb b.words (length work) && leb (length b.outputs) (length out)) 21 0
  ok (record { count = length b.outputs; work = (run b arguments work).memory; out = sets out 0 (run b arguments work).outputs })
