-- 02, request 1: a layer's points in one call. 18, 22, 19, 20, 21, or all as after calling one by one.
use Rattle.std.specs.Prelude.{ℕ, zero, suc, ◌+◌, ◌*◌, ◌&&◌, List, ◌++◌, leb, eqb, length, take, drop}
use Rattle.base.specs.Limits.{point_limit}
use Rattle.base.specs.Outcome.{Outcome, ok, ◌>>=◌, ◌>>◌, need, or_else}
use Rattle.base.specs.Lists.{every}
use Rattle.value.specs.Values.{argument_word}
use Rattle.bytecode.specs.Code.{decode}
use Rattle.bytecode.specs.Answers.{Buffers, ran}

-- calls of the runner, one by one: each takes the next `arguments` words, the work buffer as the call before left it, and the next
-- `outputs` words of the output buffer; no points write nothing
unfoldable pub one_by_one : List ℕ → (arguments outputs points : ℕ) → List ℕ → List ℕ → List ℕ → Outcome Buffers
one_by_one code n m zero arguments work out = ok (record { count = 0; work = work; out = out })
one_by_one code n m (suc points) arguments work out = do
  a ← ran code (take n arguments) work (take m out)
  b ← one_by_one code n m points (drop n arguments) a.work (drop m out)
  ok (record { count = a.count + b.count; work = b.work; out = a.out ++ b.out })

-- all is judged before the first of them
unfoldable pub ran_points : List ℕ → ℕ → List ℕ → List ℕ → List ℕ → Outcome Buffers
ran_points code points arguments work out = do
  b ← or_else (decode code) 18 0
  need (leb points point_limit) 22 0
  need (eqb (length arguments) (points * b.arguments)) 19 0
  need (every argument_word arguments) 20 0
  need (leb b.words (length work) && leb (points * length b.outputs) (length out)) 21 0
  one_by_one code b.arguments (length b.outputs) points arguments work out
