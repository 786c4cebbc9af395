use Rattle.std.proofs.Common.{ℕ, ◌≡◌, ◌-◌, List, [], length}
use Rattle.base.specs.Limits.{function_limit, node_limit, slot_limit}
use Rattle.graph.specs.Graph.{Function}
use Rattle.graph.specs.Judge.{judge_all}
use Rattle.reader.specs.Layout.{functions_at, known}
use Rattle.reader.specs.Find.{ReadsFunctions, ReadsStarts}
use Rattle.checker.proofs.judge_all.Given as goal

-- n functions are left, from `at` on, of `count` from `first` on; `early` are those before
pub record Left (s : List ℕ) (first count : ℕ) (early : List Function) (n at : ℕ) : Type 0 where
  pub reads : ReadsFunctions n s at
  pub same : judge_all [] (functions_at count s first) ≡ judge_all early (functions_at n s at)

abbrev pub invariant-loop-k : goal.invariant-loop-k
invariant-loop-k l = record {
  started : ReadsStarts l.s l.starts l.k;
  left : Left l.s l.first l.count (known l.s l.starts l.k) (l.count - l.k) l.at;
  starts : length l.starts ≡ function_limit;
  places : length l.places ≡ node_limit;
  targets : length l.targets ≡ slot_limit;
}
