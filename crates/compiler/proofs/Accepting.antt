-- What an accepted table says of the function at a position.
use Prim.Native.Nat.{ℕ, zero, suc, ◌≤◌, ◌<◌}
use mathlib.Core.Path.{◌≡◌, sym, subst}
use mathlib.Core.List.{List, []}
use mathlib.Core.Logic.{⊎_elim}
use native.Mathlib.Omega.{arith}
use Rattle.base.specs.Limits.{node_limit}
use Rattle.base.specs.Lists.{Each}
use Rattle.base.specs.Outcome.{ok}
use Rattle.base.proofs.Numbers.{lt-or-eq}
use Rattle.graph.specs.Judge.{fresh}
use Rattle.graph.proofs.Fresh.{distinct-fresh}
use Rattle.reader.specs.Layout.{nodes_at, node_count, nodes_place, function_at, earlier}
use Rattle.reader.specs.Find.{ReadsNodes}
use Rattle.reader.proofs.Passed.{function-holds}
use Rattle.sums.specs.Position.{place_of, function_in, before, Accepted}
use Rattle.sums.proofs.Accepted.{functions-are, read_below}
use Rattle.compiler.proofs.Locations.{Single, accepted-single}

module _ (s : List ℕ) (k : ℕ) (acc : Accepted s k) where
  single-down : (n j : ℕ) → j < n → Each (λ f. Single f.nodes) (before s n) → Single (function_in s j).nodes
  unfolding earlier
  single-down zero j l h = absurd (omega arith)
  single-down (suc n) j l h =
      ⊎_elim (λ m. single-down n j m h.1) (λ e. subst (λ (a : ℕ). Single (function_in s a).nodes) (sym e) h.0) (lt-or-eq j n l)

  pub single-at : (j : ℕ) → j < k → Single (function_in s j).nodes
  single-at j l =
      let n = acc.most in
      single-down acc.functions j (omega arith) (accepted-single s acc.small (before s acc.functions) (functions-are s acc.functions acc.judged))

  -- its nodes, n of them from `at` on
  pub nodes-held : (j : ℕ) → j < k → {n at : ℕ} → n ≡ node_count s (place_of s j) → at ≡ nodes_place s (place_of s j)
      → (n ≤ node_limit) × ReadsNodes n s at × (fresh [] (nodes_at n s at) ≡ ok tt)
  unfolding function_at
  nodes-held j l en ea = let h = function-holds s (place_of s j) (read_below s k acc j l) in rw (en, ea) (h.few, h.nodes, distinct-fresh (function_in s j).nodes (single-at j l))
