-- The lines of an accepted table's functions, one after the other.
use Prim.Native.Nat.{ℕ, ◌+◌, ◌*◌, ◌≤◌, ◌<◌}
use mathlib.Core.Path.{◌≡◌, refl, sym, subst}
use mathlib.Core.List.{List}
use native.Mathlib.Nat.{add-zero}
use native.Mathlib.Numerals.{add-one}
use native.Mathlib.Omega.{arith}
use Rattle.base.specs.Limits.{function_limit}
use Rattle.sums.specs.Position.{function_in, before, Accepted}
use Rattle.reader.specs.Layout.{earlier}
use Rattle.lowering.specs.Listing.{function_line, function_lines}
use Rattle.listing.specs.declared.Text.{Text}
use Rattle.listing.specs.Appends.{Appends}
use Rattle.listing.specs.Lines.{text_limit, first_limit, line_limit}
use Rattle.listing.proofs.Runs.{then, same}
use Rattle.sums.proofs.Accepted.{few}

-- the lines of the functions before k are written
pub record Listed (s : List ℕ) (n : ℕ) (entry now : Text) (k : ℕ) : Type 0 where
  pub index : k ≤ n
  pub most : n ≤ function_limit
  pub room : now.length ≤ first_limit + line_limit * k
  pub put : Appends entry (function_lines (before s k)) now

pub start : (s : List ℕ) (n : ℕ) (entry : Text) → Accepted s n → entry.length ≤ first_limit → Listed s n entry entry 0
unfolding earlier
start s n entry e h =
    record {
      index = omega arith;
      most = few s n e;
      room = omega arith;
      put = record { same_buffer = refl; written = refl; end = sym (add-zero entry.length) };
    }

pub step : (s : List ℕ) (n : ℕ) (entry now next : Text) (line : List ℕ) (k : ℕ) → Listed s n entry now k → k < n
    → line ≡ function_line (before s k) (function_in s k) → Appends now line next → next.length ≤ now.length + line_limit
    → Listed s n entry next (k + 1)
unfolding earlier
step s n entry now next line k l h e p m =
    let room = l.room in
    record {
      index = omega arith;
      most = l.most;
      room = omega arith;
      put =
          subst (λ (j : ℕ). Appends entry (function_lines (before s j)) next) (sym (add-one k)) (then l.put (same e p));
    }

pub done : (s : List ℕ) (n : ℕ) (entry now : Text) (k : ℕ) → Listed s n entry now k → n ≤ k
    → Appends entry (function_lines (before s n)) now × (now.length ≤ text_limit)
done s n entry now k l h =
    let i = l.index in
    let most = l.most in
    let room = l.room in
    let z : k ≡ n = omega arith in
    (subst (λ (j : ℕ). Appends entry (function_lines (before s j)) now) z l.put, omega arith)
