-- What every row of the port list keeps to.
use Prim.Native.Nat.{ℕ, zero, suc, ◌≤◌}
use mathlib.Core.Path.{◌≡◌, refl, subst}
use mathlib.Core.Bool.{Bool, true, ◌&&◌}
use mathlib.Core.List.{List, [], ◌∷◌}
use lib.Dec.{leb}
use lib.ListN.{get_or}
use borrow.Author.Tests.{leb-true}
use Rattle.ports.specs.declared.Ports.{Ports}
use Rattle.ports.specs.Kinds.{kind_of}
use Rattle.ports.specs.Ports.{absent, ports_of, rows}
use Rattle.ports.proofs.Laws.{row_of}
use Rattle.base.proofs.Bools.{and-inv}
use Rattle.base.specs.Limits.{operand_limit}

abbrev narrow_row : Ports → Bool
narrow_row r = leb r.operands operand_limit && (leb r.results 3 && leb r.words 16)

abbrev all_narrow : List Ports → Bool
all_narrow [] = true
all_narrow (r ∷ rs) = narrow_row r && all_narrow rs

narrow_at : (rs : List Ports) (k : ℕ) → all_narrow rs ≡ true → narrow_row (get_or rs k absent) ≡ true
narrow_at [] k e = refl
narrow_at (r ∷ rs) zero e = (and-inv (narrow_row r) (all_narrow rs) e).0
narrow_at (r ∷ rs) (suc k) e = narrow_at rs k (and-inv (narrow_row r) (all_narrow rs) e).1

pub record Narrow (r : Ports) : Type 0 where
  pub operands : r.operands ≤ operand_limit
  pub results : r.results ≤ 3
  pub words : r.words ≤ 16

row-narrow : (r : Ports) → narrow_row r ≡ true → Narrow r
row-narrow r e =
    let (a, e1) = and-inv (leb r.operands operand_limit) (leb r.results 3 && leb r.words 16) e in
    let (b, c) = and-inv (leb r.results 3) (leb r.words 16) e1 in
    record { operands = leb-true _ _ a; results = leb-true _ _ b; words = leb-true _ _ c }

pub narrow : (k : ℕ) → Narrow (ports_of (kind_of k))
narrow k = subst Narrow (row_of k) (row-narrow (get_or rows k absent) (narrow_at rows k refl))
