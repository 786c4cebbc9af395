-- `runner::row::check_instruction`, by what the row says.
use mathlib.Core.Path.{refl, sym, ◌∙◌}
use mathlib.Core.Bool.{not}
use native.Mathlib.Omega.{arith}
use lib.Dec.{eqb}
use Rattle.runner.proofs.Checking.{no-type, given-typed, type-given, not-executed}
use Rattle.runner.proofs.Passing.{no-kind-here}
use Rattle.runner.proofs.row.check_instruction.Goals.{then-t-ne0-via-then-t-ne0, then-t-ne0-via-else-t-ne0+then-not-executable}
use Rattle.runner.proofs.row.check_instruction.Goals as goal

pub returns-then-not-is_type : goal.returns-then-not-is_type
returns-then-not-is_type g c =
    let a = c.args in
    no-kind-here (not (eqb g.row.ADDRESSED 0)) a.s.now a.cursor.at a.cursor.result a.marks.now _ c.requires.2 refl refl
    (no-type a.s.now a.cursor.at a.row c.requires.2 (sym c.has_type.ensures ∙ c.if-has_type.true) (sym c.is_type.ensures ∙ c.if-not-is_type.true))

pub check_inputs-requires : goal.check_inputs-requires
check_inputs-requires g c =
    let a = c.args in (
      c.requires.0,
      c.requires.1,
      given-typed a.s.now a.cursor.at a.row c.requires.2 (sym c.has_type.ensures ∙ c.if-has_type.true) (sym c.is_type.ensures ∙ c.if-not-is_type.false)
          c.width.ensures.value (omega (arith, c.width.ensures.bounded)),
    )

pub returns-then-t-ne0 : goal.returns-then-t-ne0
returns-then-t-ne0 g c =
    let a = c.args in
    let h = sym c.has_type.ensures ∙ c.if-has_type.false in
    no-kind-here (not (eqb g.row.ADDRESSED 0)) a.s.now a.cursor.at a.cursor.result a.marks.now _ c.requires.2 refl refl
    (elim c.then-t-ne0.branch [
      | then-t-ne0-via-then-t-ne0 w ↦ type-given a.s.now a.cursor.at a.row c.requires.2 h (λ z. absurd (omega (arith, z, w.if-t-ne0.true)))
      | then-t-ne0-via-else-t-ne0+then-not-executable w ↦ not-executed a.s.now a.cursor.at a.row c.requires.2 h (sym w.executable.ensures ∙ w.if-not-executable.true)
    ])
