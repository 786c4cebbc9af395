-- `runner::check_list`: the instructions, and what stands behind them.
use mathlib.Core.Path.{ap, sym, ◌∙◌}
use mathlib.Core.Bool.{Bool, not}
use native.Mathlib.Omega.{arith}
use lib.Dec.{eqb}
use Rattle.std.specs.Bool.{then_some}
use Rattle.runner.proofs.Whole.{no-list, end-within, by-behind, some_by}
use Rattle.runner.proofs.check_list.Goals as goal

pub returns-in_err-next : goal.returns-in_err-next
returns-in_err-next g c =
    rw c.from_residual.ensures (no-list (not (eqb g.row.ADDRESSED 0)) c.requires (sym c.check_instructions.ensures.answer ∙ c.in_err-next.was))

pub is_ended-requires : goal.is_ended-requires
is_ended-requires g c =
    let o = c.requires.outputs in
    (end-within (not (eqb g.row.ADDRESSED 0)) c.requires c.in_ok-next.ensures, omega arith)

pub returns : goal.returns
returns g c = by-behind (not (eqb g.row.ADDRESSED 0)) c.requires c.in_ok-next.ensures
    (c.then_some.ensures ∙ ap (λ (y : Bool). then_some y c.args.counts) c.is_ended.ensures ∙ some_by _ c.args.counts)
