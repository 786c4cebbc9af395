use Rattle.std.proofs.Common.{ℕ, ap, eqb}
use Rattle.validator.proofs.Holding.{one_word}
use Rattle.validator.proofs.held.held_value.Goals as goal

pub returns-then-t-eq1 : goal.returns-then-t-eq1
returns-then-t-eq1 c =
    let a = c.args in
    one_word a.words.now a.a a.w a.t c.if-t-eq1.true (ap (λ (x : ℕ). eqb x a.w) c.held_at.ensures)
