use Rattle.std.proofs.Common.{sym, ◌∙◌, inl, inr}
use Rattle.quetlapin.proofs.Evaluating.{lent-19, lent-20, lent-21, lent-went}
use Rattle.quetlapin.proofs.check_lent.Goals.{then-work-words-via-then-work-words, then-work-words-via-else-work-words+then-out-sizes}
use Rattle.quetlapin.proofs.check_lent.Goals as goal

pub returns-then-arguments-sizes : goal.returns-then-arguments-sizes
returns-then-arguments-sizes c = let a = c.args in rw c.at.ensures (lent-19 a.sizes a.words a.arguments.now a.work a.out c.if-arguments-sizes.true)

pub returns-then-not-arguments_allowed : goal.returns-then-not-arguments_allowed
returns-then-not-arguments_allowed c = let a = c.args in
    rw c.at-then-not-arguments_allowed.ensures (lent-20 a.sizes a.words a.arguments.now a.work a.out c.if-arguments-sizes.false (sym c.arguments_allowed.ensures ∙ c.if-not-arguments_allowed.true))

pub returns-then-work-words : goal.returns-then-work-words
returns-then-work-words c = let a = c.args in
    rw c.at-then-work-words.ensures
    (lent-21 a.sizes a.words a.arguments.now a.work a.out c.if-arguments-sizes.false (sym c.arguments_allowed.ensures ∙ c.if-not-arguments_allowed.false)
    (elim c.then-work-words.branch [
      | then-work-words-via-then-work-words w ↦ inl w.if-work-words.true
      | then-work-words-via-else-work-words+then-out-sizes w ↦ inr w.if-out-sizes.true
    ]))

pub returns : goal.returns
returns c = let a = c.args in
    lent-went a.sizes a.words a.arguments.now a.work a.out c.if-arguments-sizes.false (sym c.arguments_allowed.ensures ∙ c.if-not-arguments_allowed.false) c.if-work-words.false c.if-out-sizes.false
