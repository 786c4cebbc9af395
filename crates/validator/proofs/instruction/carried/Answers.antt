use Rattle.std.proofs.Common.{◌∙◌, sym}
use Rattle.std.proofs.lemmas.Bool.{eqb-true, eqb-false}
use Rattle.base.proofs.Bools.{never}
use Rattle.validator.proofs.Stepping.{constants-are, other-kind, other-type, other-constants, by-operands, not-same}
use Rattle.validator.proofs.instruction.carried.Goals.{then-code-at, else-code-at, then-t-ours, else-t-ours}
use Rattle.validator.proofs.instruction.carried.Goals as goal

pub returns-then-same_constants : goal.returns-then-same_constants
returns-then-same_constants c =
    let a = c.args in
    let r = c.requires.row_is in
    let code = a.code.now in
    let ours = a.ours.now in
    elim c.if-t-ours.branch [
      | then-t-ours w ↦
          let is = constants-are ours a.from code a.at a.words.now r c.from-n.ensures c.constant_words-constants.ensures.0 w.same_constants.ensures in
          elim c.if-code-at.branch [
            | then-code-at v ↦
                by-operands ours a.from code a.at a.words.now r v.if-code-at.true (eqb-true _ _ (sym v.value-is ∙ w.if-t-ours.true)) (is ∙ sym w.value-is ∙ c.if-same_constants.true)
                c.from-n.ensures c.own.ensures c.own-then-same_constants.ensures c.held_operands.ensures
            | else-code-at v ↦ never (not-same v.value-is v.if-code-at.false w.if-t-ours.true)
          ]
      | else-t-ours w ↦ never (sym w.if-t-ours.false ∙ sym w.value-is ∙ c.if-same_constants.true)
    ]

pub returns-else-same_constants : goal.returns-else-same_constants
returns-else-same_constants c =
    let a = c.args in
    let r = c.requires.row_is in
    let code = a.code.now in
    let ours = a.ours.now in
    c.if-same_constants.false ∙ (elim c.if-t-ours.branch [
      | then-t-ours u ↦
          let is = constants-are ours a.from code a.at a.words.now r c.from-n.ensures c.constant_words-constants.ensures.0 u.same_constants.ensures in
          elim c.if-code-at.branch [
            | then-code-at v ↦
                other-constants ours a.from code a.at a.words.now r v.if-code-at.true (eqb-true _ _ (sym v.value-is ∙ u.if-t-ours.true)) (is ∙ sym u.value-is ∙ c.if-same_constants.false)
            | else-code-at v ↦ never (not-same v.value-is v.if-code-at.false u.if-t-ours.true)
          ]
      | else-t-ours u ↦ elim c.if-code-at.branch [
        | then-code-at v ↦ other-type ours a.from code a.at a.words.now r v.if-code-at.true (eqb-false _ _ (sym v.value-is ∙ u.if-t-ours.false))
        | else-code-at v ↦ other-kind ours a.from code a.at a.words.now r v.if-code-at.false
      ]
    ])
