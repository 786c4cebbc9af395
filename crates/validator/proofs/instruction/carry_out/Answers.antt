use Rattle.std.proofs.Common.{ℕ, ◌≡◌, ◌*◌, ap, sym, ◌∙◌, slice_index_or}
use Rattle.validator.specs.Tests.{carried_at}
use Rattle.validator.proofs.Stepping.{no_number, again, not_carried, stepped, next-is, stored_is}
use Rattle.validator.proofs.instruction.carry_out.Goals.{then-half-eq0-via-then-half-eq0, then-half-eq0-via-else-half-eq0+then-not-carried}
use Rattle.validator.proofs.instruction.carry_out.Goals as goal

pub returns-then-count-m : goal.returns-then-count-m
returns-then-count-m c = let a = c.args in no_number a.ours.now a.code.now a.at a.m a.count a.index.now a.words.now c.if-count-m.true

pub returns-then-half-eq0 : goal.returns-then-half-eq0
returns-then-half-eq0 c =
    let a = c.args in
    let half = c.from-half.ensures in
    elim c.then-half-eq0.branch [
      | then-half-eq0-via-then-half-eq0 w ↦
          again a.ours.now a.code.now a.at a.m a.count a.index.now a.words.now c.if-count-m.false (sym half ∙ w.if-half-eq0.true)
      | then-half-eq0-via-else-half-eq0+then-not-carried w ↦
          let yet : slice_index_or a.index.now a.m 0 ≡ 0 → ⊥ = λ e. w.if-half-eq0.false (half ∙ e) in
          let is = ap (λ (h : ℕ). carried_at a.ours.now (2 * h) a.code.now a.at a.words.now) (sym half) ∙ sym w.carried.ensures in
          not_carried a.ours.now a.code.now a.at a.m a.count a.index.now a.words.now c.if-count-m.false yet (is ∙ w.if-not-carried.true)
    ]

pub returns : goal.returns
returns c =
    let a = c.args in
    let half = c.from-half.ensures in
    let yet : slice_index_or a.index.now a.m 0 ≡ 0 → ⊥ = λ e. c.if-half-eq0.false (half ∙ e) in
    let is = ap (λ (h : ℕ). carried_at a.ours.now (2 * h) a.code.now a.at a.words.now) (sym half) ∙ sym c.carried.ensures in
    stepped a.ours.now a.code.now a.at a.m a.count a.index.now a.words.now c.if-count-m.false yet (is ∙ c.if-not-carried.false)
    (next-is c.requires c.from.ensures c.constant_words.ensures.0)
    (stored_is a.code.now a.at a.m a.words.now c.requires.row_is c.u16_at.ensures.0 c.from-w.ensures c.result_words.ensures.value c.note_words.ensures)
