-- `runner::row::check_inputs`, by the number of operands.
use Prim.Native.Nat.{◌+◌}
use mathlib.Core.Path.{refl, sym, ◌∙◌}
use mathlib.Core.Bool.{not}
use native.Mathlib.Omega.{arith}
use lib.Dec.{eqb}
use Rattle.ports.specs.Kinds.{kind_of}
use Rattle.base.specs.Bytes.{byte}
use Rattle.runner.proofs.Checking.{operands-no-constant, constant-words, constant-is, several-end, several-is, two-is}
use Rattle.runner.proofs.Passing.{no-inputs, stepped}
use Rattle.runner.proofs.row.check_inputs.Goals as goal

pub returns-then-not-constant_good : goal.returns-then-not-constant_good
returns-then-not-constant_good g c =
    let a = c.args in
    let b = not (eqb g.row.ADDRESSED 0) in
    let h = c.requires.2 in
    let t = byte a.s.now (a.cursor.at + 1) in
    let w = constant-words a.row (kind_of (byte a.s.now a.cursor.at)) h.row_is t c.if-row-eq0.true h.legal h.words_is in
    no-inputs b a.s.now a.cursor.at a.cursor.result a.marks.now _ h.row_is refl c.operands_from-from.ensures
    (sym (constant-is b a.s.now c.operands_from-from.result a.row t a.cursor.result a.marks.now c.if-row-eq0.true w c.constant_good.ensures)
    ∙ c.if-not-constant_good.true)

pub returns-then-row-eq0 : goal.returns-then-row-eq0
returns-then-row-eq0 g c =
    let a = c.args in
    let b = not (eqb g.row.ADDRESSED 0) in
    let h = c.requires.2 in
    let t = byte a.s.now (a.cursor.at + 1) in
    let w = constant-words a.row (kind_of (byte a.s.now a.cursor.at)) h.row_is t c.if-row-eq0.true h.legal h.words_is in
    stepped b a.s.now a.cursor.at a.cursor.result a.marks.now _ h.row_is refl c.operands_from-from.ensures h.legal
    (sym (constant-is b a.s.now c.operands_from-from.result a.row t a.cursor.result a.marks.now c.if-row-eq0.true w c.constant_good.ensures)
    ∙ c.if-not-constant_good.false)
    h.words_is (omega (arith, w, c.if-row-eq0.true)) c.place_result.ensures

pub returns-then-not-both_good : goal.returns-then-not-both_good
returns-then-not-both_good g c =
    let a = c.args in
    let b = not (eqb g.row.ADDRESSED 0) in
    let h = c.requires.2 in
    let t = byte a.s.now (a.cursor.at + 1) in
    let z = operands-no-constant a.row (kind_of (byte a.s.now a.cursor.at)) h.row_is c.if-row-eq0.false in
    no-inputs b a.s.now a.cursor.at a.cursor.result a.marks.now _ h.row_is refl c.operands_from-from.ensures
    (sym (two-is b a.s.now c.operands_from-from.result a.row t a.cursor.result a.marks.now z h.first_is h.rest_is c.if-row-eq2.true c.both_good.ensures) ∙ c.if-not-both_good.true)

pub returns-then-row-eq2 : goal.returns-then-row-eq2
returns-then-row-eq2 g c =
    let a = c.args in
    let b = not (eqb g.row.ADDRESSED 0) in
    let h = c.requires.2 in
    let t = byte a.s.now (a.cursor.at + 1) in
    let z = operands-no-constant a.row (kind_of (byte a.s.now a.cursor.at)) h.row_is c.if-row-eq0.false in
    stepped b a.s.now a.cursor.at a.cursor.result a.marks.now _ h.row_is refl c.operands_from-from.ensures h.legal
    (sym (two-is b a.s.now c.operands_from-from.result a.row t a.cursor.result a.marks.now z h.first_is h.rest_is c.if-row-eq2.true c.both_good.ensures) ∙ c.if-not-both_good.false)
    h.words_is (several-end b a.s.now c.operands_from-from.result a.row t a.cursor.result a.marks.now z (sym c.if-row-eq2.true)) c.place_result-then-row-eq2.ensures

pub returns-then-not-several_good : goal.returns-then-not-several_good
returns-then-not-several_good g c =
    let a = c.args in
    let b = not (eqb g.row.ADDRESSED 0) in
    let h = c.requires.2 in
    let t = byte a.s.now (a.cursor.at + 1) in
    let z = operands-no-constant a.row (kind_of (byte a.s.now a.cursor.at)) h.row_is c.if-row-eq0.false in
    no-inputs b a.s.now a.cursor.at a.cursor.result a.marks.now _ h.row_is refl c.operands_from-from.ensures
    (sym (several-is b a.s.now c.operands_from-from.result a.row t a.cursor.result a.marks.now z h.first_is h.rest_is c.from-count.ensures c.several_good.ensures) ∙ c.if-not-several_good.true)

pub returns : goal.returns
returns g c =
    let a = c.args in
    let b = not (eqb g.row.ADDRESSED 0) in
    let h = c.requires.2 in
    let t = byte a.s.now (a.cursor.at + 1) in
    let z = operands-no-constant a.row (kind_of (byte a.s.now a.cursor.at)) h.row_is c.if-row-eq0.false in
    stepped b a.s.now a.cursor.at a.cursor.result a.marks.now _ h.row_is refl c.operands_from-from.ensures h.legal
    (sym (several-is b a.s.now c.operands_from-from.result a.row t a.cursor.result a.marks.now z h.first_is h.rest_is c.from-count.ensures c.several_good.ensures) ∙ c.if-not-several_good.false)
    h.words_is (several-end b a.s.now c.operands_from-from.result a.row t a.cursor.result a.marks.now z c.from-count.ensures) c.place_result-2.ensures
