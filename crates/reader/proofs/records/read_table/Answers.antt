use Rattle.std.proofs.Common.{◌≡◌, false, sym, ap, ◌∙◌}
use Rattle.std.proofs.lemmas.Result.{err_from_is_err_and}
use borrow.Author.Tests.{le-leb, lt-leb, eq-eqb, ne_eqb}
use Rattle.base.specs.Bytes.{byte}
use Rattle.base.specs.Outcome.{ok, ◌>>◌, need}
use Rattle.base.proofs.Outcomes.{fails}
use Rattle.graph.specs.Format.{format_of}
use Rattle.graph.specs.Read.{functions, table_marked, parse}
use Rattle.reader.specs.Records.{seen, next}
use Rattle.reader.proofs.Functions.{from-version, from-size, from-count, from-functions, header-long, header-marked, header-version, header-size, header-count, functions-stop, functions-end, functions-over}
use Rattle.reader.proofs.records.read_table.Goals.{Else-s-lt-HEADER, Else-s-ne71, Else-u16_at-ne1, Else-u16_at-s, Else-count-gt-FUNCTION_LIMIT, then-s-ne73-via-then-s-ne73, then-s-ne73-via-else-s-ne73+then-s-ne70, then-s-ne73-via-else-s-ne73+else-s-ne70+then-s-ne71, then-count-lt1-via-then-count-lt1, then-count-lt1-via-else-count-lt1+then-count-gt-FUNCTION_LIMIT}
use Rattle.reader.proofs.records.read_table.Goals as goal

-- ---- what is left of the reading, after each test that passed

long : (c : Else-s-lt-HEADER) → let s = c.args.s.now in parse (format_of s) s ≡ (need (table_marked s) 2 0 >> from-version (format_of s) s)
long c = header-long c.args.s.now c.if-s-lt-HEADER.false

marked : (c : Else-s-ne71) → let s = c.args.s.now in parse (format_of s) s ≡ from-version (format_of s) s
marked c = header-marked c.args.s.now c.if-s-lt-HEADER.false c.if-s-ne73.false c.if-s-ne70.false c.if-s-ne71.false

versioned : (c : Else-u16_at-ne1) → let s = c.args.s.now in parse (format_of s) s ≡ from-size (format_of s) s
versioned c =
    header-version c.args.s.now c.if-s-lt-HEADER.false c.if-s-ne73.false c.if-s-ne70.false c.if-s-ne71.false (sym c.u16_at.ensures.0 ∙ c.if-u16_at-ne1.false)

sized : (c : Else-u16_at-s) → let s = c.args.s.now in parse (format_of s) s ≡ from-count (format_of s) s
sized c =
    header-size c.args.s.now c.if-s-lt-HEADER.false c.if-s-ne73.false c.if-s-ne70.false c.if-s-ne71.false (sym c.u16_at.ensures.0 ∙ c.if-u16_at-ne1.false)
    (sym c.u16_at-2.ensures.0 ∙ c.if-u16_at-s.false)

counted : (c : Else-count-gt-FUNCTION_LIMIT) → let s = c.args.s.now in parse (format_of s) s ≡ from-functions (format_of s) s
counted c =
    header-count c.args.s.now c.if-s-lt-HEADER.false c.if-s-ne73.false c.if-s-ne70.false c.if-s-ne71.false (sym c.u16_at.ensures.0 ∙ c.if-u16_at-ne1.false)
    (sym c.u16_at-2.ensures.0 ∙ c.if-u16_at-s.false)
    (rw c.from-count.ensures at c.if-count-lt1.false) (rw c.from-count.ensures at c.if-count-gt-FUNCTION_LIMIT.false)

-- ---- the answers

pub returns-then-s-lt-HEADER : goal.returns-then-s-lt-HEADER
returns-then-s-lt-HEADER c = rw c.at.ensures (ap seen (sym (fails _ 1 0 _ (lt-leb _ _ c.if-s-lt-HEADER.true))))

pub returns-then-s-ne73 : goal.returns-then-s-ne73
returns-then-s-ne73 c = let s = c.args.s.now in
    let unmarked : table_marked s ≡ false = elim c.then-s-ne73.branch [
      | then-s-ne73-via-then-s-ne73 w ↦ rw (ne_eqb _ _ w.if-s-ne73.true)
      | then-s-ne73-via-else-s-ne73+then-s-ne70 w ↦ rw (eq-eqb _ _ w.if-s-ne73.false, ne_eqb _ _ w.if-s-ne70.true)
      | then-s-ne73-via-else-s-ne73+else-s-ne70+then-s-ne71 w ↦ rw (eq-eqb _ _ w.if-s-ne73.false, eq-eqb _ _ w.if-s-ne70.false, ne_eqb _ _ w.if-s-ne71.true)
    ] in
    rw c.at-then-s-ne73.ensures (ap seen (sym (long (goal.at.returns-then-s-ne73 c).Else-s-lt-HEADER ∙ fails _ 2 0 _ unmarked)))

pub returns-then-u16_at-ne1 : goal.returns-then-u16_at-ne1
unfolding format_of
returns-then-u16_at-ne1 c =
    rw c.at-then-u16_at-ne1.ensures (ap seen (sym (marked (goal.at.returns-then-u16_at-ne1 c).Else-s-ne71 ∙ fails _ 3 3 _ (ne_eqb _ _ (λ q. c.if-u16_at-ne1.true (c.u16_at.ensures.0 ∙ q))))))

pub returns-then-u16_at-s : goal.returns-then-u16_at-s
unfolding format_of
returns-then-u16_at-s c =
    rw c.at-then-u16_at-s.ensures (ap seen (sym (versioned (goal.at.returns-then-u16_at-s c).Else-u16_at-ne1 ∙ fails _ 4 6 _ (ne_eqb _ _ (λ q. c.if-u16_at-s.true (c.u16_at-2.ensures.0 ∙ q))))))

pub returns-then-count-lt1 : goal.returns-then-count-lt1
returns-then-count-lt1 c =
    rw c.at-then-count-lt1.ensures (ap seen (sym (sized (goal.at.returns-then-count-lt1 c).Else-u16_at-s ∙ fails _ 6 5 _ (elim c.then-count-lt1.branch [
      | then-count-lt1-via-then-count-lt1 w ↦ rw (lt-leb _ _ (rw c.from-count.ensures at w.if-count-lt1.true))
      | then-count-lt1-via-else-count-lt1+then-count-gt-FUNCTION_LIMIT w ↦
          rw (le-leb _ _ (rw c.from-count.ensures at w.if-count-lt1.false), lt-leb _ _ (rw c.from-count.ensures at w.if-count-gt-FUNCTION_LIMIT.true))
    ]))))

pub returns-in_err-end : goal.returns-in_err-end
unfolding format_of
returns-in_err-end c = let s = c.args.s.now in
    let p = err_from_is_err_and c.from_residual.result c.from_residual.ensures.1 in
    rw (p.1, p.2) (ap seen (sym (counted (goal.at.returns-in_err-end c).Else-count-gt-FUNCTION_LIMIT ∙ functions-stop (format_of s) s _ _ (rw c.from-count.ensures at c.in_err-end.ensures))))

pub returns-then-end-s : goal.returns-then-end-s
unfolding format_of
returns-then-end-s c = let s = c.args.s.now in
    let r : ok c.in_ok-end.end ≡ next (functions (format_of s).node_limit (byte s 5) s (format_of s).header) = rw c.from-count.ensures at c.in_ok-end.ensures in
    sym (ap seen (counted (goal.at.returns-then-end-s c).Else-count-gt-FUNCTION_LIMIT) ∙ functions-end (format_of s) s _ r c.if-end-s.true)

pub returns-else-end-s : goal.returns-else-end-s
unfolding format_of
returns-else-end-s c = let s = c.args.s.now in
    let r : ok c.in_ok-end.end ≡ next (functions (format_of s).node_limit (byte s 5) s (format_of s).header) = rw c.from-count.ensures at c.in_ok-end.ensures in
    rw c.at-else-end-s.ensures (ap seen (sym (counted (goal.at.returns-else-end-s c).Else-count-gt-FUNCTION_LIMIT ∙ functions-over (format_of s) s _ r c.if-end-s.false)))
