use Rattle.std.proofs.Common.{◌≡◌, ◌+◌, ◌-◌, ◌<◌, sym, ap, ◌∙◌, ℕ, arith}
use Rattle.std.proofs.lemmas.Result.{err_from_is_err_and}
use Rattle.graph.specs.Read.{nodes}
use Rattle.reader.specs.Records.{next}
use Rattle.reader.proofs.Functions.{nodes-on, nodes-fault}
use Rattle.reader.proofs.records.read_nodes.Goals as goal

pub loop-init : goal.loop-init
loop-init c = let a = c.args in
    let z : a.n ≡ a.n - 0 = omega arith in
    ap (λ (k : ℕ). next (nodes k a.s.now a.at)) z

pub returns-in_err-p : goal.returns-in_err-p
returns-in_err-p c = let l = c.loop in
    let left = c.args.n - l.counter in
    let h : 0 < left = omega (arith, c.loop-test.true) in
    let p = err_from_is_err_and c.from_residual.result c.from_residual.ensures.1 in
    rw (p.1, p.2) (sym (l.invariant ∙ nodes-fault _ l.p left h _ _ c.in_err-p.ensures))

pub loop-preserved : goal.loop-preserved
loop-preserved c = let l = c.loop in
    let left = c.args.n - l.counter in
    let h : 0 < left = omega (arith, c.loop-test.true) in
    let z : left - 1 ≡ c.args.n - (l.counter + 1) = omega arith in
    rw (sym z) (l.invariant ∙ nodes-on _ l.p left h _ _ c.in_ok-p.ensures)

pub returns : goal.returns
returns c = let l = c.loop in
    let z : c.args.n - l.counter ≡ 0 = omega (arith, c.loop-test.false) in
    sym (rw z at l.invariant)
