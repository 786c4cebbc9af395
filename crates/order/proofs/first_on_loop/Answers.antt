use Rattle.std.proofs.Common.{ℕ, ◌≡◌, true, false, not, ◌&&◌, ◌∙◌, arith, rules}
use Rattle.std.proofs.lemmas.Iterator.{first_from_Range}
use Rattle.order.specs.Indices.{marked}
use Rattle.order.specs.Paths.{on_loop, first_on_loop}
use Rattle.order.proofs.Range.{found-is, first-in-same}
use Rattle.order.proofs.Complete.{ordered-skip}
use Rattle.order.proofs.first_on_loop.Goals as goal

pub returns : goal.returns
unfolding first_on_loop
returns c =
    let ts = c.args.targets.now in
    let n = c.args.n in
    let p = λ (v : ℕ). not (marked c.take_all.new.taken v) && on_loop ts n v in
    found-is p n 0 c.find.result (omega arith)
    (first_from_Range _ _ _ c.find.result (λ v. p v ≡ true) (λ v. p v ≡ false) c.find.ensures.ran (λ x q k. search rules) (λ x q k. search rules))
    ∙ first-in-same p (on_loop ts n) n (λ v l. ordered-skip ts n v (marked c.take_all.new.taken v) (c.take_all.ensures.by_index v))
