use Rattle.std.proofs.Common.{ℕ, ◌*◌, ◌<◌, subst, arith}
use Rattle.placement.specs.Record.{Lowest, Looked, block_words}
use Rattle.placement.proofs.Scan.{block-known, block-full, bounds-next, block-found}
use Rattle.placement.proofs.Known.search_blocks.Goals.{then-self-row+in-Full, else-self-row}
use Rattle.placement.proofs.Known.search_blocks.Goals as goal

pub returns-in-Gap : goal.returns-in-Gap
returns-in-Gap c =
    let l = c.loop-block in
    let a = c.args in
    let w = a.wanted in
    let high = a.self.now.high in
    let (same, b, p) = l.invariant in
    let more : l.block * block_words < high = omega (arith, c.loop-block-test.true, c.div_ceil-block-end.ensures) in
    let gap =
    subst (λ (h : ℕ). Lowest a.until.now w.k w.width (l.block * block_words) h c.in-Gap.at) same
    (subst (Looked a.until.now w.k w.width (l.block * block_words) l.self.high) c.in-Gap.is c.look_in.ensures) in
    (block-found _ l.self.low _ _ _ l.block b w.some w.few more a.self.now.room p _ gap, b, same)

pub loop-block-preserved : goal.loop-block-preserved
loop-block-preserved c =
    let l = c.loop-block in
    let a = c.args in
    let n = a.wanted in
    let high = a.self.now.high in
    let (same, b, p) = l.invariant in
    let more : l.block * block_words < high = omega (arith, c.loop-block-test.true, c.div_ceil-block-end.ensures) in
    elim c.if-self-row.branch [
      | then-self-row+in-Full w ↦
          let none = subst (Looked a.until.now n.k n.width (l.block * block_words) l.self.high) w.in-Full.is w.look_in.ensures in
          rw w.self-is (
            same,
            bounds-next _ l.self.low _ _ _ l.block b n.some n.few more a.self.now.room p _ none,
            block-full _ l.self.low _ _ _ l.block b n.some n.few more a.self.now.room p _ none,
          )
      | else-self-row w ↦
          rw w.self-is (same, b, block-known _ l.self.low _ _ _ l.block b n.some n.few more a.self.now.room p (omega (arith, w.if-self-row.false)))
    ]
