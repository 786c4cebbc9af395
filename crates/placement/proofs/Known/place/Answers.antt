use Rattle.std.proofs.Common.{List, ℕ, ◌+◌, max, ap, sym, ◌∙◌, subst, replicate, arith}
use Rattle.std.proofs.lemmas.List.Edits.{sets}
use Rattle.placement.specs.Record.{Bounds}
use Rattle.placement.proofs.Scan.{bounds-hold}
use Rattle.placement.proofs.Known.place.Goals as goal

pub returns : goal.returns
returns c =
    let a = c.args in
    let w = a.wanted in
    let at = c.lowest-at.result in
    let low = c.lowest-at.new.self.low in
    let high = a.self.now.high in
    let (gap, bounds, same) = c.lowest-at.ensures in
    let stored = c.hold.ensures ∙ ap (λ (x : ℕ). sets a.until.now at (replicate w.width x)) c.max.ensures in (
      omega (arith, c.if-end-gt-WORD_LIMIT.false),
      c.max-self.ensures ∙ ap (λ (h : ℕ). max h (at + w.width)) same,
      record {
        gap = gap;
        stored = λ f. stored;
        bounds = λ f.
            subst (λ (u : List ℕ). Bounds u low (max high (at + w.width))) (sym stored)
            (bounds-hold a.until.now low w.k w.width high at _ bounds gap (omega (arith, f, c.requires.1)) (omega arith));
      },
    )
