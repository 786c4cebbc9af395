use Prim.Native.Nat.{ℕ, ◌+◌, ◌-◌}
use mathlib.Core.Path.{◌≡◌, refl, sym, ap, ◌∙◌}
use mathlib.Core.List.{◌∷◌, map}
use native.Mathlib.Omega.{arith}
use Rattle.base.proofs.Stores.{run_step}
use Rattle.ports.specs.Ports.{width}
use Rattle.sums.specs.Answers.{types_by}
use Rattle.compiler.proofs.Filling.{types-next}
use Rattle.compiler.proofs.placed.input_widths.Goals as goal

pub loop-j-preserved : goal.loop-j-preserved
loop-j-preserved c =
    let a = c.args in
    let l = c.loop-j in
    let s = a.table.now in
    let y : a.at + l.j + 1 ≡ a.at + (l.j + 1) = omega arith in
    run_step l.invariant
    (ap (map width) (types-next 1 s (a.at + l.j) c.loop-j-test.true)
    ∙ ap (λ (x : ℕ). x ∷ map width (types_by 1 (a.n - (l.j + 1)) s (a.at + l.j + 1))) (sym c.width.ensures.value)
    ∙ ap (λ (q : ℕ). c.width.result ∷ map width (types_by 1 (a.n - (l.j + 1)) s q)) y)
    refl
