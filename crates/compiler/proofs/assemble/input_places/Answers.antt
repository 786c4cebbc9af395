use Prim.Native.Nat.{ℕ, ◌+◌, ◌-◌}
use mathlib.Core.Path.{◌≡◌, refl, sym, ap, ◌∙◌}
use mathlib.Core.List.{◌∷◌}
use native.Mathlib.Omega.{arith}
use Rattle.base.proofs.Stores.{run_step}
use Rattle.bytecode.specs.Run.{places}
use Rattle.sums.specs.Answers.{types_by}
use Rattle.compiler.proofs.Filling.{types-next}
use Rattle.compiler.proofs.assemble.input_places.Goals as goal

pub loop-j-preserved : goal.loop-j-preserved
loop-j-preserved c =
    let a = c.args in
    let l = c.loop-j in
    let s = a.table.now in
    let y = c.width-w.ensures.value in
    let b = c.width-w.ensures.bounded in
    let z : a.at + l.j + 1 ≡ a.at + (l.j + 1) = omega arith in (
      omega arith,
      run_step l.invariant.1
          (ap (places l.w) (types-next 1 s (a.at + l.j) c.loop-j-test.true)
          ∙ ap (λ (x : ℕ). l.w ∷ places (l.w + x) (types_by 1 (a.n - (l.j + 1)) s (a.at + l.j + 1))) (sym y)
          ∙ ap (λ (q : ℕ). l.w ∷ places (l.w + c.width-w.result) (types_by 1 (a.n - (l.j + 1)) s q)) z)
          refl,
    )
