-- The addresses of a function's inputs, and what a walk over it is lent.
use Prim.Native.Nat.{ℕ, suc, ◌+◌}
use mathlib.Core.Path.{◌≡◌, sym, ap, ◌∙◌}
use mathlib.Core.List.{List}
use lib.ListN.{replicate}
use lib.Seq.{sets}
use Rattle.base.specs.Limits.{port_limit}
use Rattle.reader.specs.Layout.{input_count, function_at}
use Rattle.checker.proofs.Calls.{inputs-length}
use Rattle.bytecode.specs.declared.Version.{Version}
use Rattle.bytecode.specs.declared.Version.TheVariants.{V1, V2}
use Rattle.bytecode.specs.Run.{places}
use Rattle.lowering.specs.Naming.{names}
use Rattle.sums.specs.Position.{place_of, function_in}
use Rattle.sums.specs.Answers.{types_by}
use Rattle.sums.proofs.Widths.{inputs_are}
use Rattle.compiler.specs.declared.Layout.{Layout}
use Rattle.compiler.specs.Locating.{AllocatedTo}
use Rattle.compiler.specs.Whole.{inputs_by, Prepared}

-- zeros where no input is
abbrev filled : Version → List ℕ → ℕ → List ℕ
filled v s k = sets (replicate port_limit 0) 0 (inputs_by v (function_in s k).inputs)

-- the function at position k has n inputs, and their addresses are stored
module _ (s : List ℕ) (k : ℕ) {n : ℕ} (en : n ≡ input_count s (place_of s k)) {ins : List ℕ} where
  pub by-words : {p : ℕ} → p ≡ place_of s k → ins ≡ sets (replicate port_limit 0) 0 (places 0 (types_by 1 n s (p + 6))) → ins ≡ filled V1 s k
  unfolding function_at
  by-words {p} ep e =
      let at = place_of s k in
      e
      ∙ ap (λ (q : ℕ). sets (replicate port_limit 0) 0 (places 0 (types_by 1 n s (q + 6)))) ep
      ∙ ap (λ (m : ℕ). sets (replicate port_limit 0) 0 (places 0 (types_by 1 m s (at + 6)))) en
      ∙ ap (λ (ts : List ℕ). sets (replicate port_limit 0) 0 (places 0 ts)) (inputs_are (input_count s at) s (at + 6))

  pub by-names : ins ≡ sets (replicate port_limit 0) 0 (names 0 n) → ins ≡ filled V2 s k
  unfolding function_at
  by-names e =
      let at = place_of s k in
      e
      ∙ ap (λ (m : ℕ). sets (replicate port_limit 0) 0 (names 0 m)) (en ∙ sym (inputs-length (input_count s at) s (at + 6)))

-- in the version at hand
pub prepared : {v v' : Version} → v ≡ v' → {s ins : List ℕ} {l : Layout} {k cell : ℕ} → AllocatedTo v s (suc k) l cell → ins ≡ filled v' s k
    → Prepared v s k (record l { ins = ins })
prepared e {s} {k} a i =
    record { allocated = λ j l w. let x = a.allocated j l w in record { count = x.count; size = x.size; nodes = x.nodes; agrees = x.agrees }; ports = a.ports; inputs = i ∙ ap (λ (x : Version). filled x s k) (sym e) }
