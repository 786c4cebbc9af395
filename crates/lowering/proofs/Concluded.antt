-- Case A is lent what demand 3 asks, and what demand 3 then says of it.
use Prim.Native.Nat.{ℕ}
use mathlib.Core.Path.{◌≡◌, refl, ap, sym, ◌∙◌, subst}
use mathlib.Core.List.{List, [], ◌∷◌}
use native.Mathlib.Omega.{arith}
use lib.ListN.{length}
use lib.Seq.{sets}
use Rattle.base.specs.Outcome.{ok}
use Rattle.base.proofs.Lists.{some_is}
use Rattle.base.proofs.Outcomes.{ok-is}
use Rattle.bytecode.specs.declared.Version.{Version}
use Rattle.bytecode.specs.Version.{number}
use Rattle.lowering.specs.Answers.{Evaluated, evaluated}
use Rattle.lowering.specs.Demand3.{Lent, Demand3}
use Rattle.lowering.specs.Cases.{table_a, function_a, chosen_a, three_halves}
use Rattle.lowering.proofs.Whole.{demand3, evaluated-ok}
use Rattle.lowering.proofs.Witness.{arguments_a, code_buffer, work_buffer, out_buffer, buffer_with, code-a, words-a, buffer-a, fits-a, within_a, means-a}

pub lent-a : (v : Version) → Lent v chosen_a arguments_a code_buffer work_buffer out_buffer
lent-a v =
    record {
      finite = ((omega arith, refl), ((omega arith, refl), tt));
      count = refl;
      code_fits = rw (code-a v) (fits-a v);
      work-fits = let w = words-a v in omega arith;
      out-fits = omega arith;
    }

-- so demand 3 says of every answer to this that it is one word, 1.5, behind the code of A, and that the rest is as it was
pub demand3-a : (v : Version) {Answer : ℕ → Type 0} {code' work' out' : List ℕ}
    → Demand3 Answer table_a 1 (number v) arguments_a code_buffer work_buffer out_buffer code' work' out'
    → Answer 1 × (out' ≡ three_halves ∷ 7 ∷ []) × (code' ≡ buffer_with v)
demand3-a v {Answer} d =
    let m = d (function_a ∷ []) v chosen_a (within_a v) (lent-a v) in
    let e : m.answer ≡ three_halves ∷ [] = some_is (sym m.meant ∙ means-a) in (
      subst (λ (ws : List ℕ). Answer (length ws)) e m.count,
      m.given ∙ ap (sets out_buffer 0) e,
      m.list ∙ ap (sets code_buffer 0) (code-a v) ∙ buffer-a v,
    )

-- and `evaluated` answers, and answers so
gives-a : (v : Version) (e : Evaluated) → evaluated table_a 1 (number v) arguments_a code_buffer work_buffer out_buffer ≡ ok e
    → (e.count ≡ 1) × (e.out ≡ three_halves ∷ 7 ∷ []) × (e.code ≡ buffer_with v)
gives-a v e q =
    demand3-a v {Answer = λ n. e.count ≡ n}
    (demand3 table_a 1 (number v) arguments_a code_buffer work_buffer out_buffer
    (λ f p.
    let same : e ≡ f = ok-is (sym q ∙ p) in
    (ap (λ (g : Evaluated). g.count) same, ap (λ (g : Evaluated). g.code) same, ap (λ (g : Evaluated). g.work) same, ap (λ (g : Evaluated). g.out) same)))

pub evaluated-a : (v : Version)
    → (e : Evaluated) × (evaluated table_a 1 (number v) arguments_a code_buffer work_buffer out_buffer ≡ ok e) × (e.count ≡ 1) × (e.out ≡ three_halves ∷ 7 ∷ [])
    × (e.code ≡ buffer_with v)
evaluated-a v =
    let q = evaluated-ok table_a 1 (number v) (function_a ∷ []) v chosen_a (within_a v) arguments_a code_buffer work_buffer out_buffer (lent-a v) in
    let (n, o, l) = gives-a v _ q in
    (_, q, n, o, l)
