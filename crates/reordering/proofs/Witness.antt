-- What is asked of an order can be so, and by another order than version 1's: the square before the double, with words between that nothing
-- writes, on 3 and 0.5, with buffers longer than need be. What the claim then gives is 5.75.
use Prim.Native.Nat.{ℕ, zero, suc, ◌<◌}
use mathlib.Core.Path.{◌≡◌, refl, ap, sym, ◌∙◌, subst}
use mathlib.Core.List.{List, [], ◌∷◌, ◌++◌, reverse}
use mathlib.Core.Option.{some}
use mathlib.Core.Logic.{◌⊎◌, inl, inr, ⊎_elim}
use native.Mathlib.Omega.{arith}
use lib.ListN.{length, replicate}
use lib.Seq.{sets}
use lib.Ieee as Ieee
use Rattle.base.specs.Lists.{Is, span}
use Rattle.base.specs.Outcome.{ok, ◌>>=◌, ◌>>◌, need}
use Rattle.base.proofs.Bools.{never}
use Rattle.base.proofs.Lists.{some_is}
use Rattle.base.proofs.Outcomes.{ok-is}
use Rattle.value.specs.Results.{results}
use Rattle.graph.specs.Format.{format_of}
use Rattle.graph.specs.Graph.{Function}
use Rattle.graph.specs.Judge.{table}
use Rattle.graph.specs.Loops.{via}
use Rattle.graph.specs.Meaning.{node_means, meaning_of, graph_means}
use Rattle.graph.specs.Schedule.{schedule}
use Rattle.graph.specs.Sums.{operations_of, result_words_of}
use Rattle.graph.proofs.Exactly.{table-back}
use Rattle.bytecode.specs.declared.Version.TheVariants.{V1}
use Rattle.bytecode.specs.Run.{BoardList}
use Rattle.lowering.specs.Compile.{inlined}
use Rattle.lowering.specs.Answers.{list_of, compilable}
use Rattle.lowering.specs.Demand3.{Within}
use Rattle.lowering.specs.Cases.{three, half}
use Rattle.lowering.proofs.Whole.{compilable-within}
use Rattle.lowering.proofs.Witness.{all-bytes}
use Rattle.reordering.specs.Reorder.{Reads, Respects}
use Rattle.reordering.specs.AnyOrder.{list_by, LentFor, AnyOrder}
use Rattle.reordering.specs.Cases.{table_fork, function_fork, chosen_fork, routing_fork, code_routed, difference, settled-code}

abbrev list_fork : BoardList
list_fork = list_of V1 chosen_fork

-- ---- the order

-- neither the double nor the square reads a result; the difference reads both
reads-fork : (k m : ℕ) → k < 3 → m < 3 → Reads list_fork k m → (k ≡ 2) × ((m ≡ 1) ⊎ (m ≡ 0))
unfolding inlined schedule
reads-fork zero zero h l e = never e
reads-fork zero (suc zero) h l e = never e
reads-fork zero (suc (suc zero)) h l e = never e
reads-fork zero (suc (suc (suc m))) h l e = absurd (omega arith)
reads-fork (suc zero) zero h l e = never e
reads-fork (suc zero) (suc zero) h l e = never e
reads-fork (suc zero) (suc (suc zero)) h l e = never e
reads-fork (suc zero) (suc (suc (suc m))) h l e = absurd (omega arith)
reads-fork (suc (suc zero)) zero h l e = (refl, inr refl)
reads-fork (suc (suc zero)) (suc zero) h l e = (refl, inl refl)
reads-fork (suc (suc zero)) (suc (suc zero)) h l e = never e
reads-fork (suc (suc zero)) (suc (suc (suc m))) h l e = absurd (omega arith)
reads-fork (suc (suc (suc k))) m h l e = absurd (omega arith)

-- so nothing is asked at the first two places of the order, and at the last both stand before it
after-fork : (before behind : List ℕ) (k m : ℕ) → 1 ∷ 0 ∷ 2 ∷ [] ≡ before ++ k ∷ behind → m < 3 → Reads list_fork k m → Is m before
after-fork [] behind k m e l r =
    let q : k ≡ 1 = cc in
    let (two, which) = reads-fork k m (omega arith) l r in
    absurd (omega arith)
after-fork (x ∷ []) behind k m e l r =
    let q : k ≡ 0 = cc in
    let (two, which) = reads-fork k m (omega arith) l r in
    absurd (omega arith)
after-fork (x ∷ y ∷ []) behind k m e l r =
    let q : k ≡ 2 = cc in
    let square : 1 ≡ x = cc in
    let double : 0 ≡ y = cc in
    let (two, which) = reads-fork k m (omega arith) l r in
    ⊎_elim (λ z. inl (z ∙ square)) (λ z. inr (inl (z ∙ double))) which
after-fork (x ∷ y ∷ z ∷ before) behind k m e l r = let q : [] ≡ before ++ k ∷ behind = cc in absurd (none before q)
  where
    none : (xs : List ℕ) → [] ≡ xs ++ k ∷ behind → ⊥
    none [] q = let w : ◌≡◌ {A = ℕ} 0 1 = cc in omega arith
    none (x ∷ xs) q = let w : ◌≡◌ {A = ℕ} 0 1 = cc in omega arith

has-fork : (k : ℕ) → k < 3 → Is k (1 ∷ 0 ∷ 2 ∷ [])
has-fork zero l = inr (inl refl)
has-fork (suc zero) l = inl refl
has-fork (suc (suc zero)) l = inr (inr (inl refl))
has-fork (suc (suc (suc k))) l = absurd (omega arith)

pub respects-fork : Respects function_fork.inputs list_fork routing_fork
unfolding inlined schedule
respects-fork =
    record {
      within = (omega arith, (omega arith, (omega arith, tt)));
      has = has-fork;
      once = (refl, (refl, (refl, tt)));
      after = after-fork;
      each = refl;
      own = ((refl, (refl, (refl, (refl, tt)))), ((refl, (refl, (refl, tt))), ((refl, (refl, tt)), ((refl, tt), (tt, tt)))));
      below = (omega arith, (omega arith, (omega arith, (omega arith, (omega arith, tt)))));
    }

-- it is not version 1's
pub other-fork : routing_fork.order ≡ span 0 3 → ⊥
other-fork e = let q : ◌≡◌ {A = ℕ} 1 0 = cc in omega arith

-- ---- the function, the arguments and the buffers

pub taken-fork : compilable table_fork 1 1 ≡ ok (record { chosen = chosen_fork; version = V1 })
unfolding table format_of need ◌>>=◌ ◌>>◌ via operations_of result_words_of
taken-fork = refl

pub within-fork : (functions : List Function) × Within table_fork 1 1 functions V1 chosen_fork
within-fork = compilable-within table_fork 1 1 (record { chosen = chosen_fork; version = V1 }) (all-bytes table_fork refl) taken-fork

abbrev pub arguments_fork : List ℕ
arguments_fork = three ∷ half ∷ []

abbrev pub work_buffer : List ℕ
work_buffer = replicate 8 7

abbrev pub out_buffer : List ℕ
out_buffer = replicate 2 7

pub lent-fork : LentFor chosen_fork (list_by chosen_fork routing_fork) arguments_fork work_buffer out_buffer
unfolding inlined schedule
lent-fork =
    record { finite = ((omega arith, refl), ((omega arith, refl), tt)); count = refl; work-fits = omega arith; out-fits = omega arith }

pub read-fork : table table_fork ≡ ok (function_fork ∷ [])
unfolding table format_of need ◌>>=◌ ◌>>◌ via
read-fork = refl

pub means-fork : graph_means (function_fork ∷ []) 1 arguments_fork ≡ some (difference ∷ [])
unfolding node_means meaning_of results Ieee.add Ieee.sub Ieee.mul Ieee.of_bits Ieee.to_bits
means-fork = refl

-- so the claim says of every answer to this that it is one word, 5.75, and that the rest is as it was
pub any-order-fork : {Answer : ℕ → Type 0} {work' out' : List ℕ} → AnyOrder Answer code_routed arguments_fork work_buffer out_buffer work' out'
    → Answer 1 × (out' ≡ difference ∷ 7 ∷ [])
any-order-fork {Answer} d =
    let (functions, w) = within-fork in
    let m = d table_fork 1 functions chosen_fork routing_fork w respects-fork (sym settled-code) lent-fork in
    let only : reverse functions ≡ function_fork ∷ [] = ok-is (sym (table-back table_fork functions w.meets) ∙ read-fork) in
    let e : m.answer ≡ difference ∷ [] = some_is (sym m.meant ∙ ap (λ (fs : List Function). graph_means fs 1 arguments_fork) only ∙ means-fork) in
    (subst (λ (ws : List ℕ). Answer (length ws)) e m.count, m.given ∙ ap (sets out_buffer 0) e)
