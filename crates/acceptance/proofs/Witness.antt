-- What is promised is not empty, and says more than request 10: a list in another order than ours, with other words used again, is accepted, and on 3 and
-- 0.5, with buffers longer than need be, gives 5.75.
use Prim.Native.Nat.{ℕ, ◌+◌, ◌≤◌, max}
use mathlib.Core.Path.{◌≡◌, refl, ap, sym, ◌∙◌, subst}
use mathlib.Core.Bool.{true}
use mathlib.Core.List.{List, [], ◌∷◌, reverse}
use mathlib.Core.Option.{some}
use mathlib.Core.Logic.{⊎_elim}
use native.Mathlib.Omega.{arith}
use lib.ListN.{length}
use lib.Seq.{sets}
use Rattle.base.specs.Bytes.{byte}
use Rattle.base.specs.Outcome.{ok}
use Rattle.base.proofs.Lists.{some_is}
use Rattle.base.proofs.Outcomes.{ok-is}
use Rattle.graph.specs.Graph.{Function}
use Rattle.graph.specs.Meaning.{graph_means}
use Rattle.graph.specs.Schedule.{schedule}
use Rattle.graph.specs.Table.{Chosen}
use Rattle.graph.proofs.Exactly.{table-back}
use Rattle.bytecode.specs.declared.Version.TheVariants.{V1, V2}
use Rattle.bytecode.specs.Run.{BoardList}
use Rattle.bytecode.specs.Code.{guard, then, encode, decode}
use Rattle.bytecode.specs.Answers.{Buffers, ran}
use Rattle.bytecode.proofs.Back.{decode-encode}
use Rattle.placement.specs.Place.{top, apart, inputs_of}
use Rattle.placement.specs.Balance.{Apart}
use Rattle.placement.proofs.Ranges.{apart-inv}
use Rattle.lowering.specs.Compile.{inlined}
use Rattle.lowering.specs.Answers.{list_of, code_of, Job}
use Rattle.lowering.proofs.Whole.{within-compilable, sound}
use Rattle.lowering.proofs.Witness.{all-bytes}
use Rattle.reordering.specs.Reorder.{Routing, results_at, Respects}
use Rattle.reordering.specs.AnyOrder.{list_by, LentFor}
use Rattle.reordering.specs.Cases.{table_fork, function_fork, chosen_fork, difference}
use Rattle.reordering.proofs.Whole.{reordered-serves}
use Rattle.reordering.proofs.Witness.{taken-fork, within-fork, arguments_fork, work_buffer, out_buffer, read-fork, means-fork}
use Rattle.validator.proofs.Standing.{codes-decoded}
use Rattle.acceptance.specs.Answers.{judged_placement}
use Rattle.acceptance.specs.Promise.{RunsAlike, Promise}
use Rattle.acceptance.specs.Cases.{code_other, settled}
use Rattle.acceptance.proofs.Exactly.{decides}

abbrev pub numbers_other : List ℕ
numbers_other = 1 ∷ 0 ∷ 2 ∷ []

abbrev pub list_other : BoardList
list_other =
    record {
      arguments = 2;
      instructions =
          record { kind = 3; type = 1; operands = 1 ∷ 1 ∷ []; constants = []; result = 2 }
          ∷ record { kind = 1; type = 1; operands = 0 ∷ 0 ∷ []; constants = []; result = 1 }
          ∷ record { kind = 2; type = 1; operands = 1 ∷ 2 ∷ []; constants = []; result = 0 }
          ∷ [];
      words = 3;
      outputs = 0 ∷ [];
    }

decoded-other : decode code_other ≡ some list_other
unfolding decode guard then
decoded-other = refl

accepted-other : judged_placement table_fork 1 code_other numbers_other ≡ ok 3
accepted-other = settled.1.1.1.0

-- ---- it is neither ours nor of request 10's form

pub not_own : code_other ≡ code_of V2 chosen_fork → ⊥
unfolding inlined schedule encode
not_own e = let q : ◌≡◌ {A = ℕ} 3 1 = ap (λ (ys : List ℕ). byte ys 12) e in omega arith

-- five values with words of their own take more than three words
differ : (a b : ℕ) → apart (record { first = a; width = 1 }) (record { first = b; width = 1 }) ≡ true → a ≡ b → ⊥
differ a b h e = ⊎_elim (λ l. omega arith) (λ l. omega arith) (apart-inv (record { first = a; width = 1 }) (record { first = b; width = 1 }) h)

low : (a b d : ℕ) → max (d + 1) (max (b + 1) (max (a + 1) 2)) ≡ 3 → (a ≤ 2) × (b ≤ 2)
low a b d e = (omega arith, omega arith)

no_room : (a b : ℕ) → a ≤ 2 → b ≤ 2 → (a ≡ 0 → ⊥) → (a ≡ 1 → ⊥) → (b ≡ 0 → ⊥) → (b ≡ 1 → ⊥) → (b ≡ a → ⊥) → ⊥
no_room a b la lb a0 a1 b0 b1 ba = omega arith

too_few : (at : List ℕ) → length at ≡ 3 → Apart (results_at (inputs_of function_fork.inputs) (list_of V1 chosen_fork).instructions at)
    → top (results_at (inputs_of function_fork.inputs) (list_of V1 chosen_fork).instructions at) ≡ 3 → ⊥
unfolding inlined schedule
too_few [] l h e = omega arith
too_few (a ∷ []) l h e = omega arith
too_few (a ∷ b ∷ []) l h e = omega arith
too_few (a ∷ b ∷ d ∷ []) l (hd, (hb, (ha, h))) e =
    let (la, lb) = low a b d e in
    no_room a b la lb (differ a 0 ha.0) (differ a 1 ha.1.0) (differ b 0 hb.1.0) (differ b 1 hb.1.1.0) (differ b a hb.0)
too_few (a ∷ b ∷ d ∷ f ∷ at) l h e = omega arith

pub not-an-order : (r : Routing) → Respects function_fork.inputs (list_of V1 chosen_fork) r → code_other ≡ encode V2 (list_by chosen_fork r) → ⊥
unfolding inlined schedule
not-an-order r respects e =
    let (functions, w) = within-fork in
    let formed = (reordered-serves chosen_fork r (sound table_fork 1 1 functions V1 chosen_fork w) w.operations respects).formed in
    let same : list_other ≡ list_by chosen_fork r = some_is (sym decoded-other ∙ ap decode e ∙ decode-encode V2 (list_by chosen_fork r) formed) in
    too_few r.addresses respects.each respects.own (sym (ap (λ (b : BoardList). b.words) same))

-- ---- the buffers

lent_other : LentFor chosen_fork list_other arguments_fork work_buffer out_buffer
lent_other =
    record { finite = ((omega arith, refl), ((omega arith, refl), tt)); count = refl; work-fits = omega arith; out-fits = omega arith }

-- it gives one word, 5.75, and the rest of the output buffer is as it was
alike-other : RunsAlike table_fork 1 code_other
    → (after : Buffers) × (ran code_other arguments_fork work_buffer out_buffer ≡ ok after) × (after.count ≡ 1) × (after.out ≡ difference ∷ 7 ∷ [])
alike-other h =
    let x = h.chosen in
    let w = h.within in
    let function : chosen_fork ≡ x = ap (λ (j : Job). j.chosen) (ok-is (sym taken-fork ∙ within-compilable table_fork 1 1 h.functions V1 x w)) in
    let list : list_other ≡ h.list = some_is (sym decoded-other ∙ codes-decoded V2 code_other h.list h.codes) in
    let lent : LentFor x h.list arguments_fork work_buffer out_buffer =
    subst (λ (b : BoardList). LentFor x b arguments_fork work_buffer out_buffer) list
    (subst (λ (y : Chosen). LentFor y list_other arguments_fork work_buffer out_buffer) function lent_other) in
    let (after, e, m) = h.runs arguments_fork work_buffer out_buffer lent in
    let only : reverse h.functions ≡ function_fork ∷ [] = ok-is (sym (table-back table_fork h.functions w.meets) ∙ read-fork) in
    let words : m.answer ≡ difference ∷ [] = some_is (sym m.meant ∙ ap (λ (fs : List Function). graph_means fs 1 arguments_fork) only ∙ means-fork) in
    (after, e, m.count ∙ ap length words, m.given ∙ ap (sets out_buffer 0) words)

-- so the promise says of every answer to this that it is accepted, and what a run of it gives
pub promise-other : {Accepted : ℕ → Type 0} {Refused : ℕ → ℕ → Type 0} → Promise Accepted Refused table_fork 1 code_other numbers_other
    → Accepted 3 × ((after : Buffers) × (ran code_other arguments_fork work_buffer out_buffer ≡ ok after) × (after.count ≡ 1) × (after.out ≡ difference ∷ 7 ∷ []))
promise-other p =
    let (functions, w) = within-fork in
    let why = ((decides table_fork 1 code_other numbers_other (all-bytes code_other refl) functions chosen_fork w).accepted 3).0 accepted-other in
    let yes = ((p.exactly functions chosen_fork w).accepted 3).1 why in
    (yes, alike-other (p.alike 3 yes))
