-- Which answer is given. A function within version 1's limits is compiled, and a code of version 2 is read as the list whose code it is; so the answer is
-- 18 where there is none, and otherwise the judge's of version 1's list and that one, whose laws say which.
use Prim.Native.Nat.{ℕ, ◌≤◌}
use mathlib.Core.Path.{◌≡◌, refl, ap, sym, ◌∙◌, subst}
use mathlib.Core.List.{List}
use mathlib.Core.Option.{Option, none, some}
use mathlib.Core.Logic.{◌⊎◌, inl, inr, ⊎_elim}
use native.Mathlib.Omega.{arith}
use lib.Dec.{eqb}
use borrow.Author.Tests.{eqb-true}
use Rattle.base.specs.Bytes.{u16, Bytes}
use Rattle.base.specs.Limits.{operation_limit}
use Rattle.base.specs.Outcome.{ok, fault, ◌>>=◌, or_else}
use Rattle.base.proofs.Lists.{some_is}
use Rattle.base.proofs.Outcomes.{took, takes, stops, took-fault, no-fault, some-else, else-some}
use Rattle.graph.specs.Graph.{Function}
use Rattle.graph.specs.Table.{Chosen}
use Rattle.bytecode.specs.declared.Version.{Version}
use Rattle.bytecode.specs.declared.Version.TheVariants.{V1, V2}
use Rattle.bytecode.specs.Version.{number}
use Rattle.bytecode.specs.Run.{BoardList}
use Rattle.bytecode.specs.Code.{guard, decode}
use Rattle.bytecode.specs.WellFormed.{Codes}
use Rattle.bytecode.proofs.Decoded.{guard-inv, decoded}
use Rattle.lowering.specs.Answers.{list_of, Job, compilable}
use Rattle.lowering.specs.Demand3.{Within}
use Rattle.lowering.proofs.Whole.{compilable-within, within-compilable, fits}
use Rattle.validator.specs.Judge.{judged}
use Rattle.validator.proofs.Standing.{codes-decoded, version-at}
use Rattle.validator.proofs.Deciding.{decided-ok, decided-33, decided-29, decided-only}
use Rattle.acceptance.specs.Answers.{proposed, judged_placement}
use Rattle.acceptance.specs.Promise.{Decides}

-- ---- the code of a version 2 list

module _ (code : List ℕ) where
  codes-proposed : (b : BoardList) → Codes V2 code b → proposed code ≡ some b
  unfolding guard
  codes-proposed b h = rw (version-at V2 code b h) (codes-decoded V2 code b h)

  proposed-codes : Bytes code → (b : BoardList) → proposed code ≡ some b → Codes V2 code b
  proposed-codes small b e =
      let (t, d) = guard-inv (eqb (u16 code 3) 2) (decode code) b e in
      let (v, h) = decoded code small b d in
      pick v h (sym (version-at v code b h) ∙ eqb-true _ _ t)
    where
      pick : (v : Version) → Codes v code b → number v ≡ 2 → Codes V2 code b
      pick V1 h e = absurd (omega arith)
      pick V2 h e = h

  none-proposed : Bytes code → ((b : BoardList) → Codes V2 code b → ⊥) → proposed code ≡ none
  none-proposed small h = go (proposed code) refl
    where
      go : (o : Option BoardList) → proposed code ≡ o → o ≡ none
      go none e = refl
      go (some b) e = absurd (h b (proposed-codes small b e))

else-fault : (o : Option BoardList) (n p : ℕ) → or_else o 18 0 ≡ fault n p → (n ≡ 18) × (p ≡ 0)
else-fault none n p e = (cc, cc)
else-fault (some b) n p e = absurd (no-fault b n p e)

module _ (s : List ℕ) (c : ℕ) (code numbers : List ℕ) where
  -- ---- for a function within version 1's limits

  module _ (functions : List Function) (x : Chosen) (w : Within s c 1 functions V1 x) where
    placement-is : judged_placement s c code numbers ≡ (or_else (proposed code) 18 0 >>= λ b. judged (list_of V1 x) b numbers)
    unfolding judged_placement
    placement-is = takes (compilable s c 1) _ (record { chosen = x; version = V1 }) (within-compilable s c 1 functions V1 x w)

    pub placement-of : (b : BoardList) → Codes V2 code b → judged_placement s c code numbers ≡ judged (list_of V1 x) b numbers
    placement-of b h = placement-is ∙ takes (or_else (proposed code) 18 0) _ b (some-else 18 0 (codes-proposed code b h))

    -- 18, or the judge's
    placement-fault : (n p : ℕ) → judged_placement s c code numbers ≡ fault n p
        → ((n ≡ 18) × (p ≡ 0)) ⊎ ((b : BoardList) × (proposed code ≡ some b) × (judged (list_of V1 x) b numbers ≡ fault n p))
    placement-fault n p e =
        ⊎_elim (λ h. inl (else-fault (proposed code) n p h)) (λ (b, h, g). inr (b, else-some (proposed code) 18 0 b h, g))
        (took-fault (or_else (proposed code) 18 0) _ n p (sym placement-is ∙ e))

  pub decides : Bytes code → (functions : List Function) (x : Chosen) → Within s c 1 functions V1 x
      → Decides (λ n. judged_placement s c code numbers ≡ ok n) (λ n p. judged_placement s c code numbers ≡ fault n p) code numbers x
  decides small functions x w =
      record {
        accepted = λ n. (
          λ e.
              let (b, h, g) = took (or_else (proposed code) 18 0) _ n (sym (placement-is functions x w) ∙ e) in
              let (a, q) = (decided-ok (list_of V1 x) b numbers n).0 g in
              (b, proposed-codes code small b (else-some (proposed code) 18 0 b h), a, q),
          λ (b, h, a, q). placement-of functions x w b h ∙ (decided-ok (list_of V1 x) b numbers n).1 (a, q),
        );
        refused-18 = (
          λ e b h.
              ⊎_elim (λ (q, r). absurd (omega arith)) (λ (q, r). absurd (omega arith))
              (decided-only (list_of V1 x) b numbers 18 0 (sym (placement-of functions x w b h) ∙ e)),
          λ h. placement-is functions x w ∙ stops (or_else (proposed code) 18 0) _ 18 0 (ap (λ (o : Option BoardList). or_else o 18 0) (none-proposed code small h)),
        );
        refused-33 = (
          λ e. let (b, h, g) = read 33 0 (λ q. omega arith) e in (b, h, (decided-33 (list_of V1 x) b numbers).0 g),
          λ (b, h, d). placement-of functions x w b h ∙ (decided-33 (list_of V1 x) b numbers).1 d,
        );
        refused-29 = λ p. (
          λ e. let (b, h, g) = read 29 p (λ q. omega arith) e in (b, h, (decided-29 (list_of V1 x) b numbers p).0 g),
          λ (b, h, f). placement-of functions x w b h ∙ (decided-29 (list_of V1 x) b numbers p).1 f,
        );
      }
    where
      -- a refusal other than 18 is of a list that was read
      read : (n p : ℕ) → (n ≡ 18 → ⊥) → judged_placement s c code numbers ≡ fault n p
          → (b : BoardList) × Codes V2 code b × (judged (list_of V1 x) b numbers ≡ fault n p)
      read n p d e = ⊎_elim (λ h. absurd (d h.0)) (λ (b, h, g). (b, proposed-codes code small b h, g)) (placement-fault functions x w n p e)

  -- ---- bounds

  job-within : Bytes s → (j : Job) → compilable s c 1 ≡ ok j → (functions : List Function) × Within s c 1 functions V1 j.chosen
  job-within bytes j e =
      let (functions, w) = compilable-within s c 1 j bytes e in
      let first : V1 ≡ j.version = some_is w.version in
      (functions, subst (λ (v : Version). Within s c 1 functions v j.chosen) (sym first) w)

  -- what is accepted is for a function within version 1's limits
  pub placement-within : Bytes s → (n : ℕ) → judged_placement s c code numbers ≡ ok n → (functions : List Function) × (x : Chosen) × Within s c 1 functions V1 x
  unfolding judged_placement
  placement-within bytes n e =
      let (j, h, g) = took (compilable s c 1) _ n e in
      let (functions, w) = job-within bytes j h in
      (functions, j.chosen, w)

  pub placement-count : Bytes s → (n : ℕ) → judged_placement s c code numbers ≡ ok n → n ≤ operation_limit
  placement-count bytes n e =
      let (functions, x, w) = placement-within bytes n e in
      let (b, h, g) = took (or_else (proposed code) 18 0) _ n (sym (placement-is functions x w) ∙ e) in
      let (a, q) = (decided-ok (list_of V1 x) b numbers n).0 g in
      omega (arith, (fits s c 1 functions V1 x w).count)

  pub placement-bounds : Bytes s → (n p : ℕ) → judged_placement s c code numbers ≡ fault n p
      → (compilable s c 1 ≡ fault n p) ⊎ ((n ≡ 18) × (p ≡ 0)) ⊎ ((n ≡ 33) × (p ≡ 0)) ⊎ ((n ≡ 29) × (p ≤ operation_limit))
  unfolding judged_placement
  placement-bounds bytes n p e =
      ⊎_elim (λ h. inl h)
      (λ (j, h, g).
      let x = j.chosen in
      let (functions, w) = job-within bytes j h in
      let few = (fits s c 1 functions V1 x w).count in
      ⊎_elim (λ q. inr (inl q))
      (λ (b, d, f). ⊎_elim (λ q. inr (inr (inl q))) (λ (q, l). inr (inr (inr (q, omega arith)))) (decided-only (list_of V1 x) b numbers n p f))
      (placement-fault functions x w n p e))
      (took-fault (compilable s c 1) _ n p e)
