-- The placed list follows the list that it was placed from, and has no more words. The inputs stand where they stood, so that all held values
-- have their origins at the start, and at the end the values with an output word still do. A gap is never above the highest word held, so
-- that each result ends no higher than in version 1.
use Prim.Native.Nat.{ℕ, suc, ◌+◌, ◌-◌, ◌≤◌, ◌<◌}
use mathlib.Core.Path.{◌≡◌, refl, ap, ap₂, sym, ◌∙◌, subst}
use mathlib.Core.Bool.{Bool, true, false, cond}
use mathlib.Core.List.{List, [], ◌∷◌, map}
use mathlib.Core.Logic.{inl, inr}
use native.Mathlib.Omega.{arith}
use native.Mathlib.Nat.{le_refl, le_of_eq}
use lib.Dec.{ltb}
use lib.ListN.{get_elem?, length-map}
use borrow.Author.Tests.{ltb-true, ltb-false}
use Rattle.ports.specs.Kinds.{kind_of}
use Rattle.ports.specs.Ports.{width, widths, takes}
use Rattle.base.specs.Lists.{Each, Is}
use Rattle.base.proofs.Lists.{each_in, each_on}
use Rattle.bytecode.specs.Run.{Instruction, BoardList}
use Rattle.bytecode.specs.Sequential.{next_word, AllFit}
use Rattle.bytecode.specs.Ranges.{any, Range, end, inside}
use Rattle.bytecode.specs.Origin.{Origin, Known, origin_at, result_width, start, readings, final, Numbered, final_of, Carries, Roomy}
use Rattle.bytecode.proofs.Origins.{start-argument, start-length, Follows}
use Rattle.bytecode.proofs.Sequential.{below_length, fit-up, fit-roomy, AllKnown, fit-known, all_known}
use Rattle.bytecode.proofs.Readable.{inside-inv, is-inside}
use Rattle.placement.specs.Live.{keep, input_values, live}
use Rattle.placement.specs.Place.{Placed, words, top, gap, stay, inputs_of, held_at, placed, place_all, rename, renamed, reusing, numbered}
use Rattle.placement.specs.OneValue.{AllInOne, Placeable}
use Rattle.placement.proofs.Ranges.{apart-is, any-is, each_keep, is-keep, live-output}
use Rattle.placement.proofs.Gaps.{gap-most}
use Rattle.placement.proofs.Balanced.{inputs-top}
use Rattle.placement.proofs.Carried.{final-keeps, Distinct, rename-is, Along, place-top, Keeps, place-along, place-result, carried}

-- ---- the inputs

inputs-from : (ts : List ℕ) (at from : ℕ) → from ≤ at → Each (λ p. from ≤ p.value.first) (map stay (input_values at ts))
inputs-from [] at from h = tt
inputs-from (t ∷ ts) at from h = (h, inputs-from ts (at + width t) from (omega arith))

inputs-distinct : (ts : List ℕ) (at : ℕ) → Distinct (map stay (input_values at ts))
inputs-distinct [] at = tt
inputs-distinct (t ∷ ts) at = (
  each_on (λ p. at + width t ≤ p.value.first) _ (λ p h. apart-is (record { first = at; width = width t }) p.value (inl h))
      (map stay (input_values (at + width t) ts)) (inputs-from ts (at + width t) (at + width t) (omega arith)),
  inputs-distinct ts (at + width t),
)

inputs-below : (ts : List ℕ) (at to : ℕ) → at + widths ts ≤ to → Each (λ p. end p.value ≤ to) (map stay (input_values at ts))
inputs-below [] at to h = tt
inputs-below (t ∷ ts) at to h = (omega arith, inputs-below ts (at + width t) to (omega arith))

inputs-cover : (ts : List ℕ) (at a : ℕ) → at ≤ a → a < at + widths ts → (p : Placed) × Is p (map stay (input_values at ts)) × (inside p.value a ≡ true)
inputs-cover [] at a h l = absurd (omega arith)
inputs-cover (t ∷ ts) at a h l = pick (ltb a (at + width t)) refl (inputs-cover ts (at + width t) a)
  where
    pick : (b : Bool) → ltb a (at + width t) ≡ b
        → (at + width t ≤ a → a < at + width t + widths ts → (p : Placed) × Is p (map stay (input_values (at + width t) ts)) × (inside p.value a ≡ true))
        → (p : Placed) × Is p (map stay (input_values at (t ∷ ts))) × (inside p.value a ≡ true)
    pick true e g = (stay (record { first = at; width = width t }), inl refl, is-inside _ a h (ltb-true a (at + width t) e))
    pick false e g = let (p, i, x) = g (ltb-false a (at + width t) e) (omega arith) in (p, inr i, x)

pub inputs-along : (ts : List ℕ) → Along (widths ts) (map stay (input_values 0 ts))
inputs-along ts = record {
  distinct = inputs-distinct ts 0;
  below = inputs-below ts 0 (widths ts) (omega arith);
  covers = λ a l. inputs-cover ts 0 a (omega arith) (omega arith);
}

-- inputs stay where they are
pub stays : (rs : List Range) (p : Placed) → Is p (map stay rs) → p.place ≡ p.value.first
stays [] p i = absurd i
stays (r ∷ rs) p (inl e) = ap (λ (x : Placed). x.place) e ∙ sym (ap (λ (x : Placed). x.value.first) e)
stays (r ∷ rs) p (inr i) = stays rs p i

pub values-stay : (rs : List Range) → map (λ p. p.value) (map stay rs) ≡ rs
values-stay [] = refl
values-stay (r ∷ rs) = ap (λ (xs : List Range). r ∷ xs) (values-stay rs)

pub top-inputs : (ts : List ℕ) → top (map stay (input_values 0 ts)) ≡ widths ts
top-inputs ts = let h = inputs-top ts 0 in omega arith

-- ---- no more words than in version 1

top-keep : (q : Placed → Bool) (ps : List Placed) → top (keep q ps) ≤ top ps
top-keep q [] = omega arith
top-keep q (p ∷ ps) = pick (q p) (top-keep q ps)
  where
    pick : (b : Bool) → top (keep q ps) ≤ top ps → top (cond b (p ∷ keep q ps) (keep q ps)) ≤ top (p ∷ ps)
    pick true h = omega arith
    pick false h = omega arith

place-most : (outputs : List ℕ) (is : List Instruction) (next stop : ℕ) (h : List Placed) → AllFit next is stop → top h ≤ next → top (place_all outputs h is) ≤ stop
place-most outputs [] next stop h f l = omega arith
place-most outputs (i ∷ is) next stop h (x, f) l =
    let held = held_at (i ∷ is) outputs h in
    let a : gap held (result_width i) ≤ top held = gap-most held (result_width i) in
    let b : top held ≤ top h = top-keep (λ p. live (i ∷ is) outputs p.value) h in
    place-most outputs is (next_word next i) stop (placed outputs h i is ∷ h) f (omega arith)

pub fewer-words : (inputs : List ℕ) (b : BoardList) → Placeable inputs b → (reusing inputs b).words ≤ b.words
fewer-words inputs b t =
    let e = t.arguments in
    let h = top-inputs inputs in
    place-most b.outputs b.instructions b.arguments b.words (inputs_of inputs) t.fit (omega arith)

-- ---- the placed list

pub numbered-instructions : (k : ℕ) (is : List Instruction) → is ≡ map (λ x. x.instruction) (numbered k is)
numbered-instructions k [] = refl
numbered-instructions k (i ∷ is) = ap (λ (js : List Instruction). i ∷ js) (numbered-instructions (suc k) is)

place-rooms : (outputs : List ℕ) (is : List Instruction) (k next stop : ℕ) (h : List Placed) → AllFit next is stop
    → Each (λ x. Roomy (top (place_all outputs h is)) x.instruction) (numbered k (map (renamed (place_all outputs h is)) is))
place-rooms outputs [] k next stop h f = tt
place-rooms outputs (i ∷ is) k next stop h (x, f) =
    let p = placed outputs h i is in
    let H = place_all outputs (p ∷ h) is in
    let place : rename H i.result ≡ p.place = place-result outputs i is next stop h (x, f) in
    let high : end (words p) ≤ top H = let t = place-top outputs is (p ∷ h) in omega arith in (
      record {
        legal = x.legal;
        count = length-map i.operands (rename H) ∙ below_length next (takes (kind_of i.kind) i.type) i.operands x.operands;
        room = omega arith;
      },
      place-rooms outputs is (suc k) (next_word next i) stop (p ∷ h) f,
    )

pub map_same : (f : ℕ → Origin) (g : ℕ → ℕ) (F : ℕ → Origin) (xs : List ℕ) → ((a : ℕ) → Is a xs → F a ≡ f (g a)) → map F xs ≡ map f (map g xs)
map_same f g F [] h = refl
map_same f g F (x ∷ xs) h = ap₂ (λ (u : Origin) (us : List Origin). u ∷ us) (h x (inl refl)) (map_same f g F xs (λ a i. h a (inr i)))

pub each-by : {A : Type 0} (P : A → Type 0) (xs : List A) → ((x : A) → Is x xs → P x) → Each P xs
each-by P [] h = tt
each-by P (x ∷ xs) h = (h x (inl refl), each-by P xs (λ y i. h y (inr i)))

-- ---- beside the list that it was placed from

module _ (inputs : List ℕ) (b : BoardList) (t : Placeable inputs b) where
  abbrev first_origins : List Origin
  first_origins = start b.arguments b.words

  -- where the words of version 1 come from
  abbrev pub own_origins : ℕ → Origin
  own_origins = origin_at (final 0 b.instructions first_origins)

  pub arguments-within : b.arguments ≤ b.words
  arguments-within = fit-up b.instructions b.arguments b.words t.fit

  -- arguments stand where they stood
  pub inputs-kept : (w : ℕ) (p : Placed) → Is p (inputs_of inputs) → Keeps own_origins (start b.arguments w) p
  inputs-kept w p i j lt =
      let n = b.arguments in
      let e = t.arguments in
      let l : end p.value ≤ widths inputs = each_in (λ q. end q.value ≤ widths inputs) (inputs_of inputs) (inputs-along inputs).below p i in
      ap (λ (m : ℕ). origin_at (start n w) (m + j)) (stays (input_values 0 inputs) p i)
      ∙ start-argument n w (p.value.first + j) (omega arith)
      ∙ sym
      (final-keeps b.instructions 0 n b.words first_origins (p.value.first + j) t.fit (omega arith)
      ∙ start-argument n b.words (p.value.first + j) (omega arith))

  -- instructions that carry out those of the list, with its outputs at their values' places
  pub follows-placed :
      (H : List Placed) → Along b.words H → b.arguments ≤ top H → (is : List Instruction) (xs : List Numbered) → is ≡ map (λ x. x.instruction) xs
      → Each (λ x. Roomy (top H) x.instruction) xs → Carries (readings 0 b.instructions first_origins) (start b.arguments (top H)) xs
      → ((p : Placed) → Is p H → any (inside p.value) b.outputs ≡ true → Keeps own_origins (final_of xs (start b.arguments (top H))) p)
      → Follows b (record { arguments = b.arguments; instructions = is; words = top H; outputs = map (rename H) b.outputs }) xs
  follows-placed H all within is xs listed rooms carries kept =
      let n = b.arguments in
      let outs = b.outputs in
      let up = arguments-within in
      let argument-known : AllKnown first_origins n = λ a l. subst Known (sym (start-argument n b.words a l)) tt in
      let (known, last) =
      fit-known b.instructions n b.words 0 first_origins t.fit argument-known (le_of_eq (sym (start-length n b.words up))) in
      let end = origin_at (final_of xs (start n (top H))) in
      record {
        arguments = refl;
        within = up;
        within' = within;
        rooms = fit-roomy b.instructions n b.words b.words t.fit (le_refl b.words);
        known = known;
        listed = listed;
        rooms' = rooms;
        carries = carries;
        out-known = all_known (final 0 b.instructions first_origins) b.words last outs t.below;
        outputs =
            map_same end (rename H) own_origins outs
            (λ a i.
            let (p, j, s) = all.covers a (each_in (λ x. x < b.words) outs t.below a i) in
            let (lo, hi) = inside-inv p.value a s in
            let z : a ≡ p.value.first + (a - p.value.first) = omega arith in
            ap own_origins z
            ∙ sym (kept p j (any-is (inside p.value) outs a i s) (a - p.value.first) (omega arith))
            ∙ ap end (sym (rename-is H p a all.distinct j s)));
      }

pub routed : (inputs : List ℕ) (b : BoardList) → Placeable inputs b → Follows b (reusing inputs b) (numbered 0 (reusing inputs b).instructions)
routed inputs b t =
    let n = b.arguments in
    let is = b.instructions in
    let outs = b.outputs in
    let ins = inputs_of inputs in
    let H = place_all outs ins is in
    let o = start n b.words in
    let o' = start n (top H) in
    let F = own_origins inputs b t in
    let e : n ≡ widths inputs = t.arguments in
    let up : n ≤ b.words = arguments-within inputs b t in
    let high : top ins ≤ top H = place-top outs is ins in
    let tin = top-inputs inputs in
    let within : n ≤ top H = omega arith in
    let along : Along n ins = subst (λ (m : ℕ). Along m ins) (sym e) (inputs-along inputs) in
    let whole : AllInOne (map (λ p. p.value) ins) is = subst (λ (rs : List Range). AllInOne rs is) (sym (values-stay (input_values 0 inputs))) t.whole in
    let zero-add : (j : ℕ) → 0 + j ≡ j = λ j. omega arith in
    let ends =
    carried outs (readings 0 is o) b.words is 0 n ins o o' t.fit whole along (omega (arith, start-length n b.words up))
    (omega (arith, start-length n (top H) within)) (each_keep (Keeps F o') (λ p. live is outs p.value) ins (each-by (Keeps F o') ins (inputs-kept inputs b t (top H))))
    (λ j. ap (get_elem? (readings 0 is o)) (zero-add j)) in
    let xs = numbered 0 (map (renamed H) is) in
    follows-placed inputs b t H (place-along outs is n b.words ins t.fit along) within (map (renamed H) is) xs (numbered-instructions 0 (map (renamed H) is))
    (place-rooms outs is 0 n b.words ins t.fit) ends.carries
    (λ p i s. each_in (Keeps F (final_of xs o')) (held_at [] outs H) ends.kept p (is-keep (λ y. live [] outs y.value) H p i (live-output [] outs p.value s)))
