-- The judge decides `Accepts`. `RightAt` says by recursion, as the judge walks, what `Right` says by places, and the two are one statement. Each
-- outcome has a statement of its own, of which only one holds: so the outcome gives its statement, and the statement its outcome.
use Prim.Native.Nat.{ℕ, zero, suc, ◌+◌, ◌≤◌, ◌<◌}
use mathlib.Core.Path.{◌≡◌, refl, ap, ap₂, sym, ◌∙◌, subst}
use mathlib.Core.Bool.{Bool, true, false, not, ◌&&◌, cond}
use mathlib.Core.List.{List, [], ◌∷◌, map}
use mathlib.Core.Option.{Option, none, some}
use mathlib.Core.Logic.{◌⊎◌, inl, inr, ⊎_elim, ◌↔◌}
use native.Mathlib.Omega.{arith}
use native.Mathlib.Nat.{add-zero}
use lib.Dec.{eqb}
use lib.ListN.{length, get_elem?, take, length-map}
use lib.Seq.{take_all}
use borrow.Author.Tests.{eqb-true, eqb-false, eq-eqb, not-true}
use Rattle.base.specs.Lists.{Each, member, Distinct}
use Rattle.base.specs.Outcome.{Outcome, ok, fault, ◌>>◌, need}
use Rattle.base.proofs.Bools.{never, and-inv, and_both}
use Rattle.base.proofs.Lists.{some_is, member-not}
use Rattle.base.proofs.Numbers.{lt-or-le}
use Rattle.base.proofs.Outcomes.{passes, fails, takes, stops}
use Rattle.bytecode.specs.Run.{Instruction, BoardList}
use Rattle.bytecode.specs.Ranges.{Range, behind, result_value}
use Rattle.bytecode.specs.Sequential.{AllFit}
use Rattle.bytecode.specs.declared.Version.TheVariants.{V2}
use Rattle.bytecode.specs.Code.{argument_words}
use Rattle.bytecode.specs.Origin.{Origin, origin_at, origins, after, start, Reading, Numbered, final_of, Carry, Carries, Roomy}
use Rattle.bytecode.specs.WellFormed.{written_by, AllFormed, FormedList}
use Rattle.bytecode.proofs.Origins.{Follows}
use Rattle.bytecode.proofs.Sequential.{fit-up, fit-roomy, all_known}
use Rattle.validator.specs.Judge.{same_origin, alike, carries_out, follow, paired, own_readings, own_origins, followed, same_counts, judged}
use Rattle.validator.specs.Accepts.{Counted, origins_before, Right, RightBefore, Accepts, FaultAt}
use Rattle.validator.proofs.Sameness.{same-is, is_same, alike_is, is-alike}
use Rattle.validator.proofs.OneToOne.{own-known, reads_known, readings-length}
use Rattle.validator.proofs.Tracing.{some_below}
use Rattle.validator.proofs.Following.{written-up}

-- ---- numbers

-- f is another, and v none of the others
member-none : (v f : ℕ) (is : List ℕ) → member v (f ∷ is) ≡ false → (f ≡ v → ⊥) × (member v is ≡ false)
member-none v f is e = pick (eqb f v) refl e
  where
    pick : (b : Bool) → eqb f v ≡ b → cond b true (member v is) ≡ false → (f ≡ v → ⊥) × (member v is ≡ false)
    pick true q h = never (sym h)
    pick false q h = (eqb-false f v q, h)

-- none of the numbers ns has been seen
abbrev Unseen : List ℕ → List ℕ → Type 0
Unseen seen ns = Each (λ n. member n seen ≡ false) ns

unseen-next : (n : ℕ) (ns seen : List ℕ) → member n ns ≡ false → Unseen seen ns → Unseen (n ∷ seen) ns
unseen-next n [] seen e h = tt
unseen-next n (m ∷ ns) seen e (f, h) =
    let (d, r) = member-none n m ns e in
    (member-not m n seen (λ q. d (sym q)) f, unseen-next n ns seen r h)

unseen-inv : (n : ℕ) (ns seen : List ℕ) → Unseen (n ∷ seen) ns → (member n ns ≡ false) × Unseen seen ns
unseen-inv n [] seen h = (refl, tt)
unseen-inv n (m ∷ ns) seen (f, h) =
    let (d, e) = member-none m n seen f in
    let (r, u) = unseen-inv n ns seen h in
    (member-not n m ns (λ q. d (sym q)) r, (e, u))

-- ---- pairs

paired-instructions : (ns : List ℕ) (is : List Instruction) → length ns ≡ length is → is ≡ map (λ x. x.instruction) (paired ns is)
paired-instructions [] [] l = refl
paired-instructions [] (i ∷ is) l = absurd (omega arith)
paired-instructions (n ∷ ns) [] l = absurd (omega arith)
paired-instructions (n ∷ ns) (i ∷ is) l = ap (λ (js : List Instruction). i ∷ js) (paired-instructions ns is (omega arith))

paired-length : (ns : List ℕ) (is : List Instruction) → length ns ≡ length is → length (paired ns is) ≡ length is
paired-length ns is l = sym (length-map (paired ns is) (λ x. x.instruction)) ∙ ap length (sym (paired-instructions ns is l))

no_place : (k : ℕ) (x : Numbered) → get_elem? {A = Numbered} [] k ≡ some x → ⊥
no_place k x e = let z : ◌≡◌ {A = ℕ} 0 1 = cc in omega arith

-- each instruction of a well-formed list has room
paired-rooms : (ns : List ℕ) (is : List Instruction) (written : List Range) (w : ℕ) → AllFormed V2 written is → behind (written_by written is) ≤ w
    → Each (λ x. Roomy w x.instruction) (paired ns is)
paired-rooms [] is written w f l = tt
paired-rooms (n ∷ ns) [] written w f l = tt
paired-rooms (n ∷ ns) (i ∷ is) written w (x, f) l =
    let up = written-up is (result_value i ∷ written) in
    (record { legal = x.legal; count = x.arity; room = omega arith }, paired-rooms ns is (result_value i ∷ written) w f l)

-- ---- one instruction

module _ (rs : List Reading) where
  -- the judge's test
  abbrev passing : List ℕ → List Origin → Numbered → Bool
  passing seen o x = not (member x.number seen) && carries_out o x.instruction (get_elem? rs x.number)

  carry-is : (o : List Origin) (x : Numbered) (r : Option Reading) → get_elem? rs x.number ≡ r → carries_out o x.instruction r ≡ true → Carry rs o x
  carry-is o x none e h = never h
  carry-is o x (some r) e h =
      let i = x.instruction in
      let j = r.instruction in
      let (three, same) = and-inv (eqb i.kind j.kind && eqb i.type j.type && alike eqb i.constants j.constants) (alike same_origin (origins i o) r.reads) h in
      let (two, constants) = and-inv (eqb i.kind j.kind && eqb i.type j.type) (alike eqb i.constants j.constants) three in
      let (kind, type) = and-inv (eqb i.kind j.kind) (eqb i.type j.type) two in
      record {
        reading = r;
        at = e;
        kind = eqb-true _ _ kind;
        type = eqb-true _ _ type;
        constants = alike_is eqb eqb-true i.constants j.constants constants;
        same = alike_is same_origin same-is (origins i o) r.reads same;
      }

  is-carry : (o : List Origin) (x : Numbered) → Carry rs o x → carries_out o x.instruction (get_elem? rs x.number) ≡ true
  is-carry o x c =
      let i = x.instruction in
      let r = c.reading in
      rw c.at
      (and_both _ _
      (and_both _ _ (and_both _ _ (eq-eqb _ _ c.kind) (eq-eqb _ _ c.type)) (is-alike eqb (λ n. eq-eqb n n refl) i.constants r.instruction.constants c.constants))
      (is-alike same_origin is_same (origins i o) r.reads c.same))

  -- instruction k is right, where the numbers `seen` stand before all
  abbrev RightAt : List ℕ → List Origin → List Numbered → ℕ → Type 0
  RightAt seen o [] k = ⊥
  RightAt seen o (x ∷ xs) zero = (member x.number seen ≡ false) × Carry rs o x
  RightAt seen o (x ∷ xs) (suc k) = RightAt (x.number ∷ seen) (after x.number x.instruction o) xs k

  -- ---- by places

  -- what `Right` says, where the numbers `seen` stand before all
  abbrev Placed : List ℕ → List Origin → List ℕ → List Instruction → ℕ → Type 0
  Placed seen o ns is k =
      (x : Numbered) × (get_elem? (paired ns is) k ≡ some x) × (member x.number seen ≡ false)
      × ((j : ℕ) → j < k → get_elem? ns j ≡ some x.number → ⊥) × Carry rs (final_of (take k (paired ns is)) o) x

  right-placed : (ns : List ℕ) (is : List Instruction) (seen : List ℕ) (o : List Origin) (k : ℕ) → RightAt seen o (paired ns is) k → Placed seen o ns is k
  right-placed [] is seen o k h = absurd h
  right-placed (n ∷ ns) [] seen o k h = absurd h
  right-placed (n ∷ ns) (i ∷ is) seen o zero (f, c) = (record { number = n; instruction = i }, refl, f, λ j l e. absurd (omega arith), c)
  right-placed (n ∷ ns) (i ∷ is) seen o (suc k) h =
      let (x, at, fresh, first, c) = right-placed ns is (n ∷ seen) (after n i o) k h in
      let (d, f) = member-none x.number n seen fresh in
      (x, at, f, before x d first, c)
    where
      before : (x : Numbered) → (n ≡ x.number → ⊥) → ((j : ℕ) → j < k → get_elem? ns j ≡ some x.number → ⊥)
          → (j : ℕ) → j < suc k → get_elem? (n ∷ ns) j ≡ some x.number → ⊥
      before x d first zero l e = d (some_is e)
      before x d first (suc j) l e = first j (omega arith) e

  placed-right : (ns : List ℕ) (is : List Instruction) (seen : List ℕ) (o : List Origin) (k : ℕ) → Placed seen o ns is k → RightAt seen o (paired ns is) k
  placed-right [] is seen o k (x, at, f, first, c) = absurd (no_place k x at)
  placed-right (n ∷ ns) [] seen o k (x, at, f, first, c) = absurd (no_place k x at)
  placed-right (n ∷ ns) (i ∷ is) seen o zero (x, at, f, first, c) = subst (λ (y : Numbered). (member y.number seen ≡ false) × Carry rs o y) (sym (some_is at)) (f, c)
  placed-right (n ∷ ns) (i ∷ is) seen o (suc k) (x, at, f, first, c) =
      placed-right ns is (n ∷ seen) (after n i o) k
      (x, at, member-not x.number n seen (λ e. first 0 (omega arith) (ap some e)) f, λ j l e. first (suc j) (omega arith) e, c)

  -- ---- all instructions

  right-carries : (xs : List Numbered) (seen : List ℕ) (o : List Origin) → ((k : ℕ) → k < length xs → RightAt seen o xs k) → Carries rs o xs
  right-carries [] seen o h = tt
  right-carries (x ∷ xs) seen o h =
      ((h 0 (omega arith)).1, right-carries xs (x.number ∷ seen) (after x.number x.instruction o) (λ k l. h (suc k) (omega arith)))

  carries-right : (ns : List ℕ) (is : List Instruction) (seen : List ℕ) (o : List Origin) → Distinct ns → Unseen seen ns → Carries rs o (paired ns is)
      → (k : ℕ) → k < length (paired ns is) → RightAt seen o (paired ns is) k
  carries-right [] is seen o d u c k l = absurd (omega arith)
  carries-right (n ∷ ns) [] seen o d u c k l = absurd (omega arith)
  carries-right (n ∷ ns) (i ∷ is) seen o (e, d) (f, u) (c, cs) zero l = (f, c)
  carries-right (n ∷ ns) (i ∷ is) seen o (e, d) (f, u) (c, cs) (suc k) l =
      carries-right ns is (n ∷ seen) (after n i o) d (unseen-next n ns seen e u) cs k (omega arith)

  -- their numbers stand once, and are those of readings
  right-distinct : (ns : List ℕ) (is : List Instruction) (seen : List ℕ) (o : List Origin) → length ns ≡ length is
      → ((k : ℕ) → k < length (paired ns is) → RightAt seen o (paired ns is) k) → Distinct ns × Unseen seen ns
  right-distinct [] is seen o l h = (tt, tt)
  right-distinct (n ∷ ns) [] seen o l h = absurd (omega arith)
  right-distinct (n ∷ ns) (i ∷ is) seen o l h =
      let (d, u) = right-distinct ns is (n ∷ seen) (after n i o) (omega arith) (λ k m. h (suc k) (omega arith)) in
      let (e, v) = unseen-inv n ns seen u in
      ((e, d), ((h 0 (omega arith)).0, v))

  carries-within : (ns : List ℕ) (is : List Instruction) (o : List Origin) → length ns ≡ length is → Carries rs o (paired ns is) → Each (λ k. k < length rs) ns
  carries-within [] is o l c = tt
  carries-within (n ∷ ns) [] o l c = absurd (omega arith)
  carries-within (n ∷ ns) (i ∷ is) o l (c, cs) = (some_below rs n c.reading c.at, carries-within ns is (after n i o) (omega arith) cs)

  -- ---- the walk

  -- what the walk from instruction k on says: all are right, or which is the first that is not
  abbrev Walks : List ℕ → List Origin → List Numbered → ℕ → Outcome (List Origin) → Type 0
  Walks seen o xs k (ok last) = ((j : ℕ) → j < length xs → RightAt seen o xs j) × (last ≡ final_of xs o)
  Walks seen o xs k (fault n p) =
      (j : ℕ) × (n ≡ 29) × (p ≡ k + j) × (j < length xs) × ((i : ℕ) → i < j → RightAt seen o xs i) × (RightAt seen o xs j → ⊥)

  walk : (xs : List Numbered) (seen : List ℕ) (o : List Origin) (k : ℕ) → Walks seen o xs k (follow rs k seen o xs)
  walk [] seen o k = (λ j l. absurd (omega arith), refl)
  walk (x ∷ xs) seen o k = pick (passing seen o x) refl (walk xs (x.number ∷ seen) (after x.number x.instruction o) (suc k))
    where
      rest : Outcome (List Origin)
      rest = follow rs (suc k) (x.number ∷ seen) (after x.number x.instruction o) xs

      both : {n : ℕ} → RightAt seen o (x ∷ xs) 0 → ((j : ℕ) → j < n → RightAt seen o (x ∷ xs) (suc j)) → (j : ℕ) → j < suc n → RightAt seen o (x ∷ xs) j
      both h hs zero l = h
      both h hs (suc j) l = hs j (omega arith)

      on : RightAt seen o (x ∷ xs) 0 → (g : Outcome (List Origin)) → Walks (x.number ∷ seen) (after x.number x.instruction o) xs (suc k) g → Walks seen o (x ∷ xs) k g
      on h (ok last) (hs, e) = (both h hs, e)
      on h (fault n p) (j, m, e, l, hs, wrong) = (suc j, m, omega arith, omega arith, both h hs, wrong)

      pick : (t : Bool) → passing seen o x ≡ t → Walks (x.number ∷ seen) (after x.number x.instruction o) xs (suc k) rest
          → Walks seen o (x ∷ xs) k (follow rs k seen o (x ∷ xs))
      pick true e w =
          let (f, c) = and-inv (not (member x.number seen)) (carries_out o x.instruction (get_elem? rs x.number)) e in
          subst (Walks seen o (x ∷ xs) k) (sym (passes (passing seen o x) 29 k rest e)) (on (not-true _ f, carry-is o x (get_elem? rs x.number) refl c) rest w)
      pick false e w =
          subst (Walks seen o (x ∷ xs) k) (sym (fails (passing seen o x) 29 k rest e)) (
            0,
            refl,
            sym (add-zero k),
            omega arith,
            λ i l. absurd (omega arith),
            λ (f, c). never (sym e ∙ and_both _ _ (ap not f) (is-carry o x c)),
          )

-- ---- of two lists

module _ (b b' : BoardList) (numbers : List ℕ) where
  abbrev pairs : List Numbered
  pairs = paired numbers b'.instructions

  abbrev first : List Origin
  first = start b.arguments b'.words

  -- the same by recursion
  abbrev RightHere : ℕ → Type 0
  RightHere = RightAt (own_readings b) [] first pairs

  right-here : (k : ℕ) → Right b b' numbers k → RightHere k
  right-here k r = placed-right (own_readings b) numbers b'.instructions [] first k (r.here, r.at, refl, r.first, r.carries)

  here-right : (k : ℕ) → RightHere k → Right b b' numbers k
  here-right k h =
      let (x, at, fresh, before, c) = right-placed (own_readings b) numbers b'.instructions [] first k h in
      record { here = x; at = at; first = before; carries = c }

  pairs-length : Counted b b' numbers → length pairs ≡ length b.instructions
  pairs-length c = paired-length numbers b'.instructions (c.numbered ∙ sym c.instructions) ∙ c.instructions

  -- the origins behind all instructions
  last-is : Counted b b' numbers → origins_before b b' numbers (length b.instructions) ≡ final_of pairs first
  last-is c =
      let l = pairs-length c in
      ap (λ (xs : List Numbered). final_of xs first) (take_all (length b.instructions) pairs (omega arith))

  all_here : Accepts b b' numbers → (k : ℕ) → k < length pairs → RightHere k
  all_here a k h = right-here k (a.all k (omega (arith, pairs-length a.counted)))

  -- ---- accepted lists follow

  pub accepted-follows : AllFit b.arguments b.instructions b.words → Each (λ a. a < b.words) b.outputs → FormedList V2 b'
      → Accepts b b' numbers → Follows b b' (paired numbers b'.instructions)
  accepted-follows fit below formed a =
      let c = a.counted in
      let args = c.arguments in
      let up = fit-up b.instructions b.arguments b.words fit in
      let high = formed.highest in
      let up' = written-up b'.instructions (argument_words b'.arguments) in
      record {
        arguments = args;
        within = up;
        within' = omega arith;
        rooms = fit-roomy b.instructions b.arguments b.words b.words fit (omega arith);
        known = reads_known b fit;
        listed = paired-instructions numbers b'.instructions (c.numbered ∙ sym c.instructions);
        rooms' = paired-rooms numbers b'.instructions (argument_words b'.arguments) b'.words formed.instructions (omega arith);
        carries = right-carries (own_readings b) pairs [] first (all_here a);
        out-known = all_known (own_origins b) b.words (own-known b fit) b.outputs below;
        outputs = sym a.outputs ∙ ap (λ (o : List Origin). map (origin_at o) b'.outputs) (last-is c);
      }

  -- and lists that follow, with each number once, are accepted
  pub follows-accepted : Follows b b' (paired numbers b'.instructions) → Distinct numbers → length b'.outputs ≡ length b.outputs
      → length b'.instructions ≡ length b.instructions → length numbers ≡ length b.instructions → Accepts b b' numbers
  follows-accepted f d outs size count =
      let c : Counted b b' numbers = record { arguments = f.arguments; outputs = outs; instructions = size; numbered = count } in
      let l = pairs-length c in
      record {
        counted = c;
        all = λ k h. here-right k (carries-right (own_readings b) numbers b'.instructions [] first d (unseen-none numbers) f.carries k (omega arith));
        outputs = ap (λ (o : List Origin). map (origin_at o) b'.outputs) (last-is c) ∙ sym f.outputs;
      }
    where
      unseen-none : (ns : List ℕ) → Unseen [] ns
      unseen-none [] = tt
      unseen-none (n ∷ ns) = (refl, unseen-none ns)

  -- ---- the numbers of accepted lists

  pub accepted-distinct : Accepts b b' numbers → Distinct numbers
  accepted-distinct a =
      let c = a.counted in
      (right-distinct (own_readings b) numbers b'.instructions [] first (c.numbered ∙ sym c.instructions) (all_here a)).0

  pub numbers-within : Accepts b b' numbers → Each (λ k. k < length b.instructions) numbers
  numbers-within a =
      let c = a.counted in
      subst (λ (n : ℕ). Each (λ k. k < n) numbers) (readings-length b.instructions 0 (start b.arguments b.words))
      (carries-within (own_readings b) numbers b'.instructions first (c.numbered ∙ sym c.instructions) (right-carries (own_readings b) pairs [] first (all_here a)))

  -- ---- what each outcome says

  abbrev Says : Outcome ℕ → Type 0
  Says (ok n) = Accepts b b' numbers × (n ≡ length b.instructions)
  Says (fault n p) = ((n ≡ 33) × (p ≡ 0) × (Counted b b' numbers → ⊥)) ⊎ ((n ≡ 29) × FaultAt b b' numbers p)

  -- ---- only one of them holds

  fault-low : (p : ℕ) → FaultAt b b' numbers p → p ≤ length b.instructions
  fault-low p f = ⊎_elim (λ (l, wrong). omega arith) (λ (e, wrong). omega arith) f.fault

  not_earlier : (p q : ℕ) → FaultAt b b' numbers p → FaultAt b b' numbers q → p < q → ⊥
  not_earlier p q f g l =
      let low = fault-low q g in
      ⊎_elim (λ (h, wrong). wrong (g.before p l)) (λ (e, wrong). omega arith) f.fault

  one_place : (p q : ℕ) → FaultAt b b' numbers p → FaultAt b b' numbers q → p ≡ q
  one_place p q f g =
      ⊎_elim (λ l. absurd (not_earlier p q f g l)) (λ l. ⊎_elim (λ m. absurd (not_earlier q p g f m)) (λ m. omega arith) (lt-or-le q p)) (lt-or-le p q)

  accepted-apart : (n p : ℕ) → Accepts b b' numbers → Says (fault n p) → ⊥
  accepted-apart n p a (inl (e, z, h)) = h a.counted
  accepted-apart n p a (inr (e, f)) = ⊎_elim (λ (l, wrong). wrong (a.all p l)) (λ (l, wrong). wrong a.outputs) f.fault

  says-one : (x y : Outcome ℕ) → Says x → Says y → x ≡ y
  says-one (ok m) (ok n) (a, e) (a', e') = ap ok (e ∙ sym e')
  says-one (ok m) (fault n p) (a, e) h = absurd (accepted-apart n p a h)
  says-one (fault n p) (ok m) h (a, e) = absurd (accepted-apart n p a h)
  says-one (fault n p) (fault m q) (inl (e, z, h)) (inl (e', z', h')) = ap₂ fault (e ∙ sym e') (z ∙ sym z')
  says-one (fault n p) (fault m q) (inl (e, z, h)) (inr (e', f')) = absurd (h f'.counted)
  says-one (fault n p) (fault m q) (inr (e, f)) (inl (e', z', h')) = absurd (h' f.counted)
  says-one (fault n p) (fault m q) (inr (e, f)) (inr (e', f')) = ap₂ fault (e ∙ sym e') (one_place p q f f')

  -- ---- what the judge gives holds

  same-counted : same_counts b b' numbers ≡ true → Counted b b' numbers
  same-counted e =
      let n = length b.instructions in
      let arguments = eqb b'.arguments b.arguments in
      let outputs = eqb (length b'.outputs) (length b.outputs) in
      let instructions = eqb (length b'.instructions) n in
      let (three, w) = and-inv (arguments && outputs && instructions) (eqb (length numbers) n) e in
      let (two, z) = and-inv (arguments && outputs) instructions three in
      let (x, y) = and-inv arguments outputs two in
      record { arguments = eqb-true _ _ x; outputs = eqb-true _ _ y; instructions = eqb-true _ _ z; numbered = eqb-true _ _ w }

  counted_same : Counted b b' numbers → same_counts b b' numbers ≡ true
  counted_same c =
      and_both _ _ (and_both _ _ (and_both _ _ (eq-eqb _ _ c.arguments) (eq-eqb _ _ c.outputs)) (eq-eqb _ _ c.instructions)) (eq-eqb _ _ c.numbered)

  -- the test of the outputs, and what it is asked for
  abbrev outputs_same : List Origin → Bool
  outputs_same o = alike same_origin (map (origin_at o) b'.outputs) (map (origin_at (own_origins b)) b.outputs)

  abbrev ended : List Origin → Outcome ℕ
  ended o = need (outputs_same o) 29 (length b.instructions) >> ok (length b.instructions)

  followed-says : Counted b b' numbers → Says (followed b b' numbers)
  followed-says c = go walked refl (walk (own_readings b) pairs [] first 0)
    where
      n : ℕ
      n = length b.instructions

      walked : Outcome (List Origin)
      walked = follow (own_readings b) 0 [] first pairs

      last : List Origin
      last = origins_before b b' numbers n

      size : length pairs ≡ n
      size = pairs-length c

      finish : RightBefore b b' numbers n → (t : Bool) → outputs_same last ≡ t → Says (ended last)
      finish h true e = subst Says (sym (passes (outputs_same last) 29 n (ok n) e)) (
        record { counted = c; all = h; outputs = alike_is same_origin same-is (map (origin_at last) b'.outputs) (map (origin_at (own_origins b)) b.outputs) e },
        refl,
      )
      finish h false e = subst Says (sym (fails (outputs_same last) 29 n (ok n) e)) (inr (
        refl,
        record { counted = c; before = h; fault = inr (refl, λ q. never (sym e ∙ is-alike same_origin is_same _ _ q)) },
      ))

      go : (g : Outcome (List Origin)) → walked ≡ g → Walks (own_readings b) [] first pairs 0 g → Says (followed b b' numbers)
      go (ok o) q (h, e) =
          subst Says (sym (takes walked ended o q ∙ ap ended (e ∙ sym (last-is c)))) (finish (λ k l. here-right k (h k (omega (arith, size)))) (outputs_same last) refl)
      go (fault m p) q (j, e, z, l, h, wrong) =
          let at : j ≡ p = omega arith in
          subst Says (sym (stops walked ended m p q)) (inr (
            e,
            subst (FaultAt b b' numbers) at
                (record { counted = c; before = λ k l. here-right k (h k l); fault = inl (omega (arith, size), λ r. wrong (right-here j r)) }),
          ))

  says : Says (judged b b' numbers)
  says = pick (same_counts b b' numbers) refl
    where
      pick : (t : Bool) → same_counts b b' numbers ≡ t → Says (judged b b' numbers)
      pick true e = subst Says (sym (passes (same_counts b b' numbers) 33 0 (followed b b' numbers) e)) (followed-says (same-counted e))
      pick false e = subst Says (sym (fails (same_counts b b' numbers) 33 0 (followed b b' numbers) e)) (inl (refl, refl, λ c. never (sym e ∙ counted_same c)))

  -- ---- both ways

  pub decided-ok : (n : ℕ) → (judged b b' numbers ≡ ok n) ↔ (Accepts b b' numbers × (n ≡ length b.instructions))
  decided-ok n = (λ e. subst Says e says, λ h. says-one (judged b b' numbers) (ok n) says h)

  pub decided-33 : (judged b b' numbers ≡ fault 33 0) ↔ (Counted b b' numbers → ⊥)
  decided-33 = (
    λ e. ⊎_elim (λ (m, z, h). h) (λ (m, f). absurd (omega arith)) (subst Says e says),
    λ h. says-one (judged b b' numbers) (fault 33 0) says (inl (refl, refl, h)),
  )

  pub decided-29 : (p : ℕ) → (judged b b' numbers ≡ fault 29 p) ↔ FaultAt b b' numbers p
  decided-29 p = (
    λ e. ⊎_elim (λ (m, z, h). absurd (omega arith)) (λ (m, f). f) (subst Says e says),
    λ f. says-one (judged b b' numbers) (fault 29 p) says (inr (refl, f)),
  )

  -- no other fault
  pub decided-only : (n p : ℕ) → judged b b' numbers ≡ fault n p → ((n ≡ 33) × (p ≡ 0)) ⊎ ((n ≡ 29) × (p ≤ length b.instructions))
  decided-only n p e = ⊎_elim (λ (m, z, h). inl (m, z)) (λ (m, f). inr (m, fault-low p f)) (subst Says e says)
