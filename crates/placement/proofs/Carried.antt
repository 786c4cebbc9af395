-- The placed list reads words of the same origins as the list that it was placed from. Version 1 writes no word twice, so that a word's origin
-- there is known from the end; in version 2 a value's words keep theirs while it is held, since a result is placed apart from all held values.
use Prim.Native.Nat.{ℕ, zero, suc, ◌+◌, ◌-◌, ◌≤◌, ◌<◌}
use mathlib.Core.Path.{◌≡◌, refl, ap, ap₂, sym, ◌∙◌, subst}
use mathlib.Core.Bool.{Bool, true, false, cond}
use mathlib.Core.List.{List, [], ◌∷◌, ◌++◌, map, map-append}
use mathlib.Core.Logic.{◌⊎◌, inl, inr}
use native.Mathlib.Omega.{arith}
use native.Mathlib.Nat.{add-zero, add-suc, suc-add}
use lib.Dec.{eqb, ltb}
use lib.ListN.{length, get_elem?}
use lib.Seq.{sets, length-sets}
use borrow.Author.Tests.{ltb-true, ltb-false}
use Rattle.ports.specs.Kinds.{Kind, unknown, addition, subtraction, multiplication, division, constant, constvec, constmat, composevector, vectorfromscalar, decomposevector, composematrix, matrixfromcolumns, matrixfromrows, dot, cross, matvecmultiplication, transpose, min, max, abs, fmod, select, clamp, call, kind_of}
use Rattle.ports.specs.Ports.{width, widths, ports_of, takes, gives, form_of, executable, type_fits, legal_instruction}
use Rattle.base.specs.Limits.{value_limit}
use Rattle.base.specs.Lists.{span, Each, Is}
use Rattle.base.proofs.Bools.{never, and-inv}
use Rattle.base.proofs.Lists.{made_at, made-length, each_in, each_on, each_both}
use Rattle.base.proofs.Stores.{stored-below, stored-in}
use Rattle.bytecode.specs.Run.{Instruction, spans}
use Rattle.bytecode.specs.Sequential.{next_word, Below, AllFit}
use Rattle.bytecode.specs.Ranges.{any, Range, end, inside, result_value}
use Rattle.bytecode.specs.Origin.{Origin, unwritten, result, origin_at, result_width, made, origins, after, Reading, readings, final, Numbered, final_of, Carries}
use Rattle.bytecode.proofs.Sequential.{fit-up}
use Rattle.bytecode.proofs.Readable.{is-inside}
use Rattle.placement.specs.Live.{live}
use Rattle.placement.specs.Place.{Placed, words, top, apart, held_at, placed, place_all, rename, renamed, numbered}
use Rattle.placement.specs.OneValue.{InOneEach, AllInOne}
use Rattle.placement.proofs.Ranges.{inside-not, apart-inv, apart-is, apart-outside, each_fewer, is-keep, live-before, live-read, stored-outside, any-append-left, any-append-right, any-span}
use Rattle.placement.proofs.Gaps.{gap-free}

-- ---- every value has a word, and none more than a matrix

pub width-bounds : (t : ℕ) → (1 ≤ width t) × (width t ≤ value_limit)
width-bounds t = pick (eqb t 1) (eqb t 2)
  where
    pick : (b c : Bool) → (1 ≤ cond b 1 (cond c 3 16)) × (cond b 1 (cond c 3 16) ≤ value_limit)
    pick true c = (omega arith, omega arith)
    pick false true = (omega arith, omega arith)
    pick false false = (omega arith, omega arith)

pub some_word : (t : ℕ) → 1 ≤ width t
some_word t = (width-bounds t).0

result-bounds : (k : Kind) (t : ℕ) → executable (form_of k) ≡ true → (1 ≤ widths (gives k t)) × (widths (gives k t) ≤ value_limit)
result-bounds unknown t e = never e
result-bounds addition t e = let (u, v) = width-bounds t in (omega arith, omega arith)
result-bounds subtraction t e = let (u, v) = width-bounds t in (omega arith, omega arith)
result-bounds multiplication t e = let (u, v) = width-bounds t in (omega arith, omega arith)
result-bounds division t e = let (u, v) = width-bounds t in (omega arith, omega arith)
result-bounds constant t e = (omega arith, omega arith)
result-bounds constvec t e = (omega arith, omega arith)
result-bounds constmat t e = (omega arith, omega arith)
result-bounds composevector t e = (omega arith, omega arith)
result-bounds vectorfromscalar t e = (omega arith, omega arith)
result-bounds decomposevector t e = (omega arith, omega arith)
result-bounds composematrix t e = (omega arith, omega arith)
result-bounds matrixfromcolumns t e = (omega arith, omega arith)
result-bounds matrixfromrows t e = (omega arith, omega arith)
result-bounds dot t e = (omega arith, omega arith)
result-bounds cross t e = (omega arith, omega arith)
result-bounds matvecmultiplication t e = (omega arith, omega arith)
result-bounds transpose t e = (omega arith, omega arith)
result-bounds min t e = let (u, v) = width-bounds t in (omega arith, omega arith)
result-bounds max t e = let (u, v) = width-bounds t in (omega arith, omega arith)
result-bounds abs t e = let (u, v) = width-bounds t in (omega arith, omega arith)
result-bounds fmod t e = let (u, v) = width-bounds t in (omega arith, omega arith)
result-bounds select t e = let (u, v) = width-bounds t in (omega arith, omega arith)
result-bounds clamp t e = let (u, v) = width-bounds t in (omega arith, omega arith)
result-bounds call t e = never e

pub legal-bounds : (i : Instruction) → legal_instruction (kind_of i.kind) i.type ≡ true → (1 ≤ result_width i) × (result_width i ≤ value_limit)
legal-bounds i e =
    let k = kind_of i.kind in
    result-bounds k i.type (and-inv (executable (form_of k)) (type_fits (ports_of k) i.type) e).0

pub legal-wide : (i : Instruction) → legal_instruction (kind_of i.kind) i.type ≡ true → 1 ≤ result_width i
legal-wide i e = (legal-bounds i e).0

-- ---- where the words of version 1 come from: none is written twice

pub final-keeps : (is : List Instruction) (k next stop : ℕ) (o : List Origin) (a : ℕ) → AllFit next is stop → a < next → origin_at (final k is o) a ≡ origin_at o a
final-keeps [] k next stop o a f l = refl
final-keeps (i ∷ is) k next stop o a (x, f) l =
    let e : i.result ≡ next = x.result in
    final-keeps is (suc k) (next_word next i) stop (after k i o) a f (omega arith) ∙ stored-below unwritten (made k (result_width i)) o i.result a (omega arith)

pub stored-made : (k at n : ℕ) (o : List Origin) (j : ℕ) → at + n ≤ length o → j < n → origin_at (sets o at (made k n)) (at + j) ≡ result k j
stored-made k at n o j l h =
    let size : length (made k n) ≡ n = made-length Origin (result k) n 0 in
    stored-in unwritten (made k n) o at j (omega (arith, size)) (omega (arith, size)) ∙ made_at Origin unwritten (result k) n 0 j h ∙ ap (result k) (omega arith)

pub stored-away : (k at n : ℕ) (o : List Origin) (a : ℕ) → (a < at) ⊎ (at + n ≤ a) → origin_at (sets o at (made k n)) a ≡ origin_at o a
stored-away k at n o a (inl h) = stored-outside unwritten (made k n) o at a (inl h)
stored-away k at n o a (inr h) =
    let size : length (made k n) ≡ n = made-length Origin (result k) n 0 in
    stored-outside unwritten (made k n) o at a (inr (omega (arith, size)))

-- ---- a history, as version 1 has it

abbrev pub Distinct : List Placed → Type 0
Distinct [] = Unit {0}
Distinct (p ∷ ps) = Each (λ q. apart p.value q.value ≡ true) ps × Distinct ps

pub rename-is : (ps : List Placed) (p : Placed) (a : ℕ) → Distinct ps → Is p ps → inside p.value a ≡ true → rename ps a ≡ p.place + (a - p.value.first)
rename-is [] p a d i e = absurd i
rename-is (q ∷ qs) p a (x, d) (inl s) e = rw (ap (λ (y : Placed). inside y.value a) (sym s) ∙ e) (ap (λ (y : Placed). y.place + (a - y.value.first)) (sym s))
rename-is (q ∷ qs) p a (x, d) (inr i) e = pick (inside q.value a) refl (rename-is qs p a d i e)
  where
    pick : (b : Bool) → inside q.value a ≡ b → rename qs a ≡ p.place + (a - p.value.first)
        → cond b (q.place + (a - q.value.first)) (rename qs a) ≡ p.place + (a - p.value.first)
    pick true s h = never (sym (apart-outside q.value p.value a (each_in _ qs x p i) s) ∙ e)
    pick false s h = h

pub record Along (next : ℕ) (h : List Placed) : Type 0 where
  pub distinct : Distinct h
  pub below : Each (λ p. end p.value ≤ next) h
  pub covers : (a : ℕ) → a < next → (p : Placed) × Is p h × (inside p.value a ≡ true)

pub along-next : (next w : ℕ) (h : List Placed) (p : Placed) → p.value.first ≡ next → p.value.width ≡ w → Along next h → Along (next + w) (p ∷ h)
along-next next w h p e s r = record {
  distinct = (each_on _ _ (λ q (l : end q.value ≤ next). apart-is p.value q.value (inr (omega arith))) h r.below, r.distinct);
  below = (omega arith, each_on _ _ (λ q (l : end q.value ≤ next). omega arith) h r.below);
  covers = λ a l. pick a l (ltb a next) refl;
}
  where
    pick : (a : ℕ) → a < next + w → (b : Bool) → ltb a next ≡ b → (q : Placed) × Is q (p ∷ h) × (inside q.value a ≡ true)
    pick a l true t = let (q, i, z) = r.covers a (ltb-true a next t) in (q, inr i, z)
    pick a l false t =
        let ge : next ≤ a = ltb-false a next t in
        (p, inl refl, is-inside p.value a (omega arith) (omega arith))

-- the values to come are the last of the history, and the words so far keep their places
pub place-rename : (outputs : List ℕ) (is : List Instruction) (next stop : ℕ) (h : List Placed) (a : ℕ) → AllFit next is stop → a < next
    → rename (place_all outputs h is) a ≡ rename h a
place-rename outputs [] next stop h a f l = refl
place-rename outputs (i ∷ is) next stop h a (x, f) l =
    let p = placed outputs h i is in
    let e : i.result ≡ next = x.result in
    place-rename outputs is (next_word next i) stop (p ∷ h) a f (omega arith)
    ∙ rw (inside-not (result_value i) a (inl (omega arith))) refl

pub place-top : (outputs : List ℕ) (is : List Instruction) (h : List Placed) → top h ≤ top (place_all outputs h is)
place-top outputs [] h = omega arith
place-top outputs (i ∷ is) h = let r = place-top outputs is (placed outputs h i is ∷ h) in omega arith

pub is-value : (h : List Placed) (r : Range) → Is r (map (λ p. p.value) h) → (p : Placed) × Is p h × (p.value ≡ r)
is-value [] r i = absurd i
is-value (p ∷ h) r (inl e) = (p, inl refl, sym e)
is-value (p ∷ h) r (inr i) = let (q, j, e) = is-value h r i in (q, inr j, e)

-- ---- words of the same origin

module _ (F : ℕ → Origin) where
  -- the words of a placed value have the origins that they have in version 1
  abbrev pub Keeps : List Origin → Placed → Type 0
  Keeps o p = (j : ℕ) → j < p.value.width → origin_at o (p.place + j) ≡ F (p.value.first + j)

  pub keeps-store : (k at n : ℕ) (o : List Origin) (p : Placed) → apart (record { first = at; width = n }) (words p) ≡ true → Keeps o p → Keeps (sets o at (made k n)) p
  keeps-store k at n o p e h j l = stored-away k at n o (p.place + j) (pick (apart-inv (record { first = at; width = n }) (words p) e)) ∙ h j l
    where
      pick : (at + n ≤ p.place) ⊎ (p.place + p.value.width ≤ at) → (p.place + j < at) ⊎ (at + n ≤ p.place + j)
      pick (inl x) = inr (omega arith)
      pick (inr x) = inl (omega arith)

  span_same : (g : ℕ → Origin) (n x y : ℕ) → ((j : ℕ) → j < n → g (x + j) ≡ F (y + j)) → map g (span x n) ≡ map F (span y n)
  span_same g zero x y h = refl
  span_same g (suc n) x y h =
      let first : g x ≡ F y = ap g (sym (add-zero x)) ∙ h 0 (omega arith) ∙ ap F (add-zero y) in
      let rest : map g (span (suc x) n) ≡ map F (span (suc y) n) =
      span_same g n (suc x) (suc y) (λ j l. ap g (suc-add x j ∙ sym (add-suc x j)) ∙ h (suc j) (omega arith) ∙ ap F (add-suc y j ∙ sym (suc-add y j))) in
      ap₂ (λ (u : Origin) (us : List Origin). u ∷ us) first rest

  -- operands, each of one value that is in its place
  pub same_reads :
      (H h : List Placed) (o : List Origin) (ts at : List ℕ) → Distinct H → ((p : Placed) → Is p h → Is p H) → InOneEach (map (λ p. p.value) h) ts at
      → ((p : Placed) → Is p h → any (inside p.value) (spans ts at) ≡ true → Keeps o p)
      → map (origin_at o) (spans ts (map (rename H) at)) ≡ map F (spans ts at)
  same_reads H h o [] [] d s w k = refl
  same_reads H h o [] (a ∷ at) d s w k = absurd w
  same_reads H h o (t ∷ ts) [] d s w k = absurd w
  same_reads H h o (t ∷ ts) (a ∷ at) d s (x, w) k =
      let (p, i, e) = is-value h x.value x.is in
      let n = width t in
      let one : 1 ≤ n = some_word t in
      let from : p.value.first ≤ a = subst (λ (r : Range). r.first ≤ a) (sym e) x.from in
      let to : a + n ≤ end p.value = subst (λ (r : Range). a + n ≤ end r) (sym e) x.to in
      let in_p : inside p.value a ≡ true = is-inside p.value a from (omega arith) in
      let kept : Keeps o p = k p i (any-append-left (inside p.value) (span a n) (spans ts at) (any-span (inside p.value) n a one in_p)) in
      let place : rename H a ≡ p.place + (a - p.value.first) = rename-is H p a d (s p i) in_p in
      let word : (j : ℕ) → j < n → origin_at o (rename H a + j) ≡ F (a + j) =
      λ j l.
      let q : rename H a + j ≡ p.place + (a - p.value.first + j) = omega arith in
      let z : p.value.first + (a - p.value.first + j) ≡ a + j = omega arith in
      ap (origin_at o) q ∙ kept (a - p.value.first + j) (omega arith) ∙ ap F z in
      let first : map (origin_at o) (span (rename H a) n) ≡ map F (span a n) = span_same (origin_at o) n (rename H a) a word in
      let rest : map (origin_at o) (spans ts (map (rename H) at)) ≡ map F (spans ts at) =
      same_reads H h o ts at d s w (λ q j b. k q j (any-append-right (inside q.value) (span a n) (spans ts at) b)) in
      map-append (origin_at o) (span (rename H a) n) (spans ts (map (rename H) at))
      ∙ ap₂ (λ (us vs : List Origin). us ++ vs) first rest
      ∙ sym (map-append F (span a n) (spans ts at))

  -- what version 1 itself reads
  pub own-reads : (o : List Origin) (next : ℕ) → ((a : ℕ) → a < next → origin_at o a ≡ F a) → (ts at : List ℕ) → Below next ts at
      → map (origin_at o) (spans ts at) ≡ map F (spans ts at)
  own-reads o next h [] [] b = refl
  own-reads o next h [] (a ∷ at) b = absurd b
  own-reads o next h (t ∷ ts) [] b = absurd b
  own-reads o next h (t ∷ ts) (a ∷ at) (l, b) =
      map-append (origin_at o) (span a (width t)) (spans ts at)
      ∙ ap₂ (λ (us vs : List Origin). us ++ vs) (span_same (origin_at o) (width t) a a (λ j x. h (a + j) (omega arith))) (own-reads o next h ts at b)
      ∙ sym (map-append F (span a (width t)) (spans ts at))

-- ---- the history of a list

pub place_is : (outputs : List ℕ) (is : List Instruction) (h : List Placed) (p : Placed) → Is p h → Is p (place_all outputs h is)
place_is outputs [] h p i = i
place_is outputs (i ∷ is) h p x = place_is outputs is (placed outputs h i is ∷ h) p (inr x)

pub place-along : (outputs : List ℕ) (is : List Instruction) (next stop : ℕ) (h : List Placed) → AllFit next is stop → Along next h → Along stop (place_all outputs h is)
place-along outputs [] next stop h f r = subst (λ (n : ℕ). Along n h) f r
place-along outputs (i ∷ is) next stop h (x, f) r =
    let p = placed outputs h i is in
    place-along outputs is (next_word next i) stop (p ∷ h) f (along-next next (result_width i) h p x.result refl r)

-- where a result is placed
pub place-result : (outputs : List ℕ) (i : Instruction) (is : List Instruction) (next stop : ℕ) (h : List Placed) → AllFit next (i ∷ is) stop
    → rename (place_all outputs h (i ∷ is)) i.result ≡ (placed outputs h i is).place
place-result outputs i is next stop h (x, f) =
    let p = placed outputs h i is in
    let e : i.result ≡ next = x.result in
    let w : 1 ≤ result_width i = legal-wide i x.legal in
    place-rename outputs is (next_word next i) stop (p ∷ h) i.result f (omega arith)
    ∙ rw (is-inside (result_value i) i.result (omega arith) (omega arith)) (omega arith)

pub record Ends (F : ℕ → Origin) (rs : List Reading) (outputs : List ℕ) (H : List Placed) (xs : List Numbered) (o : List Origin) : Type 0 where
  pub carries : Carries rs o xs
  pub kept : Each (Keeps F (final_of xs o)) (held_at [] outputs H)

pub carried :
    (outputs : List ℕ) (rs : List Reading) (stop : ℕ) (is : List Instruction) (k next : ℕ) (h : List Placed) (o o' : List Origin) → AllFit next is stop
    → AllInOne (map (λ p. p.value) h) is → Along next h → stop ≤ length o → top (place_all outputs h is) ≤ length o'
    → Each (Keeps (origin_at (final k is o)) o') (held_at is outputs h) → ((j : ℕ) → get_elem? rs (k + j) ≡ get_elem? (readings k is o) j)
    → Ends (origin_at (final k is o)) rs outputs (place_all outputs h is) (numbered k (map (renamed (place_all outputs h is)) is)) o'
carried outputs rs stop [] k next h o o' f w r lo lo' kept at = record { carries = tt; kept = kept }
carried outputs rs stop (i ∷ is) k next h o o' (x, f) (whole, w) r lo lo' kept at =
    let p = placed outputs h i is in
    let H = place_all outputs (p ∷ h) is in
    let F = origin_at (final k (i ∷ is) o) in
    let n = result_width i in
    let e : i.result ≡ next = x.result in
    let up : next_word next i ≤ stop = fit-up is (next_word next i) stop f in
    let along : Along (next_word next i) (p ∷ h) = along-next next n h p e refl r in
    let high : end (words p) ≤ top H = let t = place-top outputs is (p ∷ h) in omega arith in
    let before = held_at (i ∷ is) outputs h in
    let o1 = after k i o in
    let o1' = sets o' p.place (made k n) in
    let own : Keeps F o1' p =
    λ j l.
    stored-made k p.place n o' j (omega arith) l
    ∙ sym (final-keeps is (suc k) (next_word next i) stop o1 (i.result + j) f (omega arith) ∙ stored-made k i.result n o j (omega arith) l) in
    let others : Each (Keeps F o1') before =
    each_both (Keeps F o') (λ q. apart (record { first = p.place; width = n }) (words q) ≡ true) (Keeps F o1') (λ q a b. keeps-store F k p.place n o' q b a) before kept
    (gap-free before n) in
    let later : Each (Keeps F o1') (held_at is outputs h) =
    each_fewer (λ q. live is outputs q.value) (λ q. live (i ∷ is) outputs q.value) (λ q a. live-before i is outputs q.value a) (Keeps F o1') h others in
    let rest =
    carried outputs rs stop is (suc k) (next_word next i) (p ∷ h) o1 o1' f w along (omega (arith, length-sets o i.result (made k n)))
    (omega (arith, length-sets o' p.place (made k n))) (pick p is (Keeps F o1') h own later (live is outputs p.value))
    (λ j. ap (get_elem? rs) (suc-add k j ∙ sym (add-suc k j)) ∙ at (suc j)) in
    let i' = renamed H i in
    let stored : o1' ≡ after k i' o' = ap (λ (a : ℕ). sets o' a (made k n)) (sym (place-result outputs i is next stop h (x, f))) in
    let xs = numbered (suc k) (map (renamed H) is) in
    let moved : Ends F rs outputs H xs (after k i' o') = subst (λ (z : List Origin). Ends F rs outputs H xs z) stored rest in
    let ts = takes (kind_of i.kind) i.type in
    let all = place-along outputs is (next_word next i) stop (p ∷ h) f along in
    let reads : origins i' o' ≡ origins i o =
    same_reads F H h o' ts i.operands all.distinct (λ q z. place_is outputs is (p ∷ h) q (inr z)) whole
    (λ q z b. each_in (Keeps F o') before kept q (is-keep (λ y. live (i ∷ is) outputs y.value) h q z (live-read i is outputs q.value b)))
    ∙ sym (own-reads F o next (λ a l. sym (final-keeps (i ∷ is) k next stop o a (x, f) l)) ts i.operands x.operands) in
    record {
      carries = (
        record {
          reading = record { instruction = i; reads = origins i o };
          at = ap (get_elem? rs) (sym (add-zero k)) ∙ at 0;
          kind = refl;
          type = refl;
          constants = refl;
          same = reads;
        },
        moved.carries,
      );
      kept = moved.kept;
    }
  where
    pick : (p : Placed) (is : List Instruction) (P : Placed → Type 0) (h : List Placed) → P p → Each P (held_at is outputs h) → (b : Bool)
        → Each P (cond b (p ∷ held_at is outputs h) (held_at is outputs h))
    pick p is P h a e true = (a, e)
    pick p is P h a e false = e
