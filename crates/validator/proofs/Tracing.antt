-- The state while the proposed list is followed: which numbers have appeared, where each word comes from, and what index and record say of both. An
-- instruction passes the code's test exactly when it passes the definition's, and the state then goes on.
use Prim.Native.Nat.{ℕ, zero, suc, ◌+◌, ◌-◌, ◌*◌, ◌≤◌, ◌<◌}
use mathlib.Core.Path.{◌≡◌, refl, ap, ap₂, sym, ◌∙◌, subst}
use mathlib.Core.Bool.{Bool, true, false, not, ◌&&◌, cond}
use mathlib.Core.List.{List, [], ◌∷◌, map}
use mathlib.Core.Option.{none, some}
use mathlib.Core.Logic.{◌⊎◌, inl, inr, ⊎_elim}
use native.Mathlib.Omega.{arith}
use lib.Dec.{eqb, ltb}
use lib.ListN.{length, get_or, get_elem?, set, length-set}
use lib.Seq.{length-sets, get_or-set_same, get_or-set_other}
use borrow.Author.Tests.{eqb-true, eqb-false, ne_eqb, eq-eqb, ltb-true, ltb-false}
use Rattle.ports.specs.Kinds.{kind_of}
use Rattle.ports.specs.Ports.{widths, gives, ports_of, result_words}
use Rattle.ports.proofs.Laws.{words-given}
use Rattle.base.specs.Bytes.{u16}
use Rattle.base.specs.Limits.{word_limit}
use Rattle.base.specs.Lists.{member, span}
use Rattle.base.proofs.Bools.{never, and-inv, and-false}
use Rattle.base.proofs.Numbers.{lt-or-le}
use Rattle.base.proofs.Lists.{member-inv, end-past, span-length}
use Rattle.base.proofs.Stores.{stored-below, stored-above, stored-in}
use Rattle.bytecode.specs.Run.{Instruction, BoardList}
use Rattle.bytecode.specs.Ranges.{Range, behind, result_value}
use Rattle.bytecode.specs.Sequential.{AllFit}
use Rattle.bytecode.specs.declared.Version.TheVariants.{V1, V2}
use Rattle.bytecode.specs.Origin.{Origin, origin_at, operand_places, origins, result_width, made, after}
use Rattle.placement.proofs.Carried.{stored-made, stored-away}
use Rattle.validator.specs.Judge.{same_origin, alike, carries_out, own_readings}
use Rattle.validator.specs.Tests.{no_word, held_at, words_at, carried_at, passed_at, result_of, stored_at}
use Rattle.validator.proofs.OneToOne.{own, own-result, own-reading, readings-all}
use Rattle.validator.proofs.Standing.{Stands}
use Rattle.validator.proofs.Records.{Holds, Traced}
use Rattle.validator.proofs.Carrying.{their-bytes, their-result, reading_of, carried-is}

-- something stands at each place below the length, and at no other
module _ {A : Type 0} where
  pub there : (xs : List A) (m : ℕ) → m < length xs → (x : A) × (get_elem? xs m ≡ some x)
  there [] m l = absurd (omega arith)
  there (x ∷ xs) zero l = (x, refl)
  there (x ∷ xs) (suc m) l = there xs m (omega arith)

  pub some_below : (xs : List A) (m : ℕ) (x : A) → get_elem? xs m ≡ some x → m < length xs
  some_below [] m x e = let z : ◌≡◌ {A = ℕ} 0 1 = cc in absurd (omega arith)
  some_below (y ∷ xs) zero x e = omega arith
  some_below (y ∷ xs) (suc m) x e = let l = some_below xs m x e in omega arith

-- the j-th of n numbers in a row
pub span-at : (n a j d : ℕ) → j < n → get_or (span a n) j d ≡ a + j
span-at zero a j d l = absurd (omega arith)
span-at (suc n) a zero d l = omega arith
span-at (suc n) a (suc j) d l = span-at n (suc a) j d (omega arith) ∙ omega arith

module _ (b : BoardList) (f : AllFit b.arguments b.instructions b.words) (few : b.words ≤ word_limit) (ours : List ℕ) where
  pub record Tracing (seen : List ℕ) (o : List Origin) (index words : List ℕ) : Type 0 where
    pub fresh : (m : ℕ) (i : Instruction) → get_elem? b.instructions m ≡ some i → member m seen ≡ false
        → (written : List Range) × Stands V1 written ours (2 * get_or index m 0) i × (1 ≤ get_or index m 0)
    pub taken : (m : ℕ) → member m seen ≡ true → get_or index m 0 ≡ 0
    pub results : (m : ℕ) (i : Instruction) → get_elem? b.instructions m ≡ some i → result_of words m ≡ i.result
    pub traced : Traced b f few o words
    pub indexed : length b.instructions ≤ length index
    pub room : word_limit + length b.instructions ≤ length words
    pub size : length o ≤ word_limit

  module _ (seen : List ℕ) (o : List Origin) (index words : List ℕ) (s : Tracing seen o index words) (code : List ℕ) (at m : ℕ) (i' : Instruction) (written : List Range)
      (h : Stands V2 written code at i') (low : behind written ≤ length o) where
    -- the definition's test
    abbrev pub right : Bool
    right = not (member m seen) && carries_out o i' (get_elem? (own_readings b) m)

    pub passed_is : passed_at ours code at m (length b.instructions) index words ≡ right
    unfolding passed_at
    passed_is = by (ltb m (length b.instructions)) refl
      where
        half : ℕ
        half = get_or index m 0

        -- one of version 1's
        one : (i : Instruction) → get_elem? b.instructions m ≡ some i → (p : Bool) → member m seen ≡ p
            → not (eqb half 0) && carried_at ours (2 * half) code at words ≡ not p && carries_out o i' (some (reading_of b f few i))
        one i e true p = ap (λ (q : Bool). not q && carried_at ours (2 * half) code at words) (eq-eqb half 0 (s.taken m p))
        one i e false p =
            let (w, st, l) = s.fresh m i e p in
            let d : half ≡ 0 → ⊥ = λ z. omega arith in
            ap (λ (q : Bool). not q && carried_at ours (2 * half) code at words) (ne_eqb half 0 d) ∙ carried-is b f few ours (2 * half) code at o words s.traced m i i' e w st written h low

        by : (t : Bool) → ltb m (length b.instructions) ≡ t → t && not (eqb half 0) && carried_at ours (2 * half) code at words ≡ right
        by true t =
            let (i, e) = there b.instructions m (ltb-true _ _ t) in
            one i e (member m seen) refl ∙ ap (λ r. not (member m seen) && carries_out o i' r) (sym (own-reading b f m i e))
        by false t =
            let l : length b.instructions ≤ m = ltb-false _ _ t in
            let n : get_elem? (own_readings b) m ≡ none = end-past (own_readings b) m (omega (arith, readings-all b f)) in
            sym (ap (λ r. not (member m seen) && carries_out o i' r) n ∙ and-false (not (member m seen)))

    -- the words of its result
    pub words-is : words_at code at ≡ result_width i'
    words-is =
        let t = their-bytes written code at i' h in
        ap₂ (λ (k y : ℕ). result_words (ports_of (kind_of k)) y) t.kind t.type ∙ words-given (kind_of i'.kind) i'.type

    module _ (fits : behind (result_value i' ∷ written) ≤ length o) where
      module _ (e : right ≡ true) where
        fresh-number : member m seen ≡ false
        fresh-number = pick (member m seen) refl
          where
            pick : (p : Bool) → member m seen ≡ p → p ≡ false
            pick true p = never (sym (ap (λ (q : Bool). not q && carries_out o i' (get_elem? (own_readings b) m)) p) ∙ e)
            pick false p = refl

        carries : carries_out o i' (get_elem? (own_readings b) m) ≡ true
        carries = (and-inv (not (member m seen)) (carries_out o i' (get_elem? (own_readings b) m)) e).1

        -- it has the number of an instruction of version 1 whose result is as wide
        numbered : (i : Instruction) × (get_elem? b.instructions m ≡ some i) × (result_width i' ≡ result_width i)
        numbered = pick (ltb m (length b.instructions)) refl
          where
            pick : (p : Bool) → ltb m (length b.instructions) ≡ p → (i : Instruction) × (get_elem? b.instructions m ≡ some i) × (result_width i' ≡ result_width i)
            pick false p =
                let l : length b.instructions ≤ m = ltb-false _ _ p in
                let n : get_elem? (own_readings b) m ≡ none = end-past (own_readings b) m (omega (arith, readings-all b f)) in
                never (sym (ap (carries_out o i') n) ∙ carries)
            pick true p =
                let (i, q) = there b.instructions m (ltb-true _ _ p) in
                let c : carries_out o i' (some (reading_of b f few i)) ≡ true = ap (carries_out o i') (sym (own-reading b f m i q)) ∙ carries in
                let (c1, c2) = and-inv
                (eqb i'.kind i.kind && eqb i'.type i.type && alike eqb i'.constants i.constants)
                (alike same_origin (origins i' o) (map (own b f) (operand_places i))) c in
                let (c3, c4) = and-inv (eqb i'.kind i.kind && eqb i'.type i.type) (alike eqb i'.constants i.constants) c1 in
                let (c5, c6) = and-inv (eqb i'.kind i.kind) (eqb i'.type i.type) c3 in
                (i, q, ap₂ (λ (k y : ℕ). widths (gives (kind_of k) y)) (eqb-true i'.kind i.kind c5) (eqb-true i'.type i.type c6))

        -- its result's words now hold version 1's
        pub tracing-next : Tracing (m ∷ seen) (after m i' o) (set index m 0) (stored_at code at m words)
        tracing-next =
            let (i, q, w) = numbered in
            let below : m < length b.instructions = some_below b.instructions m i q in
            record {
              fresh = λ n j p u. other-fresh n j p u;
              taken = λ n u. ⊎_elim
                  (λ z. subst (λ (k : ℕ). get_or (set index m 0) k 0 ≡ 0) z (get_or-set_same index m 0 0 (omega (arith, s.indexed, below))))
                  (λ z. unset n (s.taken n z)) (member-inv n m seen u);
              results = λ n j p. stored-above 0 (span (result_of words m) (words_at code at)) words (u16 code (at + 2)) (word_limit + n) (omega (arith, low-enough)) ∙ s.results n j p;
              traced = λ a l. held a l (lt-or-le a i'.result) (lt-or-le a (i'.result + result_width i'));
              indexed = omega (arith, length-set index m 0, s.indexed);
              room = omega (arith, length-sets words (u16 code (at + 2)) (span (result_of words m) (words_at code at)), s.room);
              size = omega (arith, same_size, s.size);
            }
          where
            same_size : length (after m i' o) ≡ length o
            same_size = length-sets o i'.result (made m (result_width i'))

            result-at : u16 code (at + 2) ≡ i'.result
            result-at = their-result written code at i' h

            width_of : length (span (result_of words m) (words_at code at)) ≡ result_width i'
            width_of = span-length (result_of words m) (words_at code at) ∙ words-is

            end_low : i'.result + result_width i' ≤ length o
            end_low = omega arith

            low-enough : u16 code (at + 2) + length (span (result_of words m) (words_at code at)) ≤ word_limit
            low-enough = omega (arith, result-at, width_of, end_low, s.size)

            unset : (n : ℕ) → get_or index n 0 ≡ 0 → get_or (set index m 0) n 0 ≡ 0
            unset n z = pick (eqb n m) refl
              where
                pick : (p : Bool) → eqb n m ≡ p → get_or (set index m 0) n 0 ≡ 0
                pick true p =
                    let (i, q, w) = numbered in
                    let l = some_below b.instructions m i q in
                    subst (λ (k : ℕ). get_or (set index m 0) k 0 ≡ 0) (sym (eqb-true n m p)) (get_or-set_same index m 0 0 (omega (arith, s.indexed, l)))
                pick false p = let d = eqb-false n m p in get_or-set_other index m n 0 0 d ∙ z

            other-fresh : (n : ℕ) (j : Instruction) → get_elem? b.instructions n ≡ some j → member n (m ∷ seen) ≡ false
                → (w : List Range) × Stands V1 w ours (2 * get_or (set index m 0) n 0) j × (1 ≤ get_or (set index m 0) n 0)
            other-fresh n j p u = pick (eqb m n) refl u
              where
                pick : (q : Bool) → eqb m n ≡ q → cond q true (member n seen) ≡ false
                    → (w : List Range) × Stands V1 w ours (2 * get_or (set index m 0) n 0) j × (1 ≤ get_or (set index m 0) n 0)
                pick true q u = never (sym u)
                pick false q u =
                    let d = eqb-false m n q in
                    let same : get_or (set index m 0) n 0 ≡ get_or index n 0 = get_or-set_other index m n 0 0 (λ z. d (sym z)) in
                    subst (λ (x : ℕ). (w : List Range) × Stands V1 w ours (2 * x) j × (1 ≤ x)) (sym same) (s.fresh n j p u)

            keep : (a : ℕ) → a < length (after m i' o) → origin_at (after m i' o) a ≡ origin_at o a → held_at (stored_at code at m words) a ≡ held_at words a
                → Holds b f few (origin_at (after m i' o) a) (held_at (stored_at code at m words) a)
            keep a l p q =
                subst (λ (n : ℕ). Holds b f few (origin_at (after m i' o) a) n) (sym q)
                (subst (λ (x : Origin). Holds b f few x (held_at words a)) (sym p) (s.traced a (omega (arith, same_size, l))))

            held : (a : ℕ) → a < length (after m i' o) → (a < i'.result) ⊎ (i'.result ≤ a) → (a < i'.result + result_width i') ⊎ (i'.result + result_width i' ≤ a)
                → Holds b f few (origin_at (after m i' o) a) (held_at (stored_at code at m words) a)
            held a l (inl x) y = keep a l (stored-away m i'.result (result_width i') o a (inl x))
                (stored-below no_word (span (result_of words m) (words_at code at)) words (u16 code (at + 2)) a (omega (arith, result-at)))
            held a l (inr x) (inr y) = keep a l (stored-away m i'.result (result_width i') o a (inr y))
                (stored-above no_word (span (result_of words m) (words_at code at)) words (u16 code (at + 2)) a (omega (arith, result-at, width_of)))
            held a l (inr x) (inl y) =
                let (i, q, w) = numbered in
                let j = a - i'.result in
                let (p, r) = own-result b f m i q j (omega (arith, w)) in
                let z : a ≡ i'.result + j = omega arith in
                let z' : a ≡ u16 code (at + 2) + j = omega (arith, result-at) in
                let now-holds : held_at (stored_at code at m words) a ≡ i.result + j =
                ap (held_at (stored_at code at m words)) z'
                ∙ stored-in no_word (span (result_of words m) (words_at code at)) words (u16 code (at + 2)) j (omega (arith, low-enough, s.room)) (omega (arith, width_of))
                ∙ span-at (words_at code at) (result_of words m) j no_word (omega (arith, words-is))
                ∙ ap (λ (n : ℕ). n + j) (s.results m i q) in
                inr (
                  subst (λ (n : ℕ). n < b.words) (sym now-holds) r,
                  ap (origin_at (after m i' o)) z ∙ stored-made m i'.result (result_width i') o j end_low (omega arith) ∙ sym p ∙ ap (own b f) (sym now-holds),
                )
