-- One more value placed: the record then has its words while it is held, and the values placed so far keep their words and places. For
-- a result the place is the definition's gap, and the record is balanced at its instruction.
use Prim.Native.Nat.{ℕ, suc, ◌+◌, ◌≤◌, ◌<◌, max}
use mathlib.Core.Path.{◌≡◌, refl, ap, ap₂, sym, ◌∙◌, subst}
use mathlib.Core.Bool.{Bool, true, false, not, ◌||◌, cond}
use mathlib.Core.List.{List, [], ◌∷◌, ◌++◌}
use mathlib.Core.Logic.{inl, inr}
use native.Mathlib.Omega.{arith}
use native.Mathlib.Numerals.{add-one}
use lib.Dec.{leb, ltb}
use lib.ListN.{length, get_or, set, take, drop, replicate}
use lib.Seq.{sets, drop-cons, get_or-set_same, get_or-set_other}
use borrow.Author.Tests.{ltb-true, ltb-false, lt-ltb, le-ltb, le-leb, lt-leb}
use Rattle.ports.specs.Ports.{widths}
use Rattle.base.specs.Limits.{word_limit}
use Rattle.base.specs.Lists.{Each, Is}
use Rattle.base.proofs.Lists.{each_on}
use Rattle.bytecode.specs.Run.{Instruction, BoardList}
use Rattle.bytecode.specs.Ranges.{Range, end, inside, result_value}
use Rattle.bytecode.proofs.Readable.{inside-inv}
use Rattle.std.specs.Prelude.{Some, None}
use Rattle.placement.specs.Live.{live}
use Rattle.placement.specs.Place.{Placed, words, top, gap, held_at, placed}
use Rattle.placement.specs.Balance.{blank, instruction_at, history_of, earlier, held_during, Apart, free, Balanced}
use Rattle.placement.specs.Arrays.{value_at, Widths, Lasting}
use Rattle.placement.specs.Record.{Lowest, covered, Marked, PlacedAt, Kept, Rest, Placement}
use Rattle.placement.proofs.Ranges.{each_keep, stored-run, all-zero}
use Rattle.placement.proofs.Carried.{some_word}
use Rattle.placement.proofs.Balanced.{placed-apart, earlier-apart, inputs-top, tops, balanced-record}
use Rattle.placement.proofs.Values.{value-input, first_inputs, inputs-next, value-result, history-next, history-up}
use Rattle.placement.proofs.Held.{covered-above, covered-snoc, top-snoc, is-snoc, each_snoc, lowest-is}

abbrev at : Range → ℕ → Placed
at r a = record { value = r; place = a }

pub rest-next : (last place : List ℕ) (count a : ℕ) → Rest last place count → Rest last (set place count a) (count + 1)
rest-next last place count a h v l = get_or-set_other place count v a 0 (λ e. omega arith) ∙ h v (omega arith)

-- ---- a value in words that are free

marks-next : (b : BoardList) (until : List ℕ) (from to : ℕ) (ps : List Placed) (p : Placed) (x : ℕ) → from ≤ to → Marked b from until ps
    → end (words p) ≤ length until → ((a : ℕ) → p.place ≤ a → a < end (words p) → get_or until a 0 ≤ from)
    → ((j : ℕ) → to ≤ j → j ≤ length b.instructions → live (drop j b.instructions) b.outputs p.value ≡ ltb j x)
    → Marked b to (sets until p.place (replicate p.value.width x)) (p ∷ ps)
marks-next b until from to ps p x up m l vacant lives j a f n =
    ap (ltb j) (stored-run 0 until (words p) x a l)
    ∙ pick (inside (words p) a) (live (drop j b.instructions) b.outputs p.value) refl (lives j f n)
  where
    rest : List Placed
    rest = held_at (drop j b.instructions) b.outputs ps

    mark : ltb j (get_or until a 0) ≡ covered (held_at (drop j b.instructions) b.outputs ps) a
    mark = m j a (omega arith) n

    none : inside (words p) a ≡ true → covered (held_at (drop j b.instructions) b.outputs ps) a ≡ false
    none e =
        let (u, v) = inside-inv (words p) a e in
        let z : get_or until a 0 ≤ from = vacant a u v in
        sym mark ∙ le-ltb j (get_or until a 0) (omega arith)

    pick :
        (c d : Bool) → inside (words p) a ≡ c → d ≡ ltb j x
        → ltb j (cond c x (get_or until a 0))
        ≡ covered (cond d (p ∷ held_at (drop j b.instructions) b.outputs ps) (held_at (drop j b.instructions) b.outputs ps)) a
    pick true true e g = sym g ∙ sym (ap (λ (y : Bool). y || covered (held_at (drop j b.instructions) b.outputs ps) a) e)
    pick true false e g = sym g ∙ sym (none e)
    pick false true e g = mark ∙ sym (ap (λ (y : Bool). y || covered (held_at (drop j b.instructions) b.outputs ps) a) e)
    pick false false e g = mark

places-next : (inputs : List ℕ) (b : BoardList) (place : List ℕ) (count a : ℕ) (ps : List Placed) → count < length place
    → ((v : ℕ) → v < count → PlacedAt inputs b place ps v) → (v : ℕ) → v < count + 1 → PlacedAt inputs b (set place count a) (at (value_at inputs b count) a ∷ ps) v
places-next inputs b place count a ps l h v lv = pick (ltb v count) refl
  where
    pick : (c : Bool) → ltb v count ≡ c → PlacedAt inputs b (set place count a) (at (value_at inputs b count) a ∷ ps) v
    pick true e =
        let g : v < count = ltb-true v count e in
        inr (subst (λ (y : ℕ). Is (at (value_at inputs b v) y) ps) (sym (get_or-set_other place count v a 0 (λ q. omega arith))) (h v g))
    pick false e =
        let ge : count ≤ v = ltb-false v count e in
        let s : v ≡ count = omega arith in
        inl (ap (λ (u : ℕ). at (value_at inputs b u) (get_or (set place count a) u 0)) s ∙ ap (at (value_at inputs b count)) (get_or-set_same place count a 0 l))

kept_next : (inputs : List ℕ) (b : BoardList) (until place : List ℕ) (high count from to : ℕ) (ps : List Placed) (a n x : ℕ) → from ≤ to
    → Kept until place high count from ps inputs b → (value_at inputs b count).width ≡ n → 1 ≤ n → a + n ≤ length until → count < length place
    → ((c : ℕ) → a ≤ c → c < a + n → get_or until c 0 ≤ from)
    → ((j : ℕ) → to ≤ j → j ≤ length b.instructions → live (drop j b.instructions) b.outputs (value_at inputs b count) ≡ ltb j x)
    → Kept (sets until a (replicate n x)) (set place count a) (max high (a + n)) (count + 1) to (at (value_at inputs b count) a ∷ ps) inputs b
kept_next inputs b until place high count from to ps a n x up k e one room low vacant lives =
    let high_is = k.highest in
    record {
      marks = subst (λ (w : ℕ). Marked b to (sets until a (replicate w x)) (at (value_at inputs b count) a ∷ ps)) e
          (marks-next b until from to ps (at (value_at inputs b count) a) x up k.marks (omega arith) (λ c l h. vacant c l (omega arith)) lives);
      highest = omega arith;
      places = places-next inputs b place count a ps low k.places;
      wide = (omega arith, k.wide);
    }

-- what stands in front may stand at the end
kept-snoc : (inputs : List ℕ) (b : BoardList) (until place : List ℕ) (high count from : ℕ) (p : Placed) (ps : List Placed)
    → Kept until place high count from (p ∷ ps) inputs b → Kept until place high count from (ps ++ p ∷ []) inputs b
kept-snoc inputs b until place high count from p ps k = record {
  marks = λ j a f n. k.marks j a f n ∙ sym (covered-snoc (λ q. live (drop j b.instructions) b.outputs q.value) p ps a);
  highest = top-snoc p ps ∙ k.highest;
  places = λ v l. is-snoc _ p ps (k.places v l);
  wide = each_snoc _ p ps k.wide;
}

-- words above the highest are free
above-free : (inputs : List ℕ) (b : BoardList) (until place : List ℕ) (high count from : ℕ) (ps : List Placed) → Kept until place high count from ps inputs b
    → from ≤ length b.instructions → (a : ℕ) → high ≤ a → get_or until a 0 ≤ from
above-free inputs b until place high count from ps k n a l =
    let e = k.highest in
    ltb-false from (get_or until a 0)
    (k.marks from a (omega arith) n ∙ covered-above (λ q. live (drop from b.instructions) b.outputs q.value) ps a (omega arith))

-- ---- the inputs

pub inputs-start : (inputs : List ℕ) (b : BoardList) (place : List ℕ) → Kept (replicate word_limit 0) place 0 0 0 (first_inputs inputs 0) inputs b
inputs-start inputs b place = record {
  marks = λ j a f n. ap (ltb j) (all-zero a word_limit) ∙ le-ltb j 0 (omega arith);
  highest = refl;
  places = λ v l. absurd (omega arith);
  wide = tt;
}

module _ (widths' last : List ℕ) (m : ℕ) (inputs : List ℕ) (b : BoardList) (given : Widths widths' m inputs b) (lasting : Lasting last m inputs b) where
  pub inputs-step : (until place : List ℕ) (high v w : ℕ) → Kept until place high v 0 (first_inputs inputs v) inputs b → v < m → w ≡ get_or widths' v 0
      → high + w ≤ length until → v < length place
      → Kept (sets until high (replicate w (get_or last v 0))) (set place v high) (high + w) (v + 1) 0 (first_inputs inputs (v + 1)) inputs b
  inputs-step until place high v w k l e room low =
      let before = given.before in
      let lv : v < length inputs = omega arith in
      let vi = value-input inputs b v lv in
      let wi : (value_at inputs b v).width ≡ w = given.wide v (omega arith) ∙ sym e in
      let one : 1 ≤ w = let g = some_word (get_or inputs v 0) in omega (arith, ap (λ (r : Range). r.width) vi, wi, g) in
      let t = inputs-top (take v inputs) 0 in
      let hi = k.highest in
      let first : high ≡ widths (take v inputs) = omega arith in
      let next =
      kept-snoc inputs b (sets until high (replicate w (get_or last v 0))) (set place v high) (max high (high + w)) (v + 1) 0 (at (value_at inputs b v) high) (first_inputs inputs v)
      (kept_next inputs b until place high v 0 0 (first_inputs inputs v) high w (get_or last v 0) (omega arith) k wi one room low
      (λ c p q. above-free inputs b until place high v 0 (first_inputs inputs v) k (omega arith) c p) (λ j f g. lasting v j (omega arith) g)) in
      let same : first_inputs inputs v ++ at (value_at inputs b v) high ∷ [] ≡ first_inputs inputs (v + 1) =
      ap (λ (a : ℕ). first_inputs inputs v ++ at (value_at inputs b v) a ∷ []) first ∙ sym (inputs-next inputs b v lv) ∙ ap (first_inputs inputs) (sym (add-one v)) in
      let most : max high (high + w) ≡ high + w = omega arith in
      subst (λ (x : ℕ). Kept (sets until high (replicate w (get_or last v 0))) (set place v high) x (v + 1) 0 (first_inputs inputs (v + 1)) inputs b) most
      (subst (λ (ps : List Placed). Kept (sets until high (replicate w (get_or last v 0))) (set place v high) (max high (high + w)) (v + 1) 0 ps inputs b) same next)

  -- ---- a result

  module _ (until place : List ℕ) (high k w a : ℕ) (s : Kept until place high (m + k) k (history_of inputs b k) inputs b) (l : k < length b.instructions)
      (e : w ≡ get_or widths' (m + k) 0) (one : 1 ≤ w) (low : Lowest until k w 0 high a) where
    value-is : value_at inputs b (m + k) ≡ result_value (instruction_at b k)
    value-is = ap (λ (x : ℕ). value_at inputs b (x + k)) (sym given.before) ∙ value-result inputs b k l

    width_is : (value_at inputs b (m + k)).width ≡ w
    width_is = given.wide (m + k) (omega arith) ∙ sym e

    above : (c : ℕ) → high ≤ c → get_or until c 0 ≤ k
    above = above-free inputs b until place high (m + k) k (history_of inputs b k) s (omega arith)

    gap_here : gap (earlier inputs b k) w ≡ a
    gap_here =
        lowest-is k until high w a (earlier inputs b k) (λ c. s.marks k c (omega arith) (omega arith)) above
        (each_keep _ (λ p. live (drop k b.instructions) b.outputs p.value) (history_of inputs b k) s.wide) one low

    abbrev own : Placed
    own = placed b.outputs (history_of inputs b k) (instruction_at b k) (drop (suc k) b.instructions)

    rest-is : drop k b.instructions ≡ instruction_at b k ∷ drop (suc k) b.instructions
    rest-is = drop-cons b.instructions k blank l

    placed-is : own ≡ at (value_at inputs b (m + k)) a
    placed-is =
        ap₂ at (sym value-is)
        (ap₂ (λ (is : List Instruction) (x : ℕ). gap (held_at is b.outputs (history_of inputs b k)) x) (sym rest-is)
        (sym (ap (λ (r : Range). r.width) value-is) ∙ width_is)
        ∙ gap_here)

    pub history-is : history_of inputs b (suc k) ≡ at (value_at inputs b (m + k)) a ∷ history_of inputs b k
    history-is = history-next inputs b k l ∙ ap (λ (p : Placed). p ∷ history_of inputs b k) placed-is

    later : (j x : ℕ) → k + 1 ≤ j → ltb j x ≡ ltb j (max x (k + 1))
    later j x g = pick (ltb j x) refl
      where
        pick : (c : Bool) → ltb j x ≡ c → c ≡ ltb j (max x (k + 1))
        pick true p = let q : j < x = ltb-true j x p in sym (lt-ltb j (max x (k + 1)) (omega arith))
        pick false p = let q : x ≤ j = ltb-false j x p in sym (le-ltb j (max x (k + 1)) (omega arith))

    vacant : (c : ℕ) → a ≤ c → c < a + w → get_or until c 0 ≤ k
    vacant c p q = pick (ltb c high) refl
      where
        pick : (d : Bool) → ltb c high ≡ d → get_or until c 0 ≤ k
        pick true f = low.vacant c p q (ltb-true c high f)
        pick false f = above c (ltb-false c high f)

    pub result-step : a + w ≤ length until → m + k < length place
        → Kept (sets until a (replicate w (max (get_or last (m + k) 0) (k + 1)))) (set place (m + k) a) (max high (a + w)) (m + (k + 1)) (k + 1) (history_of inputs b (k + 1)) inputs b
    result-step fits room =
        let x = max (get_or last (m + k) 0) (k + 1) in
        let next =
        kept_next inputs b until place high (m + k) k (k + 1) (history_of inputs b k) a w x (omega arith) s width_is one fits room vacant
        (λ j f g. lasting (m + k) j (omega arith) g ∙ later j (get_or last (m + k) 0) f) in
        let same : at (value_at inputs b (m + k)) a ∷ history_of inputs b k ≡ history_of inputs b (k + 1) = sym history-is ∙ ap (history_of inputs b) (sym (add-one k)) in
        let count : m + k + 1 ≡ m + (k + 1) = omega arith in
        subst (λ (y : ℕ). Kept (sets until a (replicate w x)) (set place (m + k) a) (max high (a + w)) y (k + 1) (history_of inputs b (k + 1)) inputs b) count
        (subst (λ (ps : List Placed). Kept (sets until a (replicate w x)) (set place (m + k) a) (max high (a + w)) (m + k + 1) (k + 1) ps inputs b) same next)

    -- what the record then has as free at this instruction
    free-now : (x c : ℕ) → k < x → a + w ≤ length until → free k (sets until a (replicate w x)) c ≡ not (covered (at (value_at inputs b (m + k)) a ∷ earlier inputs b k) c)
    free-now x c late fits =
        subst (λ (n : ℕ). free k (sets until a (replicate n x)) c ≡ not (covered (at (value_at inputs b (m + k)) a ∷ earlier inputs b k) c)) width_is
        (ap (λ (y : ℕ). leb y k) (stored-run 0 until (words (at (value_at inputs b (m + k)) a)) x c (omega (arith, width_is)))
        ∙ pick (inside (words (at (value_at inputs b (m + k)) a)) c))
      where
        turn : (y : ℕ) (t : Bool) → ltb k y ≡ t → leb y k ≡ not t
        turn y true q = let h : k < y = ltb-true k y q in lt-leb y k h
        turn y false q = let h : y ≤ k = ltb-false k y q in le-leb y k h

        pick : (d : Bool) → leb (cond d x (get_or until c 0)) k ≡ not (d || covered (earlier inputs b k) c)
        pick true = lt-leb x k late
        pick false = turn (get_or until c 0) (covered (earlier inputs b k) c) (s.marks k c (omega arith) (omega arith))

    pub result-balanced : (x : ℕ) → k < x → a + w ≤ length until → Balanced inputs b k (sets until a (replicate w x))
    result-balanced x late fits =
        let held = held_during inputs b k in
        let same : at (value_at inputs b (m + k)) a ∷ earlier inputs b k ≡ held = ap (λ (p : Placed). p ∷ earlier inputs b k) (sym placed-is) in
        let apart =
        subst (λ (is : List Instruction). Apart (own ∷ held_at is b.outputs (history_of inputs b k))) (sym rest-is)
        (placed-apart b.outputs (instruction_at b k) (drop (suc k) b.instructions) (history_of inputs b k)
        (subst (λ (is : List Instruction). Apart (held_at is b.outputs (history_of inputs b k))) rest-is (earlier-apart inputs b k))) in
        let high_is = history-next inputs b k l in
        let q : Placed → Bool = λ p. live (drop k b.instructions) b.outputs p.value in
        let all : Each (λ p. end (words p) ≤ top (own ∷ history_of inputs b k)) held =
        (omega arith, each_keep _ q (history_of inputs b k) (each_on _ _ (λ p (h : end (words p) ≤ top (history_of inputs b k)). omega arith) (history_of inputs b k) (tops (history_of inputs b k)))) in
        record {
          disjoint = apart;
          complete = balanced-record held (top (history_of inputs b (suc k))) (free k (sets until a (replicate w x))) apart
              (subst (λ (ps : List Placed). Each (λ p. end (words p) ≤ top ps) held) (sym high_is) all)
              (λ c. free-now x c late fits ∙ ap (λ (ps : List Placed). not (covered ps c)) same);
        }

    pub result-over : (n : ℕ) (place' until' : List ℕ) → k < n → word_limit < a + w → Placement m n place' until' None inputs b
    result-over n place' until' more over =
        let t = history-up inputs b (suc k) n (omega arith) in
        let u = ap top history-is in
        let v = width_is in
        let g : word_limit < top (history_of inputs b n) = omega arith in
        record {
          extent = ap (λ (c : Bool). cond c (Some (top (history_of inputs b n))) None) (sym (lt-leb (top (history_of inputs b n)) word_limit g));
          places = λ f. absurd (omega arith);
          balanced = λ f. absurd (omega arith);
        }

  pub results_end : (until place : List ℕ) (high k n : ℕ) → Kept until place high (m + k) k (history_of inputs b k) inputs b → ((j : ℕ) → k ≡ suc j → Balanced inputs b j until)
      → k ≡ n → high ≤ word_limit → Placement m n place until (Some high) inputs b
  results_end until place high k n s balanced e hh =
      let t : high ≡ top (history_of inputs b n) = sym s.highest ∙ ap (λ (j : ℕ). top (history_of inputs b j)) e in
      record {
        extent = ap Some t ∙ ap (λ (d : Bool). cond d (Some (top (history_of inputs b n))) None) (sym (le-leb (top (history_of inputs b n)) word_limit (omega arith)));
        places = λ f v lv. subst (λ (j : ℕ). PlacedAt inputs b place (history_of inputs b j) v) e (s.places v (omega arith));
        balanced = λ f j q. balanced j (e ∙ q);
      }
