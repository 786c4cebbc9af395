-- Where the words of version 1 stand, by the definition and by what `place_all` gives.
use Prim.Native.Nat.{ℕ, zero, suc, ◌+◌, ◌-◌, ◌≤◌, ◌<◌}
use mathlib.Core.Path.{◌≡◌, refl, ap, sym, ◌∙◌, subst}
use mathlib.Core.Bool.{Bool, true, false}
use mathlib.Core.List.{List, [], ◌∷◌, map}
use native.Mathlib.Omega.{arith}
use lib.Dec.{ltb}
use lib.ListN.{length, get_or}
use borrow.Author.Tests.{ltb-true, ltb-false}
use Rattle.ports.specs.Kinds.{kind_of}
use Rattle.ports.specs.Ports.{width, legal_instruction}
use Rattle.base.specs.Limits.{word_limit, value_limit}
use Rattle.base.specs.Lists.{span, Each, Is}
use Rattle.base.proofs.Lists.{each_in, each_append, span-each}
use Rattle.bytecode.specs.Run.{Instruction, BoardList, spans}
use Rattle.bytecode.specs.Sequential.{next_word, AllFit}
use Rattle.bytecode.specs.Ranges.{any, Range, end, inside}
use Rattle.bytecode.proofs.Readable.{is-inside}
use Rattle.std.specs.Prelude.{Option}
use Rattle.placement.specs.Place.{Placed, words, top, inputs_of, places_of, rename, reusing}
use Rattle.placement.specs.OneValue.{InOneEach, Placeable}
use Rattle.placement.specs.Balance.{blank, instruction_at, history_of}
use Rattle.placement.specs.Arrays.{value_at, Wide, Widths}
use Rattle.placement.specs.Record.{extent_of, PlacedAt, Placement}
use Rattle.placement.proofs.Ranges.{any-append-left, any-append-right, any-span}
use Rattle.placement.proofs.Balanced.{tops}
use Rattle.placement.proofs.Carried.{width-bounds, some_word, legal-bounds, Distinct, rename-is, Along, place-along, is-value}
use Rattle.placement.proofs.Following.{inputs-along}
use Rattle.placement.proofs.Values.{value-input, value-result, history-all}

-- the values of a list share no word of version 1, and have all of them
pub all-along : (inputs : List ℕ) (b : BoardList) → Placeable inputs b → Along b.words (places_of inputs b)
all-along inputs b t =
    place-along b.outputs b.instructions b.arguments b.words (inputs_of inputs) t.fit
    (subst (λ (n : ℕ). Along n (inputs_of inputs)) (sym t.arguments) (inputs-along inputs))

pub word-place : (H : List Placed) (p : Placed) (a : ℕ) → Distinct H → Is p H → p.value.first ≤ a → a < end p.value
    → rename H a ≡ p.place + (a - p.value.first)
word-place H p a d i lo hi = rename-is H p a d i (is-inside p.value a lo hi)

-- it is a word below the highest
pub word_below : (H : List Placed) (p : Placed) (a : ℕ) → Distinct H → Is p H → p.value.first ≤ a → a < end p.value → rename H a < top H
word_below H p a d i lo hi =
    let e = word-place H p a d i lo hi in
    let t : end (words p) ≤ top H = each_in (λ q. end (words q) ≤ top H) H (tops H) p i in
    omega arith

-- ---- operands, each of which stands in one value

module _ (H : List Placed) (distinct : Distinct H) where
  pub operands-below : (h : List Placed) (ts at : List ℕ) → ((p : Placed) → Is p h → Is p H) → InOneEach (map (λ p. p.value) h) ts at
      → Each (λ a. a < top H) (map (rename H) at)
  operands-below h [] [] s w = tt
  operands-below h [] (a ∷ at) s w = absurd w
  operands-below h (t ∷ ts) [] s w = absurd w
  operands-below h (t ∷ ts) (a ∷ at) s (x, w) =
      let (p, i, e) = is-value h x.value x.is in
      let one = some_word t in
      let from : p.value.first ≤ a = subst (λ (r : Range). r.first ≤ a) (sym e) x.from in
      let to : a + width t ≤ end p.value = subst (λ (r : Range). a + width t ≤ end r) (sym e) x.to in
      (word_below H p a distinct (s p i) from (omega arith), operands-below h ts at s w)

  -- what holds of all words of the values that are read holds of all words read
  pub operands-each : (P : ℕ → Type 0) (h : List Placed) (ts at : List ℕ) → ((p : Placed) → Is p h → Is p H) → InOneEach (map (λ p. p.value) h) ts at
      → ((p : Placed) → Is p h → any (inside p.value) (spans ts at) ≡ true → (j : ℕ) → j < p.value.width → P (p.place + j))
      → Each P (spans ts (map (rename H) at))
  operands-each P h [] [] s w c = tt
  operands-each P h [] (a ∷ at) s w c = absurd w
  operands-each P h (t ∷ ts) [] s w c = absurd w
  operands-each P h (t ∷ ts) (a ∷ at) s (x, w) c =
      let (p, i, e) = is-value h x.value x.is in
      let n = width t in
      let one : 1 ≤ n = some_word t in
      let from : p.value.first ≤ a = subst (λ (r : Range). r.first ≤ a) (sym e) x.from in
      let to : a + n ≤ end p.value = subst (λ (r : Range). a + n ≤ end r) (sym e) x.to in
      let place : rename H a ≡ p.place + (a - p.value.first) = word-place H p a distinct (s p i) from (omega arith) in
      let in_p : inside p.value a ≡ true = is-inside p.value a from (omega arith) in
      let all = c p i (any-append-left (inside p.value) (span a n) (spans ts at) (any-span (inside p.value) n a one in_p)) in
      each_append P (span (rename H a) n) (spans ts (map (rename H) at))
      (span-each P n (rename H a)
      (λ j l.
      let q : p.place + (a - p.value.first + j) ≡ rename H a + j = omega arith in
      subst P q (all (a - p.value.first + j) (omega arith))))
      (operands-each P h ts at s w (λ q z y. c q z (any-append-right (inside q.value) (span a n) (spans ts at) y)))

-- ---- widths

fit-legal : (is : List Instruction) (next stop k : ℕ) → AllFit next is stop → k < length is
    → legal_instruction (kind_of (get_or is k blank).kind) (get_or is k blank).type ≡ true
fit-legal [] next stop k f l = absurd (omega arith)
fit-legal (i ∷ is) next stop zero (x, f) l = x.legal
fit-legal (i ∷ is) next stop (suc k) (x, f) l = fit-legal is (next_word next i) stop k f (omega arith)

-- the widths of a list's values are such that `place_all` takes them
pub all-wide : (widths : List ℕ) (m : ℕ) (inputs : List ℕ) (b : BoardList) → Placeable inputs b → Widths widths m inputs b → Wide widths (m + length b.instructions)
all-wide widths m inputs b t w v l = pick (ltb v m) refl
  where
    pick : (c : Bool) → ltb v m ≡ c → (1 ≤ get_or widths v 0) × (get_or widths v 0 ≤ value_limit)
    pick true e =
        let before = w.before in
        let lv : v < m = ltb-true v m e in
        let is = ap (λ (r : Range). r.width) (value-input inputs b v (omega arith)) in
        let said = w.wide v l in
        let (x, y) = width-bounds (get_or inputs v 0) in
        (omega arith, omega arith)
    pick false e =
        let before = w.before in
        let lv : m ≤ v = ltb-false v m e in
        let there : length inputs + (v - m) ≡ v = omega arith in
        let lk : v - m < length b.instructions = omega arith in
        let is = ap (λ (r : Range). r.width) (sym (ap (value_at inputs b) there) ∙ value-result inputs b (v - m) lk) in
        let said = w.wide v l in
        let (x, y) = legal-bounds (instruction_at b (v - m)) (fit-legal b.instructions b.arguments b.words (v - m) t.fit lk) in
        (omega arith, omega arith)

-- ---- after `place_all` for all instructions

module _ (inputs : List ℕ) (b : BoardList) (m n : ℕ) (place until : List ℕ) (r : Option ℕ) (all : n ≡ length b.instructions) (p : Placement m n place until r inputs b) where
  -- the answer is the list's word count, or over
  pub extent-is : r ≡ extent_of (reusing inputs b).words
  extent-is = p.extent ∙ ap (λ (ps : List Placed). extent_of (top ps)) (ap (λ (k : ℕ). history_of inputs b k) all ∙ history-all inputs b)

  -- a word of the value numbered v
  pub word-is : Placeable inputs b → (reusing inputs b).words ≤ word_limit → (v a : ℕ) → v < m + n → (value_at inputs b v).first ≤ a → a < end (value_at inputs b v)
      → rename (places_of inputs b) a ≡ get_or place v 0 + (a - (value_at inputs b v).first)
  word-is t fits v a l lo hi =
      let e = ap (λ (k : ℕ). history_of inputs b k) all ∙ history-all inputs b in
      word-place (places_of inputs b) (record { value = value_at inputs b v; place = get_or place v 0 }) a (all-along inputs b t).distinct
      (subst (λ (ps : List Placed). PlacedAt inputs b place ps v) e (p.places (subst (λ (ps : List Placed). top ps ≤ word_limit) (sym e) fits) v l)) lo hi

  -- and it is below the word count
  pub placed_below : Placeable inputs b → (reusing inputs b).words ≤ word_limit → (v a : ℕ) → v < m + n → (value_at inputs b v).first ≤ a → a < end (value_at inputs b v)
      → rename (places_of inputs b) a < (reusing inputs b).words
  placed_below t fits v a l lo hi =
      let e = ap (λ (k : ℕ). history_of inputs b k) all ∙ history-all inputs b in
      word_below (places_of inputs b) (record { value = value_at inputs b v; place = get_or place v 0 }) a (all-along inputs b t).distinct
      (subst (λ (ps : List Placed). PlacedAt inputs b place ps v) e (p.places (subst (λ (ps : List Placed). top ps ≤ word_limit) (sym e) fits) v l)) lo hi
