-- While the instructions are carried out in their new order: the values that are there, and that whatever an instruction reads is among them. A
-- result is placed apart from all other values, so that those stay as they are.
use Prim.Native.Nat.{ℕ, ◌≤◌, ◌<◌}
use mathlib.Core.Path.{◌≡◌, ap, sym, ◌∙◌, subst}
use mathlib.Core.Bool.{true}
use mathlib.Core.List.{List, [], ◌∷◌, ◌++◌, map}
use mathlib.Core.Logic.{◌⊎◌, inl, inr, ⊎_elim}
use native.Mathlib.Omega.{arith}
use lib.ListN.{length, length-map}
use Rattle.ports.specs.Kinds.{kind_of}
use Rattle.ports.specs.Ports.{takes}
use Rattle.base.specs.Lists.{Is}
use Rattle.base.proofs.Lists.{each_in}
use Rattle.bytecode.specs.Run.{BoardList}
use Rattle.bytecode.specs.Sequential.{Fit}
use Rattle.bytecode.specs.Ranges.{Range, end, result_value}
use Rattle.bytecode.specs.Origin.{result_width}
use Rattle.bytecode.proofs.Sequential.{below_length}
use Rattle.bytecode.proofs.Readable.{is-inside}
use Rattle.placement.specs.Live.{input_values, read_by}
use Rattle.placement.specs.Place.{Placed, words, top, apart, inputs_of, rename}
use Rattle.placement.specs.OneValue.{AllInOne, Placeable}
use Rattle.placement.specs.Balance.{instruction_at}
use Rattle.placement.proofs.Ranges.{apart-inv}
use Rattle.placement.proofs.Balanced.{tops}
use Rattle.placement.proofs.Carried.{legal-wide, Along, rename-is}
use Rattle.placement.proofs.Following.{inputs-along, values-stay, top-inputs}
use Rattle.reordering.specs.Reorder.{Routing, routed_places, Respects}
use Rattle.reordering.proofs.Places.{one-or-apart, results-along, results-top, result-there, result-from, fit_at, Operands, operands-at, inputs-wide}

module _ {A : Type 0} where
  is-append : (xs ys : List A) (x : A) → Is x (xs ++ ys) → Is x xs ⊎ Is x ys
  is-append [] ys x i = inr i
  is-append (y ∷ xs) ys x (inl e) = inl (inl e)
  is-append (y ∷ xs) ys x (inr i) = ⊎_elim (λ j. inl (inr j)) inr (is-append xs ys x i)

module _ (inputs : List ℕ) (b : BoardList) (t : Placeable inputs b) (r : Routing) (s : Respects inputs b r) where
  abbrev pub H : List Placed
  H = routed_places inputs b r

  abbrev count : ℕ
  count = length b.instructions

  pub all-along : Along b.words H
  all-along =
      results-along b.instructions r.addresses b.arguments b.words (inputs_of inputs) t.fit s.each
      (subst (λ (n : ℕ). Along n (inputs_of inputs)) (sym t.arguments) (inputs-along inputs))

  pub arguments-in : b.arguments ≤ top H
  arguments-in =
      let e = t.arguments in
      let i = top-inputs inputs in
      let h = results-top b.instructions r.addresses (inputs_of inputs) in
      omega arith

  pub below_top : (p : Placed) → Is p H → end (words p) ≤ top H
  below_top p i = each_in (λ q. end (words q) ≤ top H) H (tops H) p i

  -- ---- instruction k and its result

  pub record Moved (k : ℕ) : Type 0 where
    pub value : Placed
    pub is : Is value H
    pub own : value.value ≡ result_value (instruction_at b k)
    pub place : rename H (instruction_at b k).result ≡ value.place
    pub next : ℕ
    pub fit : Fit next (instruction_at b k)
    pub operands : Operands H (instruction_at b k)

  pub some_words : (k : ℕ) (m : Moved k) → (m.value.value.width ≡ result_width (instruction_at b k)) × (1 ≤ result_width (instruction_at b k))
  some_words k m = (ap (λ (x : Range). x.width) m.own, legal-wide (instruction_at b k) m.fit.legal)

  pub moved : (k : ℕ) → k < count → Moved k
  moved k l =
      let i = instruction_at b k in
      let (p, is, e) = result-there b.instructions r.addresses (inputs_of inputs) k s.each l in
      let (n, fit) = fit_at b.instructions b.arguments b.words k t.fit l in
      let one : 1 ≤ result_width i = legal-wide i fit.legal in
      let wide = ap (λ (x : Range). x.width) e in
      let first : p.value.first ≡ i.result = ap (λ (x : Range). x.first) e in
      let named = rename-is H p i.result all-along.distinct is (is-inside p.value i.result (omega arith) (omega arith)) in
      record {
        value = p;
        is = is;
        own = e;
        place = named ∙ omega arith;
        next = n;
        fit = fit;
        operands = operands-at b.instructions r.addresses (inputs_of inputs) k
            (subst (λ (rs : List Range). AllInOne rs b.instructions) (sym (values-stay (input_values 0 inputs))) t.whole) s.each l;
      }

  pub operand-count : (k : ℕ) (m : Moved k) → length (map (rename H) (instruction_at b k).operands) ≡ length (takes (kind_of (instruction_at b k).kind) (instruction_at b k).type)
  operand-count k m =
      length-map (instruction_at b k).operands (rename H)
      ∙ below_length m.next (takes (kind_of (instruction_at b k).kind) (instruction_at b k).type) (instruction_at b k).operands m.fit.operands

  pub all-wide : (p : Placed) → Is p H → 1 ≤ p.value.width
  all-wide p i =
      ⊎_elim (inputs-wide inputs 0 p)
      (λ (k, l, e).
      let (w, o) = some_words k (moved k l) in
      let z = ap (λ (x : Range). x.width) e in
      omega arith)
      (result-from b.instructions r.addresses (inputs_of inputs) p i)

  -- ---- after these instructions an input is there, and the result of each of them

  abbrev pub Ready : List ℕ → Placed → Type 0
  Ready done p = Is p (inputs_of inputs) ⊎ ((m : ℕ) × Is m done × (p.value ≡ result_value (instruction_at b m)))

  pub none-ready : (p : Placed) → Ready [] p → Is p (inputs_of inputs)
  none-ready p (inl i) = i
  none-ready p (inr (m, i, e)) = absurd i

  -- what instruction k reads is there where its turn has come
  pub read-ready : (before behind : List ℕ) (k : ℕ) → r.order ≡ before ++ k ∷ behind → (p : Placed) → Is p H → read_by p.value (instruction_at b k) ≡ true → Ready before p
  read-ready before behind k stands p i e =
      ⊎_elim inl
      (λ (m, l, v). inr (m, s.after before behind k m stands l (subst (λ (x : Range). read_by x (instruction_at b k) ≡ true) v e), v))
      (result-from b.instructions r.addresses (inputs_of inputs) p i)

  -- and in the end all are
  pub all-ready : (p : Placed) → Is p H → Ready r.order p
  all-ready p i = ⊎_elim inl (λ (m, l, v). inr (m, s.has m l, v)) (result-from b.instructions r.addresses (inputs_of inputs) p i)

  abbrev pub Holding : (Placed → Type 0) → List ℕ → Type 0
  Holding P done = (p : Placed) → Is p H → Ready done p → P p

  -- what holds of the values that are there, and goes over to all that stand apart from k's result, then holds with that result
  pub holding-next :
      (P Q : Placed → Type 0) (before : List ℕ) (k : ℕ) (m : Moved k) → Holding P before → ((q : Placed) → apart (words m.value) (words q) ≡ true → P q → Q q)
      → Q m.value → Holding Q (before ++ k ∷ [])
  holding-next P Q before k m h over new q i ready =
      ⊎_elim (λ e. subst Q e new) (λ (v, w). over q w (h q i (earlier v ready))) (one-or-apart H all-along.distinct s.own m.value q m.is i)
    where
      -- another value than k's is none that k gives
      other : apart m.value.value q.value ≡ true → q.value ≡ result_value (instruction_at b k) → ⊥
      other v e =
          let (w, o) = some_words k m in
          let same : m.value.value ≡ q.value = m.own ∙ sym e in
          let f = ap (λ (x : Range). x.first) same in
          let g = ap (λ (x : Range). x.width) same in
          ⊎_elim (λ l. omega arith) (λ l. omega arith) (apart-inv m.value.value q.value v)

      earlier : apart m.value.value q.value ≡ true → Ready (before ++ k ∷ []) q → Ready before q
      earlier v (inl j) = inl j
      earlier v (inr (n, j, e)) =
          ⊎_elim (λ z. inr (n, z, e))
          (λ z. ⊎_elim (λ (u : n ≡ k). absurd (other v (e ∙ ap (λ (y : ℕ). result_value (instruction_at b y)) u))) (λ u. absurd u) z)
          (is-append before (k ∷ []) n j)
