-- The last readers, noted during a walk over the instructions. A walk stores k + 1 for each operand's value of instruction k, and behind the
-- last instruction n + 1 for each output's. Its values are known by their numbers: two values share no word, so that an instruction reads
-- just the values whose numbers its operands have.
use Prim.Native.Nat.{ℕ, zero, suc, ◌+◌, ◌≤◌, ◌<◌}
use mathlib.Core.Path.{◌≡◌, refl, ap, ap₂, sym, ◌∙◌, subst}
use mathlib.Core.Bool.{Bool, true, false, ◌||◌, cond}
use mathlib.Core.List.{List, [], ◌∷◌, ◌++◌, map}
use mathlib.Core.Logic.{inl, inr}
use native.Mathlib.Omega.{arith}
use native.Mathlib.Nat.{add-zero}
use native.Mathlib.Numerals.{add-one}
use lib.Dec.{eqb, ltb}
use lib.ListN.{length, get_or, set, take, replicate}
use lib.Seq.{take-suc, take_all, length-take-le, get_or-set_same, get_or-set_other}
use borrow.Author.Tests.{eqb-true, eqb-false, ltb-true, ltb-false, lt-ltb}
use Rattle.ports.specs.Kinds.{kind_of}
use Rattle.ports.specs.Ports.{width, widths, takes}
use Rattle.base.specs.Limits.{placed_limit}
use Rattle.base.specs.Lists.{span}
use Rattle.base.proofs.Lists.{span-each}
use Rattle.bytecode.specs.Run.{Instruction, BoardList, spans}
use Rattle.bytecode.specs.Sequential.{next_word, AllFit}
use Rattle.bytecode.specs.Ranges.{any, Range, end, inside, result_value}
use Rattle.bytecode.proofs.Readable.{is-inside}
use Rattle.placement.specs.Live.{input_values, read_by, last_read}
use Rattle.placement.specs.OneValue.{Placeable}
use Rattle.placement.specs.Balance.{blank, instruction_at}
use Rattle.placement.specs.Arrays.{nothing, values_of, value_at, Named, among, Noted, Lasting, Stored}
use Rattle.placement.proofs.Ranges.{inside-not, any_append, any-span, any_none, all-zero}
use Rattle.placement.proofs.LastRead.{live-last, last-next}
use Rattle.placement.proofs.Carried.{some_word}
use Rattle.placement.proofs.Values.{values_length}

-- ---- one store after the other

pub stored-none : (before : List ℕ) (x : ℕ) → Stored before before [] x
stored-none before x v l = refl

pub stored_one : (before last vs : List ℕ) (x v : ℕ) → Stored before last vs x → v < length before → length last ≡ length before
    → Stored before (set last v x) (vs ++ v ∷ []) x
stored_one before last vs x v s l size u lu = pick (eqb v u) refl
  where
    right : (y : Bool) → y || (true || false) ≡ true
    right true = refl
    right false = refl

    none : (y : Bool) → y || (false || false) ≡ y
    none true = refl
    none false = refl

    pick : (c : Bool) → eqb v u ≡ c → get_or (set last v x) u 0 ≡ cond (among u (vs ++ v ∷ [])) x (get_or before u 0)
    pick true e =
        ap (λ (w : ℕ). get_or (set last v x) w 0) (sym (eqb-true v u e))
        ∙ get_or-set_same last v x 0 (omega arith)
        ∙ ap (λ (t : Bool). cond t x (get_or before u 0)) (sym (any_append (λ w. eqb w u) vs (v ∷ []) ∙ ap (λ (t : Bool). among u vs || (t || false)) e ∙ right (among u vs)))
    pick false e =
        get_or-set_other last v u x 0 (λ q. eqb-false v u e (sym q))
        ∙ s u lu
        ∙ ap (λ (t : Bool). cond t x (get_or before u 0)) (sym (any_append (λ w. eqb w u) vs (v ∷ []) ∙ ap (λ (t : Bool). among u vs || (t || false)) e ∙ none (among u vs)))

-- ---- values stand one behind the other

abbrev Chain : ℕ → List Range → Type 0
Chain at [] = Unit {0}
Chain at (r ∷ rs) = (r.first ≡ at) × Chain (end r) rs

chain-results : (is : List Instruction) (next stop : ℕ) → AllFit next is stop → Chain next (map result_value is)
chain-results [] next stop f = tt
chain-results (i ∷ is) next stop (x, f) =
    let e : i.result ≡ next = x.result in
    (e, subst (λ (a : ℕ). Chain a (map result_value is)) (omega arith) (chain-results is (next_word next i) stop f))

chain-inputs : (ts : List ℕ) (at : ℕ) (rs : List Range) → Chain (at + widths ts) rs → Chain at (input_values at ts ++ rs)
chain-inputs [] at rs c = subst (λ (a : ℕ). Chain a rs) (add-zero at) c
chain-inputs (t ∷ ts) at rs c = (refl, chain-inputs ts (at + width t) rs (subst (λ (a : ℕ). Chain a rs) (omega arith) c))

chain-from : (rs : List Range) (at v : ℕ) → Chain at rs → v < length rs → at ≤ (get_or rs v nothing).first
chain-from [] at v c l = absurd (omega arith)
chain-from (r ∷ rs) at zero (e, c) l = omega arith
chain-from (r ∷ rs) at (suc v) (e, c) l = let h = chain-from rs (end r) v c (omega arith) in omega arith

chain-up : (rs : List Range) (at u v : ℕ) → Chain at rs → u < v → v < length rs → end (get_or rs u nothing) ≤ (get_or rs v nothing).first
chain-up [] at u v c l h = absurd (omega arith)
chain-up (r ∷ rs) at u zero c l h = absurd (omega arith)
chain-up (r ∷ rs) at zero (suc v) (e, c) l h = chain-from rs (end r) v c (omega arith)
chain-up (r ∷ rs) at (suc u) (suc v) (e, c) l h = chain-up rs (end r) u v c (omega arith) (omega arith)

values-chain : (inputs : List ℕ) (b : BoardList) → Placeable inputs b → Chain 0 (values_of inputs b)
values-chain inputs b t =
    chain-inputs inputs 0 (map result_value b.instructions)
    (subst (λ (a : ℕ). Chain a (map result_value b.instructions)) (t.arguments ∙ omega arith) (chain-results b.instructions b.arguments b.words t.fit))

pub values-up : (inputs : List ℕ) (b : BoardList) → Placeable inputs b → (u v : ℕ) → u < v → v < length inputs + length b.instructions
    → end (value_at inputs b u) ≤ (value_at inputs b v).first
values-up inputs b t u v l h = chain-up (values_of inputs b) 0 u v (values-chain inputs b t) l (omega (arith, values_length inputs b))

-- ---- the words of operands, and their numbers

module _ (value : ℕ → Range) (count : ℕ) (up : (u v : ℕ) → u < v → v < count → end (value u) ≤ (value v).first) where
  one-operand : (u v a t : ℕ) → u < count → v < count → (value v).first ≤ a → a + width t ≤ end (value v) → any (inside (value u)) (span a (width t)) ≡ eqb v u
  one-operand u v a t lu lv lo hi = pick (eqb v u) (ltb u v) refl refl
    where
      pick : (b c : Bool) → eqb v u ≡ b → ltb u v ≡ c → any (inside (value u)) (span a (width t)) ≡ b
      pick true c e f =
          let one = some_word t in
          let s : v ≡ u = eqb-true v u e in
          subst (λ (x : ℕ). any (inside (value x)) (span a (width t)) ≡ true) s
          (any-span (inside (value v)) (width t) a one (is-inside (value v) a lo (omega arith)))
      pick false true e f =
          let h = up u v (ltb-true u v f) lv in
          any_none (inside (value u)) (span a (width t)) (span-each (λ x. inside (value u) x ≡ false) (width t) a (λ j l. inside-not (value u) (a + j) (inr (omega arith))))
      pick false false e f =
          let ne = eqb-false v u e in
          let g : v < u = omega (arith, ltb-false u v f, ne) in
          let h = up v u g lu in
          any_none (inside (value u)) (span a (width t)) (span-each (λ x. inside (value u) x ≡ false) (width t) a (λ j l. inside-not (value u) (a + j) (inl (omega arith))))

  named-among : (u : ℕ) → u < count → (vs ts at : List ℕ) → Named value count vs ts at → any (inside (value u)) (spans ts at) ≡ among u vs
  named-among u l [] [] [] n = refl
  named-among u l [] [] (a ∷ at) n = absurd n
  named-among u l [] (t ∷ ts) at n = absurd n
  named-among u l (v ∷ vs) [] at n = absurd n
  named-among u l (v ∷ vs) (t ∷ ts) [] n = absurd n
  named-among u l (v ∷ vs) (t ∷ ts) (a ∷ at) (lv, lo, hi, n) =
      any_append (inside (value u)) (span a (width t)) (spans ts at) ∙ ap₂ (λ (x y : Bool). x || y) (one-operand u v a t l lv lo hi) (named-among u l vs ts at n)

-- ---- instruction by instruction

pub noted-start : (size m : ℕ) (inputs : List ℕ) (b : BoardList) → Noted (replicate size 0) m inputs b 0
noted-start size m inputs b v l = all-zero v size

module _ (m : ℕ) (inputs : List ℕ) (b : BoardList) (t : Placeable inputs b) (before : length inputs ≡ m) (few : m + length b.instructions ≤ placed_limit)
    (last last' vs : List ℕ) (size : length last ≡ placed_limit) where
  up : (u v : ℕ) → u < v → v < m + length b.instructions → end (value_at inputs b u) ≤ (value_at inputs b v).first
  up u v l h = values-up inputs b t u v l (omega arith)

  -- the operands of instruction k stand in the values numbered vs, and each has k + 1
  pub noted_step : (k : ℕ) → k < length b.instructions → Noted last m inputs b k
      → Named (value_at inputs b) (m + length b.instructions) vs (takes (kind_of (instruction_at b k).kind) (instruction_at b k).type) (instruction_at b k).operands → Stored last last' vs (k + 1)
      → Noted last' m inputs b (k + 1)
  noted_step k l h named s v lv =
      let is = b.instructions in
      let i = instruction_at b k in
      let r = value_at inputs b v in
      let length-k : length (take k is) ≡ k = length-take-le k is (omega arith) in
      let next : last_read (take (suc k) is) r ≡ cond (read_by r i) (suc (length (take k is))) (last_read (take k is) r) =
      ap (λ (js : List Instruction). last_read js r) (take-suc is k blank l) ∙ last-next (take k is) i r in
      s v (omega arith)
      ∙ ap₂ (λ (c : Bool) (y : ℕ). cond c (k + 1) y) (sym (named-among (value_at inputs b) (m + length b.instructions) up v lv vs (takes (kind_of i.kind) i.type) i.operands named)) (h v lv)
      ∙ ap (λ (y : ℕ). cond (read_by r i) y (last_read (take k is) r)) (add-one k ∙ ap suc (sym length-k))
      ∙ sym next
      ∙ ap (λ (j : ℕ). last_read (take j is) r) (sym (add-one k))

  -- behind the last one the outputs of these types stand in the values numbered vs, and each has n + 1
  pub noted-end : (n : ℕ) (types ports : List ℕ) → n ≡ length b.instructions → Noted last m inputs b n → b.outputs ≡ spans types ports
      → Named (value_at inputs b) (m + length b.instructions) vs types ports → Stored last last' vs (n + 1) → Lasting last' m inputs b
  noted-end n types ports e h outs named s v j lv lj =
      let r = value_at inputs b v in
      live-last b.instructions b.outputs r j
      ∙ ap (λ (c : Bool). ltb j (last_read b.instructions r) || c) (ap (any (inside r)) outs ∙ named-among (value_at inputs b) (m + length b.instructions) up v lv vs types ports named)
      ∙ pick (last_read b.instructions r) (among v vs)
      ∙ ap (λ (y : ℕ). ltb j (cond (among v vs) (n + 1) y)) (sym (h v lv ∙ ap (λ (js : List Instruction). last_read js r) (take_all n b.instructions (omega arith))))
      ∙ ap (ltb j) (sym (s v (omega arith)))
    where
      right : (x : Bool) → x || true ≡ true
      right true = refl
      right false = refl

      none : (x : Bool) → x || false ≡ x
      none true = refl
      none false = refl

      pick : (y : ℕ) (c : Bool) → ltb j y || c ≡ ltb j (cond c (n + 1) y)
      pick y true = right (ltb j y) ∙ sym (lt-ltb j (n + 1) (omega arith))
      pick y false = none (ltb j y)
