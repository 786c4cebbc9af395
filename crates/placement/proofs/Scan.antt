-- The search for a gap, word by word and by blocks, and the stores that hold words. A word that is free at an instruction is held later at
-- most longer than before, so that what is known of a block stays true.
use Prim.Native.Nat.{ℕ, zero, suc, ◌+◌, ◌-◌, ◌*◌, ◌/◌, ◌%◌, ◌≤◌, ◌<◌, max}
use mathlib.Core.Path.{◌≡◌, refl, ap, sym, ◌∙◌, subst}
use mathlib.Core.Bool.{Bool, true, false, cond}
use mathlib.Core.List.{List}
use mathlib.Core.Logic.{◌⊎◌, inl, inr}
use native.Mathlib.Omega.{arith}
use native.Mathlib.Nat.{add-zero, add-suc, suc-add}
use native.Mathlib.Numerals.{add-one}
use lib.Dec.{ltb, eqb}
use lib.ListN.{length, get_or, set, replicate, length-replicate, length-set}
use lib.Seq.{sets, get_or-set_same, get_or-set_other}
use borrow.Author.Tests.{ltb-true, ltb-false, eqb-true, eqb-false}
use Rattle.base.specs.Limits.{word_limit, value_limit}
use Rattle.bytecode.specs.Ranges.{inside}
use Rattle.bytecode.proofs.Readable.{inside-inv}
use Rattle.placement.specs.Record.{Stopped, Lowest, Bounds, block_words, blocks, bound_limit}
use Rattle.placement.proofs.Ranges.{inside-not, stored-run, all-zero}

-- ---- word by word

-- no gap starts at a word from `from` on before `start`, nor there before the instruction `bound`; the words from `start` to `at` are free
pub record Scan (until : List ℕ) (k n from high start at bound : ℕ) : Type 0 where
  pub to : at ≤ high
  pub after : from ≤ start
  pub back : start ≤ at
  pub short : at < start + n
  pub vacant : (a : ℕ) → start ≤ a → a < at → get_or until a 0 ≤ k
  pub lower : (c : ℕ) → from ≤ c → c < start → Stopped until c n (max bound (suc k))

stopped-less : (until : List ℕ) (c n x y : ℕ) → x ≤ y → Stopped until c n y → Stopped until c n x
stopped-less until c n x y l (a, p, q, r) = (a, p, q, omega arith)

below_next : (a at : ℕ) → a < at + 1 → (a ≡ at) ⊎ (a < at)
below_next a at l = pick (ltb a at) refl
  where
    pick : (b : Bool) → ltb a at ≡ b → (a ≡ at) ⊎ (a < at)
    pick true e = inr (ltb-true a at e)
    pick false e = inl (omega (arith, ltb-false a at e))

module _ (until : List ℕ) (k n from high : ℕ) where
  pub scan-start : (bound : ℕ) → 1 ≤ n → from ≤ high → Scan until k n from high from from bound
  scan-start bound l h = record {
    to = h;
    after = omega arith;
    back = omega arith;
    short = omega arith;
    vacant = λ a p q. absurd (omega arith);
    lower = λ c p q. absurd (omega arith);
  }

  module _ (start at bound : ℕ) (s : Scan until k n from high start at bound) (l : at < high) where
    one_more : get_or until at 0 ≤ k → (a : ℕ) → start ≤ a → a < at + 1 → get_or until a 0 ≤ k
    one_more h a p q = pick (below_next a at q)
      where
        pick : (a ≡ at) ⊎ (a < at) → get_or until a 0 ≤ k
        pick (inl e) = subst (λ (x : ℕ). get_or until x 0 ≤ k) (sym e) h
        pick (inr l) = s.vacant a p l

    pub scan-taken : (bound' : ℕ) → bound' ≤ bound → bound' ≤ get_or until at 0 → k < get_or until at 0 → Scan until k n from high (at + 1) (at + 1) bound'
    scan-taken bound' less own h =
        let short = s.short in
        let after = s.after in
        let back = s.back in
        record {
          to = omega arith;
          after = omega arith;
          back = omega arith;
          short = omega arith;
          vacant = λ a p q. absurd (omega arith);
          lower = λ c p q. pick c p q (ltb c start) refl;
        }
      where
        pick : (c : ℕ) → from ≤ c → c < at + 1 → (b : Bool) → ltb c start ≡ b → Stopped until c n (max bound' (suc k))
        pick c p q true e = stopped-less until c n (max bound' (suc k)) (max bound (suc k)) (omega arith) (s.lower c p (ltb-true c start e))
        pick c p q false e =
            let ge : start ≤ c = ltb-false c start e in
            let short = s.short in
            (at, omega arith, omega arith, omega arith)

    pub scan-free : get_or until at 0 ≤ k → (at + 1 ≡ start + n → ⊥) → Scan until k n from high start (at + 1) bound
    scan-free h e =
        let short = s.short in
        let back = s.back in
        record { to = omega arith; after = s.after; back = omega arith; short = omega arith; vacant = one_more h; lower = s.lower }

    pub scan-found : get_or until at 0 ≤ k → at + 1 ≡ start + n → Lowest until k n from high start
    scan-found h e =
        let back = s.back in
        record {
          after = s.after;
          most = omega arith;
          vacant = λ a p q r. one_more h a p (omega arith);
          lower = λ c p q. stopped-less until c n (suc k) (max bound (suc k)) (omega arith) (s.lower c p q);
        }

  pub scan-end : (start at bound : ℕ) → Scan until k n from high start at bound → high ≤ at → Lowest until k n from high start
  scan-end start at bound s l =
      let back = s.back in
      let to = s.to in
      record {
        after = s.after;
        most = omega arith;
        vacant = λ a p q r. s.vacant a p (omega arith);
        lower = λ c p q. stopped-less until c n (suc k) (max bound (suc k)) (omega arith) (s.lower c p q);
      }

-- ---- by blocks

-- no gap starts in the first blocks
abbrev pub Passed : List ℕ → ℕ → ℕ → ℕ → Type 0
Passed until k n block = (c : ℕ) → c < block * block_words → Stopped until c n (suc k)

module _ (until low : List ℕ) (k n high block : ℕ) (b : Bounds until low high) (some_words : 1 ≤ n) (few : n ≤ value_limit) (l : block * block_words < high) (within : high ≤ word_limit)
    (passed : Passed until k n block) where
  abbrev index : ℕ
  index = (n - 1) * blocks + block

  index-block : ((n - 1) * blocks + block) % blocks ≡ block
  index-block = omega arith

  index-width : suc (((n - 1) * blocks + block) / blocks) ≡ n
  index-width = omega arith

  index_in : (n - 1) * blocks + block < bound_limit
  index_in = omega arith

  next-passed : ((c : ℕ) → block * block_words ≤ c → c < block * block_words + block_words → Stopped until c n (suc k)) → Passed until k n (block + 1)
  next-passed h c q = pick (ltb c (block * block_words)) refl
    where
      pick : (t : Bool) → ltb c (block * block_words) ≡ t → Stopped until c n (suc k)
      pick true e = passed c (ltb-true c (block * block_words) e)
      pick false e = h c (ltb-false c (block * block_words) e) (omega arith)

  -- the bound is behind this instruction
  pub block-known : k < get_or low ((n - 1) * blocks + block) 0 → Passed until k n (block + 1)
  block-known h =
      next-passed
      (λ c p q.
      let e = index-block in
      stopped-less until c n (suc k) (get_or low ((n - 1) * blocks + block) 0) (omega arith)
      (subst (λ (w : ℕ). Stopped until c w (get_or low ((n - 1) * blocks + block) 0)) index-width (b.none ((n - 1) * blocks + block) c index_in (omega arith) (omega arith))))

  module _ (x : ℕ) (full : (c : ℕ) → block * block_words ≤ c → c < block * block_words + block_words → Stopped until c n (max x (suc k))) where
    pub block-full : Passed until k n (block + 1)
    block-full = next-passed (λ c p q. stopped-less until c n (suc k) (max x (suc k)) (omega arith) (full c p q))

    pub bounds-next : Bounds until (set low ((n - 1) * blocks + block) x) high
    bounds-next = record {
      size = length-set low ((n - 1) * blocks + block) x ∙ b.size;
      fresh = b.fresh;
      none = λ i c li p q. pick i c li p q (eqb i ((n - 1) * blocks + block)) refl;
    }
      where
        pick : (i c : ℕ) → i < bound_limit → i % blocks * block_words ≤ c → c < i % blocks * block_words + block_words → (t : Bool) → eqb i ((n - 1) * blocks + block) ≡ t
            → Stopped until c (suc (i / blocks)) (get_or (set low ((n - 1) * blocks + block) x) i 0)
        pick i c li p q true e =
            let same : i ≡ (n - 1) * blocks + block = eqb-true i ((n - 1) * blocks + block) e in
            let there = index-block in
            let its-block : i % blocks ≡ block = omega arith in
            let its-width : n ≡ suc (i / blocks) = omega arith in
            let stored : x ≡ get_or (set low ((n - 1) * blocks + block) x) i 0 =
            sym (ap (λ (j : ℕ). get_or (set low ((n - 1) * blocks + block) x) j 0) same ∙ get_or-set_same low ((n - 1) * blocks + block) x 0 (omega (arith, b.size, index_in))) in
            subst (λ (w : ℕ). Stopped until c w (get_or (set low ((n - 1) * blocks + block) x) i 0)) its-width
            (subst (λ (y : ℕ). Stopped until c n y) stored (stopped-less until c n x (max x (suc k)) (omega arith) (full c (omega arith) (omega arith))))
        pick i c li p q false e =
            subst (λ (y : ℕ). Stopped until c (suc (i / blocks)) y)
            (sym (get_or-set_other low ((n - 1) * blocks + block) i x 0 (λ s. eqb-false i ((n - 1) * blocks + block) e s))) (b.none i c li p q)

  pub block-found : (at : ℕ) → Lowest until k n (block * block_words) high at → Lowest until k n 0 high at
  block-found at h = record { after = omega arith; most = h.most; vacant = h.vacant; lower = λ c p q. pick c q (ltb c (block * block_words)) refl }
    where
      pick : (c : ℕ) → c < at → (t : Bool) → ltb c (block * block_words) ≡ t → Stopped until c n (suc k)
      pick c q true e = passed c (ltb-true c (block * block_words) e)
      pick c q false e = h.lower c (ltb-false c (block * block_words) e) q

pub blocks_end : (until : List ℕ) (k n high block : ℕ) → Passed until k n block → high ≤ block * block_words → Lowest until k n 0 high high
blocks_end until k n high block passed l =
    record { after = omega arith; most = omega arith; vacant = λ a p q r. absurd (omega arith); lower = λ c p q. passed c (omega arith) }

pub bounds-start : (until : List ℕ) (high : ℕ) → ((a : ℕ) → high ≤ a → get_or until a 0 ≡ 0) → Bounds until (replicate bound_limit 0) high
bounds-start until high fresh = record { size = length-replicate {A = ℕ} bound_limit 0; fresh = fresh; none = λ i c li p q. (c, omega arith, omega arith, let z = all-zero i bound_limit in omega arith) }

-- ---- stores

-- a value takes words that are free
pub bounds-hold : (until low : List ℕ) (k n high at x : ℕ) → Bounds until low high → Lowest until k n 0 high at → at + n ≤ length until → k < x
    → Bounds (sets until at (replicate n x)) low (max high (at + n))
bounds-hold until low k n high at x b low-gap room late = record {
  size = b.size;
  fresh = λ a p. stored_at a ∙ ap (λ (t : Bool). cond t x (get_or until a 0)) (inside-not (record { first = at; width = n }) a (inr (omega arith))) ∙ b.fresh a (omega arith);
  none = λ i c li p q. let (a, f, g, h) = b.none i c li p q in (a, f, g, omega (arith, h, longer a));
}
  where
    stored_at : (a : ℕ) → get_or (sets until at (replicate n x)) a 0 ≡ cond (inside (record { first = at; width = n }) a) x (get_or until a 0)
    stored_at a = stored-run 0 until (record { first = at; width = n }) x a room

    free-there : (a : ℕ) → inside (record { first = at; width = n }) a ≡ true → get_or until a 0 ≤ x
    free-there a e =
        let (u, v) = inside-inv (record { first = at; width = n }) a e in
        pick (ltb a high) refl u v
      where
        pick : (t : Bool) → ltb a high ≡ t → at ≤ a → a < at + n → get_or until a 0 ≤ x
        pick true f u v = omega (arith, low-gap.vacant a u v (ltb-true a high f))
        pick false f u v = omega (arith, b.fresh a (ltb-false a high f))

    longer : (a : ℕ) → get_or until a 0 ≤ get_or (sets until at (replicate n x)) a 0
    longer a = subst (λ (y : ℕ). get_or until a 0 ≤ y) (sym (stored_at a)) (pick (inside (record { first = at; width = n }) a) refl)
      where
        pick : (t : Bool) → inside (record { first = at; width = n }) a ≡ t → get_or until a 0 ≤ cond t x (get_or until a 0)
        pick true e = free-there a e
        pick false e = omega arith

pub stored_more : (x j : ℕ) (m : List ℕ) (at : ℕ) → set (sets m at (replicate j x)) (at + j) x ≡ sets m at (replicate (j + 1) x)
stored_more x j m at = go j m at ∙ ap (λ (n : ℕ). sets m at (replicate n x)) (sym (add-one j))
  where
    go : (j : ℕ) (m : List ℕ) (at : ℕ) → set (sets m at (replicate j x)) (at + j) x ≡ sets m at (replicate (suc j) x)
    go zero m at = ap (λ (i : ℕ). set m i x) (add-zero at)
    go (suc j) m at = ap (λ (i : ℕ). set (sets (set m at x) (suc at) (replicate j x)) i x) (add-suc at j ∙ sym (suc-add at j)) ∙ go j (set m at x) (suc at)
