-- Runs of stores.
use Prim.Native.Nat.{ℕ, zero, suc, ◌+◌, ◌-◌, ◌/◌, ◌%◌, ◌^◌, ◌≤◌, ◌<◌}
use mathlib.Core.Path.{◌≡◌, refl, sym, ap, ◌∙◌}
use mathlib.Core.List.{List, [], ◌∷◌, ◌++◌}
use native.Mathlib.Omega.{arith}
use native.Mathlib.Nat.{add-zero, add-suc, suc-add}
use lib.ListN.{length, get_or, set, take, drop, length-set, replicate, length-replicate, length-drop}
use borrow.Rule.Slice.PartMut.{put_mid}
use lib.Seq.{sets, length-sets, length-take-le, sets-eq, set_comm, take_at, get_or-set_same, get_or-set_other}
use Rattle.std.proofs.lemmas.List.{take_all}
use Rattle.std.proofs.lemmas.Slice.{put_mid-paste}
use Rattle.base.specs.Lists.{words_at}
use Rattle.base.specs.Bytes.{bytes_of}
use Rattle.base.proofs.Stands.{cons}

-- one after another
pub sets-append : (xs ys l : List ℕ) (i : ℕ) → sets l i (xs ++ ys) ≡ sets (sets l i xs) (i + length xs) ys
sets-append [] ys l i = rw add-zero
sets-append (a ∷ xs) ys l i =
    let e : suc i + length xs ≡ i + suc (length xs) = omega arith in
    sets-append xs ys (set l i a) (suc i) ∙ ap (λ (k : ℕ). sets (sets (set l i a) (suc i) xs) k ys) e

-- two runs are one
pub then : (l : List ℕ) {m n : List ℕ} (at : ℕ) (xs ys : List ℕ) → m ≡ sets l at xs → n ≡ sets m (at + length xs) ys → n ≡ sets l at (xs ++ ys)
then l {m} at xs ys p q =
    q ∙ ap (λ (k : List ℕ). sets k (at + length xs) ys) p ∙ sym (sets-append xs ys l at)

-- so are three, and four
pub then-three : (l : List ℕ) {m n o : List ℕ} (at : ℕ) (xs ys zs : List ℕ) → m ≡ sets l at xs → n ≡ sets m (at + length xs) ys
    → o ≡ sets n (at + length (xs ++ ys)) zs → o ≡ sets l at (xs ++ ys ++ zs)
then-three l at xs ys zs p q r = then l at (xs ++ ys) zs (then l at xs ys p q) r

pub then-four : (l : List ℕ) {m n o k : List ℕ} (at : ℕ) (ws xs ys zs : List ℕ) → m ≡ sets l at ws → n ≡ sets m (at + length ws) xs
    → o ≡ sets n (at + length (ws ++ xs)) ys → k ≡ sets o (at + length (ws ++ xs ++ ys)) zs → k ≡ sets l at (ws ++ xs ++ ys ++ zs)
then-four l at ws xs ys zs p q r s = then l at (ws ++ xs ++ ys) zs (then-three l at ws xs ys p q r) s

module _ {A : Type 0} (d : A) where
  -- what stands outside a run stays
  pub stored-below : (ws m : List A) (at i : ℕ) → i < at → get_or (sets m at ws) i d ≡ get_or m i d
  stored-below [] m at i h = refl
  stored-below (w ∷ ws) m at i h = stored-below ws (set m at w) (suc at) i (omega arith) ∙ get_or-set_other m at i w d (λ e. omega arith)

  pub stored-above : (ws m : List A) (at i : ℕ) → at + length ws ≤ i → get_or (sets m at ws) i d ≡ get_or m i d
  stored-above [] m at i h = refl
  stored-above (w ∷ ws) m at i h = stored-above ws (set m at w) (suc at) i (omega arith) ∙ get_or-set_other m at i w d (λ e. omega arith)

  -- and in it stands the run
  pub stored-in : (ws m : List A) (at j : ℕ) → at + length ws ≤ length m → j < length ws → get_or (sets m at ws) (at + j) d ≡ get_or ws j d
  stored-in [] m at j r h = absurd (omega arith)
  stored-in (w ∷ ws) m at zero r h =
      ap (λ (i : ℕ). get_or (sets (set m at w) (suc at) ws) i d) (add-zero at)
      ∙ stored-below ws (set m at w) (suc at) at (omega arith)
      ∙ get_or-set_same m at w d (omega arith)
  stored-in (w ∷ ws) m at (suc j) r h =
      let l : length (set m at w) ≡ length m = length-set m at w in
      ap (λ (i : ℕ). get_or (sets (set m at w) (suc at) ws) i d) (add-suc at j ∙ sym (suc-add at j)) ∙ stored-in ws (set m at w) (suc at) j (omega arith) (omega arith)

pub sets_below : (xs l : List ℕ) (i q : ℕ) → q < i → get_or (sets l i xs) q 0 ≡ get_or l q 0
sets_below = stored-below 0

pub sets-above : (xs l : List ℕ) (i q : ℕ) → i + length xs ≤ q → get_or (sets l i xs) q 0 ≡ get_or l q 0
sets-above = stored-above 0

pub sets-in : (xs l : List ℕ) (i j : ℕ) → j < length xs → i + length xs ≤ length l → get_or (sets l i xs) (i + j) 0 ≡ get_or xs j 0
sets-in xs l i j h k = stored-in 0 xs l i j k h

-- the words of a run that was stored are the run
pub sets-words : (ws m : List ℕ) (at : ℕ) → at + length ws ≤ length m → words_at (sets m at ws) at (length ws) ≡ ws
sets-words [] m at h = refl
sets-words (w ∷ ws) m at h =
    let l : length (set m at w) ≡ length m = length-set m at w in
    cons (sets_below ws (set m at w) (suc at) at (omega arith) ∙ get_or-set_same m at w 0 (omega arith))
    (sets-words ws (set m at w) (suc at) (omega arith))

-- a store before a run
pub set_before : (ys l : List ℕ) (i j x : ℕ) → i < j → set (sets l j ys) i x ≡ sets (set l i x) j ys
set_before [] l i j x h = refl
set_before (y ∷ ys) l i j x h =
    set_before ys (set l j y) i (suc j) x (omega arith) ∙ ap (λ (k : List ℕ). sets k (suc j) ys) (set_comm l j i y x (λ e. omega arith))

-- what was stored at the front is the front
pub front : (xs ys : List ℕ) → length ys ≤ length xs → take (length ys) (sets xs 0 ys) ≡ ys
front xs ys h = ap (take (length ys)) (sets-eq ys xs 0 (omega arith)) ∙ take_at ys (drop (0 + length ys) xs) (length ys) refl

-- ---- a copy into a part of a list

pub copied : (s xs : List ℕ) (at : ℕ) {k : ℕ} {ys : List ℕ} → ys ≡ xs → k ≡ length xs → at + length xs ≤ length s → put_mid at k s ys ≡ sets s at xs
copied s xs at {k} {ys} e p h =
    put_mid-paste at k s ys xs (length xs) e (sym p) refl
    ∙ ap (λ (zs : List ℕ). take at s ++ zs ++ drop (at + length xs) s) (take_all (length xs) xs (omega arith))
    ∙ sym (sets-eq xs s at h)

-- a part that is filled with one value
pub filled : (s : List ℕ) (at n x : ℕ) {k : ℕ} {ys : List ℕ} → ys ≡ replicate (length (take k (drop at s))) x → k ≡ n → at + n ≤ length s
    → put_mid at k s ys ≡ sets s at (replicate n x)
filled s at n x {k} e p h =
    let l : length (take k (drop at s)) ≡ n = length-take-le k (drop at s) (omega (arith, length-drop at s)) ∙ p in
    let r : length (replicate n x) ≡ n = length-replicate n x in
    copied s (replicate n x) at (e ∙ ap (λ (m : ℕ). replicate m x) l) (p ∙ sym r) (omega arith)

-- the eight bytes of a number, each by one division
pub eight : (x : ℕ)
    → x % 256 ∷ x / 256 % 256 ∷ x / 256 ^ 2 % 256 ∷ x / 256 ^ 3 % 256 ∷ x / 256 ^ 4 % 256 ∷ x / 256 ^ 5 % 256 ∷ x / 256 ^ 6 % 256 ∷ x / 256 ^ 7 % 256 ∷ []
    ≡ bytes_of 8 x
eight x =
    let e2 : x / 256 ^ 2 ≡ x / 256 / 256 = omega arith in
    let e3 : x / 256 ^ 3 ≡ x / 256 / 256 / 256 = omega arith in
    let e4 : x / 256 ^ 4 ≡ x / 256 / 256 / 256 / 256 = omega arith in
    let e5 : x / 256 ^ 5 ≡ x / 256 / 256 / 256 / 256 / 256 = omega arith in
    let e6 : x / 256 ^ 6 ≡ x / 256 / 256 / 256 / 256 / 256 / 256 = omega arith in
    let e7 : x / 256 ^ 7 ≡ x / 256 / 256 / 256 / 256 / 256 / 256 / 256 = omega arith in
    rw (e2, e3, e4, e5, e6, e7)

-- ---- a run that a loop stores in parts

-- `whole` goes to the place `to`; it is stored up to the place `here`, and `tail` is left
pub record Run (whole out₀ : List ℕ) (to : ℕ) (out : List ℕ) (here : ℕ) (tail : List ℕ) : Type 0 where
  pub same : length out ≡ length out₀
  pub rest : sets out₀ to whole ≡ sets out here tail

module _ {whole out₀ : List ℕ} {to : ℕ} where
  pub run-start : {here : ℕ} {tail : List ℕ} → here ≡ to → tail ≡ whole → Run whole out₀ to out₀ here tail
  run-start {here} {tail} eh et = record { same = refl; rest = sym (ap (λ (q : ℕ). sets out₀ q tail) eh ∙ ap (sets out₀ to) et) }

  module _ {out : List ℕ} {here : ℕ} {tail : List ℕ} (h : Run whole out₀ to out here tail) where
    pub run_more : (xs : List ℕ) {out' tail' : List ℕ} {here' : ℕ} → tail ≡ xs ++ tail' → out' ≡ sets out here xs → here' ≡ here + length xs → Run whole out₀ to out' here' tail'
    run_more xs {out'} {tail'} e eo eh =
        record {
          same = ap length eo ∙ length-sets out here xs ∙ h.same;
          rest = h.rest ∙ ap (sets out here) e ∙ sets-append xs tail' out here ∙ (rw (eo, eh));
        }

    pub run_step : {a here' : ℕ} {tail' : List ℕ} → tail ≡ a ∷ tail' → here' ≡ here + 1 → Run whole out₀ to (set out here a) here' tail'
    run_step {a} {here'} e eh = let x : here' ≡ suc here = omega arith in record { same = length-set out here a ∙ h.same; rest = h.rest ∙ (rw (x, e)) }

    pub run-done : tail ≡ [] → out ≡ sets out₀ to whole
    run-done e = sym (h.rest ∙ ap (sets out here) e)

-- a list of as many elements as are left, when none is
pub none_left : (f : ℕ → List ℕ) {n j : ℕ} → n ≤ j → f 0 ≡ [] → f (n - j) ≡ []
none_left f {n} {j} h e = let z : n - j ≡ 0 = omega arith in ap f z ∙ e
