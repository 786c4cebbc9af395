-- Bytes that stand in a list at a place, and the numbers that they are.
use Prim.Native.Nat.{ℕ, zero, suc, ◌+◌, ◌*◌, ◌/◌, ◌%◌, ◌^◌, ◌<◌}
use mathlib.Core.Path.{◌≡◌, refl, ap, sym, ◌∙◌, subst}
use mathlib.Core.List.{List, [], ◌∷◌, ◌++◌, append_assoc}
use native.Mathlib.Omega.{arith}
use native.Mathlib.Nat.{pow-succ', mul-suc, add-zero, add-suc, suc-add}
use native.Mathlib.Numerals.{add-one}
use lib.ListN.{length, length-append}
use Rattle.base.specs.Lists.{words_at, Word, Each}
use Rattle.base.proofs.Lists.{whole}
use Rattle.base.specs.Bytes.{byte, u16, u64, Bytes, bytes_of, all_bytes, constants}

-- ---- lists of words

pub cons_head : {a b : ℕ} {xs ys : List ℕ} → a ∷ xs ≡ b ∷ ys → a ≡ b
cons_head e = cc

pub cons_tail : {a b : ℕ} {xs ys : List ℕ} → a ∷ xs ≡ b ∷ ys → xs ≡ ys
cons_tail e = cc

pub cons : {a b : ℕ} {xs ys : List ℕ} → a ≡ b → xs ≡ ys → a ∷ xs ≡ b ∷ ys
cons p q = cc

-- the words xs ++ ys from a on are xs, and behind them ys
pub split : (m xs ys : List ℕ) (a : ℕ) → words_at m a (length (xs ++ ys)) ≡ xs ++ ys
    → (words_at m a (length xs) ≡ xs) × (words_at m (a + length xs) (length ys) ≡ ys)
split m [] ys a e = (refl, subst (λ (b : ℕ). words_at m b (length ys) ≡ ys) (sym (add-zero a)) e)
split m (x ∷ xs) ys a e =
    let (p, q) = split m xs ys (suc a) (cons_tail e) in
    (cons (cons_head e) p, subst (λ (b : ℕ). words_at m b (length ys) ≡ ys) (suc-add a (length xs) ∙ sym (add-suc a (length xs))) q)

-- ---- lengths

pub bytes-length : (n x : ℕ) → length (bytes_of n x) ≡ n
bytes-length zero x = refl
bytes-length (suc n) x = ap suc (bytes-length n (x / 256))

pub all-length : (n : ℕ) (xs : List ℕ) → length (all_bytes n xs) ≡ n * length xs
all-length n [] = omega arith
all-length n (x ∷ xs) =
    let a : length (all_bytes n xs) ≡ n * length xs = all-length n xs in
    let b : length (bytes_of n x) ≡ n = bytes-length n x in
    let c : n * suc (length xs) ≡ n * length xs + n = mul-suc n (length xs) in
    length-append (bytes_of n x) (all_bytes n xs) ∙ omega arith

pub constants-length : (n : ℕ) (s : List ℕ) (at : ℕ) → length (constants n s at) ≡ n
constants-length zero s at = refl
constants-length (suc n) s at = ap suc (constants-length n s (at + 8))

-- the bytes of two lists, one after the other
pub all_append : (n : ℕ) (xs ys : List ℕ) → all_bytes n (xs ++ ys) ≡ all_bytes n xs ++ all_bytes n ys
all_append n [] ys = refl
all_append n (x ∷ xs) ys =
    ap (λ (zs : List ℕ). bytes_of n x ++ zs) (all_append n xs ys) ∙ sym (append_assoc (bytes_of n x) (all_bytes n xs) (all_bytes n ys))

-- ---- numbers

module _ (s : List ℕ) where
  -- xs stands in s at a place
  abbrev pub Here : ℕ → List ℕ → Type 0
  Here at xs = words_at s at (length xs) ≡ xs

  pub moved : {a b : ℕ} {xs : List ℕ} → a ≡ b → Here a xs → Here b xs
  moved {xs = xs} e h = subst (λ (i : ℕ). Here i xs) e h

  pub join : (xs ys : List ℕ) (at : ℕ) → Here at xs → Here (at + length xs) ys → Here at (xs ++ ys)
  join [] ys at h k = moved (add-zero at) k
  join (x ∷ xs) ys at h k = cons (cons_head h) (join xs ys (suc at) (cons_tail h) (moved (add-suc at (length xs) ∙ sym (suc-add at (length xs))) k))

  -- a byte, and what stands behind it
  pub onto : (x : ℕ) (xs : List ℕ) (at : ℕ) → byte s at ≡ x → Here (at + 1) xs → Here at (x ∷ xs)
  onto x xs at e h = cons e (moved (add-one at) h)

  pub off : {x : ℕ} {xs : List ℕ} (at : ℕ) → Here at (x ∷ xs) → (byte s at ≡ x) × Here (at + 1) xs
  off at h = (cons_head h, moved (sym (add-one at)) (cons_tail h))

  -- what stands at 0 and is as long is the list
  pub whole_is : (xs : List ℕ) → Here 0 xs → length xs ≡ length s → s ≡ xs
  whole_is xs h l = sym (whole s) ∙ ap (λ (n : ℕ). words_at s 0 n) (sym l) ∙ h

  -- n bytes from `at`, the lowest first
  abbrev pub little : ℕ → ℕ → ℕ
  little zero at = 0
  little (suc n) at = byte s at + 256 * little n (at + 1)

  pub little-read : (n x at : ℕ) → x < 256 ^ n → Here at (bytes_of n x) → little n at ≡ x
  little-read zero x at l h = omega arith
  little-read (suc n) x at l h =
      let p : 256 ^ suc n ≡ 256 * 256 ^ n = pow-succ' 256 n in
      let (a, r) = off at h in
      let b : little n (at + 1) ≡ x / 256 = little-read n (x / 256) (at + 1) (omega arith) r in
      omega arith

  little-2 : (at : ℕ) → little 2 at ≡ u16 s at
  little-2 at = omega arith

  little-8 : (at : ℕ) → little 8 at ≡ u64 s at
  little-8 at =
      let e2 : at + 1 + 1 ≡ at + 2 = omega arith in
      let e3 : at + 2 + 1 ≡ at + 3 = omega arith in
      let e4 : at + 3 + 1 ≡ at + 4 = omega arith in
      let e5 : at + 4 + 1 ≡ at + 5 = omega arith in
      let e6 : at + 5 + 1 ≡ at + 6 = omega arith in
      let e7 : at + 6 + 1 ≡ at + 7 = omega arith in
      rw (e2, e3, e4, e5, e6, e7) (omega arith)

  pub u16-read : (x at : ℕ) → x < 256 ^ 2 → Here at (bytes_of 2 x) → u16 s at ≡ x
  u16-read x at l h = sym (little-2 at) ∙ little-read 2 x at l h

  pub constants-read : (xs : List ℕ) (at : ℕ) → Each Word xs → Here at (all_bytes 8 xs) → constants (length xs) s at ≡ xs
  constants-read [] at l h = refl
  constants-read (x ∷ xs) at (l, ls) h =
      let (p, q) = split s (bytes_of 8 x) (all_bytes 8 xs) at h in
      cons (sym (little-8 at) ∙ little-read 8 x at l p) (constants-read xs (at + 8) ls q)

  -- ---- what is read is what stands there

  module _ (small : Bytes s) where
    pub little-below : (n at : ℕ) → little n at < 256 ^ n
    little-below zero at = omega arith
    little-below (suc n) at =
        let p : 256 ^ suc n ≡ 256 * 256 ^ n = pow-succ' 256 n in
        let a : little n (at + 1) < 256 ^ n = little-below n (at + 1) in
        let b : byte s at < 256 = small at in
        omega arith

    pub little-here : (n at : ℕ) → Here at (bytes_of n (little n at))
    little-here zero at = refl
    little-here (suc n) at =
        let b : byte s at < 256 = small at in
        let l = little n (at + 1) in
        let q : l ≡ (byte s at + 256 * l) / 256 = omega arith in
        onto ((byte s at + 256 * l) % 256) (bytes_of n ((byte s at + 256 * l) / 256)) at (omega arith)
        (subst (λ (x : ℕ). Here (at + 1) (bytes_of n x)) q (little-here n (at + 1)))

    pub u16-here : (at : ℕ) → Here at (bytes_of 2 (u16 s at))
    u16-here at = subst (λ (x : ℕ). Here at (bytes_of 2 x)) (little-2 at) (little-here 2 at)

    pub u16-below : (at : ℕ) → u16 s at < 65536
    u16-below at = omega (arith, small at, small (at + 1))

    pub constants-here : (n at : ℕ) → Here at (all_bytes 8 (constants n s at))
    constants-here zero at = refl
    constants-here (suc n) at =
        join (bytes_of 8 (u64 s at)) (all_bytes 8 (constants n s (at + 8))) at
        (subst (λ (x : ℕ). Here at (bytes_of 8 x)) (little-8 at) (little-here 8 at)) (constants-here n (at + 8))

    word_below : (at : ℕ) → u64 s at < 2 ^ 64
    word_below at =
        omega
        (arith, small at, small (at + 1), small (at + 2), small (at + 3), small (at + 4), small (at + 5), small (at + 6), small (at + 7))

    pub constants-words : (n at : ℕ) → Each Word (constants n s at)
    constants-words zero at = tt
    constants-words (suc n) at = (word_below at, constants-words n (at + 8))
