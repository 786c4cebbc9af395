-- The decimal digits of a number, found from the last to the first, and how many there are.
use Prim.Native.Nat.{ℕ, zero, suc, ◌+◌, ◌-◌, ◌/◌, ◌%◌, ◌^◌, ◌≤◌, ◌<◌}
use mathlib.Core.Path.{◌≡◌, refl, sym, ap, ◌∙◌, subst}
use mathlib.Core.Bool.{Bool, true, false}
use mathlib.Core.List.{List, [], ◌∷◌}
use native.Mathlib.Nat.{pow-suc, div-lt_iff_lt-mul}
use native.Mathlib.Omega.{arith}
use lib.Dec.{ltb}
use lib.ListN.{length, set, take, drop, length-set, length-drop}
use lib.Seq.{drop-cons, get_or-set_same, drop-set-lt, drop-length, take_all}
use borrow.Author.Tests.{lt-ltb, le-ltb, ltb-false}
use Rattle.lowering.specs.Listing.{digits, decimal}

-- ---- one digit

last : (k m : ℕ) (rest : List ℕ) → m < 10 → digits (suc k) m rest ≡ (48 + m) ∷ rest
last k m rest h = rw (lt-ltb m 10 h)

next : (k m : ℕ) (rest : List ℕ) → 10 ≤ m → digits (suc k) m rest ≡ digits k (m / 10) ((48 + m % 10) ∷ rest)
next k m rest h = rw (le-ltb m 10 h)

-- a digit in front of those behind it
front : (d : List ℕ) (j x : ℕ) → j < length d → drop j (set d j x) ≡ x ∷ drop (suc j) d
front d j x h =
    let n : j < length (set d j x) = rw length-set h in
    let s : j < suc j = omega arith in
    drop-cons (set d j x) j 0 n ∙ rw (get_or-set_same d j x 0 h, drop-set-lt (suc j) d j x s)

shorter : (j m : ℕ) → m < 10 ^ suc j → m / 10 < 10 ^ j
shorter j m h = (div-lt_iff_lt-mul {k = 10} {x = m} {y = 10 ^ j} (omega arith)).1 (rw pow-suc at h)

-- ---- the loop

-- the digits from i on are written, and those of m are left for the places before i
pub record Left (n : ℕ) (d : List ℕ) (m i : ℕ) : Type 0 where
  pub size : length d ≡ 20
  pub some : 1 ≤ i
  pub within : i ≤ 20
  pub small : m < 10 ^ i
  pub same : decimal n ≡ digits i m (drop i d)

pub start : (d : List ℕ) (n : ℕ) → length d ≡ 20 → n < 18446744073709551616 → Left n d n 20
unfolding decimal
start d n e h =
    let p : 10 ^ 20 ≡ 100000000000000000000 = refl in
    let s : drop 20 d ≡ [] = ap (λ (k : ℕ). drop k d) (sym e) ∙ drop-length d in
    record { size = e; some = omega arith; within = omega arith; small = omega arith; same = ap (digits 20 n) (sym s) }

-- more than one place is left
pub more : (n m i : ℕ) (d : List ℕ) → Left n d m i → 10 ≤ m → 2 ≤ i
more n m zero d l h = omega (arith, l.some)
more n m (suc zero) d l h = let z : 10 ^ suc zero ≡ 10 = refl in omega (arith, l.small)
more n m (suc (suc i)) d l h = omega arith

pub step : (n m i : ℕ) (d : List ℕ) → Left n d m i → 10 ≤ m → Left n (set d (i - 1) (48 + m % 10)) (m / 10) (i - 1)
step n m zero d l h = absurd (omega (arith, l.some))
step n m (suc j) d l h =
    let z : j ≡ suc j - 1 = omega arith in
    let two : 2 ≤ suc j = more n m (suc j) d l h in
    let e : length d ≡ 20 = l.size in
    let w : suc j ≤ 20 = l.within in
    let b : j < length d = omega arith in
    subst (λ (k : ℕ). Left n (set d k (48 + m % 10)) (m / 10) k) z
    (record {
      size = length-set d j (48 + m % 10) ∙ e;
      some = omega arith;
      within = omega arith;
      small = shorter j m l.small;
      same = l.same ∙ next j m (drop (suc j) d) h ∙ ap (digits j (m / 10)) (sym (front d j (48 + m % 10) b));
    })

pub done : (n m i : ℕ) (d : List ℕ) → Left n d m i → m < 10 → drop (i - 1) (set d (i - 1) (48 + m)) ≡ decimal n
done n m zero d l h = absurd (omega (arith, l.some))
done n m (suc j) d l h =
    let z : suc j - 1 ≡ j = omega arith in
    let e : length d ≡ 20 = l.size in
    let w : suc j ≤ 20 = l.within in
    let b : j < length d = omega arith in
    ap (λ (k : ℕ). drop k (set d k (48 + m))) z ∙ front d j (48 + m) b ∙ sym (last j m (drop (suc j) d) h) ∙ sym l.same

pub size-kept : (n m i : ℕ) (d : List ℕ) → Left n d m i → length (set d (i - 1) (48 + m)) ≡ 20
size-kept n m i d l = length-set d (i - 1) (48 + m) ∙ l.size

-- all bytes from the first digit on
pub all_digits : (d : List ℕ) (i : ℕ) {xs : List ℕ} → length d ≡ 20 → drop i d ≡ xs → take (20 - i) (drop i d) ≡ xs
all_digits d i e h =
    let n : length (drop i d) ≤ 20 - i = rw (length-drop, e) (omega arith) in
    take_all (20 - i) (drop i d) n ∙ h

-- ---- how many

fewer : (w n : ℕ) → 1 ≤ w → n < 10 ^ w → 10 ≤ n → (1 ≤ w - 1) × (n / 10 < 10 ^ (w - 1))
fewer zero n p h t = absurd (omega arith)
fewer (suc zero) n p h t = let z : 10 ^ suc zero ≡ 10 = refl in absurd (omega arith)
fewer (suc (suc v)) n p h t =
    let z : suc v ≡ suc (suc v) - 1 = omega arith in
    (omega arith, subst (λ (k : ℕ). n / 10 < 10 ^ k) z (shorter (suc v) n h))

digits-turn : (k n : ℕ) (rest : List ℕ) (w : ℕ) → 1 ≤ w → n < 10 ^ w
    → ((v : ℕ) → 1 ≤ v → n / 10 < 10 ^ v → length (digits k (n / 10) ((48 + n % 10) ∷ rest)) ≤ v + suc (length rest))
    → (b : Bool) → ltb n 10 ≡ b → length (digits (suc k) n rest) ≤ w + length rest
digits-turn k n rest w p h go true e = rw e (omega arith)
digits-turn k n rest w p h go false e =
    let t : 10 ≤ n = ltb-false n 10 e in
    let (q, r) = fewer w n p h t in
    let l = go (w - 1) q r in
    rw e (omega arith)

digits-length : (k n : ℕ) (rest : List ℕ) (w : ℕ) → 1 ≤ w → n < 10 ^ w → length (digits k n rest) ≤ w + length rest
digits-length zero n rest w p h = omega arith
digits-length (suc k) n rest w p h =
    digits-turn k n rest w p h (λ v q r. digits-length k (n / 10) ((48 + n % 10) ∷ rest) v q r) (ltb n 10) refl

pub decimal-length : (n w : ℕ) → 1 ≤ w → n < 10 ^ w → length (decimal n) ≤ w
unfolding decimal
decimal-length n w p h = let z = digits-length 20 n [] w p h in omega arith

-- a number of 64 bits
pub decimal-most : (n : ℕ) → n < 18446744073709551616 → length (decimal n) ≤ 20
decimal-most n h = let p : 10 ^ 20 ≡ 100000000000000000000 = refl in decimal-length n 20 (omega arith) (omega arith)
