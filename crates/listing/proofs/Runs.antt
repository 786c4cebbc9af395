-- Bytes in the text, one run after the other.
use Prim.Native.Nat.{ℕ, ◌+◌, ◌≤◌}
use mathlib.Core.Path.{◌≡◌, refl, sym, ap, ◌∙◌, subst}
use mathlib.Core.Bool.{Bool, true, false, cond}
use mathlib.Core.List.{List, ◌++◌}
use native.Mathlib.Omega.{arith}
use lib.ListN.{length, length-append}
use lib.Seq.{sets}
use Rattle.std.specs.Prelude.{Option}
use Rattle.std.specs.Bool.{then_some}
use Rattle.lowering.specs.Listing.{decimal}
use Rattle.base.proofs.Stores as Stores
use Rattle.listing.specs.declared.Text.{Text}
use Rattle.listing.specs.Appends.{Appends, shown}

-- ---- runs

pub then : {t u v : Text} {xs ys : List ℕ} → Appends t xs u → Appends u ys v → Appends t (xs ++ ys) v
then {t} {u} {v} {xs} {ys} p q =
    record {
      same_buffer = q.same_buffer ∙ p.same_buffer;
      written = Stores.then t.bytes.now t.length xs ys p.written (q.written ∙ ap (λ (k : ℕ). sets u.bytes.now k ys) p.end);
      end = let s = p.end in let e = q.end in omega (arith, length-append xs ys);
    }

-- the same bytes
pub same : {t u : Text} {xs ys : List ℕ} → xs ≡ ys → Appends t xs u → Appends t ys u
same {t} {u} e p = subst (λ (zs : List ℕ). Appends t zs u) e p

-- ---- room

pub room-first : (xs ys : List ℕ) (at : ℕ) {n : ℕ} → at + length (xs ++ ys) ≤ n → at + length xs ≤ n
room-first xs ys at h = omega (arith, length-append xs ys)

pub room-rest : {t u : Text} {n : ℕ} {xs : List ℕ} (ys : List ℕ) → Appends t xs u → t.length + length (xs ++ ys) ≤ n → u.length + length ys ≤ n
room-rest {xs = xs} ys p h = let e = p.end in omega (arith, length-append xs ys)

-- of four runs, the first one, two and three
pub rooms : (xs ys zs ws : List ℕ) (at : ℕ) {n : ℕ} → at + length (xs ++ ys ++ zs ++ ws) ≤ n → (at + length xs ≤ n) × (at + length (xs ++ ys) ≤ n) × (at + length (xs ++ ys ++ zs) ≤ n)
rooms xs ys zs ws at h =
    let three = room-first (xs ++ ys ++ zs) ws at h in
    let two = room-first (xs ++ ys) zs at three in
    (room-first xs ys at two, two, three)

-- ---- a number that is not always shown

module _ (word : List ℕ) (b : Bool) (n : ℕ) (other : List ℕ) {r : Option ℕ} (e : r ≡ then_some b n) where
  shown-is : word ++ shown r other ≡ word ++ cond b (decimal n) other
  shown-is = ap (λ (o : Option ℕ). word ++ shown o other) e ∙ by_test b
    where
      by_test : (b : Bool) → word ++ shown (then_some b n) other ≡ word ++ cond b (decimal n) other
      by_test true = refl
      by_test false = refl

  pub room-shown : (at : ℕ) {m : ℕ} → at + length (word ++ cond b (decimal n) other) ≤ m → at + length (word ++ shown r other) ≤ m
  room-shown at {m} h = subst (λ (xs : List ℕ). at + length xs ≤ m) (sym shown-is) h

  pub counted : {t u : Text} → Appends t (word ++ shown r other) u → Appends t (word ++ cond b (decimal n) other) u
  counted p = same shown-is p
