-- A write to a part of an array, and a row that is cleared before it is written.
use Prim.Native.Nat.{ℕ, zero, suc, ◌+◌, ◌≤◌}
use mathlib.Core.Path.{◌≡◌, refl, sym, ap, ◌∙◌}
use mathlib.Core.List.{List, [], ◌∷◌, ◌++◌, append_assoc}
use native.Mathlib.Omega.{arith}
use lib.ListN.{length, get_or, take, drop, replicate}
use native.Mathlib.Numerals.{add-one}
use lib.Seq.{sets, drop-cons}
use borrow.Rule.Slice.PartMut.{put_mid, mid_of}
use Rattle.std.proofs.lemmas.List.{length-take-le, length-drop, take-replicate}
use Rattle.std.proofs.lemmas.List.Edits.{sets-eq, paste_all}
use Rattle.std.proofs.lemmas.Slice.{put_mid-paste}
use Rattle.base.specs.Limits.{no_node}
use Rattle.resolver.specs.Slots.{padded}
use Rattle.resolver.specs.Groups.{entries}

pub length-mid : (a k n : ℕ) (xs : List ℕ) → k ≡ n → a + n ≤ length xs → length (mid_of a k xs) ≡ n
length-mid a k n xs e l = length-take-le k (drop a xs) (omega (arith, length-drop a xs)) ∙ e

-- k numbers are stored from a on
pub part-stored : (a k : ℕ) (xs ys zs : List ℕ) → ys ≡ zs → length zs ≡ k → a + k ≤ length xs → put_mid a k xs ys ≡ sets xs a zs
part-stored a k xs ys zs e n l =
    put_mid-paste a k xs ys zs k e refl (sym n) ∙ paste_all xs a zs k (sym n)
    ∙ ap (λ (m : ℕ). take a xs ++ (zs ++ drop (a + m) xs)) (sym n) ∙ sym (append_assoc (take a xs) zs (drop (a + length zs) xs)) ∙ sym (sets-eq zs xs a (omega arith))

-- numbers over a cleared row
pub over-cleared : (n : ℕ) (xs : List ℕ) → length xs ≤ n → xs ++ drop (length xs) (replicate n no_node) ≡ padded n xs
unfolding padded
over-cleared zero [] l = refl
over-cleared zero (x ∷ xs) l = absurd (omega arith)
over-cleared (suc n) [] l = ap (λ (ys : List ℕ). no_node ∷ ys) (over-cleared n [] (omega arith))
over-cleared (suc n) (x ∷ xs) l = ap (λ (ys : List ℕ). x ∷ ys) (over-cleared n xs (omega arith))

-- the n entries from m on are a part of the array
pub entries-part : (n : ℕ) (xs : List ℕ) (m : ℕ) → m + n ≤ length xs → take n (drop m xs) ≡ entries n xs m
unfolding entries
entries-part zero xs m l = refl
entries-part (suc n) xs m l =
    ap (take (suc n)) (drop-cons xs m 0 (omega arith))
    ∙ ap (λ (ys : List ℕ). get_or xs m 0 ∷ ys) (ap (λ (k : ℕ). take n (drop k xs)) (sym (add-one m)) ∙ entries-part n xs (m + 1) (omega arith))

-- the front of a cleared array is as long as that of another
pub front-cleared : (k n : ℕ) (ws : List ℕ) → k ≤ n → k ≤ length ws → take k (replicate n no_node) ≡ replicate (length (take k ws)) no_node
front-cleared k n ws a b = take-replicate k n no_node a ∙ ap (λ (m : ℕ). replicate m no_node) (sym (length-take-le k ws b))
