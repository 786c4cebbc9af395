-- Words copied into a buffer.
use Prim.Native.Nat.{ℕ, zero, suc, ◌+◌, ◌*◌, ◌≤◌, ◌<◌}
use mathlib.Core.Path.{◌≡◌, ap, sym, ◌∙◌, subst}
use mathlib.Core.List.{List, [], ◌∷◌, ◌++◌, map, map-append}
use native.Mathlib.Nat.{zero-add}
use native.Mathlib.Numerals.{add-one}
use native.Mathlib.Omega.{arith}
use lib.ListN.{length, get_or, set, take, length-map}
use lib.Seq.{sets, take-suc, take-length, length-take-le}
use Rattle.base.specs.Lists.{word_at, Each}
use Rattle.base.proofs.Stores.{then}
use Rattle.base.specs.Bytes.{u16}
use Rattle.bytecode.specs.Code.{addresses}
use Rattle.bytecode.proofs.Decoded.{addresses-length}

-- ---- one more word

one_more : (l : List ℕ) (m : List ℕ) (i x : ℕ) (xs : List ℕ) → length xs ≡ i → m ≡ sets l 0 xs → set m i x ≡ sets l 0 (xs ++ (x ∷ []))
one_more l m i x xs e h = then l 0 xs (x ∷ []) h (ap (λ (k : ℕ). set m k x) (sym e ∙ sym (zero-add (length xs))))

pub copy_more : (l m from : List ℕ) (i : ℕ) → i < length from → m ≡ sets l 0 (take i from) → set m i (get_or from i 0) ≡ sets l 0 (take (i + 1) from)
copy_more l m from i h e =
    let n : i ≤ length from = omega arith in
    one_more l m i (get_or from i 0) (take i from) (length-take-le i from n) e
    ∙ ap (sets l 0) (sym (ap (λ (k : ℕ). take k from) (add-one i) ∙ take-suc from i 0 h))

pub copy-all : (l m from : List ℕ) (i : ℕ) → length from ≤ i → i ≤ length from → m ≡ sets l 0 (take i from) → m ≡ sets l 0 from
copy-all l m from i p q e = let z : i ≡ length from = omega arith in e ∙ ap (sets l 0) (ap (λ (k : ℕ). take k from) z ∙ take-length from)

-- ---- outputs

addresses-more : (n : ℕ) (s : List ℕ) (at : ℕ) → addresses (suc n) s at ≡ addresses n s at ++ (u16 s (at + 2 * n) ∷ [])
addresses-more zero s at = ap (λ (a : ℕ). u16 s a ∷ []) (omega arith)
addresses-more (suc n) s at =
    ap (λ (xs : List ℕ). u16 s at ∷ xs) (addresses-more n s (at + 2) ∙ ap (λ (a : ℕ). addresses n s (at + 2) ++ (u16 s a ∷ [])) (omega arith))

pub output-more : (l m work s : List ℕ) (from i : ℕ) → m ≡ sets l 0 (map (word_at work) (addresses i s from))
    → set m i (word_at work (u16 s (from + 2 * i))) ≡ sets l 0 (map (word_at work) (addresses (i + 1) s from))
output-more l m work s from i e =
    one_more l m i (word_at work (u16 s (from + 2 * i))) (map (word_at work) (addresses i s from))
    (length-map (addresses i s from) (word_at work) ∙ addresses-length i s from) e
    ∙ ap (sets l 0)
    (sym
    (ap (λ (k : ℕ). map (word_at work) (addresses k s from)) (add-one i)
    ∙ ap (map (word_at work)) (addresses-more i s from)
    ∙ map-append (word_at work) (addresses i s from) (u16 s (from + 2 * i) ∷ [])))

pub address_below : (n : ℕ) (s : List ℕ) (at size i : ℕ) → Each (λ a. a < size) (addresses n s at) → i < n → u16 s (at + 2 * i) < size
address_below zero s at size i h l = absurd (omega arith)
address_below (suc n) s at size zero h l = subst (λ (a : ℕ). u16 s a < size) (omega arith) h.0
address_below (suc n) s at size (suc i) h l =
    subst (λ (a : ℕ). u16 s a < size) (omega arith) (address_below n s (at + 2) size i h.1 (omega arith))
