-- The header and the output words, in plain terms.
use Prim.Native.Nat.{ℕ, zero, suc, ◌+◌, ◌-◌, ◌*◌, ◌/◌, ◌%◌, ◌≤◌, ◌<◌}
use mathlib.Core.Path.{◌≡◌, refl, sym, ap, ◌∙◌}
use mathlib.Core.List.{List, [], ◌∷◌, ◌++◌, map, append_assoc}
use native.Mathlib.Omega.{arith}
use lib.ListN.{length, get_or, set, drop}
use lib.Seq.{sets}
use Rattle.ports.specs.Ports.{width, widths}
use Rattle.base.specs.Limits.{address_limit}
use Rattle.base.specs.Lists.{span}
use Rattle.base.specs.Bytes.{byte, bytes_of, all_bytes}
use Rattle.bytecode.specs.Run.{spans}
use Rattle.bytecode.specs.Code.{header_code}
use Rattle.sums.specs.Answers.{types_by}
use Rattle.base.proofs.Stands.{cons}
use Rattle.base.proofs.Stores.{sets-append, Run, run-start, run_more, run-done, none_left}
use Rattle.compiler.proofs.Filling.{types-next, map-next}

-- ---- the header

pub header-stored : (code : List ℕ) {code' code'' : List ℕ} (x a o n w : ℕ)
    → code' ≡ sets (set (set (set (set (set (set (set (set code 0 0x49) 1 0x46) 2 0x52) 3 x) 4 0) 5 a) 6 o) 7 0) 8 (bytes_of 2 n) → code'' ≡ sets code' 10 (bytes_of 2 w)
    → code'' ≡ sets code 0 (header_code x a o n w)
header-stored code x a o n w e f =
    f ∙ ap (λ (l : List ℕ). sets l 10 (bytes_of 2 w)) e
    ∙ sym (sets-append (bytes_of 2 n) (bytes_of 2 w) (set (set (set (set (set (set (set (set code 0 0x49) 1 0x46) 2 0x52) 3 x) 4 0) 5 a) 6 o) 7 0) 8)

-- ---- the output words

bytes-append : (xs ys : List ℕ) → all_bytes 2 (xs ++ ys) ≡ all_bytes 2 xs ++ all_bytes 2 ys
bytes-append [] ys = refl
bytes-append (x ∷ xs) ys = ap (λ (zs : List ℕ). bytes_of 2 x ++ zs) (bytes-append xs ys) ∙ sym (append_assoc (bytes_of 2 x) (all_bytes 2 xs) (all_bytes 2 ys))

span-bytes : (a n : ℕ) → length (all_bytes 2 (span a n)) ≡ 2 * n
span-bytes a zero = refl
span-bytes a (suc n) = let e : length (all_bytes 2 (span (suc a) n)) ≡ 2 * n = span-bytes (suc a) n in omega arith

byte-beyond : (q a b : ℕ) → b ≡ 256 * q + a → a % 256 ≡ b % 256
byte-beyond q a b e = omega arith

-- an address has two bytes; what is beyond them is not written
pub address-bytes : (x : ℕ) → bytes_of 2 (x % address_limit) ≡ bytes_of 2 x
address-bytes x =
    let e : x / 256 ≡ 256 * (x / address_limit) + x % address_limit / 256 = omega arith in
    cons (omega arith) (cons (byte-beyond (x / address_limit) (x % address_limit / 256) (x / 256) e) refl)

-- g of each address is written, where f gives the address of a location
module _ (s : List ℕ) (f g : ℕ → ℕ) (xs : List ℕ) (entries : ℕ) (code₀ : List ℕ) (at : ℕ) where
  abbrev types : ℕ → List ℕ
  types j = types_by 4 (length xs - j) s (entries + 4 * j)

  -- the first j outputs are written
  pub record Outgoing (code : List ℕ) (here j : ℕ) : Type 0 where
    pub end : here + 2 * widths (types j) ≡ at + 2 * widths (types_by 4 (length xs) s entries)
    pub run : Run (all_bytes 2 (spans (types_by 4 (length xs) s entries) (map g (map f xs)))) code₀ at code here (all_bytes 2 (spans (types j) (map g (map f (drop j xs)))))

  pub out-start : Outgoing code₀ at 0
  out-start =
      let z : length xs - 0 ≡ length xs = omega arith in
      let y : entries + 0 ≡ entries = omega arith in
      record { end = rw (z, y) refl; run = run-start refl (rw (z, y)) }

module _ {s : List ℕ} {f g : ℕ → ℕ} {xs : List ℕ} {entries : ℕ} {code₀ : List ℕ} {at : ℕ} {code : List ℕ} {here j : ℕ} (h : Outgoing s f g xs entries code₀ at code here j) where
  types-step : j < length xs → types_by 4 (length xs - j) s (entries + 4 * j) ≡ byte s (entries + 4 * j) ∷ types_by 4 (length xs - (j + 1)) s (entries + 4 * (j + 1))
  types-step lt =
      let z : entries + 4 * j + 4 ≡ entries + 4 * (j + 1) = omega arith in
      types-next 4 s (entries + 4 * j) lt ∙ ap (λ (q : ℕ). byte s (entries + 4 * j) ∷ types_by 4 (length xs - (j + 1)) s q) z

  -- the words of the output at hand
  pub out-room : j < length xs → {w : ℕ} → w ≡ width (byte s (entries + 4 * j)) → here + 2 * w ≤ at + 2 * widths (types_by 4 (length xs) s entries)
  out-room lt ew = let e = ap widths (types-step lt) in let d = h.end in omega arith

  pub out_step : j < length xs → {w : ℕ} → w ≡ width (byte s (entries + 4 * j)) → {a : ℕ} → a ≡ g (f (get_or xs j 0)) → {code' : List ℕ} → code' ≡ sets code here (all_bytes 2 (span a w))
      → Outgoing s f g xs entries code₀ at code' (here + 2 * w) (j + 1)
  out_step lt {w} ew {a} ea {code'} ec =
      let later = map g (map f (drop (j + 1) xs)) in
      let rest = spans (types_by 4 (length xs - (j + 1)) s (entries + 4 * (j + 1))) later in
      let now : map g (map f (drop j xs)) ≡ a ∷ later =
      ap (map g) (map-next f xs lt refl) ∙ ap (λ (x : ℕ). x ∷ later) (sym ea) in
      let next : spans (types_by 4 (length xs - j) s (entries + 4 * j)) (map g (map f (drop j xs))) ≡ span a w ++ rest =
      ap (λ (ts : List ℕ). spans ts (map g (map f (drop j xs)))) (types-step lt)
      ∙ ap (spans (byte s (entries + 4 * j) ∷ types_by 4 (length xs - (j + 1)) s (entries + 4 * (j + 1)))) now
      ∙ ap (λ (x : ℕ). span a x ++ rest) (sym ew) in
      record {
        end = let e = ap widths (types-step lt) in let d = h.end in omega arith;
        run = run_more h.run (all_bytes 2 (span a w)) (ap (all_bytes 2) next ∙ bytes-append (span a w) rest) ec (ap (λ (x : ℕ). here + x) (sym (span-bytes a w)));
      }

  pub out-done : length xs ≤ j → code ≡ sets code₀ at (all_bytes 2 (spans (types_by 4 (length xs) s entries) (map g (map f xs))))
  out-done le = run-done h.run (ap (λ (ts : List ℕ). all_bytes 2 (spans ts (map g (map f (drop j xs))))) (none_left (λ m. types_by 4 m s (entries + 4 * j)) le refl))
