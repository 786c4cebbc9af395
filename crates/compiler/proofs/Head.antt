-- What the head of an accepted function says: where it begins, and how many inputs and outputs it has.
use Prim.Native.Nat.{ℕ, suc, ◌+◌, ◌≤◌, ◌<◌}
use mathlib.Core.Path.{◌≡◌, ap, ◌∙◌, sym}
use mathlib.Core.List.{List}
use native.Mathlib.Omega.{arith}
use lib.ListN.{length, get_or}
use Rattle.base.specs.Limits.{function_limit}
use Rattle.base.specs.Bytes.{byte}
use Rattle.reader.specs.Layout.{input_count, output_count, outputs_place}
use Rattle.reader.proofs.Passed.{Holds, function-holds}
use Rattle.sums.specs.Position.{place_of, function_in, Accepted, Started}
use Rattle.sums.proofs.Accepted.{few, few-ports}
use Rattle.compiler.proofs.Assembly.{inputs-counted}

pub low : (s : List ℕ) (k : ℕ) → Accepted s (suc k) → k < function_limit
low s k a = let l = few s (suc k) a in omega arith

module _ {s starts : List ℕ} {k : ℕ} (b : Started s starts (suc k)) where
  pub place : get_or starts k 0 ≡ place_of s k
  place = b.places k (omega arith)

  pub holds : Holds s (place_of s k)
  holds = function-holds s (place_of s k) (b.reads k (omega arith))

  pub input-count : {n : ℕ} → n ≡ byte s (get_or starts k 0 + 2) → (n ≡ input_count s (place_of s k)) × (n ≤ 8)
  input-count {n} e =
      let x : n ≡ input_count s (place_of s k) = e ∙ ap (λ (q : ℕ). byte s (q + 2)) place in
      let f = (few-ports s (place_of s k) (b.reads k (omega arith))).0 in
      (x, omega arith)

  pub output-count : {n : ℕ} → n ≡ byte s (get_or starts k 0 + 3) → (n ≡ output_count s (place_of s k)) × (n ≤ 8)
  output-count {n} e =
      let x : n ≡ output_count s (place_of s k) = e ∙ ap (λ (q : ℕ). byte s (q + 3)) place in
      let f = (few-ports s (place_of s k) (b.reads k (omega arith))).1 in
      (x, omega arith)

  pub inputs : {n : ℕ} → n ≡ byte s (get_or starts k 0 + 2) → n ≡ length (function_in s k).inputs
  inputs e = (input-count e).0 ∙ sym (inputs-counted s k)

  -- the entries of the outputs stand behind the types of the inputs
  pub entries : {n : ℕ} → n ≡ byte s (get_or starts k 0 + 2) → get_or starts k 0 + 6 + n ≡ outputs_place s (place_of s k)
  entries e = let p = place in let n = (input-count e).0 in omega arith
