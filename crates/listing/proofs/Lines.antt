-- The lines: how their parts join, and how long they are.
use Prim.Native.Nat.{ℕ, ◌+◌, ◌^◌, ◌≤◌, ◌<◌}
use mathlib.Core.Path.{◌≡◌, refl, sym, ap, ◌∙◌}
use mathlib.Core.Bool.{Bool, true, false, cond}
use mathlib.Core.List.{List, ◌++◌, append_assoc}
use native.Mathlib.Omega.{arith}
use lib.ListN.{length, length-append}
use lib.Dec.{leb}
use borrow.Author.Tests.{leb-true}
use Rattle.base.specs.Bytes.{byte, u16}
use Rattle.base.specs.Limits.{operation_limit, within_limits, word_limit}
use Rattle.lowering.specs.Listing.{decimal, newline, accepted_text, refused_text, at_text, function_text, inputs_text, outputs_text, nodes_text, operations_text, words_text, code_text, none_text, limited}
use Rattle.listing.specs.Lines.{head_text, counts_text, line_at, text_limit, first_limit, head_limit, counts_limit}
use Rattle.listing.proofs.Runs.{rooms}
use Rattle.listing.proofs.Digits.{decimal-length, decimal-most}

-- ---- the first line

-- a count of 64 bits has room
pub accepted-rooms : (count : ℕ) → count < 18446744073709551616
    → (0 + length (accepted_text ++ decimal count) ≤ text_limit) × (0 + length (accepted_text ++ decimal count ++ newline) ≤ first_limit)
accepted-rooms count h =
    let a = decimal-most count h in
    let p : length (accepted_text ++ decimal count) ≤ 29 = simp length-append (omega arith) in
    let q = length-append (accepted_text ++ decimal count) newline in
    (omega arith, omega arith)

pub refused-parts : {number n : ℕ} (place : ℕ) → n ≡ number → (refused_text ++ decimal n) ++ (at_text ++ decimal place) ++ newline ≡ refused_text ++ decimal number ++ at_text ++ decimal place ++ newline
refused-parts {number} {n} place e =
    ap (λ (m : ℕ). (refused_text ++ decimal m) ++ (at_text ++ decimal place) ++ newline) e
    ∙ ap (λ (xs : List ℕ). xs ++ newline) (sym (append_assoc (refused_text ++ decimal number) at_text (decimal place)))

-- ---- a function

-- room for the first parts of each half

pub head-rooms : (id inputs outputs nodes at : ℕ) {n : ℕ} → at + length (head_text id inputs outputs nodes) ≤ n
    → (at + length (function_text ++ decimal id) ≤ n)
    × (at + length ((function_text ++ decimal id) ++ (inputs_text ++ decimal inputs)) ≤ n)
    × (at + length ((function_text ++ decimal id) ++ (inputs_text ++ decimal inputs) ++ (outputs_text ++ decimal outputs)) ≤ n)
unfolding head_text
head-rooms id inputs outputs nodes at h =
    rooms (function_text ++ decimal id) (inputs_text ++ decimal inputs) (outputs_text ++ decimal outputs) (nodes_text ++ decimal nodes) at h

pub counts-rooms : (operations words code at : ℕ) {n : ℕ} → at + length (counts_text operations words code) ≤ n
    → (at + length (operations_text ++ limited operation_limit operations) ≤ n)
    × (at + length ((operations_text ++ limited operation_limit operations) ++ (words_text ++ limited word_limit words)) ≤ n)
    × (at + length ((operations_text ++ limited operation_limit operations) ++ (words_text ++ limited word_limit words) ++ (code_text ++ cond (within_limits operations words) (decimal code) none_text)) ≤ n)
unfolding counts_text
counts-rooms operations words code at h =
    rooms (operations_text ++ limited operation_limit operations) (words_text ++ limited word_limit words) (code_text ++ cond (within_limits operations words) (decimal code) none_text) newline at h

-- how long the halves are

pub head-length : (id inputs outputs nodes : ℕ) → id < 65536 → inputs < 256 → outputs < 256 → nodes < 65536
    → length (head_text id inputs outputs nodes) ≤ head_limit
unfolding head_text
head-length id inputs outputs nodes hi hn ho hc =
    let five : 10 ^ 5 ≡ 100000 = refl in
    let three : 10 ^ 3 ≡ 1000 = refl in
    let a = decimal-length id 5 (omega arith) (omega arith) in
    let b = decimal-length inputs 3 (omega arith) (omega arith) in
    let c = decimal-length outputs 3 (omega arith) (omega arith) in
    let d = decimal-length nodes 5 (omega arith) (omega arith) in
    simp length-append (omega arith)

limited-length : (limit n : ℕ) → limit < 10000 → length (limited limit n) ≤ 4
limited-length limit n h = by-limit (leb n limit) refl
  where
    by-limit : (b : Bool) → leb n limit ≡ b → length (limited limit n) ≤ 4
    by-limit true e =
        let four : 10 ^ 4 ≡ 10000 = refl in
        let k : n ≤ limit = leb-true n limit e in
        rw e (decimal-length n 4 (omega arith) (omega arith))
    by-limit false e = rw e (omega arith)

shown-length : (b : Bool) (n : ℕ) → n < 18446744073709551616 → length (cond b (decimal n) none_text) ≤ 20
shown-length true n h = decimal-most n h
shown-length false n h = omega arith

pub counts-length : (operations words code : ℕ) → code < 18446744073709551616 → length (counts_text operations words code) ≤ counts_limit
unfolding counts_text
counts-length operations words code h =
    let a = limited-length operation_limit operations (omega arith) in
    let b = limited-length word_limit words (omega arith) in
    let c = shown-length (within_limits operations words) code h in
    simp length-append (omega arith)

-- the line at a place, from what is read there
pub line-is : (s : List ℕ) (p operations words code : ℕ) {id inputs outputs nodes : ℕ} → id ≡ u16 s p → inputs ≡ byte s (p + 2) → outputs ≡ byte s (p + 3) → nodes ≡ u16 s (p + 4)
    → head_text id inputs outputs nodes ++ counts_text operations words code ≡ line_at s p operations words code
unfolding line_at
line-is s p operations words code a b c d = rw (a, b, c, d)
