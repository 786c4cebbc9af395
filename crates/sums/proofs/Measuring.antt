-- The sizes of a function by its sums.
use Prim.Native.Nat.{ℕ, suc, ◌+◌, ◌*◌, ◌≤◌, ◌<◌, min}
use mathlib.Core.Path.{◌≡◌, refl, sym, ap, ◌∙◌, subst}
use mathlib.Core.Bool.{Bool, true, false, ◌&&◌, cond}
use mathlib.Core.List.{List, ◌∷◌}
use native.Mathlib.Omega.{arith}
use lib.Dec.{leb}
use lib.ListN.{length}
use borrow.Author.Tests.{leb-true, leb-false, le-leb, lt-leb}
use Rattle.base.specs.Limits.{operation_limit, within_limits, word_limit}
use Rattle.ports.specs.Ports.{widths}
use Rattle.graph.specs.Graph.{Function}
use Rattle.graph.specs.Types.{output_types}
use Rattle.graph.specs.Sums.{function_operations, operations_of, function_words, result_words, result_words_of}
use Rattle.graph.specs.Sound.{AllSound}
use Rattle.lowering.specs.Compile.{board_list_of}
use Rattle.bytecode.specs.declared.Version.TheVariants.{V1}
use Rattle.bytecode.specs.Code.{encode}
use Rattle.reader.specs.Layout.{function_at}
use Rattle.reader.specs.Find.{ReadsFunction}
use Rattle.sums.specs.declared.Sums.{Sums}
use Rattle.sums.specs.declared.PortWords.{PortWords}
use Rattle.sums.specs.Position.{place_of, function_in, before}
use Rattle.sums.specs.CodeSums.{function_instructions, function_bytes, instructions_of, bytes_of_function}
use Rattle.sums.specs.Capped.{operation_cap, word_cap, byte_cap, operations_at, result_words_at, instructions_at, bytes_at, own_sums, cap_sums, capped_sums}
use Rattle.sums.specs.Answers.{code_length, PortWordsAt, capped_sizes, Measures}
use Rattle.sums.proofs.CodeSizes.{encode-length}
use Rattle.sums.proofs.CodeLimits.{bytes_below}

-- ---- sums above a limit may be capped

pub leb-cap : (limit n : ℕ) → leb (min (suc limit) n) limit ≡ leb n limit
leb-cap limit n = by-limit (leb n limit) refl
  where
    by-limit : (b : Bool) → leb n limit ≡ b → leb (min (suc limit) n) limit ≡ leb n limit
    by-limit true e = let h : n ≤ limit = leb-true n limit e in le-leb (min (suc limit) n) limit (omega arith) ∙ sym e
    by-limit false e = let h : limit < n = leb-false n limit e in lt-leb (min (suc limit) n) limit (omega arith) ∙ sym e

module _ (early : List Function) (f : Function) (sound : AllSound (f ∷ early)) where
  code_is : (outputs : ℕ) → outputs ≡ widths (output_types f.outputs) → (a b : Bool) → leb (function_operations (operations_of early) f) operation_limit ≡ a
      → cond (a && b) (12 + min byte_cap (function_bytes (bytes_of_function early) f) + 2 * outputs) 0 ≡ cond (a && b) (length (encode V1 (board_list_of early f))) 0
  code_is outputs e true true q =
      ap (λ (n : ℕ). 12 + n + 2 * outputs) (bytes_below early f (leb-true _ operation_limit q))
      ∙ ap (λ (n : ℕ). 12 + function_bytes (bytes_of_function early) f + 2 * n) e
      ∙ sym (encode-length early f sound)
  code_is outputs e true false q = refl
  code_is outputs e false b q = refl

  -- the sizes by the capped sums
  pub sizes-are : (p o r w m b c a u : ℕ) → p ≡ f.place → o ≡ min operation_cap (function_operations (operations_of early) f)
      → r ≡ min word_cap (result_words (result_words_of early) f) → m ≡ min operation_cap (function_instructions (instructions_of early) f) → b ≡ min byte_cap (function_bytes (bytes_of_function early) f)
      → a ≡ widths f.inputs → u ≡ widths (output_types f.outputs) → w ≡ min word_cap (a + r) → c ≡ code_length o w b u
      → record { place = p; operations = o; words = w; instructions = m; bytes = b; code = c; arguments = a; outputs = u } ≡ capped_sizes early f
  unfolding code_length capped_sizes
  sizes-are p o r w m b c a u ep eo er em eb ea eu ew ec =
      let operations = function_operations (operations_of early) f in
      let fw : w ≡ min word_cap (function_words early f) = omega arith in
      let lo : leb o operation_limit ≡ leb operations operation_limit = ap (λ (n : ℕ). leb n operation_limit) eo ∙ leb-cap operation_limit operations in
      let lw : leb w word_limit ≡ leb (function_words early f) word_limit = ap (λ (n : ℕ). leb n word_limit) fw ∙ leb-cap word_limit (function_words early f) in
      let fc : c ≡ cond (within_limits operations (function_words early f)) (length (encode V1 (board_list_of early f))) 0 =
      ec ∙ rw (lo, lw, eb) (code_is u eu (leb operations operation_limit) (leb (function_words early f) word_limit) refl) in
      rw (ep, eo, fw, em, eb, fc, ea, eu)

-- ---- of the function at position k

module _ (s : List ℕ) (k : ℕ) where
  own-are : own_sums s k
      ≡ record {
        operations = function_operations (operations_of (before s k)) (function_in s k);
        words = result_words (result_words_of (before s k)) (function_in s k);
        instructions = function_instructions (instructions_of (before s k)) (function_in s k);
        bytes = function_bytes (bytes_of_function (before s k)) (function_in s k);
      }
  unfolding operations_at result_words_at instructions_at bytes_at
  own-are = refl

  place_is : place_of s k ≡ (function_in s k).place
  unfolding function_at
  place_is = refl

  pub measured-at : AllSound (function_in s k ∷ before s k) → ReadsFunction s (place_of s k) → (p w c : ℕ) (x : Sums) (t : PortWords)
      → p ≡ place_of s k → x ≡ capped_sums s k → PortWordsAt s p t → w ≡ min word_cap (t.inputs + x.words) → c ≡ code_length x.operations w x.bytes t.outputs
      → Measures s k (record { place = p; operations = x.operations; words = w; instructions = x.instructions; bytes = x.bytes; code = c; arguments = t.inputs; outputs = t.outputs })
  measured-at sound reads p w c x t ep ex pw ew ec =
      let e = ex ∙ ap cap_sums own-are in
      record {
        sizes =
            sizes-are (before s k) (function_in s k) sound p x.operations x.words w x.instructions x.bytes c t.inputs t.outputs (ep ∙ place_is)
            (ap (λ (y : Sums). y.operations) e) (ap (λ (y : Sums). y.words) e) (ap (λ (y : Sums). y.instructions) e) (ap (λ (y : Sums). y.bytes) e)
            (pw.inputs ∙ ap (λ (q : ℕ). widths (function_at s q).inputs) ep)
            (pw.outputs ∙ ap (λ (q : ℕ). widths (output_types (function_at s q).outputs)) ep) ew ec;
        reads = subst (ReadsFunction s) (sym ep) reads;
        arguments = pw.few.0;
        outputs = pw.few.1;
      }
