-- What a run of a well formed list of either version leaves as it was: the memory's length, and every word that is no argument's and that no
-- instruction writes; so every word from the word count on.
use Prim.Native.Nat.{ℕ, ◌+◌, ◌≤◌, ◌<◌}
use mathlib.Core.Path.{◌≡◌, refl, ap, ◌∙◌}
use mathlib.Core.Bool.{false}
use mathlib.Core.List.{List, [], ◌∷◌}
use mathlib.Core.Logic.{◌⊎◌, inl, inr}
use native.Mathlib.Omega.{arith}
use native.Mathlib.Nat.{le_refl}
use lib.Dec.{leb, ltb}
use lib.ListN.{length}
use lib.Seq.{sets, length-sets}
use borrow.Author.Tests.{leb-false, ltb-false, le-ltb}
use Rattle.base.specs.Lists.{word_at, Each}
use Rattle.base.proofs.Bools.{and-inv-false, and-false}
use Rattle.base.proofs.Stores.{sets_below, sets-above}
use Rattle.value.specs.Values.{all_words}
use Rattle.bytecode.specs.Run.{Instruction, BoardList, given, execute, execute_all, run}
use Rattle.bytecode.specs.Origin.{result_width}
use Rattle.bytecode.specs.Ranges.{Range, end, inside, behind, result_value}
use Rattle.bytecode.specs.declared.Version.{Version}
use Rattle.bytecode.specs.Code.{argument_words}
use Rattle.bytecode.specs.WellFormed.{written_by, Formed, AllFormed, FormedList}
use Rattle.bytecode.proofs.Origins.{given-words, given-width, execute-length}

pub executed-length : (is : List Instruction) (m : List ℕ) → length (execute_all is m) ≡ length m
executed-length [] m = refl
executed-length (i ∷ is) m = executed-length is (execute i m) ∙ execute-length i m

-- the memory keeps its length
pub run_length : (b : BoardList) (arguments m : List ℕ) → length (run b arguments m).memory ≡ length m
run_length b arguments m = executed-length b.instructions (sets m 0 arguments) ∙ length-sets m 0 arguments

outside : (r : Range) (a : ℕ) → inside r a ≡ false → (a < r.first) ⊎ (end r ≤ a)
outside r a e = pick (and-inv-false (leb r.first a) (ltb a (end r)) e)
  where
    pick : (leb r.first a ≡ false) ⊎ (ltb a (end r) ≡ false) → (a < r.first) ⊎ (end r ≤ a)
    pick (inl x) = inl (leb-false r.first a x)
    pick (inr x) = inr (ltb-false a (end r) x)

-- ---- words behind the highest

written-up : (written : List Range) (is : List Instruction) → behind written ≤ behind (written_by written is)
written-up written [] = omega arith
written-up written (i ∷ is) = let h = written-up (result_value i ∷ written) is in omega arith

written-above : (written : List Range) (is : List Instruction) (a : ℕ) → behind (written_by written is) ≤ a → Each (λ i. inside (result_value i) a ≡ false) is
written-above written [] a l = tt
written-above written (i ∷ is) a l =
    let up = written-up (result_value i ∷ written) is in
    (rw (le-ltb a (end (result_value i)) (omega arith)) (and-false (leb i.result a)), written-above (result_value i ∷ written) is a l)

-- ---- the run

module _ (v : Version) where
  execute-keeps : (written : List Range) (i : Instruction) (m : List ℕ) (a : ℕ) → Formed v written i → inside (result_value i) a ≡ false
      → word_at (execute i m) a ≡ word_at m a
  unfolding execute
  execute-keeps written i m a f e =
      let size : length (all_words (given i m)) ≡ result_width i =
      ap (λ vs. length (all_words vs)) (given-words i m f.arity)
      ∙ given-width (end (result_value i)) i _ (record { legal = f.legal; count = f.arity; room = le_refl (end (result_value i)) }) in
      pick size (outside (result_value i) a e)
    where
      pick : length (all_words (given i m)) ≡ result_width i → (a < i.result) ⊎ (i.result + result_width i ≤ a)
          → word_at (sets m i.result (all_words (given i m))) a ≡ word_at m a
      pick size (inl l) = sets_below (all_words (given i m)) m i.result a l
      pick size (inr l) = sets-above (all_words (given i m)) m i.result a (omega arith)

  all_keep : (written : List Range) (is : List Instruction) (m : List ℕ) (a : ℕ) → AllFormed v written is
      → Each (λ i. inside (result_value i) a ≡ false) is → word_at (execute_all is m) a ≡ word_at m a
  all_keep written [] m a f e = refl
  all_keep written (i ∷ is) m a (x, f) (y, e) = all_keep (result_value i ∷ written) is (execute i m) a f e ∙ execute-keeps written i m a x y

  module _ (b : BoardList) (f : FormedList v b) (arguments m : List ℕ) (count : length arguments ≡ b.arguments) (a : ℕ) where
    -- a word that no instruction writes and that is no argument's
    pub unwritten-stays : b.arguments ≤ a → Each (λ i. inside (result_value i) a ≡ false) b.instructions
        → word_at (run b arguments m).memory a ≡ word_at m a
    unwritten-stays l e =
        all_keep (argument_words b.arguments) b.instructions (sets m 0 arguments) a f.instructions e
        ∙ sets-above arguments m 0 a (omega arith)

    -- a word from the word count on
    pub above-stays : b.words ≤ a → word_at (run b arguments m).memory a ≡ word_at m a
    above-stays l =
        let written = argument_words b.arguments in
        let up = written-up written b.instructions in
        let high : behind (written_by written b.instructions) ≡ b.words = f.highest in
        unwritten-stays (omega arith) (written-above written b.instructions a (omega arith))
