-- The list in its new order is well formed in version 2: whatever an instruction reads is written before it, and the highest word written is the
-- highest word of a value.
use Prim.Native.Nat.{ℕ, ◌+◌, ◌-◌, ◌≤◌, ◌<◌}
use mathlib.Core.Path.{◌≡◌, refl, sym, ◌∙◌, subst}
use mathlib.Core.Bool.{true}
use mathlib.Core.List.{List, [], ◌∷◌, ◌++◌, map, append-nil, append_assoc}
use mathlib.Core.Logic.{inl, inr}
use native.Mathlib.Omega.{arith}
use lib.ListN.{length, length-map}
use Rattle.ports.specs.Kinds.{kind_of}
use Rattle.ports.specs.Ports.{takes}
use Rattle.base.specs.Limits.{operation_limit, word_limit, port_word_limit, address_limit}
use Rattle.base.specs.Lists.{Each, Is}
use Rattle.base.proofs.Bools.{or_left, or_right}
use Rattle.base.proofs.Lists.{each_in, each-less}
use Rattle.bytecode.specs.declared.Version.TheVariants.{V2}
use Rattle.bytecode.specs.Run.{Instruction, BoardList}
use Rattle.bytecode.specs.Code.{readable, argument_words}
use Rattle.bytecode.specs.Ranges.{Range, end, inside, behind, result_value}
use Rattle.bytecode.specs.WellFormed.{written_by, AllFormed, FormedList}
use Rattle.bytecode.proofs.Readable.{readable-behind, is-inside}
use Rattle.placement.specs.Place.{Placed, words, top, rename, renamed}
use Rattle.placement.specs.OneValue.{Placeable}
use Rattle.placement.specs.Balance.{instruction_at}
use Rattle.placement.proofs.Words.{operands-below, operands-each}
use Rattle.lowering.proofs.Fits.{Written, arguments-written, placed-formed}
use Rattle.reordering.specs.Reorder.{Routing, reordered, Respects}
use Rattle.reordering.proofs.Numbers.{few}
use Rattle.reordering.proofs.Ready.{H, all-along, arguments-in, below_top, some_words, moved, operand-count, all-wide, none-ready, read-ready, all-ready, Holding, holding-next}

pub top-most : (ps : List Placed) (n : ℕ) → ((p : Placed) → Is p ps → end (words p) ≤ n) → top ps ≤ n
top-most [] n h = omega arith
top-most (p ∷ ps) n h =
    let a : end (words p) ≤ n = h p (inl refl) in
    let c : top ps ≤ n = top-most ps n (λ q i. h q (inr i)) in
    omega arith

module _ (inputs : List ℕ) (b : BoardList) (t : Placeable inputs b) (r : Routing) (s : Respects inputs b r) where
  abbrev places : List Placed
  places = H inputs b t r s

  abbrev moved_to : ℕ → Instruction
  moved_to k = renamed places (instruction_at b k)

  pub within-words : top places ≤ word_limit
  within-words = top-most places word_limit (each_in (λ p. end (words p) ≤ word_limit) places s.below)

  written_next : (before : List ℕ) (k : ℕ) → k < length b.instructions → (written : List Range) → Holding inputs b t r s (Written written) before
      → Holding inputs b t r s (Written (result_value (moved_to k) ∷ written)) (before ++ k ∷ [])
  written_next before k l written h =
      let m = moved inputs b t r s k l in
      let (wide, one) = some_words inputs b t r s k m in
      let place = m.place in
      holding-next inputs b t r s (Written written) (Written (result_value (moved_to k) ∷ written)) before k m h
      (λ q a g j lt. or_right (inside (result_value (moved_to k)) (q.place + j)) _ (g j lt))
      (λ j lt. or_left _ _ (is-inside (result_value (moved_to k)) (m.value.place + j) (omega arith) (omega arith)))

  record Fitted (rest : List ℕ) (written : List Range) : Type 0 where
    formed : AllFormed V2 written (map moved_to rest)
    all : Holding inputs b t r s (Written (written_by written (map moved_to rest))) r.order
    most : behind (written_by written (map moved_to rest)) ≤ top places

  fitted : (rest before : List ℕ) (written : List Range) → r.order ≡ before ++ rest → Each (λ k. k < length b.instructions) rest → behind written ≤ top places
      → Holding inputs b t r s (Written written) before → Fitted rest written
  fitted [] before written e l high h = record { formed = tt; all = subst (Holding inputs b t r s (Written written)) (sym (e ∙ append-nil before)) h; most = high }
  fitted (k ∷ rest) before written e (l, ls) high h =
      let i = instruction_at b k in
      let m = moved inputs b t r s k l in
      let ops = m.operands in
      let ts = takes (kind_of i.kind) i.type in
      let distinct = (all-along inputs b t r s).distinct in
      let (wide, one) = some_words inputs b t r s k m in
      let place = m.place in
      let up = below_top inputs b t r s m.value m.is in
      let limit = within-words in
      let more =
      fitted rest (before ++ k ∷ []) (result_value (moved_to k) ∷ written) (e ∙ sym (append_assoc before (k ∷ []) rest)) ls (omega arith) (written_next before k l written h) in
      record {
        formed = (
          record {
            legal = m.fit.legal;
            arity = operand-count inputs b t r s k m;
            small = each-less (map (rename places) i.operands) (top places) address_limit (omega arith)
                (operands-below places distinct ops.values ts i.operands ops.among ops.one);
            reads = operands-each places distinct (λ a. readable V2 written a ≡ true) ops.values ts i.operands ops.among ops.one
                (λ p j z. h p (ops.among p j) (read-ready inputs b t r s before rest k e p (ops.among p j) z));
            count = m.fit.count;
            words = m.fit.words;
            constants = m.fit.constants;
            result = omega arith;
          },
          more.formed,
        );
        all = more.all;
        most = more.most;
      }

  -- where version 1's counts are within the limits
  pub reordered-formed : b.arguments ≤ port_word_limit → 1 ≤ length b.outputs → length b.outputs ≤ port_word_limit → length b.instructions ≤ operation_limit
      → FormedList V2 (reordered inputs b r)
  reordered-formed la lo ho lc =
      let f =
      fitted r.order [] (argument_words b.arguments) refl s.within (omega (arith, arguments-in inputs b t r s))
      (λ p i ready. arguments-written inputs b t p (none-ready inputs b t r s p ready)) in
      let last = written_by (argument_words b.arguments) (map moved_to r.order) in
      let written : (p : Placed) → Is p places → Written last p = λ p i. f.all p i (all-ready inputs b t r s p i) in
      -- the last word of each value is written
      let least : top places ≤ behind last =
      top-most places (behind last)
      (λ p i.
      let one = all-wide inputs b t r s p i in
      let h = readable-behind V2 last (p.place + (p.value.width - 1)) (written p i (p.value.width - 1) (omega arith)) in
      omega arith) in
      let most = f.most in
      let size : length (map moved_to r.order) ≡ length r.order = length-map r.order moved_to in
      let some = few (length b.instructions) r.order s.within s.once in
      placed-formed inputs b t places (all-along inputs b t r s) (map moved_to r.order) f.formed written (omega arith) la lo ho (omega arith) within-words
