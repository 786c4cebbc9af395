-- The list in its new order reads words of the same origins as version 1's, and its outputs have the same origins.
use Prim.Native.Nat.{ℕ, zero, suc, ◌+◌, ◌≤◌, ◌<◌}
use mathlib.Core.Path.{◌≡◌, refl, ap, ap₂, sym, ◌∙◌, subst}
use mathlib.Core.List.{List, [], ◌∷◌, ◌++◌, map, append-nil, append_assoc, map-map}
use mathlib.Core.Option.{some}
use native.Mathlib.Omega.{arith}
use native.Mathlib.Nat.{add-zero, add-suc, suc-add}
use lib.ListN.{length, get_or, get_elem?}
use lib.Seq.{sets, length-sets}
use Rattle.ports.specs.Kinds.{kind_of}
use Rattle.ports.specs.Ports.{takes}
use Rattle.base.specs.Lists.{Each}
use Rattle.bytecode.specs.Run.{Instruction, BoardList}
use Rattle.bytecode.specs.Sequential.{next_word, AllFit}
use Rattle.bytecode.specs.Ranges.{Range}
use Rattle.bytecode.specs.Origin.{Origin, result, origin_at, operand_places, result_width, made, origins, after, start, Reading, readings, final, Numbered, final_of, Carries, Roomy}
use Rattle.bytecode.proofs.Origins.{start-length, Follows}
use Rattle.bytecode.proofs.Sequential.{fit-up}
use Rattle.placement.specs.Place.{Placed, top, renamed}
use Rattle.placement.specs.OneValue.{Placeable}
use Rattle.placement.specs.Balance.{blank, instruction_at}
use Rattle.placement.proofs.Carried.{final-keeps, stored-made, Keeps, keeps-store, same_reads, own-reads}
use Rattle.placement.proofs.Following.{own_origins, arguments-within, inputs-kept, follows-placed}
use Rattle.reordering.specs.Reorder.{Routing, reordered, Respects}
use Rattle.reordering.proofs.Ready.{H, all-along, arguments-in, below_top, some_words, moved, operand-count, none-ready, read-ready, all-ready, Holding, holding-next}

-- ---- version 1, by the numbers of its instructions

-- where the words of an instruction's result come from, from the end
result-origin : (is : List Instruction) (k next stop : ℕ) (o : List Origin) (m j : ℕ) → AllFit next is stop → stop ≤ length o → m < length is
    → j < result_width (get_or is m blank) → origin_at (final k is o) ((get_or is m blank).result + j) ≡ result (k + m) j
result-origin [] k next stop o m j f l h lt = absurd (omega arith)
result-origin (i ∷ is) k next stop o zero j (x, f) l h lt =
    let e : i.result ≡ next = x.result in
    let up : next_word next i ≤ stop = fit-up is (next_word next i) stop f in
    final-keeps is (suc k) (next_word next i) stop (after k i o) (i.result + j) f (omega arith)
    ∙ stored-made k i.result (result_width i) o j (omega arith) lt
    ∙ ap (λ (n : ℕ). result n j) (sym (add-zero k))
result-origin (i ∷ is) k next stop o (suc m) j (x, f) l h lt =
    let size = length-sets o i.result (made k (result_width i)) in
    result-origin is (suc k) (next_word next i) stop (after k i o) m j f (omega arith) (omega arith) lt
    ∙ ap (λ (n : ℕ). result n j) (suc-add k m ∙ sym (add-suc k m))

abbrev reading_of : (ℕ → Origin) → Instruction → Reading
reading_of F i = record { instruction = i; reads = map F (operand_places i) }

-- what it reads, from the end
reading-at : (is : List Instruction) (k next stop : ℕ) (o : List Origin) (m : ℕ) → AllFit next is stop → m < length is
    → get_elem? (readings k is o) m ≡ some (reading_of (origin_at (final k is o)) (get_or is m blank))
reading-at [] k next stop o m f h = absurd (omega arith)
reading-at (i ∷ is) k next stop o zero (x, f) h =
    let F = origin_at (final k (i ∷ is) o) in
    ap (λ (os : List Origin). some (record { instruction = i; reads = os }))
    (own-reads F o next (λ a l. sym (final-keeps (i ∷ is) k next stop o a (x, f) l)) (takes (kind_of i.kind) i.type) i.operands x.operands)
reading-at (i ∷ is) k next stop o (suc m) (x, f) h = reading-at is (suc k) (next_word next i) stop (after k i o) m f (omega arith)

module _ (inputs : List ℕ) (b : BoardList) (t : Placeable inputs b) (r : Routing) (s : Respects inputs b r) where
  abbrev places : List Placed
  places = H inputs b t r s

  abbrev F : ℕ → Origin
  F = own_origins inputs b t

  abbrev own : List Reading
  own = readings 0 b.instructions (start b.arguments b.words)

  -- each with its number in version 1
  abbrev pub numbered_by : ℕ → Numbered
  numbered_by k = record { number = k; instruction = renamed places (instruction_at b k) }

  keeps-next : (before : List ℕ) (k : ℕ) → k < length b.instructions → (o : List Origin) → top places ≤ length o → Holding inputs b t r s (Keeps F o) before
      → Holding inputs b t r s (Keeps F (after k (numbered_by k).instruction o)) (before ++ k ∷ [])
  keeps-next before k l o room h =
      let m = moved inputs b t r s k l in
      let i = instruction_at b k in
      let p = m.value in
      let (wide, one) = some_words inputs b t r s k m in
      let first : p.value.first ≡ i.result = ap (λ (x : Range). x.first) m.own in
      let high = below_top inputs b t r s p m.is in
      let size : b.words ≡ length (start b.arguments b.words) = sym (start-length b.arguments b.words (arguments-within inputs b t)) in
      let z : 0 + k ≡ k = omega arith in
      let o1 = sets o p.place (made k p.value.width) in
      let stored : o1 ≡ after k (numbered_by k).instruction o = ap₂ (λ (a n : ℕ). sets o a (made k n)) (sym m.place) wide in
      let new : Keeps F o1 p =
      λ j lt.
      stored-made k p.place p.value.width o j (omega arith) lt
      ∙ sym
      (ap (λ (a : ℕ). F (a + j)) first
      ∙ result-origin b.instructions 0 b.arguments b.words (start b.arguments b.words) k j t.fit (omega arith) l (omega arith)
      ∙ ap (λ (n : ℕ). result n j) z) in
      subst (λ (os : List Origin). Holding inputs b t r s (Keeps F os) (before ++ k ∷ [])) stored
      (holding-next inputs b t r s (Keeps F o) (Keeps F o1) before k m h (λ q a g. keeps-store F k p.place p.value.width o q a g) new)

  record Ends (rest : List ℕ) (o : List Origin) : Type 0 where
    carries : Carries own o (map numbered_by rest)
    kept : Holding inputs b t r s (Keeps F (final_of (map numbered_by rest) o)) r.order

  carried : (rest before : List ℕ) (o : List Origin) → r.order ≡ before ++ rest → Each (λ k. k < length b.instructions) rest → top places ≤ length o
      → Holding inputs b t r s (Keeps F o) before → Ends rest o
  carried [] before o e l room h = record { carries = tt; kept = subst (Holding inputs b t r s (Keeps F o)) (sym (e ∙ append-nil before)) h }
  carried (k ∷ rest) before o e (l, ls) room h =
      let i = instruction_at b k in
      let m = moved inputs b t r s k l in
      let ops = m.operands in
      let size = length-sets o (numbered_by k).instruction.result (made k (result_width i)) in
      let ends =
      carried rest (before ++ k ∷ []) (after k (numbered_by k).instruction o) (e ∙ sym (append_assoc before (k ∷ []) rest)) ls (omega arith) (keeps-next before k l o room h) in
      let reads : origins (numbered_by k).instruction o ≡ map F (operand_places i) =
      same_reads F places ops.values o (takes (kind_of i.kind) i.type) i.operands (all-along inputs b t r s).distinct ops.among ops.one
      (λ p j z. h p (ops.among p j) (read-ready inputs b t r s before rest k e p (ops.among p j) z)) in
      record {
        carries = (
          record {
            reading = reading_of F i;
            at = reading-at b.instructions 0 b.arguments b.words (start b.arguments b.words) k t.fit l;
            kind = refl;
            type = refl;
            constants = refl;
            same = reads;
          },
          ends.carries,
        );
        kept = ends.kept;
      }

  rooms : (rest : List ℕ) → Each (λ k. k < length b.instructions) rest → Each (λ x. Roomy (top places) x.instruction) (map numbered_by rest)
  rooms [] l = tt
  rooms (k ∷ rest) (l, ls) =
      let m = moved inputs b t r s k l in
      let (wide, one) = some_words inputs b t r s k m in
      let high = below_top inputs b t r s m.value m.is in
      let place = m.place in
      (record { legal = m.fit.legal; count = operand-count inputs b t r s k m; room = omega arith }, rooms rest ls)

  -- the list so written follows version 1's
  pub reordered-follows : Follows b (reordered inputs b r) (map numbered_by r.order)
  reordered-follows =
      let within = arguments-in inputs b t r s in
      let first = start b.arguments (top places) in
      let ends =
      carried r.order [] first refl s.within (omega (arith, start-length b.arguments (top places) within))
      (λ p i ready. inputs-kept inputs b t (top places) p (none-ready inputs b t r s p ready)) in
      follows-placed inputs b t places (all-along inputs b t r s) within (map (λ k. renamed places (instruction_at b k)) r.order) (map numbered_by r.order) (sym (map-map (λ x. x.instruction) numbered_by r.order))
      (rooms r.order s.within) ends.carries (λ p i z. ends.kept p i (all-ready inputs b t r s p i))
