-- 02, request 11: a version 2 list that a router proposes, judged against version 1's list by the origins of its words. `numbers` has, for each
-- instruction of the proposed list, the number of the instruction of version 1's list that it carries out.
use Rattle.std.specs.Prelude.{ℕ, suc, Bool, true, false, not, ◌&&◌, List, [], ◌∷◌, map, eqb, length}
use Rattle.std.proofs.Math.Option.{Option, none, some}
use Rattle.std.proofs.Math.ListN.{get_elem?}
use Rattle.base.specs.Lists.{member}
use Rattle.base.specs.Outcome.{Outcome, ok, ◌>>=◌, ◌>>◌, need}
use Rattle.bytecode.specs.Run.{Instruction, BoardList}
use Rattle.bytecode.specs.Origin.{Origin, unwritten, argument, result, origin_at, origins, after, start, Reading, readings, final, Numbered}

-- ---- tests of sameness

abbrev pub same_origin : Origin → Origin → Bool
same_origin unwritten unwritten = true
same_origin unwritten (argument j) = false
same_origin unwritten (result m j) = false
same_origin (argument i) unwritten = false
same_origin (argument i) (argument j) = eqb i j
same_origin (argument i) (result m j) = false
same_origin (result k i) unwritten = false
same_origin (result k i) (argument j) = false
same_origin (result k i) (result m j) = eqb k m && eqb i j

abbrev pub alike : {A : Type 0} → (A → A → Bool) → List A → List A → Bool
alike same [] [] = true
alike same [] (y ∷ ys) = false
alike same (x ∷ xs) [] = false
alike same (x ∷ xs) (y ∷ ys) = same x y && alike same xs ys

-- ---- one instruction after the other

-- the same kind, type and constants as the instruction of version 1, on words of the same origins; none has that number
abbrev pub carries_out : List Origin → Instruction → Option Reading → Bool
carries_out o i none = false
carries_out o i (some r) =
    eqb i.kind r.instruction.kind && eqb i.type r.instruction.type && alike eqb i.constants r.instruction.constants
    && alike same_origin (origins i o) r.reads

-- from instruction k on, where the numbers `seen` stand before it: the origins at the end, or 29 with the first instruction at fault
abbrev pub follow : List Reading → ℕ → List ℕ → List Origin → List Numbered → Outcome (List Origin)
follow rs k seen o [] = ok o
follow rs k seen o (x ∷ xs) =
    need (not (member x.number seen) && carries_out o x.instruction (get_elem? rs x.number)) 29 k
    >> follow rs (suc k) (x.number ∷ seen) (after x.number x.instruction o) xs

-- each instruction with its number
abbrev pub paired : List ℕ → List Instruction → List Numbered
paired [] is = []
paired (k ∷ ks) [] = []
paired (k ∷ ks) (i ∷ is) = record { number = k; instruction = i } ∷ paired ks is

-- ---- the whole

-- what version 1 reads, instruction by instruction, and where its words come from in the end
abbrev pub own_readings : BoardList → List Reading
own_readings b = readings 0 b.instructions (start b.arguments b.words)

abbrev pub own_origins : BoardList → List Origin
own_origins b = final 0 b.instructions (start b.arguments b.words)

-- 29, for lists of the same counts: the instructions, then the outputs; the answer is the instruction count
abbrev pub followed : BoardList → BoardList → List ℕ → Outcome ℕ
followed b b' numbers =
    follow (own_readings b) 0 [] (start b.arguments b'.words) (paired numbers b'.instructions)
    >>= λ end.
    need (alike same_origin (map (origin_at end) b'.outputs) (map (origin_at (own_origins b)) b.outputs)) 29 (length b.instructions)
    >> ok (length b.instructions)

-- argument words, output words, instructions and numbers are as many as version 1 has
abbrev pub same_counts : BoardList → BoardList → List ℕ → Bool
same_counts b b' numbers =
    eqb b'.arguments b.arguments && eqb (length b'.outputs) (length b.outputs) && eqb (length b'.instructions) (length b.instructions)
    && eqb (length numbers) (length b.instructions)

-- 33, then 29
abbrev pub judged : BoardList → BoardList → List ℕ → Outcome ℕ
judged b b' numbers = need (same_counts b b' numbers) 33 0 >> followed b b' numbers
