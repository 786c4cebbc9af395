-- What is promised of the answer. A list that is accepted follows version 1's, and so serves the function as that does; our own list and those of
-- request 10 follow it too, and so are accepted.
use Prim.Native.Nat.{ℕ, suc, ◌≤◌}
use mathlib.Core.Path.{◌≡◌, refl, ap, sym, ◌∙◌, subst}
use mathlib.Core.List.{List, [], ◌∷◌, map}
use mathlib.Core.Logic.{◌↔◌}
use native.Mathlib.Omega.{arith}
use lib.ListN.{length, length-map}
use Rattle.base.specs.Bytes.{Bytes}
use Rattle.base.specs.Lists.{span}
use Rattle.base.specs.Outcome.{ok, fault}
use Rattle.base.proofs.Lists.{span-length}
use Rattle.base.proofs.Outcomes.{stops}
use Rattle.graph.specs.Graph.{Function}
use Rattle.graph.specs.Table.{Chosen}
use Rattle.bytecode.specs.declared.Version.TheVariants.{V1, V2}
use Rattle.bytecode.specs.Run.{Instruction, BoardList}
use Rattle.bytecode.specs.Origin.{Numbered}
use Rattle.bytecode.specs.Code.{encode}
use Rattle.bytecode.specs.WellFormed.{FormedList, Codes}
use Rattle.bytecode.specs.Answers.{ran}
use Rattle.bytecode.proofs.Origins.{Follows}
use Rattle.placement.specs.Place.{places_of, rename, renamed, numbered}
use Rattle.placement.specs.Balance.{instruction_at}
use Rattle.placement.specs.OneValue.{Placeable}
use Rattle.placement.proofs.Following.{fewer-words, routed}
use Rattle.lowering.specs.Answers.{list_of, words_of, code_of, compilable}
use Rattle.lowering.specs.Demand3.{Within}
use Rattle.lowering.proofs.Routed.{follows-means}
use Rattle.lowering.proofs.Taken.{Serves}
use Rattle.lowering.proofs.Lawful.{lawful, placeable}
use Rattle.lowering.proofs.Whole.{sound, laws}
use Rattle.reordering.specs.Reorder.{Routing, routed_places, Respects}
use Rattle.reordering.specs.AnyOrder.{list_by}
use Rattle.reordering.proofs.Numbers.{few, many}
use Rattle.reordering.proofs.Carried.{reordered-follows}
use Rattle.reordering.proofs.Own.{span-once}
use Rattle.reordering.proofs.Whole.{reordered-serves, serves-taken}
use Rattle.validator.specs.Judge.{paired}
use Rattle.validator.specs.Accepts.{Accepts}
use Rattle.validator.proofs.Deciding.{decided-ok, accepted-follows, follows-accepted}
use Rattle.acceptance.specs.Answers.{judged_placement}
use Rattle.acceptance.specs.Promise.{RunsAlike, Promise}
use Rattle.acceptance.proofs.Exactly.{placement-of, decides, placement-within}

-- ---- instructions with their numbers

paired-own : (is : List Instruction) (k : ℕ) → paired (span k (length is)) is ≡ numbered k is
paired-own [] k = refl
paired-own (i ∷ is) k = ap (λ (xs : List Numbered). record { number = k; instruction = i } ∷ xs) (paired-own is (suc k))

paired-map : (g : ℕ → Instruction) (ks : List ℕ) → paired ks (map g ks) ≡ map (λ k. record { number = k; instruction = g k }) ks
paired-map g [] = refl
paired-map g (k ∷ ks) = ap (λ (xs : List Numbered). record { number = k; instruction = g k } ∷ xs) (paired-map g ks)

module _ (s : List ℕ) (c : ℕ) (functions : List Function) (x : Chosen) (w : Within s c 1 functions V1 x) where
  list-placeable : Placeable x.function.inputs (list_of V1 x)
  list-placeable = placeable x.early x.function (sound s c 1 functions V1 x w)

  -- ---- a list that is accepted

  accepted-serves : (code numbers : List ℕ) (b : BoardList) → Codes V2 code b → Accepts (list_of V1 x) b numbers → Serves V2 x b
  accepted-serves code numbers b h a =
      let t = list-placeable in
      record {
        formed = h.formed;
        arguments = a.counted.arguments;
        outputs = a.counted.outputs ∙ (laws s c 1 functions V1 x w).outputs;
        means = follows-means x (sound s c 1 functions V1 x w) b (paired numbers b.instructions)
            (accepted-follows (list_of V1 x) b numbers t.fit t.below h.formed a);
      }

  -- ---- lists that are accepted

  pub own-accepted : judged_placement s c (code_of V2 x) (span 0 (length (list_of V1 x).instructions)) ≡ ok (length (list_of V1 x).instructions)
  own-accepted =
      let inputs = x.function.inputs in
      let b = list_of V1 x in
      let b' = list_of V2 x in
      let n = length b.instructions in
      let t = list-placeable in
      let size : b.words ≡ words_of V1 x = (laws s c 1 functions V1 x w).words in
      let fewer : b'.words ≤ b.words = fewer-words inputs b t in
      let formed : FormedList V2 b' = (lawful V2 x (sound s c 1 functions V1 x w)).formed w.operations (omega (arith, w.words)) in
      let count : length b'.instructions ≡ n = length-map b.instructions (renamed (places_of inputs b)) in
      let outputs : length b'.outputs ≡ length b.outputs = length-map b.outputs (rename (places_of inputs b)) in
      let numbers : paired (span 0 n) b'.instructions ≡ numbered 0 b'.instructions =
      ap (λ (m : ℕ). paired (span 0 m) b'.instructions) (sym count) ∙ paired-own b'.instructions 0 in
      let follows : Follows b b' (paired (span 0 n) b'.instructions) = subst (Follows b b') (sym numbers) (routed inputs b t) in
      placement-of s c (code_of V2 x) (span 0 n) functions x w b' (record { formed = formed; bytes = refl })
      ∙ (decided-ok b b' (span 0 n) n).1 (follows-accepted b b' (span 0 n) follows (span-once n 0) outputs count (span-length 0 n), refl)

  pub order-accepted : (r : Routing) → Respects x.function.inputs (list_of V1 x) r
      → judged_placement s c (encode V2 (list_by x r)) r.order ≡ ok (length (list_of V1 x).instructions)
  order-accepted r respects =
      let inputs = x.function.inputs in
      let b = list_of V1 x in
      let b' = list_by x r in
      let n = length b.instructions in
      let t = list-placeable in
      let ps = routed_places inputs b r in
      let serves = reordered-serves x r (sound s c 1 functions V1 x w) w.operations respects in
      let most : length r.order ≤ n = few n r.order respects.within respects.once in
      let least : n ≤ length r.order = many n r.order respects.has in
      let count : length b'.instructions ≡ length r.order = length-map r.order (λ k. renamed ps (instruction_at b k)) in
      let outputs : length b'.outputs ≡ length b.outputs = length-map b.outputs (rename ps) in
      let follows : Follows b b' (paired r.order b'.instructions) =
      subst (Follows b b') (sym (paired-map (λ k. renamed ps (instruction_at b k)) r.order)) (reordered-follows inputs b t r respects) in
      placement-of s c (encode V2 b') r.order functions x w b' (record { formed = serves.formed; bytes = refl })
      ∙ (decided-ok b b' r.order n).1 (follows-accepted b b' r.order follows respects.once outputs (omega arith) (omega arith), refl)

-- ---- all of it

module _ (s : List ℕ) (c : ℕ) (code numbers : List ℕ) (bytes : Bytes s) (small : Bytes code) where
  pub accepted-alike : (n : ℕ) → judged_placement s c code numbers ≡ ok n → RunsAlike s c code
  accepted-alike n e =
      let (functions, x, w) = placement-within s c code numbers bytes n e in
      let (b, h, a, q) = ((decides s c code numbers small functions x w).accepted n).0 e in
      let serves = accepted-serves s c functions x w code numbers b h a in
      record {
        functions = functions;
        chosen = x;
        list = b;
        within = w;
        codes = h;
        runs = λ arguments work out l.
            let (after, r, same) = serves-taken s c functions x b w serves arguments work out l in
            (after, ap (λ (ys : List ℕ). ran ys arguments work out) h.bytes ∙ r, same);
      }

  refused-first : (n p : ℕ) → compilable s c 1 ≡ fault n p → judged_placement s c code numbers ≡ fault n p
  unfolding judged_placement
  refused-first n p e = stops (compilable s c 1) _ n p e

  -- whatever answers as `judged_placement` does, in whatever form
  pub promised : {Accepted : ℕ → Type 0} {Refused : ℕ → ℕ → Type 0} → ((n : ℕ) → Accepted n ↔ (judged_placement s c code numbers ≡ ok n))
      → ((n p : ℕ) → Refused n p ↔ (judged_placement s c code numbers ≡ fault n p)) → Promise Accepted Refused s c code numbers
  promised taken turned =
      record {
        first = λ n p e. (turned n p).1 (refused-first n p e);
        exactly = λ functions x w.
            let d = decides s c code numbers small functions x w in
            record {
              accepted = λ n. (λ e. (d.accepted n).0 ((taken n).0 e), λ h. (taken n).1 ((d.accepted n).1 h));
              refused-18 = (λ e. d.refused-18.0 ((turned 18 0).0 e), λ h. (turned 18 0).1 (d.refused-18.1 h));
              refused-33 = (λ e. d.refused-33.0 ((turned 33 0).0 e), λ h. (turned 33 0).1 (d.refused-33.1 h));
              refused-29 = λ p. (λ e. (d.refused-29 p).0 ((turned 29 p).0 e), λ h. (turned 29 p).1 ((d.refused-29 p).1 h));
            };
        alike = λ n e. accepted-alike n ((taken n).0 e);
        own = λ functions x w ec en. (taken (length (list_of V1 x).instructions)).1
            (subst (λ (ys : List ℕ). judged_placement s c ys numbers ≡ ok (length (list_of V1 x).instructions)) (sym ec)
            (subst (λ (ks : List ℕ). judged_placement s c (code_of V2 x) ks ≡ ok (length (list_of V1 x).instructions)) (sym en) (own-accepted s c functions x w)));
        orders = λ functions x r w respects ec en. (taken (length (list_of V1 x).instructions)).1
            (subst (λ (ys : List ℕ). judged_placement s c ys numbers ≡ ok (length (list_of V1 x).instructions)) (sym ec)
            (subst (λ (ks : List ℕ). judged_placement s c (encode V2 (list_by x r)) ks ≡ ok (length (list_of V1 x).instructions)) (sym en)
            (order-accepted s c functions x w r respects)));
      }
