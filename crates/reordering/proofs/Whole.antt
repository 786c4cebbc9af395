-- Any order that respects the reads: the list so written serves the function as version 1's does.
use Prim.Native.Nat.{ℕ, ◌≤◌}
use mathlib.Core.Path.{◌≡◌, refl, ap, ap₂, sym, ◌∙◌, subst}
use mathlib.Core.Option.{some}
use mathlib.Core.List.{List, ◌∷◌, map, reverse}
use native.Mathlib.Omega.{arith}
use lib.ListN.{length, length-map}
use lib.Seq.{sets}
use Rattle.ports.specs.Ports.{widths}
use Rattle.base.specs.Limits.{operation_limit}
use Rattle.base.specs.Lists.{word_at, Each}
use Rattle.base.specs.Outcome.{ok}
use Rattle.base.proofs.Lists.{some_is}
use Rattle.value.specs.Typed.{Finite}
use Rattle.graph.specs.Graph.{Function}
use Rattle.graph.specs.Types.{output_types}
use Rattle.graph.specs.Meaning.{graph_means}
use Rattle.graph.specs.Sums.{function_operations, operations_of}
use Rattle.graph.specs.Sound.{AllSound}
use Rattle.graph.specs.Table.{Chosen}
use Rattle.bytecode.specs.declared.Version.TheVariants.{V1, V2}
use Rattle.bytecode.specs.Run.{BoardList, run}
use Rattle.bytecode.specs.Code.{encode}
use Rattle.bytecode.specs.Answers.{Buffers, ran}
use Rattle.placement.specs.Place.{rename}
use Rattle.lowering.specs.Compile.{board_list_of}
use Rattle.lowering.specs.Answers.{list_of, words_of, code_of}
use Rattle.lowering.specs.Demand3.{Within}
use Rattle.lowering.proofs.Limits.{count_of, output-words, port-words}
use Rattle.lowering.proofs.Routed.{follows-means}
use Rattle.lowering.proofs.Lawful.{placeable}
use Rattle.lowering.proofs.Taken.{Serves, left_by, taken, rest-stays, given}
use Rattle.lowering.proofs.Whole.{sound, laws, list-serves}
use Rattle.reordering.specs.Reorder.{Routing, routed_places, Respects}
use Rattle.reordering.specs.AnyOrder.{list_by, LentFor, SameWords, AnyOrder}
use Rattle.reordering.proofs.Carried.{numbered_by, reordered-follows}
use Rattle.reordering.proofs.Formed.{reordered-formed}
use Rattle.reordering.proofs.Own.{own_routing, own-respects, own-list}

-- the router's list of an accepted function
pub reordered-serves : (x : Chosen) (r : Routing) → AllSound (x.function ∷ x.early) → function_operations (operations_of x.early) x.function ≤ operation_limit
    → Respects x.function.inputs (list_of V1 x) r → Serves V2 x (list_by x r)
reordered-serves x r accepted operations s =
    let early = x.early in
    let f = x.function in
    let b = board_list_of early f in
    let t = placeable early f accepted in
    let (la, lo, ho) = port-words early f accepted in
    record {
      formed = reordered-formed f.inputs b t r s la lo ho (let n = count_of early f accepted in omega arith);
      arguments = refl;
      outputs = length-map b.outputs (rename (routed_places f.inputs b r)) ∙ output-words early f accepted;
      means = follows-means x accepted (list_by x r) (map (numbered_by f.inputs b t r s) r.order) (reordered-follows f.inputs b t r s);
    }

-- every function within the limits has such an order: version 1's own, with its own words, and the list written from it is version 1's
pub own-order : (s : List ℕ) (c : ℕ) (functions : List Function) (x : Chosen) → Within s c 1 functions V1 x
    → Respects x.function.inputs (list_of V1 x) (own_routing (list_of V1 x)) × (list_by x (own_routing (list_of V1 x)) ≡ list_of V1 x)
own-order s c functions x w =
    let f = x.function in
    let b = list_of V1 x in
    let t = placeable x.early f (sound s c 1 functions V1 x w) in
    let size : b.words ≡ words_of V1 x = (laws s c 1 functions V1 x w).words in
    let limit = w.words in
    (own-respects f.inputs b t (omega arith), own-list f.inputs b t)

-- version 1's code, in any work buffer long enough, gives the words that the graph means
version-1-gives :
    (s : List ℕ) (c : ℕ) (functions : List Function) (x : Chosen) → Within s c 1 functions V1 x → (arguments out answer : List ℕ) → Each Finite arguments
    → length arguments ≡ widths x.function.inputs → widths (output_types x.function.outputs) ≤ length out → graph_means (reverse functions) c arguments ≡ some answer
    → (m : List ℕ) → words_of V1 x ≤ length m
    → ran (code_of V1 x) arguments m out ≡ ok (record { count = length answer; work = (run (list_of V1 x) arguments m).memory; out = sets out 0 answer })
version-1-gives s c functions x w arguments out answer finite count fits meant m room =
    let b = list_of V1 x in
    let serves : Serves V1 x b = list-serves s c 1 functions V1 x w in
    let size : b.words ≡ words_of V1 x = (laws s c 1 functions V1 x w).words in
    let (own, means, many, outputs) =
    given V1 x b serves arguments m out finite count (omega arith) (reverse functions) c w.chosen (sound s c 1 functions V1 x w) in
    let same : own ≡ answer = some_is (sym means ∙ meant) in
    let after : ℕ → List ℕ → Buffers = λ n ys. record { count = n; work = (run b arguments m).memory; out = sets out 0 ys } in
    let words : after (widths (output_types x.function.outputs)) (run b arguments m).outputs ≡ after (length answer) answer =
    ap₂ after (sym many ∙ ap length same) (outputs ∙ same) in
    taken V1 x b serves arguments m out finite count (omega arith) fits ∙ ap ok words

-- a list that serves the function is taken by the runner, and leaves the same words
pub serves-taken :
    (s : List ℕ) (c : ℕ) (functions : List Function) (x : Chosen) (b : BoardList) → Within s c 1 functions V1 x → Serves V2 x b → (arguments work out : List ℕ)
    → LentFor x b arguments work out
    → (after : Buffers) × (ran (encode V2 b) arguments work out ≡ ok after)
    × SameWords (λ n. after.count ≡ n) functions c x b arguments work out after.work after.out
serves-taken s c functions x b w serves arguments work out l =
    let (answer, meant, count, outputs) =
    given V2 x b serves arguments work out l.finite l.count l.work-fits (reverse functions) c w.chosen (sound s c 1 functions V1 x w) in
    let same : (left_by x b arguments work out).out ≡ sets out 0 answer = ap (sets out 0) outputs in (
      left_by x b arguments work out,
      taken V2 x b serves arguments work out l.finite l.count l.work-fits l.out-fits,
      record {
        answer = answer;
        meant = meant;
        size = count;
        count = sym count;
        given = same;
        version-1 = λ m room.
            subst
            (λ (ys : List ℕ). ran (code_of V1 x) arguments m out ≡ ok (record { count = length answer; work = (run (list_of V1 x) arguments m).memory; out = ys }))
            (sym same) (version-1-gives s c functions x w arguments out answer l.finite l.count l.out-fits meant m room);
        left = refl;
        rest = rest-stays V2 x b serves arguments work out l.finite l.count l.work-fits;
      },
    )

-- and so is the router's
pub order-taken :
    (s : List ℕ) (c : ℕ) (functions : List Function) (x : Chosen) (r : Routing) → Within s c 1 functions V1 x → Respects x.function.inputs (list_of V1 x) r
    → (arguments work out : List ℕ) → LentFor x (list_by x r) arguments work out
    → (after : Buffers) × (ran (encode V2 (list_by x r)) arguments work out ≡ ok after)
    × SameWords (λ n. after.count ≡ n) functions c x (list_by x r) arguments work out after.work after.out
order-taken s c functions x r w respects =
    serves-taken s c functions x (list_by x r) w (reordered-serves x r (sound s c 1 functions V1 x w) w.operations respects)

-- whatever answers as `ran` does, in whatever form, and leaves the buffers as that says
pub any_order :
    (code arguments work out : List ℕ) {Answer : ℕ → Type 0} {work' out' : List ℕ}
    → ((b : Buffers) → ran code arguments work out ≡ ok b → Answer b.count × (work' ≡ b.work) × (out' ≡ b.out))
    → AnyOrder Answer code arguments work out work' out'
any_order code arguments work out {Answer} {work'} {out'} h s c functions x r w respects is l =
    let (after, e, same) = order-taken s c functions x r w respects arguments work out l in
    let (n, ew, eo) = h after (ap (λ (ys : List ℕ). ran ys arguments work out) is ∙ e) in
    record {
      answer = same.answer;
      meant = same.meant;
      size = same.size;
      count = subst Answer same.count n;
      given = eo ∙ same.given;
      version-1 = λ m room.
          subst
          (λ (ys : List ℕ). ran (code_of V1 x) arguments m out ≡ ok (record { count = length same.answer; work = (run (list_of V1 x) arguments m).memory; out = ys }))
          (sym eo) (same.version-1 m room);
      left = ew ∙ same.left;
      rest = λ i k. ap (λ (ys : List ℕ). word_at ys i) ew ∙ same.rest i k;
    }
