-- A function whose nodes are allocated, with the locations of its outputs.
use Prim.Native.Nat.{ℕ, zero, suc, ◌+◌, ◌*◌, ◌≤◌}
use mathlib.Core.Path.{◌≡◌, sym, ap, ◌∙◌, subst}
use mathlib.Core.List.{List, [], ◌∷◌, map}
use mathlib.Core.Logic.{◌⊎◌}
use native.Mathlib.Omega.{arith}
use lib.ListN.{length, get_or}
use lib.Seq.{sets}
use Rattle.compiler.specs.Sizes.{output_limit}
use Rattle.compiler.specs.declared.Layout.{Layout}
use Rattle.base.specs.Limits.{node_limit}
use Rattle.base.specs.Lists.{Is, Each}
use Rattle.graph.specs.Graph.{Ref, Node, Function}
use Rattle.graph.specs.Types.{ref_type, output_types}
use Rattle.graph.specs.Look.{output_refs, ids}
use Rattle.graph.specs.Read.{reference}
use Rattle.graph.specs.Schedule.{schedule}
use Rattle.graph.specs.Sound.{Wired}
use Rattle.graph.proofs.Order.{reads_in}
use Rattle.reader.specs.Layout.{nodes_at, nodes_place, node_count, outputs_at, output_count, outputs_place, function_at, earlier}
use Rattle.reader.proofs.Passed.{function-holds, nodes-named}
use Rattle.compiler.specs.Static.{nowhere, Located, location_of, summary, allocate}
use Rattle.sums.specs.Position.{place_of, function_in, before, Accepted}
use Rattle.compiler.specs.Emit.{summary_at}
use Rattle.compiler.specs.Locating.{output_codes, Codes, PortsKnown, NodesAllocated, FunctionAllocated}
use Rattle.base.proofs.Stores.{sets_below}
use Rattle.resolver.proofs.Rows.{length-nodes}
use Rattle.compiler.proofs.Coding.{AllCodes, codes-length, codes-stored, port-coded, summary-size}
use Rattle.sums.proofs.Accepted.{few, few-ports, read_below, sound-below}
use Rattle.bytecode.specs.declared.Version.{Version}

abbrev Inside : List Node → Ref → Type 0
Inside ns r = (r.node ≡ 0) ⊎ Is r.node (ids ns)

wired-inside : (early : List Function) (f : Function) (ws : List ℕ) (rs : List Ref) → Wired (ref_type early f) ws rs → Each (Inside f.nodes) rs
wired-inside early f [] [] h = tt
wired-inside early f [] (r ∷ rs) h = absurd h
wired-inside early f (w ∷ ws) [] h = absurd h
wired-inside early f (w ∷ ws) (r ∷ rs) (h, hs) = (reads_in early f r w h, wired-inside early f ws rs hs)

outputs-coded : (s allocated : List ℕ) (ns : List Node) (located : List Located) → length ns ≤ node_limit → ((n : Node) → Is n ns → 1 ≤ n.id) → PortsKnown ns allocated located → (m q : ℕ) → Each (Inside ns) (output_refs (outputs_at m s q))
    → AllCodes (output_codes s allocated ns m q) (map (location_of located) (output_refs (outputs_at m s q)))
unfolding output_codes
outputs-coded s allocated ns located few named known zero q h = tt
outputs-coded s allocated ns located few named known (suc m) q (h, hs) =
    (port-coded ns few named allocated located known (reference s (q + 1)) h, outputs-coded s allocated ns located few named known m (q + 4) hs)

module _ (ver : Version) (s : List ℕ) (k c : ℕ) (acc : Accepted s (suc k)) (lay₀ lay : Layout) (outs allocated : List ℕ) (r : ℕ) where
  abbrev p : ℕ
  p = place_of s k

  abbrev codes : List ℕ
  codes = output_codes s allocated (nodes_at (node_count s p) s (nodes_place s p)) (output_count s p) (outputs_place s p)

  codes-are : NodesAllocated ver s k c lay₀ lay allocated r → AllCodes codes (summary_at ver s k).outputs
  unfolding function_at earlier
  codes-are h =
      let l : length (nodes_at (node_count s p) s (nodes_place s p)) ≡ node_count s p = length-nodes (node_count s p) s (nodes_place s p) in
      let o = function-holds s p (read_below s (suc k) acc k (omega arith)) in
      let f = o.few in
      let sound = (sound-below s (suc k) acc k (omega arith)).0 in
      outputs-coded s allocated (function_in s k).nodes (allocate ver (summary ver (before s k)) (schedule (function_in s k).nodes) [] 0).located (omega arith) (nodes-named s (node_count s p) (nodes_place s p) o.nodes) h.known (output_count s p) (outputs_place s p)
      (wired-inside (before s k) (function_in s k) (output_types (function_in s k).outputs) (output_refs (function_in s k).outputs) sound.resolved.answers)

  pub function-allocated : NodesAllocated ver s k c lay₀ lay allocated r → {q n at : ℕ} → q ≡ p → n ≡ node_count s p → at ≡ nodes_place s p
      → outs ≡ sets lay.outs (8 * k) (output_codes s allocated (nodes_at n s at) (output_count s q) (outputs_place s q)) → length lay.outs ≡ output_limit → FunctionAllocated ver s k c lay₀ (record lay { outs = outs }) r
  function-allocated h eq en ea eo size =
      let e : outs ≡ sets lay.outs (8 * k) codes = eo ∙ rw (eq, en, ea) in
      let a : length codes ≡ length (summary_at ver s k).outputs = codes-length codes (summary_at ver s k).outputs (codes-are h) in
      let b : length (summary_at ver s k).outputs ≡ output_count s p = summary-size ver s k in
      let f = (few-ports s p (read_below s (suc k) acc k (omega arith))).1 in
      let m = few s (suc k) acc in
      record {
        placed = h.placed;
        ports =
            record {
              few = omega arith;
              coded = λ q ql. subst (λ (ys : List ℕ). Codes (get_or ys (8 * k + q) 0) (get_or (summary_at ver s k).outputs q nowhere)) (sym e) (codes-stored lay.outs (8 * k) codes (summary_at ver s k).outputs (codes-are h) (omega arith) q);
            };
        end = h.end;
        same = h.same.1;
        old-order = h.old-order;
        old-locations = h.old-locations;
        old-outs = λ q ql. ap (λ (ys : List ℕ). get_or ys q 0) e ∙ sets_below codes lay.outs (8 * k) q ql ∙ ap (λ (ys : List ℕ). get_or ys q 0) h.same.0;
      }
