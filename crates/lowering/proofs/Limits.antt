-- The sums of a function are those of its board list, and within the limits the board list is well formed in version 1.
use Prim.Native.Nat.{ℕ, ◌+◌, ◌*◌, ◌≤◌, ◌<◌}
use mathlib.Core.Path.{◌≡◌, refl, ap, ◌∙◌, subst}
use mathlib.Core.Bool.{Bool, true, false, cond}
use mathlib.Core.List.{List, [], ◌∷◌, ◌++◌, map}
use mathlib.Core.Logic.{◌⊎◌, inl, inr}
use native.Mathlib.Omega.{arith}
use lib.Dec.{eqb}
use lib.ListN.{length, length-append, replicate, length-replicate, length-map}
use Rattle.ports.specs.Ports.{width, widths}
use Rattle.value.specs.Values.{values_of}
use Rattle.base.specs.Lists.{Each}
use Rattle.base.proofs.Lists.{each-less}
use Rattle.value.specs.Typed.{TypeCode}
use Rattle.value.proofs.Laws.{values-typed, type-cases}
use Rattle.graph.specs.Graph.{Payload, consts, refs, calls, Node, Function}
use Rattle.graph.specs.Types.{output_types}
use Rattle.graph.specs.Sums.{sum, node_operations, function_operations, operations_of, node_words, result_words, result_words_of, function_words}
use Rattle.graph.specs.Sound.{Sound, AllSound}
use Rattle.bytecode.specs.Run.{places}
use Rattle.graph.specs.Schedule.{schedule}
use Rattle.lowering.specs.Compile.{Written, address, Inline, inline_node, also, inline_nodes, inline_function, inlined, board_list_of}
use Rattle.bytecode.specs.Code.{argument_words}
use Rattle.bytecode.specs.declared.Version.TheVariants.{V1}
use Rattle.bytecode.specs.Sequential.{AllFit}
use Rattle.bytecode.specs.WellFormed.{written_by, FormedList}
use Rattle.bytecode.proofs.Sequential.{spans-below, below-readable, all-fit-formed}
use Rattle.graph.proofs.Order.{scheduled}
use Rattle.lowering.proofs.Simulate.{stand-below}
use Rattle.lowering.proofs.Promise.{whole-served}
use Rattle.base.specs.Limits.{operation_limit, word_limit, port_word_limit, address_limit}

-- ---- operations

abbrev Counts : Inline → (ℕ → ℕ) → Type 0
Counts go ops = (c : ℕ) (ins : List ℕ) (next : ℕ) → length (go c ins next).code ≤ ops c

module _ (go : Inline) (ops : ℕ → ℕ) (h : Counts go ops) (ins : List ℕ) where
  node-count : (ws : List Written) (next : ℕ) (n : Node) (p : Payload) → length (inline_node widths go (address ins ws) next n p).code ≤ node_operations ops p
  node-count ws next n (consts cs) = omega arith
  node-count ws next n (refs rs) = omega arith
  node-count ws next n (calls c rs) = let a = h c (map (address ins ws) rs) next in omega arith

  nodes-count : (ns : List Node) (ws : List Written) (next : ℕ) → length (inline_nodes widths go ins ns ws next).code ≤ sum (λ n. node_operations ops n.payload) ns
  nodes-count [] ws next = omega arith
  nodes-count (n ∷ ns) ws next =
      let o = inline_node widths go (address ins ws) next n n.payload in
      let b = inline_nodes widths go ins ns (also n o ws) o.next in
      let a : length o.code ≤ node_operations ops n.payload = node-count ws next n n.payload in
      let c : length b.code ≤ sum (λ n. node_operations ops n.payload) ns = nodes-count ns (also n o ws) o.next in
      let d : length (o.code ++ b.code) ≡ length o.code + length b.code = length-append o.code b.code in
      omega arith

function-count : (early : List Function) (f : Function) → Sound early f → Counts (inlined widths early) (operations_of early) → (ins : List ℕ) (next : ℕ)
    → length (inline_function widths (inlined widths early) f ins next).code ≤ function_operations (operations_of early) f
function-count early f sound h ins next =
    let a = nodes-count (inlined widths early) (operations_of early) h ins (schedule f.nodes) [] next in
    let e = (scheduled early f sound).total (λ n. node_operations (operations_of early) n.payload) in
    subst (λ (x : ℕ). length (inline_function widths (inlined widths early) f ins next).code ≤ x) e a

pub inlined-count : (early : List Function) → AllSound early → Counts (inlined widths early) (operations_of early)
unfolding inlined operations_of
inlined-count [] s c ins next = omega arith
inlined-count (f ∷ early) (s, ss) c ins next = pick_one (eqb f.id c) (inlined-count early ss)
  where
    pick_one : (b : Bool) → Counts (inlined widths early) (operations_of early)
        → length (cond b (inline_function widths (inlined widths early) f ins next) (inlined widths early c ins next)).code
        ≤ cond b (function_operations (operations_of early) f) (operations_of early c)
    pick_one true h = function-count early f s h ins next
    pick_one false h = h c ins next

-- ---- words

abbrev Sizes : Inline → (ℕ → ℕ) → Type 0
Sizes go size = (c : ℕ) (ins : List ℕ) (next : ℕ) → (go c ins next).next ≡ next + size c

module _ (go : Inline) (size : ℕ → ℕ) (h : Sizes go size) (ins : List ℕ) where
  node-size : (ws : List Written) (next : ℕ) (n : Node) (p : Payload) → (inline_node widths go (address ins ws) next n p).next ≡ next + node_words size n p
  node-size ws next n (consts cs) = refl
  node-size ws next n (refs rs) = refl
  node-size ws next n (calls c rs) = h c (map (address ins ws) rs) next

  nodes-size : (ns : List Node) (ws : List Written) (next : ℕ) → (inline_nodes widths go ins ns ws next).next ≡ next + sum (λ n. node_words size n n.payload) ns
  nodes-size [] ws next = omega arith
  nodes-size (n ∷ ns) ws next =
      let o = inline_node widths go (address ins ws) next n n.payload in
      let b = inline_nodes widths go ins ns (also n o ws) o.next in
      let a : o.next ≡ next + node_words size n n.payload = node-size ws next n n.payload in
      let c : b.next ≡ o.next + sum (λ n. node_words size n n.payload) ns = nodes-size ns (also n o ws) o.next in
      omega arith

function-size : (early : List Function) (f : Function) → Sound early f → Sizes (inlined widths early) (result_words_of early) → (ins : List ℕ) (next : ℕ)
    → (inline_function widths (inlined widths early) f ins next).next ≡ next + result_words (result_words_of early) f
function-size early f sound h ins next =
    nodes-size (inlined widths early) (result_words_of early) h ins (schedule f.nodes) [] next
    ∙ ap (λ (x : ℕ). next + x) ((scheduled early f sound).total (λ n. node_words (result_words_of early) n n.payload))

pub inlined-size : (early : List Function) → AllSound early → Sizes (inlined widths early) (result_words_of early)
unfolding inlined result_words_of
inlined-size [] s c ins next = omega arith
inlined-size (f ∷ early) (s, ss) c ins next = pick_one (eqb f.id c) (inlined-size early ss)
  where
    pick_one : (b : Bool) → Sizes (inlined widths early) (result_words_of early)
        → (cond b (inline_function widths (inlined widths early) f ins next) (inlined widths early c ins next)).next
        ≡ next + cond b (result_words (result_words_of early) f) (result_words_of early c)
    pick_one true h = function-size early f s h ins next
    pick_one false h = h c ins next

-- the instructions are at most the operations, and the words are those of the sum
pub count_of : (early : List Function) (f : Function) → AllSound (f ∷ early) → length (board_list_of early f).instructions ≤ function_operations (operations_of early) f
count_of early f (s, ss) = function-count early f s (inlined-count early ss) (places 0 f.inputs) (widths f.inputs)

pub words-of : (early : List Function) (f : Function) → AllSound (f ∷ early) → (board_list_of early f).words ≡ function_words early f
words-of early f (s, ss) = function-size early f s (inlined-size early ss) (places 0 f.inputs) (widths f.inputs)

-- ---- the outputs

wide_bounds : (t : ℕ) → TypeCode t → (1 ≤ width t) × (width t ≤ 16)
wide_bounds t h = pick_one (type-cases t h)
  where
    pick_one : (t ≡ 1) ⊎ ((t ≡ 2) ⊎ (t ≡ 3)) → (1 ≤ width t) × (width t ≤ 16)
    pick_one (inl e) = rw e (omega arith)
    pick_one (inr (inl e)) = rw e (omega arith)
    pick_one (inr (inr e)) = rw e (omega arith)

wides-bounds : (ts : List ℕ) → Each TypeCode ts → (length ts ≤ widths ts) × (widths ts ≤ 16 * length ts)
wides-bounds [] h = (omega arith, omega arith)
wides-bounds (t ∷ ts) (c, h) =
    let (a, b) = wide_bounds t c in
    let (d, e) = wides-bounds ts h in
    (omega arith, omega arith)

-- ---- the whole

-- the run of any values of the types lays the same list
pub laid : (early : List Function) (f : Function) → AllSound (f ∷ early)
    → AllFit (widths f.inputs) (board_list_of early f).instructions (board_list_of early f).words
    × Each (λ a. a < (board_list_of early f).words) (board_list_of early f).outputs
    × (length (board_list_of early f).outputs ≡ widths (output_types f.outputs))
laid early f sound =
    let b = board_list_of early f in
    let outs = output_types f.outputs in
    let args = values_of f.inputs [] in
    let m : List ℕ = replicate b.words 0 in
    let room : length m ≡ b.words = length-replicate b.words 0 in
    let r = whole-served early f sound args (values-typed f.inputs [] sound.0.resolved.formed.input_types) m (omega arith) in
    let ports = (inline_function widths (inlined widths early) f (places 0 f.inputs) (widths f.inputs)).ports in
    let both = spans-below b.words outs ports (stand-below _ b.words outs ports r.values r.typed r.stand) in
    (r.fit, both.0, both.1)

pub output-words : (early : List Function) (f : Function) → AllSound (f ∷ early) → length (board_list_of early f).outputs ≡ widths (output_types f.outputs)
output-words early f sound = (laid early f sound).2

-- the counts of a function's ports
pub port-words : (early : List Function) (f : Function) → AllSound (f ∷ early)
    → ((board_list_of early f).arguments ≤ port_word_limit) × (1 ≤ length (board_list_of early f).outputs) × (length (board_list_of early f).outputs ≤ port_word_limit)
port-words early f sound =
    let formed = sound.0.resolved.formed in
    let outs = output_types f.outputs in
    let size : length (board_list_of early f).outputs ≡ widths outs = output-words early f sound in
    let (i1, i2) = wides-bounds f.inputs formed.input_types in
    let (o1, o2) = wides-bounds outs formed.output_types in
    let ol : length outs ≡ length f.outputs = length-map f.outputs (λ o. o.type) in
    let li : length f.inputs ≤ 8 = formed.inputs in
    let lo : length f.outputs ≤ 8 = formed.outputs in
    let ls : 1 ≤ length f.outputs = formed.some-output in
    (omega arith, omega arith, omega arith)

pub formed-list : (early : List Function) (f : Function) → AllSound (f ∷ early) → function_operations (operations_of early) f ≤ operation_limit → function_words early f ≤ word_limit
    → FormedList V1 (board_list_of early f)
formed-list early f sound ops words =
    let b = board_list_of early f in
    let (la, lo, ho) = port-words early f sound in
    let n : length b.instructions ≤ function_operations (operations_of early) f = count_of early f sound in
    let w : b.words ≡ function_words early f = words-of early f sound in
    let (instructions, highest) = all-fit-formed b.instructions (argument_words b.arguments) b.arguments b.words (omega arith) (omega arith) (laid early f sound).0 in
    record {
      arguments = la;
      some-output = lo;
      outputs = ho;
      count = omega arith;
      words = omega arith;
      instructions = instructions;
      highest = highest;
      small = each-less b.outputs b.words address_limit (omega arith) (laid early f sound).1;
      reads = below-readable (written_by (argument_words b.arguments) b.instructions) b.words b.outputs highest (laid early f sound).1;
    }
