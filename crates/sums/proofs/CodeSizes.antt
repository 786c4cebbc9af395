-- The sums over a function's nodes are the sizes of its code.
use Prim.Native.Nat.{ℕ, ◌+◌, ◌*◌}
use mathlib.Core.Path.{◌≡◌, refl, ap, sym, ◌∙◌}
use mathlib.Core.Bool.{Bool, true, false, cond}
use mathlib.Core.List.{List, [], ◌∷◌, ◌++◌, map, append_assoc}
use mathlib.Core.Logic.{inl, inr}
use native.Mathlib.Omega.{arith}
use lib.Dec.{eqb}
use lib.ListN.{length, length-append, length-map}
use Rattle.bytecode.proofs.Back.{instruction-length}
use Rattle.base.proofs.Stands.{all-length}
use Rattle.ports.specs.Kinds.{kind_of}
use Rattle.ports.specs.Ports.{widths, takes, arity, constant_words}
use Rattle.ports.proofs.Laws.{length-takes}
use Rattle.graph.specs.Graph.{Ref, Payload, consts, refs, calls, Node, Function}
use Rattle.graph.specs.Types.{output_types}
use Rattle.graph.specs.Schedule.{schedule}
use Rattle.graph.specs.Sums.{sum}
use Rattle.base.specs.Lists.{Is}
use Rattle.graph.specs.Formed.{FormedPayload, FormedNode}
use Rattle.graph.specs.Sound.{Shaped, Sound, AllSound}
use Rattle.base.proofs.Outcomes.{is-each}
use Rattle.graph.proofs.Order.{scheduled, schedule-within}
use Rattle.bytecode.specs.Run.{Instruction, places}
use Rattle.lowering.specs.Compile.{Written, address, Inline, single, inline_node, also, inline_nodes, inline_function, inlined, board_list_of}
use Rattle.base.specs.Bytes.{all_bytes}
use Rattle.bytecode.specs.declared.Version.{Version}
use Rattle.bytecode.specs.declared.Version.TheVariants.{V1}
use Rattle.bytecode.specs.Code.{instruction_code, instructions_code, header_code, encode}
use Rattle.lowering.proofs.Limits.{output-words}
use Rattle.sums.specs.CodeSums.{node_instructions, node_bytes, function_instructions, function_bytes, instructions_of, bytes_of_function}

-- ---- sums in which a call adds its callee's

pub record Counted (add : (ℕ → ℕ) → Node → ℕ) (of : List Function → ℕ → ℕ) : Type 0 where
  pub none : (c : ℕ) → of [] c ≡ 0
  pub one : (f : Function) (early : List Function) (c : ℕ) → of (f ∷ early) c ≡ cond (eqb f.id c) (sum (add (of early)) f.nodes) (of early c)

pub instructions-counted : Counted (λ callee n. node_instructions callee n.payload) instructions_of
unfolding instructions_of
instructions-counted = record { none = λ c. refl; one = λ f early c. refl }

pub bytes_counted : Counted (λ callee n. node_bytes callee n n.payload) bytes_of_function
unfolding bytes_of_function
bytes_counted = record { none = λ c. refl; one = λ f early c. refl }

-- ---- a measure of code

-- a number of the code that adds up
record Measure (size : List Instruction → ℕ) : Type 0 where
  pub empty : size [] ≡ 0
  pub append : (is js : List Instruction) → size (is ++ js) ≡ size is + size js

-- ---- bytes

-- the code of instructions in two parts
pub code-append : (v : Version) (is js : List Instruction) → instructions_code v (is ++ js) ≡ instructions_code v is ++ instructions_code v js
code-append v [] js = refl
code-append v (i ∷ is) js =
    ap (λ (xs : List ℕ). instruction_code v i ++ xs) (code-append v is js) ∙ sym (append_assoc (instruction_code v i) (instructions_code v is) (instructions_code v js))

abbrev instruction_bytes : List Instruction → ℕ
instruction_bytes is = length (instructions_code V1 is)

-- the number of bytes adds up
code-lengths : Measure instruction_bytes
code-lengths = record {
  empty = refl;
  append = λ is js. ap length (code-append V1 is js) ∙ length-append (instructions_code V1 is) (instructions_code V1 js);
}

-- wherever it is inlined, and whatever results take
module _ (wide : List ℕ → ℕ) where
  -- the size of a node's code
  abbrev NodeSize : (List Instruction → ℕ) → Inline → (Node → ℕ) → Node → Type 0
  NodeSize size go weight n = (from : Ref → ℕ) (next : ℕ) → size (inline_node wide go from next n n.payload).code ≡ weight n

  -- the size of the function of an id
  abbrev Sizes : (List Instruction → ℕ) → Inline → (ℕ → ℕ) → Type 0
  Sizes size go of = (c : ℕ) (ins : List ℕ) (next : ℕ) → size (go c ins next).code ≡ of c

  module _ (size : List Instruction → ℕ) (measure : Measure size) (go : Inline) (weight : Node → ℕ) (ins : List ℕ) where
    -- the nodes' sizes add up
    nodes-measure : (ns : List Node) → ((n : Node) → Is n ns → NodeSize size go weight n) → (written : List Written) (next : ℕ)
        → size (inline_nodes wide go ins ns written next).code ≡ sum weight ns
    nodes-measure [] h written next = measure.empty
    nodes-measure (n ∷ ns) h written next =
        let o = inline_node wide go (address ins written) next n n.payload in
        let b = inline_nodes wide go ins ns (also n o written) o.next in
        let x : size o.code ≡ weight n = h n (inl refl) (address ins written) next in
        let y : size b.code ≡ sum weight ns = nodes-measure ns (λ m i. h m (inr i)) (also n o written) o.next in
        measure.append o.code b.code ∙ omega arith

  module _ (size : List Instruction → ℕ) (measure : Measure size) (add : (ℕ → ℕ) → Node → ℕ) (of : List Function → ℕ → ℕ) (counted : Counted add of)
      (node : (early : List Function) (f : Function) → Sound early f → Sizes size (inlined wide early) (of early) → (n : Node) → Is n f.nodes → NodeSize size (inlined wide early) (add (of early)) n) where
    -- a sound function's size is the sum over its nodes
    function-by : (early : List Function) (f : Function) → Sound early f → Sizes size (inlined wide early) (of early) → (ins : List ℕ) (next : ℕ)
        → size (inline_function wide (inlined wide early) f ins next).code ≡ sum (add (of early)) f.nodes
    function-by early f sound h ins next =
        nodes-measure size measure (inlined wide early) (add (of early)) ins (schedule f.nodes) (λ n i. node early f sound h n (schedule-within f.nodes n i)) [] next
        ∙ (scheduled early f sound).total (add (of early))

    inlined-size : (early : List Function) → AllSound early → Sizes size (inlined wide early) (of early)
    unfolding inlined
    inlined-size [] sound c ins next = measure.empty ∙ sym (counted.none c)
    inlined-size (f ∷ early) (s, sound) c ins next = pick_one (eqb f.id c) (inlined-size early sound) ∙ sym (counted.one f early c)
      where
        pick_one : (b : Bool) → Sizes size (inlined wide early) (of early)
            → size (cond b (inline_function wide (inlined wide early) f ins next) (inlined wide early c ins next)).code ≡ cond b (sum (add (of early)) f.nodes) (of early c)
        pick_one true h = function-by early f s h ins next
        pick_one false h = h c ins next

    function-size : (early : List Function) (f : Function) → AllSound (f ∷ early) → (ins : List ℕ) (next : ℕ)
        → size (inline_function wide (inlined wide early) f ins next).code ≡ sum (add (of early)) f.nodes
    function-size early f (s, sound) ins next = function-by early f s (inlined-size early sound) ins next

  -- ---- instructions

  node-instructions : (go : Inline) (callee : ℕ → ℕ) → Sizes length go callee
      → (from : Ref → ℕ) (next : ℕ) (n : Node) (p : Payload) → length (inline_node wide go from next n p).code ≡ node_instructions callee p
  node-instructions go callee h from next n (consts ws) = refl
  node-instructions go callee h from next n (refs rs) = refl
  node-instructions go callee h from next n (calls c rs) = h c (map from rs) next

  -- the instructions of the function of an id
  pub inlined-instructions : (early : List Function) → AllSound early → Sizes length (inlined wide early) (instructions_of early)
  inlined-instructions =
      inlined-size length (record { empty = refl; append = length-append }) (λ callee n. node_instructions callee n.payload) instructions_of instructions-counted
      (λ early f sound h n i from next. node-instructions (inlined wide early) (instructions_of early) h from next n n.payload)

  -- the instructions of a function over those before it
  pub function-instructions : (early : List Function) (f : Function) → AllSound (f ∷ early) → (ins : List ℕ) (next : ℕ)
      → length (inline_function wide (inlined wide early) f ins next).code ≡ function_instructions (instructions_of early) f
  function-instructions =
      function-size length (record { empty = refl; append = length-append }) (λ callee n. node_instructions callee n.payload) instructions_of instructions-counted
      (λ early f sound h n i from next. node-instructions (inlined wide early) (instructions_of early) h from next n n.payload)

  -- the bytes of a node's own instruction, by its operands and constants
  pub single-length : (kind type : ℕ) (operands constants : List ℕ) (next : ℕ) → instruction_bytes (single wide kind type operands constants next).code ≡ 2 + 2 * length operands + 8 * length constants
  single-length kind type operands constants next =
      let i : Instruction = record { kind = kind; type = type; operands = operands; constants = constants; result = next } in
      let a : length (instruction_code V1 i ++ []) ≡ length (instruction_code V1 i) + 0 = length-append (instruction_code V1 i) [] in
      let b : length (instruction_code V1 i) ≡ 2 + 2 * length operands + 8 * length constants = instruction-length V1 i in
      omega arith

  -- a node's bytes: its own instruction has 2, and 2 for each operand and 8 for each word of a constant
  node-bytes : (early : List Function) (go : Inline) (callee : ℕ → ℕ) → Sizes instruction_bytes go callee
      → (from : Ref → ℕ) (next : ℕ) (n : Node) (p : Payload) → FormedPayload (kind_of n.kind) p → Shaped early n p
      → instruction_bytes (inline_node wide go from next n p).code ≡ node_bytes callee n p
  node-bytes early go callee h from next n (consts ws) (form, l, t, u) shape =
      let k = kind_of n.kind in
      let a : length (takes k n.type) ≡ arity k = length-takes k n.type in
      let b : length (takes k n.type) ≡ 0 = ap length shape in
      let c : length ws ≡ constant_words k = l in
      single-length n.kind n.type [] ws next ∙ omega arith
  node-bytes early go callee h from next n (refs rs) (form, l) shape =
      let k = kind_of n.kind in
      let a : length (map from rs) ≡ length rs = length-map rs from in
      let b : length rs ≡ arity k = l in
      let c : constant_words k ≡ 0 = rw form refl in
      single-length n.kind n.type (map from rs) [] next ∙ omega arith
  node-bytes early go callee h from next n (calls c rs) formed shape = h c (map from rs) next

  -- the bytes of a function over those before it
  function-bytes : (early : List Function) (f : Function) → AllSound (f ∷ early) → (ins : List ℕ) (next : ℕ)
      → instruction_bytes (inline_function wide (inlined wide early) f ins next).code ≡ function_bytes (bytes_of_function early) f
  function-bytes =
      function-size instruction_bytes code-lengths (λ callee n. node_bytes callee n n.payload) bytes_of_function bytes_counted
      (λ early f sound h n i from next.
      node-bytes early (inlined wide early) (bytes_of_function early) h from next n n.payload
      (is-each FormedNode f.nodes sound.resolved.formed.nodes n i).payload (sound.resolved.shaped n i))

-- ---- the whole list

-- the bytes of a function's board list
pub encode-length : (early : List Function) (f : Function) → AllSound (f ∷ early)
    → length (encode V1 (board_list_of early f)) ≡ 12 + function_bytes (bytes_of_function early) f + 2 * widths (output_types f.outputs)
unfolding encode
encode-length early f sound =
    let b = board_list_of early f in
    let head = header_code 1 b.arguments (length b.outputs) (length b.instructions) b.words in
    let code = instructions_code V1 b.instructions in
    let outs = all_bytes 2 b.outputs in
    let h : length head ≡ 12 = refl in
    let c : length code ≡ function_bytes (bytes_of_function early) f = function-bytes widths early f sound (places 0 f.inputs) (widths f.inputs) in
    let o : length outs ≡ 2 * length b.outputs = all-length 2 b.outputs in
    let w : length b.outputs ≡ widths (output_types f.outputs) = output-words early f sound in
    length-append (head ++ code) outs ∙ ap (λ (x : ℕ). x + length outs) (length-append head code) ∙ omega arith
