-- The walk's loop over the nodes of a function in their order. The invariant holds the nodes that are left: what the pass does
-- with their instructions, from here on, completes the whole function's. A step does it for the first of them.
use Prim.Native.Nat.{ℕ, suc, ◌/◌, ◌+◌, ◌-◌, ◌*◌, ◌%◌, ◌≤◌, ◌<◌}
use mathlib.Core.Path.{◌≡◌, refl, sym, ap, ◌∙◌, subst}
use mathlib.Core.List.{List, [], ◌∷◌, ◌++◌, map, map-append}
use native.Mathlib.Omega.{arith}
use native.Mathlib.Nat.{add-zero}
use lib.ListN.{length, get_or, set, length-append}
use lib.Seq.{sets, length-sets}
use borrow.Author.Tests.{lt-ltb, le-ltb}
use Rattle.base.specs.Limits.{node_limit, reference_limit}
use Rattle.graph.specs.Graph.{Ref, Payload, consts, refs, calls, Node}
use Rattle.graph.specs.Look.{reads}
use Rattle.graph.specs.Schedule.{schedule}
use Rattle.graph.specs.Sums.{sum}
use Rattle.reader.specs.Layout.{node_at, node_count}
use Rattle.lowering.specs.Compile.{Inlined, Inline, inline_node, inlined}
use Rattle.bytecode.specs.Run.{Instruction}
use Rattle.bytecode.specs.Code.{instructions_code}
use Rattle.compiler.specs.declared.Reached.{Reached}
use Rattle.compiler.specs.Static.{Location, nowhere, input, offset, address_at, Callee, Located, node_summary, summary, allocate, emit_nodes}
use Rattle.reader.specs.Find.{ReadsNode}
use Rattle.sums.specs.Position.{place_of, function_in, before}
use Rattle.compiler.specs.Emit.{Stands, address_of, addresses_in, inline_with, node_inlined, function_inlined, naming_of, relocated, bytes_by, noted, notes, notes_by, measures, measures_by, CodeRoom, Walks, location_table, Coded, Placed, summary_at, Allocated}
use Rattle.base.proofs.Stores.{sets-append}
use Rattle.compiler.proofs.Locations.{node-next, inlined-follows, function-next, function-table}
use Rattle.sums.proofs.CodeSizes.{code-append}
use Rattle.compiler.proofs.Inlining.{open-with}
use Rattle.bytecode.specs.declared.Version.{Version}
use Rattle.bytecode.specs.declared.Version.TheVariants.{V1, V2}
use Rattle.bytecode.specs.Origin.{result_width}
use Rattle.lowering.specs.Naming.{name_step, sizing}
use Rattle.compiler.specs.declared.Pass.{Pass}
use Rattle.compiler.specs.declared.Pass.TheVariants.{Survey, Sequential, Addressed}
use Rattle.compiler.specs.Units.{unit_limit, end_limit, unit_bound}
use Rattle.compiler.proofs.Units.{end-bound}

-- ---- addresses of locations

pub stands-address : (ins : List ℕ) (first e : ℕ) (x : Location) → first ≤ unit_bound → Stands e x → address_of ins first e ≡ address_at ins first x
stands-address ins first e nowhere n h = absurd h
stands-address ins first e (input i) n (q, l) = rw q (rw (lt-ltb i 8 l))
stands-address ins first e (offset d) n (h, l) = let z : (first + (8 + d - 8)) % 65536 ≡ first + d = omega arith in rw h (rw (le-ltb (8 + d) 8 (omega arith), z))

pub coded-addresses : (locations : List ℕ) (table : Ref → Location) (ins : List ℕ) (first c : ℕ) (rs : List Ref) → first ≤ unit_bound → Coded locations table c rs
    → map (λ r. address_at ins first (table r)) rs ≡ addresses_in locations ins first c (length rs)
unfolding addresses_in
coded-addresses locations table ins first c [] n h = refl
coded-addresses locations table ins first c (r ∷ rs) n (h, hs) =
    ap (λ (a : ℕ). a ∷ map (λ r. address_at ins first (table r)) rs) (sym (stands-address ins first (get_or locations c 0) (table r) n h))
    ∙ ap (λ (xs : List ℕ). address_of ins first (get_or locations c 0) ∷ xs) (coded-addresses locations table ins first (c + 1) rs n hs)

coded-room : (locations : List ℕ) (table : Ref → Location) (c : ℕ) (rs : List Ref) → Coded locations table c rs → c + length rs ≤ reference_limit
coded-room locations table c [] h = omega arith
coded-room locations table c (r ∷ rs) (h, hs) = let l = coded-room locations table (c + 1) rs hs in omega arith

-- ---- words

-- the words of a node's results
abbrev pub wide_of : (ver : Version) → Callee → Node → ℕ
wide_of ver call n = (node_summary ver call [] 0 n n.payload).words

wide-same : (ver : Version) → (call : Callee) (located : List Located) (d : ℕ) (n : Node) (p : Payload) → (node_summary ver call located d n p).words ≡ (node_summary ver call [] 0 n p).words
wide-same ver call located d n (consts ws) = refl
wide-same ver call located d n (refs rs) = refl
wide-same ver call located d n (calls c rs) = refl

pub allocate-words : (ver : Version) → (call : Callee) (ns : List Node) (located : List Located) (d : ℕ) → (allocate ver call ns located d).words ≡ d + sum (wide_of ver call) ns
allocate-words ver call [] located d = omega arith
allocate-words ver call (n ∷ ns) located d =
    let c = node_summary ver call located d n n.payload in
    let e : c.words ≡ wide_of ver call n = wide-same ver call located d n n.payload in
    let f : (allocate ver call ns (record { id = n.id; locations = c.outputs } ∷ located) (d + c.words)).words ≡ d + c.words + sum (wide_of ver call) ns =
    allocate-words ver call ns (record { id = n.id; locations = c.outputs } ∷ located) (d + c.words) in
    f ∙ omega arith

-- ---- what a pass does with instructions in two parts

bytes-append : (pass : Pass) (place : List ℕ) (is js : List Instruction) → bytes_by pass place (is ++ js) ≡ bytes_by pass place is ++ bytes_by pass place js
bytes-append Survey place is js = refl
bytes-append Sequential place is js = code-append V1 is js
bytes-append Addressed place is js =
    ap (instructions_code V2) (map-append (relocated place) is js) ∙ code-append V2 (map (relocated place) is) (map (relocated place) js)

all-notes : (m : ℕ) (last : List ℕ) (is js : List Instruction) → notes m last (is ++ js) ≡ notes m (notes m last is) js
all-notes m last [] js = refl
all-notes m last (i ∷ is) js = all-notes m (noted last (suc (i.result / name_step) - m) i.operands) is js

notes-append : (pass : Pass) (m : ℕ) (place : List ℕ) (is js : List Instruction) → notes_by pass m place (is ++ js) ≡ notes_by pass m (notes_by pass m place is) js
notes-append Survey m place is js = all-notes m place is js
notes-append Sequential m place is js = refl
notes-append Addressed m place is js = refl

all-measures : (wide : List ℕ) (is js : List Instruction) → measures wide (is ++ js) ≡ measures (measures wide is) js
all-measures wide [] js = refl
all-measures wide (i ∷ is) js = all-measures (set wide (i.result / name_step) (result_width i)) is js

measures-append : (pass : Pass) (wide : List ℕ) (is js : List Instruction) → measures_by pass wide (is ++ js) ≡ measures_by pass (measures_by pass wide is) js
measures-append Survey wide is js = all-measures wide is js
measures-append Sequential wide is js = refl
measures-append Addressed wide is js = refl

-- what is noted changes no byte
bytes-steady : (pass : Pass) (m : ℕ) (place : List ℕ) (is js : List Instruction) → bytes_by pass (notes_by pass m place is) js ≡ bytes_by pass place js
bytes-steady Survey m place is js = refl
bytes-steady Sequential m place is js = refl
bytes-steady Addressed m place is js = refl

-- ---- the loop

module _ (pass : Pass) (s order locations : List ℕ) (k : ℕ) (ins : List ℕ) (m : ℕ) (code₀ place₀ wide₀ : List ℕ) (at next₀ : ℕ) where
  abbrev ver : Version
  ver = naming_of pass

  abbrev go : Inline
  go = inlined (sizing ver) (before s k)

  abbrev call : Callee
  call = summary ver (before s k)

  abbrev table : Ref → Location
  table = location_table ver s k

  abbrev whole : Inlined
  whole = function_inlined ver s k ins next₀

  -- the instructions of these nodes, and their bytes
  abbrev left : List Node → ℕ → List Instruction
  left rest word = emit_nodes ver go table ins next₀ rest word

  abbrev text_of : List Instruction → List ℕ
  text_of is = bytes_by pass place₀ is

  -- i of the n nodes are done, `rest` are not
  pub record At (rest : List Node) (code place wide : List ℕ) (cell here word i n : ℕ) : Type 0 where
    pub near : next₀ ≤ unit_bound
    pub up : next₀ ≤ word
    pub count : i + length rest ≡ n
    pub placed : Placed s order locations table (node_limit * k + i) cell rest
    pub same : length code ≡ length code₀
    pub steady : (is : List Instruction) → bytes_by pass place is ≡ text_of is
    pub end : at + length (text_of whole.code) ≡ here + length (text_of (left rest word))
    pub text : sets code₀ at (text_of whole.code) ≡ sets code here (text_of (left rest word))
    pub noted : notes_by pass m place₀ whole.code ≡ notes_by pass m place (left rest word)
    pub measured : measures_by pass wide₀ whole.code ≡ measures_by pass wide (left rest word)
    pub words : whole.next ≡ word + sum (wide_of ver call) rest

  -- the loop's invariant
  abbrev pub State : (code place wide : List ℕ) (cell here word i n : ℕ) → Type 0
  State code place wide cell here word i n = (rest : List Node) × At rest code place wide cell here word i n × (n ≤ node_limit)

  whole_words : whole.next ≡ next₀ + (summary_at ver s k).words
  unfolding function_inlined
  whole_words = function-next ver go call (inlined-follows ver (before s k)) (function_in s k) ins next₀

  -- what stands before the function, and what it takes, is within the limits
  pub words-fit : CodeRoom pass code₀ place₀ at next₀ whole → (next₀ ≤ unit_bound) × ((summary_at ver s k).words ≤ unit_limit ver)
  words-fit h = let w = whole_words in let l = h.end in let o = h.own in let b = end-bound ver in (omega arith, omega arith)

  pub start : {outs begins ins₀ : List ℕ} {cell n : ℕ} → CodeRoom pass code₀ place₀ at next₀ whole → Allocated ver s (record { outs = outs; order = order; locations = locations; begins = begins; ins = ins₀ }) k → cell ≡ get_or begins k 0 → n ≡ node_count s (place_of s k)
      → State code₀ place₀ wide₀ cell at next₀ 0 n
  unfolding function_inlined
  start room l es en =
      let rest = schedule (function_in s k).nodes in
      let e : whole.code ≡ emit_nodes ver go table ins next₀ rest next₀ =
      function-table ver go call (inlined-follows ver (before s k)) (function_in s k) table l.agrees ins next₀ in
      let w : (allocate ver call rest [] 0).words ≡ 0 + sum (wide_of ver call) rest = allocate-words ver call rest [] 0 in
      let v = whole_words in (
        rest,
        record {
          near = (words-fit room).0;
          up = omega arith;
          count = let z = l.size in omega arith;
          placed = rw (add-zero, es) l.nodes;
          same = refl;
          steady = λ is. refl;
          end = ap (λ (is : List Instruction). at + length (text_of is)) e;
          text = ap (λ (is : List Instruction). sets code₀ at (text_of is)) e;
          noted = ap (notes_by pass m place₀) e;
          measured = ap (measures_by pass wide₀) e;
          words = omega arith;
        },
        rw en l.count,
      )

  -- the node at hand
  module _ (x : Node) (xs : List Node) (code place wide : List ℕ) (cell here word i n p : ℕ) (st : At (x ∷ xs) code place wide cell here word i n) (ep : p ≡ get_or order (node_limit * k + i) 0) where
    abbrev one : Inlined
    one = inline_node (sizing ver) go (λ r. address_at ins next₀ (table r)) word x x.payload

    stands : node_at s p ≡ x
    stands = ap (node_at s) ep ∙ st.placed.0.0

    node-is : node_inlined ver s locations k p cell ins next₀ word ≡ one
    unfolding node_inlined
    node-is =
        ap (λ (y : Node). inline_with ver go (addresses_in locations ins next₀ cell (length (reads y))) word y y.payload) stands
        ∙ sym (open-with ver go (λ r. address_at ins next₀ (table r)) word x x.payload (addresses_in locations ins next₀ cell (length (reads x)))
        (coded-addresses locations table ins next₀ cell (reads x) st.near st.placed.0.2))

    abbrev bytes : List ℕ
    bytes = text_of one.code

    abbrev after : List Instruction
    after = left xs one.next

    split : text_of (left (x ∷ xs) word) ≡ bytes ++ text_of after
    split = bytes-append pass place₀ one.code after

    lengths : length (text_of (left (x ∷ xs) word)) ≡ length bytes + length (text_of after)
    lengths = ap length split ∙ length-append bytes (text_of after)

    next-is : one.next ≡ word + wide_of ver call x
    next-is =
        let e : word ≡ word + 0 = omega arith in
        let a : one.next ≡ word + (0 + wide_of ver call x) =
        node-next ver go call (inlined-follows ver (before s k)) ins word (λ r. address_at ins next₀ (table r)) [] word 0 e x x.payload in
        a ∙ omega arith

    node-room : CodeRoom pass code₀ place₀ at next₀ whole → CodeRoom pass code place here word (node_inlined ver s locations k p cell ins next₀ word)
    node-room h = subst (λ (o : Inlined). CodeRoom pass code place here word o) (sym node-is) (record { room = room; end = end; own = own })
      where
        room : here + length (bytes_by pass place one.code) ≤ length code
        room =
            let a = h.room in
            let b = st.end in
            let d = lengths in
            let e = st.same in
            subst (λ (bs : List ℕ). here + length bs ≤ length code) (sym (st.steady one.code)) (omega arith)

        end : one.next ≤ end_limit ver
        end = let a = next-is in let b = h.end in let d = st.words in omega arith

        own : one.next ≤ word + unit_limit ver
        own = let a = next-is in let b = h.own in let d = st.words in let e = st.up in omega arith

    pub ready-one : CodeRoom pass code₀ place₀ at next₀ whole
        → CodeRoom pass code place here word (node_inlined ver s locations k p cell ins next₀ word) × ReadsNode s p × (cell + length (reads (node_at s p)) ≤ reference_limit)
    ready-one h = (
      node-room h,
      subst (ReadsNode s) (sym ep) st.placed.0.1,
      subst (λ (y : Node). cell + length (reads y) ≤ reference_limit) (sym stands) (coded-room locations table cell (reads x) st.placed.0.2),
    )

    pub stepped : (code' place' wide' : List ℕ) (r : Reached) → Walks pass m code place wide code' place' wide' here (node_inlined ver s locations k p cell ins next₀ word) r
        → r.cell ≡ cell + length (reads (node_at s p)) → At xs code' place' wide' r.cell r.at r.next (i + 1) n
    stepped code' place' wide' r e es =
        let eb : bytes_by pass place one.code ≡ bytes = st.steady one.code in
        let ec : code' ≡ sets code here bytes = e.written ∙ ap (λ (o : Inlined). sets code here (bytes_by pass place o.code)) node-is ∙ ap (sets code here) eb in
        let eh : r.at ≡ here + length bytes = e.end ∙ ap (λ (o : Inlined). here + length (bytes_by pass place o.code)) node-is ∙ ap (λ (bs : List ℕ). here + length bs) eb in
        let ew : r.next ≡ one.next = e.next ∙ ap (λ (o : Inlined). o.next) node-is in
        let en : place' ≡ notes_by pass m place one.code = e.noted ∙ ap (λ (o : Inlined). notes_by pass m place o.code) node-is in
        let em : wide' ≡ measures_by pass wide one.code = e.measured ∙ ap (λ (o : Inlined). measures_by pass wide o.code) node-is in
        let ef : r.cell ≡ cell + length (reads x) = es ∙ ap (λ (y : Node). cell + length (reads y)) stands in
        let ei : node_limit * k + (i + 1) ≡ node_limit * k + i + 1 = omega arith in
        let a = next-is in
        record {
          near = st.near;
          up = rw ew (let z = st.up in omega arith);
          count = let z = st.count in omega arith;
          placed = rw (ei, ef) st.placed.1;
          same = ap length ec ∙ length-sets code here bytes ∙ st.same;
          steady = λ is. ap (λ (ps : List ℕ). bytes_by pass ps is) en ∙ bytes-steady pass m place one.code is ∙ st.steady is;
          end = rw (eh, ew) (let b = st.end in let d = lengths in omega arith);
          text =
              st.text
              ∙ ap (λ (ys : List ℕ). sets code here ys) split
              ∙ sets-append bytes (text_of after) code here
              ∙ rw (ec, eh, ew);
          noted = st.noted ∙ notes-append pass m place one.code after ∙ rw (en, ew);
          measured = st.measured ∙ measures-append pass wide one.code after ∙ rw (em, ew);
          words = let z = st.words in omega arith;
        }

-- ---- the invariant, at the loop's head

module _ {pass : Pass} {s order locations : List ℕ} {k : ℕ} {ins : List ℕ} {m : ℕ} {code₀ place₀ wide₀ : List ℕ} {at next₀ : ℕ} {code place wide : List ℕ} {cell here word i n : ℕ} where
  pub node-ready : {p : ℕ} → State pass s order locations k ins m code₀ place₀ wide₀ at next₀ code place wide cell here word i n → i < n → p ≡ get_or order (node_limit * k + i) 0
      → CodeRoom pass code₀ place₀ at next₀ (function_inlined (naming_of pass) s k ins next₀)
      → CodeRoom pass code place here word (node_inlined (naming_of pass) s locations k p cell ins next₀ word) × ReadsNode s p × (cell + length (reads (node_at s p)) ≤ reference_limit)
  node-ready ([], st, le) lt ep h = let c = st.count in absurd (omega arith)
  node-ready {p} (x ∷ xs, st, le) lt ep h = ready-one pass s order locations k ins m code₀ place₀ wide₀ at next₀ x xs code place wide cell here word i n p st ep h

  pub advance : {p : ℕ} → State pass s order locations k ins m code₀ place₀ wide₀ at next₀ code place wide cell here word i n → i < n → p ≡ get_or order (node_limit * k + i) 0
      → {code' place' wide' : List ℕ} {r : Reached} → Walks pass m code place wide code' place' wide' here (node_inlined (naming_of pass) s locations k p cell ins next₀ word) r
      → r.cell ≡ cell + length (reads (node_at s p))
      → State pass s order locations k ins m code₀ place₀ wide₀ at next₀ code' place' wide' r.cell r.at r.next (i + 1) n
  advance ([], st, le) lt ep e es = let c = st.count in absurd (omega arith)
  advance {p} (x ∷ xs, st, le) lt ep {code'} {place'} {wide'} {r} e es =
      (xs, stepped pass s order locations k ins m code₀ place₀ wide₀ at next₀ x xs code place wide cell here word i n p st ep code' place' wide' r e es, le)

  pub same_size : State pass s order locations k ins m code₀ place₀ wide₀ at next₀ code place wide cell here word i n → length code ≡ length code₀
  same_size (rest, st, le) = st.same

  pub few-nodes : State pass s order locations k ins m code₀ place₀ wide₀ at next₀ code place wide cell here word i n → n ≤ node_limit
  few-nodes (rest, st, le) = le

  -- all nodes are done
  pub finished : State pass s order locations k ins m code₀ place₀ wide₀ at next₀ code place wide cell here word i n → n ≤ i
      → Walks pass m code₀ place₀ wide₀ code place wide at (function_inlined (naming_of pass) s k ins next₀) (record { at = here; next = word; cell = cell })
  finished ([], st, le) ge = ended pass st.text st.noted st.measured st.end st.words
    where
      ended : (pass : Pass) {o : Inlined} {m at : ℕ} {code₀ place₀ wide₀ code place wide : List ℕ} {here word cell : ℕ}
          → sets code₀ at (bytes_by pass place₀ o.code) ≡ sets code here (bytes_by pass place₀ []) → notes_by pass m place₀ o.code ≡ notes_by pass m place [] → measures_by pass wide₀ o.code ≡ measures_by pass wide []
          → at + length (bytes_by pass place₀ o.code) ≡ here + length (bytes_by pass place₀ []) → o.next ≡ word + 0
          → Walks pass m code₀ place₀ wide₀ code place wide at o (record { at = here; next = word; cell = cell })
      ended Survey t n w e z = record { written = sym t; noted = sym n; measured = sym w; end = omega arith; next = omega arith }
      ended Sequential t n w e z = record { written = sym t; noted = sym n; measured = sym w; end = omega arith; next = omega arith }
      ended Addressed t n w e z = record { written = sym t; noted = sym n; measured = sym w; end = omega arith; next = omega arith }
  finished (x ∷ xs, st, le) ge = let c = st.count in absurd (omega arith)
