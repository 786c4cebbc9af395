-- The locations found before a function is inlined are where its values stand once it is inlined. `Matches` relates what is
-- written to what is located and is kept by every node; a callee's locations, rebased, are its caller's. So one table of
-- locations serves a function however often it is called.
use Prim.Native.Nat.{ℕ, ◌+◌}
use mathlib.Core.Path.{◌≡◌, refl, ap, sym, ◌∙◌, subst}
use mathlib.Core.Bool.{Bool, true, false, ◌||◌, cond}
use mathlib.Core.List.{List, [], ◌∷◌, ◌++◌, map, map-map, reverse, reverse_aux}
use mathlib.Core.Logic.{◌⊎◌, inl, inr, ⊎_elim}
use native.Mathlib.Omega.{arith}
use lib.Dec.{eqb}
use lib.ListN.{get_or, get_or-map}
use borrow.Author.Tests.{eqb-true, eq-eqb}
use Rattle.ports.specs.Kinds.{kind_of}
use Rattle.ports.specs.Ports.{width, gives}
use Rattle.graph.specs.Graph.{Ref, Payload, consts, refs, calls, Node, Function}
use Rattle.base.specs.Lists.{Each, member, Distinct}
use Rattle.graph.specs.Look.{reads_of, reads, output_refs, ids}
use Rattle.graph.specs.Schedule.{ready, schedule}
use Rattle.base.specs.Outcome.{ok, ◌>>◌}
use Rattle.graph.specs.Format.{format_of}
use Rattle.graph.specs.Read.{parse}
use Rattle.graph.specs.Judge.{judge, judge_all, table}
use Rattle.base.specs.Bytes.{Bytes}
use Rattle.graph.specs.Sound.{Sound}
use Rattle.base.proofs.Bools.{and-inv, or-inv}
use Rattle.base.proofs.Outcomes.{took, after, ok-is}
use Rattle.graph.proofs.Fresh.{judged-distinct}
use Rattle.graph.proofs.Order.{Ordered, scheduled, schedule-distinct}
use Rattle.bytecode.specs.Run.{Instruction, places}
use Rattle.lowering.specs.Compile.{Written, ports_at, address, Inlined, Inline, single, inline_node, also, inline_nodes, inline_function, inlined}
use Rattle.compiler.specs.Static.{Location, nowhere, input, offset, address_at, rebase, Located, locations_of, location_of, Summary, Callee, node_summary, allocate, function_summary, summary, emit_nodes, Agrees}
use Rattle.bytecode.specs.declared.Version.{Version}
use Rattle.lowering.specs.Naming.{sizing}

-- ---- lists

-- two functions that agree give the same list
pub map_same : {A B : Type 0} (f g : A → B) → ((x : A) → f x ≡ g x) → (xs : List A) → map f xs ≡ map g xs
map_same f g h [] = refl
map_same f g h (x ∷ xs) = let a = h x in let b = map_same f g h xs in cc

-- ---- a location and its address

-- a port's address is that of its location
pub location-port : (ins : List ℕ) (base : ℕ) (locations : List Location) (p : ℕ) → get_or (map (address_at ins base) locations) p 0 ≡ address_at ins base (get_or locations p nowhere)
location-port ins base locations p = get_or-map (address_at ins base) locations p nowhere

-- a callee's location, inlined with its arguments' addresses from its first word on, is the caller's location rebase the call
pub location-rebase : (ins : List ℕ) (base d : ℕ) (args : List Location) (s : Location) → address_at (map (address_at ins base) args) (base + d) s ≡ address_at ins base (rebase d args s)
location-rebase ins base d args nowhere = refl
location-rebase ins base d args (input i) = location-port ins base args i
location-rebase ins base d args (offset e) = omega arith

-- the same of all a callee's locations
pub locations-rebase : (ins : List ℕ) (base d : ℕ) (args locations : List Location)
    → map (address_at (map (address_at ins base) args) (base + d)) locations ≡ map (address_at ins base) (map (rebase d args) locations)
locations-rebase ins base d args locations =
    map_same (address_at (map (address_at ins base) args) (base + d)) (λ s. address_at ins base (rebase d args s)) (location-rebase ins base d args) locations
    ∙ sym (map-map (address_at ins base) (rebase d args) locations)

-- results one after another from a word on are offsets one after another
pub places-offset : (ins : List ℕ) (base d : ℕ) (ts : List ℕ) → places (base + d) ts ≡ map (address_at ins base) (map offset (places d ts))
places-offset ins base d [] = refl
places-offset ins base d (t ∷ ts) =
    let e : base + d + width t ≡ base + (d + width t) = omega arith in
    ap (λ (xs : List ℕ). (base + d) ∷ xs) (ap (λ (q : ℕ). places q ts) e ∙ places-offset ins base (d + width t) ts)

-- ---- the nodes that are written, and those that have their locations

-- every port that is written stands at its location
pub record Matches (ins : List ℕ) (base : ℕ) (written : List Written) (located : List Located) : Type 0 where
  pub ports : (i : ℕ) → ports_at i written ≡ map (address_at ins base) (locations_of i located)

-- at the start nothing is written
pub matches-start : (ins : List ℕ) (base : ℕ) → Matches ins base [] []
matches-start ins base = record { ports = λ i. refl }

-- a node more has its locations
abbrev pub locating : Node → Summary → List Located → List Located
locating n c located = record { id = n.id; locations = c.outputs } ∷ located

-- a node more whose ports stand at its locations
pub matches-also : (ins : List ℕ) (base : ℕ) (written : List Written) (located : List Located) (n : Node) (o : Inlined) (c : Summary) → Matches ins base written located
    → o.ports ≡ map (address_at ins base) c.outputs → Matches ins base (also n o written) (locating n c located)
matches-also ins base written located n o c m e = record { ports = λ i. pick_one i (eqb n.id i) }
  where
    pick_one : (i : ℕ) (b : Bool) → cond b o.ports (ports_at i written) ≡ map (address_at ins base) (cond b c.outputs (locations_of i located))
    pick_one i true = e
    pick_one i false = m.ports i

-- the address of a reference is that of its location
pub address-location : (ins : List ℕ) (base : ℕ) (written : List Written) (located : List Located) → Matches ins base written located → (r : Ref)
    → address ins written r ≡ address_at ins base (location_of located r)
address-location ins base written located m r = pick_one (eqb r.node 0)
  where
    pick_one : (b : Bool)
        → get_or (cond b ins (ports_at r.node written)) r.port 0
        ≡ address_at ins base (cond b (input r.port) (get_or (locations_of r.node located) r.port nowhere))
    pick_one true = refl
    pick_one false = ap (λ (xs : List ℕ). get_or xs r.port 0) (m.ports r.node) ∙ location-port ins base (locations_of r.node located) r.port

-- the same of several references
pub addresses-locations : (ins : List ℕ) (base : ℕ) (written : List Written) (located : List Located) → Matches ins base written located → (rs : List Ref)
    → map (address ins written) rs ≡ map (address_at ins base) (map (location_of located) rs)
addresses-locations ins base written located m rs =
    map_same (address ins written) (λ r. address_at ins base (location_of located r)) (address-location ins base written located m) rs
    ∙ sym (map-map (address_at ins base) (location_of located) rs)

-- ---- a node, and the nodes in their order

-- what a function is inlined to stands as its callers see it
pub record Follows (go : Inline) (call : Callee) : Type 0 where
  pub ports : (c : ℕ) (ins : List ℕ) (next : ℕ) → (go c ins next).ports ≡ map (address_at ins next) (call c).outputs
  pub next : (c : ℕ) (ins : List ℕ) (next : ℕ) → (go c ins next).next ≡ next + (call c).words

module _ (ver : Version) (go : Inline) (call : Callee) (follows : Follows go call) (ins : List ℕ) (base : ℕ) where
  -- a node's ports stand at its locations
  pub node-ports : (written : List Written) (located : List Located) → Matches ins base written located → (next d : ℕ) → next ≡ base + d → (n : Node) (p : Payload)
      → (inline_node (sizing ver) go (address ins written) next n p).ports ≡ map (address_at ins base) (node_summary ver call located d n p).outputs
  node-ports written located m next d e n (consts ws) =
      let out = gives (kind_of n.kind) n.type in
      ap (λ (q : ℕ). places q out) e ∙ places-offset ins base d out
  node-ports written located m next d e n (refs rs) =
      let out = gives (kind_of n.kind) n.type in
      ap (λ (q : ℕ). places q out) e ∙ places-offset ins base d out
  node-ports written located m next d e n (calls c rs) =
      follows.ports c (map (address ins written) rs) next
      ∙ ap (λ (q : ℕ). map (address_at (map (address ins written) rs) q) (call c).outputs) e
      ∙ ap (λ (xs : List ℕ). map (address_at xs (base + d)) (call c).outputs) (addresses-locations ins base written located m rs)
      ∙ locations-rebase ins base d (map (location_of located) rs) (call c).outputs

  -- the first word behind a node
  pub node-next : (from : Ref → ℕ) (located : List Located) (next d : ℕ) → next ≡ base + d → (n : Node) (p : Payload)
      → (inline_node (sizing ver) go from next n p).next ≡ base + (d + (node_summary ver call located d n p).words)
  node-next from located next d e n (consts ws) = omega arith
  node-next from located next d e n (refs rs) = omega arith
  node-next from located next d e n (calls c rs) = let h : (go c (map from rs) next).next ≡ next + (call c).words = follows.next c (map from rs) next in omega arith

  -- a step over a node keeps the match
  pub matches-step : (written : List Written) (located : List Located) → Matches ins base written located → (next d : ℕ) → next ≡ base + d → (n : Node)
      → Matches ins base (also n (inline_node (sizing ver) go (address ins written) next n n.payload) written) (locating n (node_summary ver call located d n n.payload) located)
  matches-step written located m next d e n =
      matches-also ins base written located n (inline_node (sizing ver) go (address ins written) next n n.payload) (node_summary ver call located d n n.payload) m
      (node-ports written located m next d e n n.payload)

  -- all nodes: they match behind them too
  pub matches-nodes : (ns : List Node) (written : List Written) (located : List Located) → Matches ins base written located → (next d : ℕ) → next ≡ base + d
      → Matches ins base (inline_nodes (sizing ver) go ins ns written next).written (allocate ver call ns located d).located
  matches-nodes [] written located m next d e = m
  matches-nodes (n ∷ ns) written located m next d e =
      let o = inline_node (sizing ver) go (address ins written) next n n.payload in
      let c = node_summary ver call located d n n.payload in
      matches-nodes ns (also n o written) (locating n c located) (matches-step written located m next d e n) o.next (d + c.words)
      (node-next (address ins written) located next d e n n.payload)

  -- the first word behind all nodes
  pub nodes-next : (ns : List Node) (written : List Written) (located : List Located) (next d : ℕ) → next ≡ base + d
      → (inline_nodes (sizing ver) go ins ns written next).next ≡ base + (allocate ver call ns located d).words
  nodes-next [] written located next d e = e
  nodes-next (n ∷ ns) written located next d e =
      let o = inline_node (sizing ver) go (address ins written) next n n.payload in
      let c = node_summary ver call located d n n.payload in
      nodes-next ns (also n o written) (locating n c located) o.next (d + c.words)
      (node-next (address ins written) located next d e n n.payload)

-- ---- a function

-- the ports of a function that is inlined stand at its outputs' locations
pub function-ports : (ver : Version) → (go : Inline) (call : Callee) → Follows go call → (f : Function) (ins : List ℕ) (next : ℕ)
    → (inline_function (sizing ver) go f ins next).ports ≡ map (address_at ins next) (function_summary ver call f).outputs
function-ports ver go call follows f ins next =
    let e : next ≡ next + 0 = omega arith in
    let m = matches-nodes ver go call follows ins next (schedule f.nodes) [] [] (matches-start ins next) next 0 e in
    addresses-locations ins next _ _ m (output_refs f.outputs)

-- the first word behind a function that is inlined
pub function-next : (ver : Version) → (go : Inline) (call : Callee) → Follows go call → (f : Function) (ins : List ℕ) (next : ℕ)
    → (inline_function (sizing ver) go f ins next).next ≡ next + (function_summary ver call f).words
function-next ver go call follows f ins next = nodes-next ver go call follows ins next (schedule f.nodes) [] [] next 0 (omega arith)

-- the functions, inlined, stand as their callers see them
pub inlined-follows : (ver : Version) → (early : List Function) → Follows (inlined (sizing ver) early) (summary ver early)
unfolding inlined summary
inlined-follows ver [] = record { ports = λ c ins next. refl; next = λ c ins next. omega arith }
inlined-follows ver (f ∷ early) = both (inlined-follows ver early)
  where
    both : Follows (inlined (sizing ver) early) (summary ver early) → Follows (inlined (sizing ver) (f ∷ early)) (summary ver (f ∷ early))
    both h = record { ports = λ c ins next. ports c ins next (eqb f.id c); next = λ c ins next. behind c ins next (eqb f.id c) }
      where
        ports : (c : ℕ) (ins : List ℕ) (next : ℕ) (b : Bool)
            → (cond b (inline_function (sizing ver) (inlined (sizing ver) early) f ins next) (inlined (sizing ver) early c ins next)).ports
            ≡ map (address_at ins next) (cond b (function_summary ver (summary ver early) f) (summary ver early c)).outputs
        ports c ins next true = function-ports ver (inlined (sizing ver) early) (summary ver early) h f ins next
        ports c ins next false = h.ports c ins next

        behind : (c : ℕ) (ins : List ℕ) (next : ℕ) (b : Bool)
            → (cond b (inline_function (sizing ver) (inlined (sizing ver) early) f ins next) (inlined (sizing ver) early c ins next)).next
            ≡ next + (cond b (function_summary ver (summary ver early) f) (summary ver early c)).words
        behind c ins next true = function-next ver (inlined (sizing ver) early) (summary ver early) h f ins next
        behind c ins next false = h.next c ins next

-- the first word behind the function of an id
pub inlined-next : (ver : Version) → (early : List Function) (c : ℕ) (ins : List ℕ) (next : ℕ) → (inlined (sizing ver) early c ins next).next ≡ next + (summary ver early c).words
inlined-next ver early c ins next = (inlined-follows ver early).next c ins next

-- ---- ids that are single

-- no two nodes have one id
abbrev pub Single : List Node → Type 0
Single ns = Distinct (ids ns)

all-single : (early fs : List Function) (u : Unit {0}) → Each (λ f. Single f.nodes) early → judge_all early fs ≡ ok u
    → Each (λ f. Single f.nodes) (reverse_aux fs early)
all-single early [] u h e = h
all-single early (f ∷ fs) u h e =
    let (b, p, q) = after (judge early f) (judge_all (f ∷ early) fs) u e in
    all-single (f ∷ early) fs u (judged-distinct early f b p, h) q

-- every function of an accepted table has single ids
pub accepted-single : (s : List ℕ) → Bytes s → (fs : List Function) → table s ≡ ok fs → Each (λ f. Single f.nodes) fs
unfolding table
accepted-single s small fs e =
    let (gs, p, e1) = took (parse (format_of s) s) (λ fs. judge_all [] fs >> ok (reverse fs)) fs e in
    let (u, j, e2) = after (judge_all [] gs) (ok (reverse gs)) fs e1 in
    let q : reverse gs ≡ fs = ok-is e2 in
    subst (λ (hs : List Function). Each (λ f. Single f.nodes) hs) q (all-single [] gs u tt j)

-- ---- later is the same

-- nodes with other ids leave the locations of an id
pub locations-later : (ver : Version) → (call : Callee) (i : ℕ) (ns : List Node) (located : List Located) (d : ℕ) → member i (ids ns) ≡ false
    → locations_of i (allocate ver call ns located d).located ≡ locations_of i located
locations-later ver call i [] located d e = refl
locations-later ver call i (n ∷ ns) located d e =
    let c = node_summary ver call located d n n.payload in
    let (a, b) = apart (eqb n.id i) e in
    locations-later ver call i ns (locating n c located) (d + c.words) b ∙ rw a refl
  where
    apart : (b : Bool) → cond b true (member i (ids ns)) ≡ false → (b ≡ false) × (member i (ids ns) ≡ false)
    apart true h = let z : ◌≡◌ {A = ℕ} 0 1 = cc in absurd (omega arith)
    apart false h = (refl, h)

-- the location of a reference to an input, or to an id that none of the nodes has
pub location-later : (ver : Version) → (call : Callee) (r : Ref) (ns : List Node) (located : List Located) (d : ℕ) → (r.node ≡ 0) ⊎ (member r.node (ids ns) ≡ false)
    → location_of (allocate ver call ns located d).located r ≡ location_of located r
location-later ver call r ns located d (inl e) = rw (eq-eqb r.node 0 e) refl
location-later ver call r ns located d (inr e) =
    ap (λ (xs : List Location). cond (eqb r.node 0) (input r.port) (get_or xs r.port nowhere)) (locations-later ver call r.node ns located d e)

-- what is done is none of the nodes to come
abbrev pub Apart : List ℕ → List Node → Type 0
Apart done ns = (i : ℕ) → member i done ≡ true → member i (ids ns) ≡ false

-- a node more is done
pub apart-step : (done : List ℕ) (n : Node) (ns : List Node) → Single (n ∷ ns) → Apart done (n ∷ ns) → Apart (n.id ∷ done) ns
apart-step done n ns (s, ss) apart i e = pick_one (eqb n.id i) refl e (apart i)
  where
    pick_one : (b : Bool) → eqb n.id i ≡ b → cond b true (member i done) ≡ true → (member i done ≡ true → cond b true (member i (ids ns)) ≡ false)
        → member i (ids ns) ≡ false
    pick_one true q h k = subst (λ (j : ℕ). member j (ids ns) ≡ false) (eqb-true n.id i q) s
    pick_one false q h k = k h

-- what a node reads at its turn has the same location in all later lists
pub reads-later : (ver : Version) → (call : Callee) (done : List ℕ) (rs : List Ref) (ns : List Node) (located : List Located) (d : ℕ) → Apart done ns → ready done rs ≡ true
    → Each (λ r. location_of (allocate ver call ns located d).located r ≡ location_of located r) rs
reads-later ver call done [] ns located d apart e = tt
reads-later ver call done (r ∷ rs) ns located d apart e =
    let (a, b) = and-inv (eqb r.node 0 || member r.node done) (ready done rs) e in (
      location-later ver call r ns located d (⊎_elim (λ z. inl (eqb-true r.node 0 z)) (λ m. inr (apart r.node m)) (or-inv (eqb r.node 0) (member r.node done) a)),
      reads-later ver call done rs ns located d apart b,
    )

-- the last list is a table for all nodes of an order with single ids
pub last-agrees : (ver : Version) → (call : Callee) (done : List ℕ) (ns : List Node) (located : List Located) (d : ℕ) → Single ns → Apart done ns → Ordered done ns
    → Agrees ver call (location_of (allocate ver call ns located d).located) ns located d
last-agrees ver call done [] located d single apart ordered = tt
last-agrees ver call done (n ∷ ns) located d (s, single) apart (fit, ordered) =
    let c = node_summary ver call located d n n.payload in (
      reads-later ver call done (reads n) (n ∷ ns) located d apart fit,
      last-agrees ver call (n.id ∷ done) ns (locating n c located) (d + c.words) single (apart-step done n ns (s, single) apart) ordered,
    )

-- the last list of a function's schedule is a table for its nodes
pub function-agrees : (ver : Version) → (call : Callee) (early : List Function) (f : Function) → Sound early f → Single f.nodes
    → Agrees ver call (location_of (allocate ver call (schedule f.nodes) [] 0).located) (schedule f.nodes) [] 0
function-agrees ver call early f sound single =
    last-agrees ver call [] (schedule f.nodes) [] 0 (schedule-distinct early f sound single) nothing (scheduled early f sound).ordered
  where
    nothing : Apart [] (schedule f.nodes)
    nothing i e = let z : ◌≡◌ {A = ℕ} 0 1 = cc in absurd (omega arith)

-- ---- the code by a table of locations

-- the addresses of what a node reads are those of the table's locations
pub addresses-table : (ins : List ℕ) (base : ℕ) (written : List Written) (located : List Located) → Matches ins base written located → (table : Ref → Location) (rs : List Ref)
    → Each (λ r. table r ≡ location_of located r) rs → map (address ins written) rs ≡ map (λ r. address_at ins base (table r)) rs
addresses-table ins base written located m table [] h = refl
addresses-table ins base written located m table (r ∷ rs) (e, h) =
    let a : address ins written r ≡ address_at ins base (table r) = address-location ins base written located m r ∙ ap (address_at ins base) (sym e) in
    let b : map (address ins written) rs ≡ map (λ r. address_at ins base (table r)) rs = addresses-table ins base written located m table rs h in
    cc

-- a node by the table's locations
pub node-table : (ver : Version) → (go : Inline) (ins : List ℕ) (base : ℕ) (written : List Written) (located : List Located) → Matches ins base written located
    → (table : Ref → Location) (next : ℕ) (n : Node) (p : Payload) → Each (λ r. table r ≡ location_of located r) (reads_of p)
    → inline_node (sizing ver) go (address ins written) next n p ≡ inline_node (sizing ver) go (λ r. address_at ins base (table r)) next n p
node-table ver go ins base written located m table next n (consts ws) h = refl
node-table ver go ins base written located m table next n (refs rs) h =
    ap (λ (xs : List ℕ). single (sizing ver) n.kind n.type xs [] next) (addresses-table ins base written located m table rs h)
node-table ver go ins base written located m table next n (calls c rs) h =
    ap (λ (xs : List ℕ). go c xs next) (addresses-table ins base written located m table rs h)

-- the code of nodes in their order by the table's locations
pub nodes-table : (ver : Version) → (go : Inline) (call : Callee) → Follows go call → (ins : List ℕ) (base : ℕ) (table : Ref → Location) (ns : List Node) (written : List Written) (located : List Located)
    → Matches ins base written located → (next d : ℕ) → next ≡ base + d → Agrees ver call table ns located d
    → (inline_nodes (sizing ver) go ins ns written next).code ≡ emit_nodes ver go table ins base ns next
nodes-table ver go call follows ins base table [] written located m next d e agrees = refl
nodes-table ver go call follows ins base table (n ∷ ns) written located m next d e (a, agrees) =
    let o = inline_node (sizing ver) go (address ins written) next n n.payload in
    let c = node_summary ver call located d n n.payload in
    let same : o ≡ inline_node (sizing ver) go (λ r. address_at ins base (table r)) next n n.payload = node-table ver go ins base written located m table next n n.payload a in
    let rest =
    nodes-table ver go call follows ins base table ns (also n o written) (locating n c located) (matches-step ver go call follows ins base written located m next d e n)
    o.next (d + c.words) (node-next ver go call follows ins base (address ins written) located next d e n n.payload) agrees in
    ap (λ (xs : List Instruction). o.code ++ xs) rest ∙ ap (λ (x : Inlined). x.code ++ emit_nodes ver go table ins base ns x.next) same

-- the code of a function by a table of locations
pub function-table : (ver : Version) → (go : Inline) (call : Callee) → Follows go call → (f : Function) (table : Ref → Location) → Agrees ver call table (schedule f.nodes) [] 0 → (ins : List ℕ) (next : ℕ)
    → (inline_function (sizing ver) go f ins next).code ≡ emit_nodes ver go table ins next (schedule f.nodes) next
function-table ver go call follows f table agrees ins next =
    nodes-table ver go call follows ins next table (schedule f.nodes) [] [] (matches-start ins next) next 0 (omega arith) agrees
