-- The loop that allocates the nodes of a function in their order. Its invariant says that what is left of the schedule, laid
-- out from here on, gives the whole function's allocation; so a step is one node of `allocate`, and the end needs no
-- induction. A node's locations are stored as numbers; Coding.antt says what these mean.
use Prim.Native.Nat.{ℕ, zero, suc, ◌+◌, ◌*◌, ◌≤◌, ◌<◌}
use mathlib.Core.Path.{◌≡◌, refl, sym, ap, ◌∙◌, subst}
use mathlib.Core.Bool.{Bool, true, false, cond}
use mathlib.Core.List.{List, [], ◌∷◌, map}
use mathlib.Core.Option.{some}
use mathlib.Core.Logic.{inr}
use native.Mathlib.Omega.{arith}
use native.Mathlib.Nat.{add-zero}
use lib.Dec.{eqb}
use lib.ListN.{length, get_or, set, replicate, get_elem?, length-map, length-set, length-replicate}
use lib.Seq.{sets, length-sets, get_or-set_same, get_or-set_other}
use borrow.Author.Tests.{eqb-false}
use Rattle.compiler.specs.Sizes.{order_limit, node_port_limit}
use Rattle.base.specs.Limits.{node_limit, reference_limit, address_limit, function_limit, port_limit, operand_limit}
use Rattle.base.specs.Lists.{Each, member, Is}
use Rattle.ports.specs.Kinds.{kind_of}
use Rattle.ports.specs.Ports.{ports_of, form_of, calling}
use Rattle.base.specs.Bytes.{byte, u16}
use Rattle.graph.specs.Graph.{Ref, Payload, consts, refs, calls, Node}
use Rattle.graph.specs.Look.{reads, reads_of, ids}
use Rattle.graph.specs.Read.{references}
use Rattle.graph.specs.Schedule.{schedule}
use Rattle.graph.specs.Formed.{FormedPayload, FormedNode}
use Rattle.graph.specs.Sound.{AllSound}
use Rattle.graph.specs.Sums.{sum}
use Rattle.graph.proofs.Order.{sound-closed, scheduled, schedule-within}
use Rattle.base.proofs.Outcomes.{is-each}
use Rattle.graph.proofs.Formed.{refs-length}
use Rattle.reader.specs.Layout.{kind_at, node_at, nodes_at, node_place, nodes_place, node_count, function_at, earlier}
use Rattle.order.specs.Indices.{index_order}
use Rattle.order.specs.Resolve.{Resolves}
use Rattle.order.proofs.Nodes.{at-is, at-below, ref-member}
use Rattle.order.proofs.Scheduled.{schedule-is}
use Rattle.reader.specs.declared.Reads.{Reads}
use Rattle.reader.specs.Find.{ReadsNode, ReadsOf}
use Rattle.reader.proofs.Passed.{head-fits, place-reads, nodes-named, Holds, function-holds}
use Rattle.compiler.specs.Static.{Location, nowhere, input, offset, Located, location_of, Summary, Callee, node_summary, summary, allocate, Allocation, Agrees}
use Rattle.sums.specs.Position.{place_of, function_in, before, position_of, Accepted}
use Rattle.resolver.specs.Slots.{PlacesAre}
use Rattle.compiler.specs.Locating.{Slots, read_codes, node_codes, Codes, PortsCoded, AllOuts, PortsKnown, read_count, NodesAllocated}
use Rattle.compiler.specs.Emit.{Stands, location_table, Coded, Placed, summary_at}
use Rattle.base.proofs.Stores.{sets-in, sets_below}
use Rattle.compiler.proofs.Bounds.{Within, outputs-within, reads-within}
use Rattle.compiler.proofs.Locations.{Single, function-agrees}
use Rattle.compiler.proofs.Units.{units-at, function-units, limit-bound, nodes-units, node-units, callee-units}
use Rattle.sums.proofs.Rows.{narrow}
use Rattle.compiler.proofs.References.{count-reads, few-reads}
use Rattle.sums.proofs.Summing.{sums-are}
use Rattle.resolver.proofs.Rows.{length-nodes}
use Rattle.checker.proofs.Whole.{node-at}
use Rattle.compiler.proofs.Coding.{AllCodes, codes-length, codes-stored, reads-coded, node-coded, node-few, knows-step}
use Rattle.sums.proofs.Accepted.{few, read_below, sound-below, short}
use Rattle.compiler.proofs.Accepting.{single-at}
use Rattle.bytecode.specs.declared.Version.{Version}
use Rattle.compiler.specs.Units.{units_in, units_at, adds_units, unit_limit, unit_bound}

-- ---- ids are single

absent-at : (ns : List Node) (j v : ℕ) (y : Node) → member j (ids ns) ≡ false → get_elem? ns v ≡ some y → y.id ≡ j → ⊥
absent-at [] j v y a g e = let z : ◌≡◌ {A = ℕ} 0 1 = cc in omega arith
absent-at (x ∷ ns) j zero y a g e = pick_one (eqb x.id j) refl a
  where
    pick_one : (b : Bool) → eqb x.id j ≡ b → cond b true (member j (ids ns)) ≡ false → ⊥
    pick_one true q a = let z : ◌≡◌ {A = ℕ} 0 1 = cc in omega arith
    pick_one false q a = let z : x ≡ y = cc in eqb-false x.id j q (ap (λ (n : Node). n.id) z ∙ e)
absent-at (x ∷ ns) j (suc v) y a g e = absent-at ns j v y (pick_one (eqb x.id j) a) g e
  where
    pick_one : (b : Bool) → cond b true (member j (ids ns)) ≡ false → member j (ids ns) ≡ false
    pick_one true a = let z : ◌≡◌ {A = ℕ} 0 1 = cc in absurd (omega arith)
    pick_one false a = a

single-index : (ns : List Node) → Single ns → (v i : ℕ) (y x : Node) → get_elem? ns v ≡ some y → get_elem? ns i ≡ some x → y.id ≡ x.id → v ≡ i
single-index [] h v i y x gv gi e = let z : ◌≡◌ {A = ℕ} 0 1 = cc in absurd (omega arith)
single-index (n ∷ ns) (a, h) zero zero y x gv gi e = refl
single-index (n ∷ ns) (a, h) zero (suc i) y x gv gi e = let z : n ≡ y = cc in absurd (absent-at ns n.id i x a gi (sym e ∙ ap (λ (m : Node). m.id) (sym z)))
single-index (n ∷ ns) (a, h) (suc v) zero y x gv gi e = let z : n ≡ x = cc in absurd (absent-at ns n.id v y a gv (e ∙ ap (λ (m : Node). m.id) (sym z)))
single-index (n ∷ ns) (a, h) (suc v) (suc i) y x gv gi e = ap suc (single-index ns h v i y x gv gi e)

-- ---- numbers that stand for locations

pub each-wider : (a b w : ℕ) (xs : List Location) → w ≤ b → Each (Within a w) xs → Each (Within a b) xs
each-wider a b w [] l h = tt
each-wider a b w (x ∷ xs) l (h, hs) = (wider x h, each-wider a b w xs l hs)
  where
    wider : (x : Location) → Within a w x → Within a b x
    wider nowhere h = h
    wider (input i) h = h
    wider (offset d) h = omega arith

pub strong : (a e : ℕ) (x : Location) → a ≤ port_limit → Codes e x → Within a unit_bound x → Stands e x
strong a e nowhere l c w = absurd w
strong a e (input i) l c w = (c (omega arith), omega arith)
strong a e (offset d) l c w = (c, w)

-- the locations of references, in the last list, where their numbers are stored
coded-reads : (a : ℕ) (table : Ref → Location) (located : List Located) (locations : List ℕ) (here : ℕ) (rs : List Ref) (es : List ℕ) → a ≤ 8
    → AllCodes es (map (location_of located) rs) → Each (λ r. table r ≡ location_of located r) rs → Each (Within a unit_bound) (map table rs)
    → ((q : ℕ) → q < length es → get_or locations (here + q) 0 ≡ get_or es q 0) → here + length rs ≤ reference_limit → Coded locations table here rs
coded-reads a table located locations here [] es l h t w g r = omega arith
coded-reads a table located locations here (r ∷ rs) [] l h t w g room = absurd h
coded-reads a table located locations here (r ∷ rs) (e ∷ es) l (c, h) (t, ts) (w, ws) g room =
    let z : here + 0 ≡ here = omega arith in
    let x : get_or locations here 0 ≡ e = ap (λ (q : ℕ). get_or locations q 0) (sym z) ∙ g 0 (omega arith) in (
      subst (λ (y : ℕ). Stands y (table r)) (sym x) (strong a e (table r) l (subst (Codes e) (sym t) c) w),
      coded-reads a table located locations (here + 1) rs es l h ts ws (λ q ql. let y : here + 1 + q ≡ here + suc q = omega arith in ap (λ (b : ℕ). get_or locations b 0) y ∙ g (suc q) (omega arith)) (omega arith),
    )

-- ---- the loop

-- what the loop over the nodes of the function at position k is lent; its references have their locations from c on
pub record Lent (ver : Version) (s : List ℕ) (k c : ℕ) (outs ts places : List ℕ) : Type 0 where
  pub limit : units_at ver s k ≤ unit_limit ver
  pub room : c + read_count s k ≤ reference_limit
  pub slots : Slots s (nodes_place s (place_of s k)) (node_count s (place_of s k)) ts
  pub held : PlacesAre s (nodes_place s (place_of s k)) (node_count s (place_of s k)) places
  pub all : AllOuts ver s outs k

module _ (ver : Version) (s : List ℕ) (k c : ℕ) (acc : Accepted s (suc k)) (outs ts places index order₀ locations₀ : List ℕ) where
  abbrev n : ℕ
  n = node_count s (place_of s k)

  abbrev at : ℕ
  at = nodes_place s (place_of s k)

  abbrev ns : List Node
  ns = (function_in s k).nodes

  abbrev call : Callee
  call = summary ver (before s k)

  abbrev table : Ref → Location
  table = location_table ver s k

  abbrev size_of : Node → ℕ
  size_of x = length (reads x)

  sound : AllSound (function_in s k ∷ before s k)
  unfolding earlier
  sound = sound-below s (suc k) acc k (omega arith)

  holds : Holds s (place_of s k)
  holds = function-holds s (place_of s k) (read_below s (suc k) acc k (omega arith))

  k16 : k < function_limit
  k16 = let l = few s (suc k) acc in omega arith

  words-of-summary : (summary_at ver s k).words ≡ units_at ver s k
  words-of-summary = function-units ver (before s k) (function_in s k) sound ∙ units-at ver s k

  pub record At (rest : List Node) (left : List ℕ) (located : List Located) (order locations allocated : List ℕ) (here d m : ℕ) : Type 0 where
    pub count : m + length rest ≡ n
    pub along : map (λ i. get_elem? ns i) left ≡ map some rest
    pub held : (j : ℕ) → j < length left → get_or index (m + j) 0 ≡ get_or left j 0
    pub agrees : Agrees ver call table rest located d
    pub final : allocate ver call (schedule ns) [] 0 ≡ allocate ver call rest located d
    pub within : (x : Node) → Is x rest → Is x ns
    pub known : PortsKnown ns allocated located
    pub words : d + sum (adds_units ver s k) rest ≡ units_at ver s k
    pub unread : here + sum size_of rest ≡ c + read_count s k
    pub sizes : (length order ≡ order_limit) × (length locations ≡ reference_limit) × (length allocated ≡ node_port_limit)
    pub old-order : (q : ℕ) → q < node_limit * k → get_or order q 0 ≡ get_or order₀ q 0
    pub old-locations : (q : ℕ) → q < c → get_or locations q 0 ≡ get_or locations₀ q 0
    pub placed :
        (order' locations' : List ℕ) → ((q : ℕ) → q < node_limit * k + m → get_or order' q 0 ≡ get_or order q 0) → ((q : ℕ) → q < here → get_or locations' q 0 ≡ get_or locations q 0)
        → Placed s order' locations' table (node_limit * k + m) here rest → Placed s order' locations' table (node_limit * k) c (schedule ns)
    pub past : c ≤ here

  abbrev pub State : (order locations allocated : List ℕ) (here d m : ℕ) → Type 0
  State order locations allocated here d m = (rest : List Node) × (left : List ℕ) × (located : List Located) × At rest left located order locations allocated here d m

  -- ---- at the start

  reads-few : (x : Node) → Is x ns → length (reads x) ≤ operand_limit
  reads-few x h = by_payload x.payload (is-each FormedNode ns sound.0.resolved.formed.nodes x h).payload
    where
      by_payload : (p : Payload) → FormedPayload (kind_of x.kind) p → length (reads_of p) ≤ operand_limit
      by_payload (consts ws) f = omega arith
      by_payload (refs rs) f = let a = f.1 in let b = (narrow x.kind).operands in omega arith
      by_payload (calls d rs) f = let a = f.1 in omega arith

  resolves : Slots s at n ts → Resolves ts ns
  unfolding function_at
  resolves h =
      let f = holds.few in
      let l : length (nodes_at n s at) ≡ n = length-nodes n s at in
      record {
        few = omega arith;
        size = h.size;
        named = nodes-named s n at holds.nodes;
        narrow = λ x i. reads-few x i;
        closed = (sound-closed (before s k) (function_in s k) sound.0).closed;
        slots = λ i j x g l. h.slots i j x g l;
      }

  begun : (allocated : List ℕ) → Slots s at n ts → index ≡ sets (replicate node_limit 0) 0 (index_order ts n) → length order₀ ≡ order_limit → length locations₀ ≡ reference_limit → length allocated ≡ node_port_limit
      → State order₀ locations₀ allocated c 0 0
  unfolding function_at
  begun allocated h ei lo ls ll =
      let right = scheduled (before s k) (function_in s k) sound.0 in
      let l : length (nodes_at n s at) ≡ n = length-nodes n s at in
      let size : length (schedule ns) ≡ length ns = right.size in
      let along : map (λ i. get_elem? ns i) (index_order ts n) ≡ map some (schedule ns) =
      subst (λ (m : ℕ). map (λ i. get_elem? ns i) (index_order ts m) ≡ map some (schedule ns)) l (schedule-is ts ns (resolves h) sound.0.resolved.own) in
      let same : length (index_order ts n) ≡ length (schedule ns) =
      sym (length-map (index_order ts n) (λ i. get_elem? ns i)) ∙ ap length along ∙ length-map (schedule ns) some in
      let f = holds.few in (
        schedule ns,
        index_order ts n,
        [],
        record {
          count = omega arith;
          along = along;
          held = λ j jl. ap (λ (xs : List ℕ). get_or xs (0 + j) 0) ei ∙ sets-in (index_order ts n) (replicate node_limit 0) 0 j jl (let z = length-replicate {A = ℕ} 256 0 in omega arith);
          agrees = function-agrees ver call (before s k) (function_in s k) sound.0 (single-at s (suc k) acc k (omega arith));
          final = refl;
          within = λ x i. schedule-within ns x i;
          known = λ v x g. record { few = omega arith; coded = λ q ql. tt };
          words = let a = right.total (adds_units ver s k) in let b : units_at ver s k ≡ sum (adds_units ver s k) ns = ap (units_in ver) (sums-are s k) ∙ nodes-units ver s k ns in omega arith;
          unread = let a = right.total size_of in omega arith;
          sizes = (lo, ls, ll);
          old-order = λ q ql. refl;
          old-locations = λ q ql. refl;
          placed = λ order' locations' ho hs p. rw add-zero at p;
          past = omega arith;
        },
      )

  -- ---- the node at hand

  module _ (x : Node) (xs : List Node) (i : ℕ) (is : List ℕ) (located : List Located) (order locations allocated : List ℕ) (here d m : ℕ)
      (st : At (x ∷ xs) (i ∷ is) located order locations allocated here d m) (lent : Lent ver s k c outs ts places) where
    stands : get_elem? ns i ≡ some x
    stands = let e = st.along in cc

    low : i < n
    unfolding function_at
    low = let a = at-below ns i x stands in let b : length (nodes_at n s at) ≡ n = length-nodes n s at in omega arith

    index_is : get_or index m 0 ≡ i
    index_is = let z : m ≡ m + 0 = omega arith in ap (λ (q : ℕ). get_or index q 0) z ∙ st.held 0 (omega arith)

    module _ (p : ℕ) (ep : p ≡ get_or places i 0) where
      place_is : p ≡ node_place s at i
      place_is = ep ∙ lent.held i low

      node-is : node_at s p ≡ x
      unfolding function_at
      node-is = let e : some (node_at s (node_place s at i)) ≡ some x = sym (node-at n s at i low) ∙ stands in ap (node_at s) place_is ∙ cc

      node-read : ReadsNode s p
      node-read = subst (ReadsNode s) (sym place_is) (place-reads s n i at low holds.nodes)

      -- what the code needs to know at this node
      pub record Here : Type 0 where
        pub was_read : ReadsNode s p
        pub near : p < address_limit
        pub narrow-reads : length (reads (node_at s p)) ≤ operand_limit
        pub free : here + length (reads (node_at s p)) ≤ reference_limit
        pub short : d + adds_units ver s k (node_at s p) ≤ unit_limit ver

      pub here-is : Here
      here-is =
          record {
            was_read = node-read;
            near = let a = head-fits s p node-read in let b = short s (suc k) acc in omega arith;
            narrow-reads = few-reads s p node-read;
            free = rw node-is (let a = st.unread in omega arith);
            short = rw node-is (let a = st.words in omega arith);
          }

      adds-summary : (y : Node) → adds_units ver s k y ≡ (node_summary ver call located d y y.payload).words
      adds-summary y = node-units ver (before s k) sound.1 s k refl located d y

      -- the callee's outputs have their numbers
      inner : calling (form_of (kind_at s p)) ≡ true → position_of s k (u16 s (p + 4)) < k
          → (inputs : ℕ) × Each (Within inputs unit_bound) (summary_at ver s (position_of s k (u16 s (p + 4)))).outputs
          × PortsCoded (summary_at ver s (position_of s k (u16 s (p + 4)))).outputs outs (8 * position_of s k (u16 s (p + 4)))
      unfolding earlier
      inner f l =
          let g = position_of s k (u16 s (p + 4)) in
          let a : adds_units ver s k (node_at s p) ≡ units_at ver s g =
          callee-units ver s k p (byte s (p + 2)) (ports_of (kind_at s p)) refl refl f (u16 s (p + 4)) g refl refl (let z = k16 in omega arith) l in
          let b = here-is.short in
          let sg = sound-below s (suc k) acc g (omega arith) in
          let w : (summary_at ver s g).words ≡ units_at ver s g = function-units ver (before s g) (function_in s g) sg ∙ units-at ver s g in
          let top = limit-bound ver in (
            length (function_in s g).inputs,
            each-wider (length (function_in s g).inputs) unit_bound (summary_at ver s g).words (summary_at ver s g).outputs (omega arith) (outputs-within ver (before s g) (function_in s g) sg),
            lent.all g l (omega arith),
          )

      module _ (r : Reads) (er : ReadsOf s p r) where
        reads-are : reads x ≡ references r.count s r.first
        reads-are = ap reads (sym node-is) ∙ er.refs

        pub count-is : r.count ≡ length (reads (node_at s p))
        count-is = count-reads s p r er

        abbrev codes : List ℕ
        codes = read_codes s ts allocated (16 * i) r.count r.first

        codes-are : AllCodes codes (map (location_of located) (references r.count s r.first))
        unfolding function_at
        codes-are =
            let l : length (nodes_at n s at) ≡ n = length-nodes n s at in
            let f = holds.few in
            reads-coded ns (omega arith) (nodes-named s n at holds.nodes) allocated located st.known s ts i x (λ j jl. lent.slots.slots i j x stands jl)
            (λ q w g. (sound-closed (before s k) (function_in s k) sound.0).closed x q.node (at-is ns i x stands) (ref-member (reads x) w q g))
            r.count r.first reads-are (let z = here-is.narrow-reads in let y = count-is in omega arith)

        codes-size : length codes ≡ r.count
        codes-size =
            codes-length codes (map (location_of located) (references r.count s r.first)) codes-are
            ∙ length-map (references r.count s r.first) (location_of located) ∙ refs-length r.count s r.first

        module _ (locations' : List ℕ) (es : locations' ≡ sets locations here codes) where
          fits-there : here + length codes ≤ length locations
          fits-there = let a = here-is.free in let b = count-is in let e = codes-size in let z = st.sizes.1 in omega arith

          given : (j : ℕ) → j < length (reads (node_at s p)) → Codes (get_or locations' (here + j) 0) (get_or (map (location_of located) (reads (node_at s p))) j nowhere)
          given j l =
              subst (λ (qs : List Ref). Codes (get_or locations' (here + j) 0) (get_or (map (location_of located) qs) j nowhere)) (sym er.refs)
              (subst (λ (ys : List ℕ). Codes (get_or ys (here + j) 0) (get_or (map (location_of located) (references r.count s r.first)) j nowhere)) (sym es)
              (codes-stored locations here codes (map (location_of located) (references r.count s r.first)) codes-are fits-there j))

          abbrev ports : List ℕ
          ports = node_codes s outs locations' k p here d

          abbrev one : Summary
          one = node_summary ver call located d x x.payload

          ports-are : AllCodes ports one.outputs
          ports-are =
              subst (λ (y : Node). AllCodes ports (node_summary ver call located d y y.payload).outputs) node-is
              (node-coded ver s outs locations' k p here d located node-read (let z = k16 in omega arith) (let z = here-is.short in let y = limit-bound ver in omega arith) inner given)

          ports-few : length one.outputs ≤ 8
          ports-few =
              let a = node-few ver s outs locations' k p here d located node-read (let z = k16 in omega arith) (let z = here-is.short in let y = limit-bound ver in omega arith) inner given in
              let b = codes-length ports one.outputs ports-are in
              omega arith

          module _ (order' allocated' : List ℕ) (d' here' : ℕ) (eo : order' ≡ set order (node_limit * k + m) p) (el : allocated' ≡ sets allocated (8 * i) ports)
              (ed : d' ≡ d + adds_units ver s k (node_at s p)) (eh : here' ≡ here + r.count) where
            abbrev next : List Located
            next = record { id = x.id; locations = one.outputs } ∷ located

            low-m : m < node_limit
            low-m = let a = st.count in let f = holds.few in omega arith

            order_below : (q : ℕ) → q < node_limit * k + m → get_or order' q 0 ≡ get_or order q 0
            order_below q l = ap (λ (ys : List ℕ). get_or ys q 0) eo ∙ get_or-set_other order (node_limit * k + m) q p 0 (λ e. omega arith)

            order-here : get_or order' (node_limit * k + m) 0 ≡ p
            order-here =
                ap (λ (ys : List ℕ). get_or ys (node_limit * k + m) 0) eo
                ∙ get_or-set_same order (node_limit * k + m) p 0 (let a = st.sizes.0 in let b = k16 in let e = low-m in omega arith)

            locations-below : (q : ℕ) → q < here → get_or locations' q 0 ≡ get_or locations q 0
            locations-below q l = ap (λ (ys : List ℕ). get_or ys q 0) es ∙ sets_below codes locations here q l

            size-x : length (reads x) ≡ r.count
            size-x = ap length reads-are ∙ refs-length r.count s r.first

            words-x : d + one.words ≡ d'
            words-x = sym (ed ∙ ap (λ (y : Node). d + adds_units ver s k y) node-is ∙ ap (λ (w : ℕ). d + w) (adds-summary x))

            coded : (locations'' : List ℕ) → ((q : ℕ) → q < here' → get_or locations'' q 0 ≡ get_or locations' q 0) → Coded locations'' table here (reads x)
            unfolding earlier function_at
            coded locations'' hs =
                let a = sound.0.resolved.formed.inputs in
                let w : (summary_at ver s k).words ≡ units_at ver s k = words-of-summary in
                let top = limit-bound ver in
                coded-reads (length (function_in s k).inputs) table located locations'' here (reads x) codes a
                (subst (λ (qs : List Ref). AllCodes codes (map (location_of located) qs)) (sym reads-are) codes-are)
                st.agrees.0
                (each-wider (length (function_in s k).inputs) unit_bound (summary_at ver s k).words (map table (reads x)) (omega arith)
                (reads-within ver (before s k) (function_in s k) sound x (at-is ns i x stands)))
                (λ q ql. hs (here + q) (let z = codes-size in omega arith) ∙ ap (λ (ys : List ℕ). get_or ys (here + q) 0) es ∙ sets-in codes locations here q ql fits-there)
                (let z = size-x in let y = here-is.free in let v = count-is in omega arith)

            pub stepped : At xs is next order' locations' allocated' here' d' (m + 1)
            stepped =
                record {
                  count = let a = st.count in omega arith;
                  along = let e = st.along in cc;
                  held = λ j jl. let z : m + 1 + j ≡ m + suc j = omega arith in ap (λ (q : ℕ). get_or index q 0) z ∙ st.held (suc j) (omega arith);
                  agrees = subst (λ (w : ℕ). Agrees ver call table xs next w) words-x st.agrees.1;
                  final = st.final ∙ ap (λ (w : ℕ). allocate ver call xs next w) words-x;
                  within = λ y h. st.within y (inr h);
                  known = subst (λ (ys : List ℕ). PortsKnown ns ys next) (sym el)
                      (knows-step ns allocated located i x ports one.outputs st.known stands
                      (λ v y gv e. single-index ns (single-at s (suc k) acc k (omega arith)) v i y x gv stands e) ports-are ports-few
                      (let a = st.sizes.2 in let b = low in let f = holds.few in omega arith));
                  words = let a = st.words in let b = ap (adds_units ver s k) node-is in omega arith;
                  unread = let a = st.unread in let b = size-x in omega arith;
                  sizes = (
                    ap length eo ∙ length-set order (node_limit * k + m) p ∙ st.sizes.0,
                    ap length es ∙ length-sets locations here codes ∙ st.sizes.1,
                    ap length el ∙ length-sets allocated (8 * i) ports ∙ st.sizes.2,
                  );
                  old-order = λ q l. order_below q (omega arith) ∙ st.old-order q l;
                  old-locations = λ q l. locations-below q (let z = st.past in omega arith) ∙ st.old-locations q l;
                  placed = λ order'' locations'' ho hs rest.
                      st.placed order'' locations'' (λ q l. ho q (omega arith) ∙ order_below q l) (λ q l. hs q (let z = eh in omega arith) ∙ locations-below q l)
                      (stand order'' locations'' ho hs rest);
                  past = let z = st.past in omega arith;
                }
              where
                stand : (order'' locations'' : List ℕ) → ((q : ℕ) → q < node_limit * k + (m + 1) → get_or order'' q 0 ≡ get_or order' q 0) → ((q : ℕ) → q < here' → get_or locations'' q 0 ≡ get_or locations' q 0)
                    → Placed s order'' locations'' table (node_limit * k + (m + 1)) here' xs → Placed s order'' locations'' table (node_limit * k + m) here (x ∷ xs)
                stand order'' locations'' ho hs rest =
                    let e : get_or order'' (node_limit * k + m) 0 ≡ p = ho (node_limit * k + m) (omega arith) ∙ order-here in
                    let z : node_limit * k + (m + 1) ≡ node_limit * k + m + 1 = omega arith in
                    let y : here' ≡ here + length (reads x) = eh ∙ ap (λ (w : ℕ). here + w) (sym size-x) in (
                      (ap (node_at s) e ∙ node-is, subst (ReadsNode s) (sym e) node-read, coded locations'' hs),
                      subst (λ (b : ℕ). Placed s order'' locations'' table b (here + length (reads x)) xs) z (subst (λ (b : ℕ). Placed s order'' locations'' table (node_limit * k + (m + 1)) b xs) y rest),
                    )

-- ---- the invariant, at the loop's head

module _ {ver : Version} {s : List ℕ} {k c : ℕ} {acc : Accepted s (suc k)} {outs ts places index order₀ locations₀ : List ℕ} where
  pub start : {allocated : List ℕ} → Lent ver s k c outs ts places → index ≡ sets (replicate node_limit 0) 0 (index_order ts (node_count s (place_of s k)))
      → length order₀ ≡ order_limit → length locations₀ ≡ reference_limit → length allocated ≡ node_port_limit
      → State ver s k c acc outs ts places index order₀ locations₀ order₀ locations₀ allocated c 0 0
  start {allocated} lent = begun ver s k c acc outs ts places index order₀ locations₀ allocated lent.slots

  module _ {order locations allocated : List ℕ} {here d m : ℕ} where
    pub index-low : Lent ver s k c outs ts places → State ver s k c acc outs ts places index order₀ locations₀ order locations allocated here d m → m < node_count s (place_of s k) → {i : ℕ} → i ≡ get_or index m 0 → i < node_count s (place_of s k)
    index-low lent ([], left, located, st) lt e = let a = st.count in absurd (omega arith)
    index-low lent (x ∷ xs, [], located, st) lt e = let z : ◌≡◌ {A = ℕ} 0 1 = let q = st.along in cc in absurd (omega arith)
    index-low lent (x ∷ xs, v ∷ vs, located, st) lt e =
        let a = low ver s k c acc outs ts places index order₀ locations₀ x xs v vs located order locations allocated here d m st lent in
        let b = index_is ver s k c acc outs ts places index order₀ locations₀ x xs v vs located order locations allocated here d m st lent in
        omega arith

    -- the node at hand, which stands at p
    pub node-fits : Lent ver s k c outs ts places → State ver s k c acc outs ts places index order₀ locations₀ order locations allocated here d m → m < node_count s (place_of s k) → {i p : ℕ} → i ≡ get_or index m 0 → p ≡ get_or places i 0
        → ReadsNode s p × (p < address_limit) × (here + length (reads (node_at s p)) ≤ reference_limit) × (d + adds_units ver s k (node_at s p) ≤ unit_limit ver)
    node-fits lent ([], left, located, st) lt e ep = let a = st.count in absurd (omega arith)
    node-fits lent (x ∷ xs, [], located, st) lt e ep = let z : ◌≡◌ {A = ℕ} 0 1 = let q = st.along in cc in absurd (omega arith)
    node-fits lent (x ∷ xs, v ∷ vs, located, st) lt {i} {p} e ep =
        let b : i ≡ v = e ∙ index_is ver s k c acc outs ts places index order₀ locations₀ x xs v vs located order locations allocated here d m st lent in
        let h = here-is ver s k c acc outs ts places index order₀ locations₀ x xs v vs located order locations allocated here d m st lent p (ep ∙ ap (λ (q : ℕ). get_or places q 0) b) in
        (h.was_read, h.near, h.free, h.short)

    pub advance : Lent ver s k c outs ts places → State ver s k c acc outs ts places index order₀ locations₀ order locations allocated here d m → m < node_count s (place_of s k) → {i p : ℕ} → i ≡ get_or index m 0 → p ≡ get_or places i 0
        → {r : Reads} → ReadsOf s p r → {locations' allocated' : List ℕ} {d' : ℕ} → locations' ≡ sets locations here (read_codes s ts allocated (16 * i) r.count r.first)
        → allocated' ≡ sets allocated (8 * i) (node_codes s outs locations' k p here d) → d' ≡ d + adds_units ver s k (node_at s p)
        → State ver s k c acc outs ts places index order₀ locations₀ (set order (node_limit * k + m) p) locations' allocated' (here + r.count) d' (m + 1)
    advance lent ([], left, located, st) lt e ep er es el ed = let a = st.count in absurd (omega arith)
    advance lent (x ∷ xs, [], located, st) lt e ep er es el ed = let z : ◌≡◌ {A = ℕ} 0 1 = let q = st.along in cc in absurd (omega arith)
    advance lent (x ∷ xs, v ∷ vs, located, st) lt {i} {p} e ep {r} er {locations'} {allocated'} {d'} es el ed =
        let b : i ≡ v = e ∙ index_is ver s k c acc outs ts places index order₀ locations₀ x xs v vs located order locations allocated here d m st lent in (
          xs,
          vs,
          _,
          stepped ver s k c acc outs ts places index order₀ locations₀ x xs v vs located order locations allocated here d m st lent p (ep ∙ ap (λ (q : ℕ). get_or places q 0) b) r er locations'
              (es ∙ ap (λ (q : ℕ). sets locations here (read_codes s ts allocated (16 * q) r.count r.first)) b) (set order (node_limit * k + m) p) allocated' d' (here + r.count) refl
              (el ∙ ap (λ (q : ℕ). sets allocated (8 * q) (node_codes s outs locations' k p here d)) b) ed refl,
        )

    pub finished : {begins₀ begins ins₀ ins : List ℕ} → State ver s k c acc outs ts places index order₀ locations₀ order locations allocated here d m → node_count s (place_of s k) ≤ m → begins ≡ begins₀
        → NodesAllocated ver s k c (record { outs = outs; order = order₀; locations = locations₀; begins = begins₀; ins = ins₀ }) (record { outs = outs; order = order; locations = locations; begins = begins; ins = ins }) allocated here
    finished (x ∷ xs, left, located, st) ge eb = let a = st.count in absurd (omega arith)
    finished ([], left, located, st) ge eb =
        record {
          placed = st.placed order locations (λ q l. refl) (λ q l. refl) tt;
          known = subst (λ (b : Allocation). PortsKnown (function_in s k).nodes allocated b.located) (sym st.final) st.known;
          end = let a = st.unread in omega arith;
          same = (refl, eb);
          old-order = st.old-order;
          old-locations = st.old-locations;
        }
