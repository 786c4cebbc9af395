-- The list by names is the list by words, renamed. Both are made side by side, with the values made so far: what a name stood for among them it still
-- stands for among more, and the results of an instruction are the next value, named from name_step times the number of those before it. What needs
-- no types stands first: how many instructions there are, and how many names.
use Prim.Native.Nat.{ℕ, zero, suc, ◌+◌, ◌*◌, ◌/◌, ◌%◌, ◌≤◌, ◌<◌}
use mathlib.Core.Path.{◌≡◌, refl, ap, sym, ◌∙◌, subst}
use mathlib.Core.Bool.{Bool, true, false, ◌&&◌, ◌||◌, cond}
use mathlib.Core.List.{List, [], ◌∷◌, ◌++◌, map, append_assoc, append-nil, map-append}
use mathlib.Core.Option.{some}
use mathlib.Core.Logic.{inl, inr, ⊎_elim}
use native.Mathlib.Omega.{arith}
use lib.Dec.{eqb, leb}
use lib.ListN.{length, get_or, get_elem?, replicate, length-append, length-map, get_or-append}
use lib.Seq.{append_snoc, get_or-append_seam}
use borrow.Author.Tests.{eqb-true, eq-eqb, leb-true}
use Rattle.base.specs.Lists.{member, Is}
use Rattle.base.proofs.Bools.{and-inv, or-inv, cond-or}
use Rattle.ports.specs.Kinds.{Kind, kind_of}
use Rattle.ports.specs.Ports.{type_s, width, widths, ports_of, own, takes, gives}
use Rattle.ports.proofs.Table.{every-kind}
use Rattle.graph.specs.Graph.{Ref, Payload, consts, refs, calls, Node, Function}
use Rattle.graph.specs.Look.{find_node, find_function, reads_of, output_refs}
use Rattle.graph.specs.Types.{output_types, wants_of, gives_of, gives_at, ref_type}
use Rattle.graph.specs.Sound.{Wired, Shaped, Sound, AllSound}
use Rattle.graph.specs.Schedule.{ready, schedule}
use Rattle.graph.proofs.Order.{Ordered, scheduled, schedule-within}
use Rattle.bytecode.specs.declared.Version.TheVariants.{V2}
use Rattle.bytecode.specs.Run.{Instruction, places}
use Rattle.bytecode.specs.Ranges.{Range, result_value}
use Rattle.lowering.specs.Compile.{Written, ports_at, address, Inlined, Inline, single, inline_node, Body, also, inline_nodes, inline_function, inlined, board_list_of}
use Rattle.placement.specs.Live.{input_values}
use Rattle.placement.specs.Arrays.{nothing}
use Rattle.placement.specs.OneValue.{InOneEach, AllInOne}
use Rattle.lowering.specs.Naming.{name_step, sizing, names, named_of, Names, AllNames, AllRename}
use Rattle.lowering.proofs.Simulate.{written_ids, all-ready}

-- ---- how many instructions: as many for every size, wherever the arguments and the results stand

abbrev pub SameCount : Inline → Inline → Type 0
SameCount go go' = (c : ℕ) (ins ins' : List ℕ) (next next' : ℕ) → length (go c ins next).code ≡ length (go' c ins' next').code

module _ (size size' : List ℕ → ℕ) where
  module _ (go go' : Inline) (h : SameCount go go') (ins ins' : List ℕ) where
    node-same : (ws ws' : List Written) (next next' : ℕ) (n : Node) (p : Payload)
        → length (inline_node size go (address ins ws) next n p).code ≡ length (inline_node size' go' (address ins' ws') next' n p).code
    node-same ws ws' next next' n (consts cs) = refl
    node-same ws ws' next next' n (refs rs) = refl
    node-same ws ws' next next' n (calls c rs) = h c (map (address ins ws) rs) (map (address ins' ws') rs) next next'

    pub nodes-same : (ns : List Node) (ws ws' : List Written) (next next' : ℕ)
        → length (inline_nodes size go ins ns ws next).code ≡ length (inline_nodes size' go' ins' ns ws' next').code
    nodes-same [] ws ws' next next' = refl
    nodes-same (n ∷ ns) ws ws' next next' =
        let o = inline_node size go (address ins ws) next n n.payload in
        let o' = inline_node size' go' (address ins' ws') next' n n.payload in
        let b = inline_nodes size go ins ns (also n o ws) o.next in
        let b' = inline_nodes size' go' ins' ns (also n o' ws') o'.next in
        let x : length o.code ≡ length o'.code = node-same ws ws' next next' n n.payload in
        let y : length b.code ≡ length b'.code = nodes-same ns (also n o ws) (also n o' ws') o.next o'.next in
        length-append o.code b.code ∙ rw (x, y) (sym (length-append o'.code b'.code))

  pub inlined-same : (early : List Function) → SameCount (inlined size early) (inlined size' early)
  unfolding inlined
  inlined-same [] c ins ins' next next' = refl
  inlined-same (f ∷ early) c ins ins' next next' = pick_one (eqb f.id c) (inlined-same early)
    where
      pick_one : (b : Bool) → SameCount (inlined size early) (inlined size' early)
          → length (cond b (inline_function size (inlined size early) f ins next) (inlined size early c ins next)).code
          ≡ length (cond b (inline_function size' (inlined size' early) f ins' next') (inlined size' early c ins' next')).code
      pick_one true h = nodes-same (inlined size early) (inlined size' early) h ins ins' (schedule f.nodes) [] [] next next'
      pick_one false h = h c ins ins' next next'

-- the two lists are as long
pub instructions-count : (early : List Function) (f : Function) → length (named_of early f).code ≡ length (board_list_of early f).instructions
instructions-count early f =
    nodes-same (sizing V2) widths (inlined (sizing V2) early) (inlined widths early) (inlined-same (sizing V2) widths early) (names 0 (length f.inputs))
    (places 0 f.inputs) (schedule f.nodes) [] [] (name_step * length f.inputs) (widths f.inputs)

-- ---- how many names: name_step for each instruction

abbrev pub Steps : Inline → Type 0
Steps go = (c : ℕ) (ins : List ℕ) (next : ℕ) → (go c ins next).next ≡ next + name_step * length (go c ins next).code

module _ (go : Inline) (h : Steps go) (ins : List ℕ) where
  node-names : (ws : List Written) (next : ℕ) (n : Node) (p : Payload)
      → (inline_node (sizing V2) go (address ins ws) next n p).next ≡ next + name_step * length (inline_node (sizing V2) go (address ins ws) next n p).code
  node-names ws next n (consts cs) = refl
  node-names ws next n (refs rs) = refl
  node-names ws next n (calls c rs) = h c (map (address ins ws) rs) next

  pub nodes-names : (ns : List Node) (ws : List Written) (next : ℕ)
      → (inline_nodes (sizing V2) go ins ns ws next).next ≡ next + name_step * length (inline_nodes (sizing V2) go ins ns ws next).code
  nodes-names [] ws next = omega arith
  nodes-names (n ∷ ns) ws next =
      let o = inline_node (sizing V2) go (address ins ws) next n n.payload in
      let b = inline_nodes (sizing V2) go ins ns (also n o ws) o.next in
      let x : o.next ≡ next + name_step * length o.code = node-names ws next n n.payload in
      let y : b.next ≡ o.next + name_step * length b.code = nodes-names ns (also n o ws) o.next in
      let z : length (o.code ++ b.code) ≡ length o.code + length b.code = length-append o.code b.code in
      omega arith

pub inlined-names : (early : List Function) → Steps (inlined (sizing V2) early)
unfolding inlined
inlined-names [] c ins next = omega arith
inlined-names (f ∷ early) c ins next = pick_one (eqb f.id c) (inlined-names early)
  where
    pick_one : (b : Bool) → Steps (inlined (sizing V2) early)
        → (cond b (inline_function (sizing V2) (inlined (sizing V2) early) f ins next) (inlined (sizing V2) early c ins next)).next
        ≡ next + name_step * length (cond b (inline_function (sizing V2) (inlined (sizing V2) early) f ins next) (inlined (sizing V2) early c ins next)).code
    pick_one true h = nodes-names (inlined (sizing V2) early) h ins (schedule f.nodes) [] next
    pick_one false h = h c ins next

-- ---- names among values

-- among more
pub names_more : (values more : List Range) (t a x : ℕ) → Names values t a x → Names (values ++ more) t a x
names_more values more t a x h =
    let l : length (values ++ more) ≡ length values + length more = length-append values more in
    let k : a / name_step < length values = h.known in
    let e : get_or (values ++ more) (a / name_step) nothing ≡ get_or values (a / name_step) nothing = get_or-append values more nothing (a / name_step) k in
    record { known = omega arith; word = rw e h.word; inside = rw e h.inside }

pub all_more : (values more : List Range) (ts at xs : List ℕ) → AllNames values ts at xs → AllNames (values ++ more) ts at xs
all_more values more [] [] [] h = tt
all_more values more [] [] (x ∷ xs) h = absurd h
all_more values more [] (a ∷ at) xs h = absurd h
all_more values more (t ∷ ts) [] xs h = absurd h
all_more values more (t ∷ ts) (a ∷ at) [] h = absurd h
all_more values more (t ∷ ts) (a ∷ at) (x ∷ xs) (n, h) = (names_more values more t a x n, all_more values more ts at xs h)

-- the d-th word of a value
names_at : (values : List Range) (v : Range) (more : List Range) (t d a x : ℕ) → d < name_step → d + width t ≤ v.width
    → a ≡ name_step * length values + d → x ≡ v.first + d → Names (values ++ (v ∷ more)) t a x
names_at values v more t d a x short fits named word =
    let l : length (values ++ (v ∷ more)) ≡ length values + suc (length more) = length-append values (v ∷ more) in
    let q : a / name_step ≡ length values = omega arith in
    let r : a % name_step ≡ d = omega arith in
    let e : get_or (values ++ (v ∷ more)) (a / name_step) nothing ≡ v =
    ap (λ (i : ℕ). get_or (values ++ (v ∷ more)) i nothing) q ∙ get_or-append_seam values v more nothing in
    record { known = omega arith; word = rw (e, r) word; inside = rw (e, r) fits }

-- the name at a port
pub port-names : (values : List Range) (ts at xs : List ℕ) (p t : ℕ) → AllNames values ts at xs → get_elem? ts p ≡ some t → Names values t (get_or at p 0) (get_or xs p 0)
port-names values [] at xs p t h e = let z : ◌≡◌ {A = ℕ} 0 1 = cc in absurd (omega arith)
port-names values (s ∷ ts) [] xs p t h e = absurd h
port-names values (s ∷ ts) (a ∷ at) [] p t h e = absurd h
port-names values (s ∷ ts) (a ∷ at) (x ∷ xs) zero t (n, h) e = let q : s ≡ t = cc in subst (λ (i : ℕ). Names values i a x) q n
port-names values (s ∷ ts) (a ∷ at) (x ∷ xs) (suc p) t (n, h) e = port-names values ts at xs p t h e

-- inputs, behind other values
pub inputs-named : (before : List Range) (at : ℕ) (ts : List ℕ) → AllNames (before ++ input_values at ts) ts (names (length before) (length ts)) (places at ts)
inputs-named before at [] = tt
inputs-named before at (t ∷ ts) =
    let v : Range = record { first = at; width = width t } in
    let rest = input_values (at + width t) ts in
    let l : length (before ++ (v ∷ [])) ≡ suc (length before) = length-append before (v ∷ []) ∙ omega arith in (
      names_at before v rest t 0 (name_step * length before) at (omega arith) (omega arith) (omega arith) (omega arith),
      rw (append_snoc before v rest, l) at (inputs-named (before ++ (v ∷ [])) (at + width t) ts),
    )

pub inputs-length : (at : ℕ) (ts : List ℕ) → length (input_values at ts) ≡ length ts
inputs-length at [] = refl
inputs-length at (t ∷ ts) = ap suc (inputs-length (at + width t) ts)

-- ---- every port of an instruction has a name

-- of values of these types from d on, each begins among the first name_step words
abbrev pub Short : ℕ → List ℕ → Type 0
Short d [] = Unit {0}
Short d (t ∷ ts) = (d < name_step) × Short (d + width t) ts

scalars-short : (n d : ℕ) → d + n ≤ name_step → Short d (replicate n type_s)
scalars-short zero d l = tt
scalars-short (suc n) d l = (omega arith, scalars-short n (d + 1) (omega arith))

-- at most one result, or scalars
abbrev short_row : ℕ → ℕ → Bool
short_row n p = leb n 1 || (leb n name_step && eqb p type_s)

row-short : (n p t : ℕ) → short_row n p ≡ true → Short 0 (replicate n (own t p))
row-short n p t e = ⊎_elim (λ a. one n (leb-true n 1 a)) (λ b. scalars (and-inv (leb n name_step) (eqb p type_s) b)) (or-inv (leb n 1) (leb n name_step && eqb p type_s) e)
  where
    one : (n : ℕ) → n ≤ 1 → Short 0 (replicate n (own t p))
    one zero l = tt
    one (suc zero) l = (omega arith, tt)
    one (suc (suc n)) l = absurd (omega arith)

    scalars : (leb n name_step ≡ true) × (eqb p type_s ≡ true) → Short 0 (replicate n (own t p))
    scalars (a, b) = let l = leb-true n name_step a in rw (eqb-true p type_s b) (scalars-short n 0 (omega arith))

pub gives-short : (k : Kind) (t : ℕ) → Short 0 (gives k t)
gives-short k t = row-short (ports_of k).results (ports_of k).result t (every-kind (λ k. short_row (ports_of k).results (ports_of k).result) refl k)

-- the ports in a value, from its d-th word on
ports-named : (values : List Range) (v : Range) (ts : List ℕ) (d a x : ℕ) → Short d ts → d + widths ts ≤ v.width
    → a ≡ name_step * length values + d → x ≡ v.first + d → AllNames (values ++ (v ∷ [])) ts (places a ts) (places x ts)
ports-named values v [] d a x short fits named word = tt
ports-named values v (t ∷ ts) d a x (s, short) fits named word = (
  names_at values v [] t d a x s (omega arith) named word,
  ports-named values v ts (d + width t) (a + width t) (x + width t) short (omega arith) (omega arith) (omega arith),
)

-- ---- lists renamed

pub rename-append : (values : List Range) (is js is' js' : List Instruction) → AllRename values is js → AllRename (values ++ map result_value js) is' js'
    → AllRename values (is ++ is') (js ++ js')
rename-append values [] [] is' js' h h' = subst (λ (vs : List Range). AllRename vs is' js') (append-nil values) h'
rename-append values [] (j ∷ js) is' js' h h' = absurd h
rename-append values (i ∷ is) [] is' js' h h' = absurd h
rename-append values (i ∷ is) (j ∷ js) is' js' (r, h) h' =
    let e = append_snoc values (result_value j) (map result_value js) in
    (r, rename-append (values ++ (result_value j ∷ [])) is js is' js' h (subst (λ (vs : List Range). AllRename vs is' js') (sym e) h'))

pub rename-length : (values : List Range) (is js : List Instruction) → AllRename values is js → length is ≡ length js
rename-length values [] [] h = refl
rename-length values [] (j ∷ js) h = absurd h
rename-length values (i ∷ is) [] h = absurd h
rename-length values (i ∷ is) (j ∷ js) (r, h) = ap suc (rename-length (values ++ (result_value j ∷ [])) is js h)

pub grown-append : (values : List Range) (js js' : List Instruction) → values ++ map result_value (js ++ js') ≡ values ++ map result_value js ++ map result_value js'
grown-append values js js' = ap (λ (vs : List Range). values ++ vs) (map-append result_value js js') ∙ sym (append_assoc values (map result_value js) (map result_value js'))

pub grown-length : (values : List Range) (js : List Instruction) → length (values ++ map result_value js) ≡ length values + length js
grown-length values js = length-append values (map result_value js) ∙ ap (λ (n : ℕ). length values + n) (length-map js result_value)

-- o by names, and p by words
record Renamed (values : List Range) (o p : Inlined) (ts : List ℕ) : Type 0 where
  code : AllRename values o.code p.code
  ports : AllNames (values ++ map result_value p.code) ts o.ports p.ports

abbrev by_names : List Function → Inline
by_names early = inlined (sizing V2) early

abbrev by_words : List Function → Inline
by_words early = inlined widths early

-- every function, where its arguments are renamed
abbrev AllRenamed : List Function → Type 0
AllRenamed early =
    (c : ℕ) (g : Function) → find_function c early ≡ some g → (values : List Range) (at xs : List ℕ) (a x : ℕ) → a ≡ name_step * length values
    → AllNames values g.inputs at xs → Renamed values (by_names early c at a) (by_words early c xs x) (output_types g.outputs)

single-renamed : (values : List Range) (kind type : ℕ) (at xs constants : List ℕ) (a x : ℕ) → a ≡ name_step * length values
    → AllNames values (takes (kind_of kind) type) at xs
    → Renamed values (single (sizing V2) kind type at constants a) (single widths kind type xs constants x) (gives (kind_of kind) type)
single-renamed values kind type at xs constants a x e h =
    let out = gives (kind_of kind) type in
    record {
      code = (record { kind = refl; type = refl; constants = refl; operands = h; result = e }, tt);
      ports = ports-named values (record { first = x; width = widths out }) out 0 a x (gives-short (kind_of kind) type) (omega arith) (omega arith) (omega arith);
    }

-- ---- inside one function

module _ (early : List Function) (f : Function) (at xs : List ℕ) where
  -- the nodes that are written: the same ones, their ports renamed
  abbrev Known : List Range → List Written → List Written → Type 0
  Known values [] [] = Unit {0}
  Known values [] (w ∷ ws) = ⊥
  Known values (u ∷ us) [] = ⊥
  Known values (u ∷ us) (w ∷ ws) =
      (u.id ≡ w.id) × AllNames values (gives_at early (find_node w.id f.nodes)) u.ports w.ports × Known values us ws

  known_more : (values more : List Range) (us ws : List Written) → Known values us ws → Known (values ++ more) us ws
  known_more values more [] [] h = tt
  known_more values more [] (w ∷ ws) h = absurd h
  known_more values more (u ∷ us) [] h = absurd h
  known_more values more (u ∷ us) (w ∷ ws) (e, x, h) =
      (e, all_more values more (gives_at early (find_node w.id f.nodes)) u.ports w.ports x, known_more values more us ws h)

  known_at : (values : List Range) (us ws : List Written) (i : ℕ) → Known values us ws → member i (written_ids ws) ≡ true
      → AllNames values (gives_at early (find_node i f.nodes)) (ports_at i us) (ports_at i ws)
  known_at values [] [] i h m = let z : ◌≡◌ {A = ℕ} 0 1 = cc in absurd (omega arith)
  known_at values [] (w ∷ ws) i h m = absurd h
  known_at values (u ∷ us) [] i h m = absurd h
  known_at values (u ∷ us) (w ∷ ws) i (e, x, h) m = rw e (pick_one (eqb w.id i) refl (λ g. known_at values us ws i h g) m)
    where
      pick_one : (b : Bool) → eqb w.id i ≡ b → (member i (written_ids ws) ≡ true → AllNames values (gives_at early (find_node i f.nodes)) (ports_at i us) (ports_at i ws))
          → cond b true (member i (written_ids ws)) ≡ true
          → AllNames values (gives_at early (find_node i f.nodes)) (cond b u.ports (ports_at i us)) (cond b w.ports (ports_at i ws))
      pick_one true q ih g = subst (λ (j : ℕ). AllNames values (gives_at early (find_node j f.nodes)) u.ports w.ports) (eqb-true w.id i q) x
      pick_one false q ih g = ih g

  module _ (values : List Range) (us ws : List Written) (inputs : AllNames values f.inputs at xs) (known : Known values us ws) where
    ref-names : (r : Ref) (t : ℕ) → eqb r.node 0 || member r.node (written_ids ws) ≡ true → ref_type early f r ≡ some t
        → Names values t (address at us r) (address xs ws r)
    ref-names r t m e = pick_one (eqb r.node 0) m e
      where
        pick_one : (b : Bool) → b || member r.node (written_ids ws) ≡ true
            → get_elem? (cond b f.inputs (gives_at early (find_node r.node f.nodes))) r.port ≡ some t
            → Names values t (get_or (cond b at (ports_at r.node us)) r.port 0) (get_or (cond b xs (ports_at r.node ws)) r.port 0)
        pick_one true m e = port-names values f.inputs at xs r.port t inputs e
        pick_one false m e =
            port-names values (gives_at early (find_node r.node f.nodes)) (ports_at r.node us) (ports_at r.node ws) r.port t
            (known_at values us ws r.node known m) e

    refs-names : (ts : List ℕ) (rs : List Ref) → ready (written_ids ws) rs ≡ true → Wired (ref_type early f) ts rs
        → AllNames values ts (map (address at us) rs) (map (address xs ws) rs)
    refs-names [] [] m w = tt
    refs-names [] (r ∷ rs) m w = absurd w
    refs-names (t ∷ ts) [] m w = absurd w
    refs-names (t ∷ ts) (r ∷ rs) m (e, w) =
        let (a, b) = and-inv (eqb r.node 0 || member r.node (written_ids ws)) (ready (written_ids ws) rs) m in
        (ref-names r t a e, refs-names ts rs b w)

    payload-renamed : AllRenamed early → (n : Node) (p : Payload) (a x : ℕ) → a ≡ name_step * length values → Shaped early n p
        → Wired (ref_type early f) (wants_of early n p) (reads_of p) → ready (written_ids ws) (reads_of p) ≡ true
        → Renamed values (inline_node (sizing V2) (by_names early) (address at us) a n p) (inline_node widths (by_words early) (address xs ws) x n p) (gives_of early n p)
    payload-renamed callees n (consts cs) a x e shape wired m = single-renamed values n.kind n.type [] [] cs a x e (rw shape tt)
    payload-renamed callees n (refs rs) a x e shape wired m =
        single-renamed values n.kind n.type (map (address at us) rs) (map (address xs ws) rs) [] a x e (refs-names (takes (kind_of n.kind) n.type) rs m wired)
    payload-renamed callees n (calls c rs) a x e (g, found) wired m =
        let wired' : Wired (ref_type early f) g.inputs rs = rw found at wired in
        let r = callees c g found values (map (address at us) rs) (map (address xs ws) rs) a x e (refs-names g.inputs rs m wired') in
        record { code = r.code; ports = rw found r.ports }

  -- ---- the nodes

  module _ (sound : Sound early f) (callees : AllRenamed early) where
    record Ended (values : List Range) (ns : List Node) (ws : List Written) (b d : Body) : Type 0 where
      old : (i : ℕ) → member i (written_ids ws) ≡ true → member i (written_ids d.written) ≡ true
      has : (n : Node) → Is n ns → member n.id (written_ids d.written) ≡ true
      code : AllRename values b.code d.code
      known : Known (values ++ map result_value d.code) b.written d.written

    nodes-end : (ns : List Node) (values : List Range) (us ws : List Written) (a x : ℕ) → a ≡ name_step * length values
        → ((n : Node) → Is n ns → Is n f.nodes) → Ordered (written_ids ws) ns → AllNames values f.inputs at xs → Known values us ws
        → Ended values ns ws (inline_nodes (sizing V2) (by_names early) at ns us a) (inline_nodes widths (by_words early) xs ns ws x)
    nodes-end [] values us ws a x e within ordered inputs known =
        record { old = λ i h. h; has = λ n h. absurd h; code = tt; known = known_more values [] us ws known }
    nodes-end (n ∷ ns) values us ws a x e within (fit, ordered) inputs known =
        let o = inline_node (sizing V2) (by_names early) (address at us) a n n.payload in
        let p = inline_node widths (by_words early) (address xs ws) x n n.payload in
        let b = inline_nodes (sizing V2) (by_names early) at ns (also n o us) o.next in
        let d = inline_nodes widths (by_words early) xs ns (also n p ws) p.next in
        let is = within n (inl refl) in
        let more = map result_value p.code in
        let r = payload-renamed values us ws inputs known callees n n.payload a x e (sound.resolved.shaped n is) (sound.resolved.wired n is) fit in
        let next : o.next ≡ a + name_step * length o.code = node-names (by_names early) (inlined-names early) at us a n n.payload in
        let same : length o.code ≡ length p.code = rename-length values o.code p.code r.code in
        let size : length (values ++ more) ≡ length values + length p.code = grown-length values p.code in
        let ports : AllNames (values ++ more) (gives_at early (find_node n.id f.nodes)) o.ports p.ports = rw (sound.resolved.own n is) r.ports in
        let h =
        nodes-end ns (values ++ more) (also n o us) (also n p ws) o.next p.next (omega arith) (λ y i. within y (inr i)) ordered
        (all_more values more f.inputs at xs inputs) (refl, ports, known_more values more us ws known) in
        record {
          old = λ i m. h.old i (cond-or (eqb n.id i) _ m);
          has = λ y i. ⊎_elim (λ q. h.old y.id (here y q)) (λ j. h.has y j) i;
          code = rename-append values o.code p.code b.code d.code r.code h.code;
          known = subst (λ (vs : List Range). Known vs b.written d.written) (sym (grown-append values p.code d.code)) h.known;
        }
      where
        here : (y : Node) → y ≡ n → member y.id (n.id ∷ written_ids ws) ≡ true
        here y q = rw (eq-eqb n.id y.id (ap (λ (z : Node). z.id) (sym q))) refl

    function-renamed : (values : List Range) (a x : ℕ) → a ≡ name_step * length values → AllNames values f.inputs at xs
        → Renamed values (inline_function (sizing V2) (by_names early) f at a) (inline_function widths (by_words early) f xs x) (output_types f.outputs)
    function-renamed values a x e inputs =
        let b = inline_nodes (sizing V2) (by_names early) at (schedule f.nodes) [] a in
        let d = inline_nodes widths (by_words early) xs (schedule f.nodes) [] x in
        let h = nodes-end (schedule f.nodes) values [] [] a x e (λ n i. schedule-within f.nodes n i) (scheduled early f sound).ordered inputs tt in
        let more = map result_value d.code in
        let outs = output_types f.outputs in
        let rs = output_refs f.outputs in
        let fit = all-ready early f sound (written_ids d.written) h.has outs rs sound.resolved.answers in
        record {
          code = h.code;
          ports = refs-names (values ++ more) b.written d.written (all_more values more f.inputs at xs inputs) h.known outs rs fit sound.resolved.answers;
        }

-- ---- the functions

all_renamed : (early : List Function) → AllSound early → AllRenamed early
unfolding inlined
all_renamed [] sound c g found values at xs a x e h = let z : ◌≡◌ {A = ℕ} 0 1 = cc in absurd (omega arith)
all_renamed (f ∷ early) (s, sound) c g found values at xs a x e h = pick_one (eqb f.id c) found (all_renamed early sound)
  where
    pick_one : (b : Bool) → cond b (some f) (find_function c early) ≡ some g → AllRenamed early
        → Renamed values (cond b (inline_function (sizing V2) (by_names early) f at a) (by_names early c at a))
        (cond b (inline_function widths (by_words early) f xs x) (by_words early c xs x)) (output_types g.outputs)
    pick_one true found ih =
        let q : f ≡ g = cc in
        subst
        (λ (y : Function). Renamed values (inline_function (sizing V2) (by_names early) f at a) (inline_function widths (by_words early) f xs x) (output_types y.outputs))
        q (function-renamed early f at xs s ih values a x e (subst (λ (y : Function). AllNames values y.inputs at xs) (sym q) h))
    pick_one false found ih = ih c g found values at xs a x e h

-- ---- the whole

-- the list by names, against the list by words
pub record Named (early : List Function) (f : Function) : Type 0 where
  pub code : AllRename (input_values 0 f.inputs) (named_of early f).code (board_list_of early f).instructions
  pub ports :
      AllNames (input_values 0 f.inputs ++ map result_value (board_list_of early f).instructions) (output_types f.outputs) (named_of early f).ports
      (inline_function widths (inlined widths early) f (places 0 f.inputs) (widths f.inputs)).ports
  pub next : (named_of early f).next ≡ name_step * (length f.inputs + length (board_list_of early f).instructions)

pub naming : (early : List Function) (f : Function) → AllSound (f ∷ early) → Named early f
naming early f (s, sound) =
    let at = names 0 (length f.inputs) in
    let values = input_values 0 f.inputs in
    let a = name_step * length f.inputs in
    let l : length values ≡ length f.inputs = inputs-length 0 f.inputs in
    let r =
    function-renamed early f at (places 0 f.inputs) s (all_renamed early sound) values a (widths f.inputs) (omega arith) (inputs-named [] 0 f.inputs) in
    let next : (named_of early f).next ≡ a + name_step * length (named_of early f).code =
    nodes-names (inlined (sizing V2) early) (inlined-names early) at (schedule f.nodes) [] a in
    let same : length (named_of early f).code ≡ length (board_list_of early f).instructions = instructions-count early f in
    record { code = r.code; ports = r.ports; next = omega arith }

-- ---- each operand is within one value

pub value-is : (values : List Range) (i : ℕ) → i < length values → Is (get_or values i nothing) values
value-is [] i l = absurd (omega arith)
value-is (v ∷ values) zero l = inl refl
value-is (v ∷ values) (suc i) l = inr (value-is values i (omega arith))

names-whole : (values all : List Range) → ((r : Range) → Is r values → Is r all) → (ts at xs : List ℕ) → AllNames values ts at xs → InOneEach all ts xs
names-whole values all among [] [] [] h = tt
names-whole values all among [] [] (x ∷ xs) h = absurd h
names-whole values all among [] (a ∷ at) xs h = absurd h
names-whole values all among (t ∷ ts) [] xs h = absurd h
names-whole values all among (t ∷ ts) (a ∷ at) [] h = absurd h
names-whole values all among (t ∷ ts) (a ∷ at) (x ∷ xs) (n, h) =
    let v = get_or values (a / name_step) nothing in
    let w : x ≡ v.first + a % name_step = n.word in
    let i : a % name_step + width t ≤ v.width = n.inside in (
      record { value = v; is = among v (value-is values (a / name_step) n.known); from = omega arith; to = omega arith },
      names-whole values all among ts at xs h,
    )

rename-whole : (values all : List Range) → ((r : Range) → Is r values → Is r all) → (is js : List Instruction) → AllRename values is js → AllInOne all js
rename-whole values all among [] [] h = tt
rename-whole values all among [] (j ∷ js) h = absurd h
rename-whole values all among (i ∷ is) [] h = absurd h
rename-whole values all among (i ∷ is) (j ∷ js) (r, h) = (
  names-whole values all among (takes (kind_of j.kind) j.type) i.operands j.operands r.operands,
  rename-whole (values ++ (result_value j ∷ [])) (result_value j ∷ all) (λ v k. last values (λ u l. inr (among u l)) v k) is js h,
)
  where
    last : (vs : List Range) → ((v : Range) → Is v vs → Is v (result_value j ∷ all)) → (v : Range) → Is v (vs ++ (result_value j ∷ [])) → Is v (result_value j ∷ all)
    last [] g v (inl e) = inl e
    last [] g v (inr k) = absurd k
    last (u ∷ vs) g v (inl e) = g v (inl e)
    last (u ∷ vs) g v (inr k) = last vs (λ w l. g w (inr l)) v k

pub one_value : (early : List Function) (f : Function) → AllSound (f ∷ early) → AllInOne (input_values 0 f.inputs) (board_list_of early f).instructions
one_value early f sound =
    rename-whole (input_values 0 f.inputs) (input_values 0 f.inputs) (λ v k. k) (named_of early f).code (board_list_of early f).instructions (naming early f sound).code
