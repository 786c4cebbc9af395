-- The locations of a sound function: inputs that it has, and offsets within its words. Types carry the argument: a value of
-- a type lies at an input of that type, or with all its words among the function's; the bounds without types follow.
use Prim.Native.Nat.{ℕ, zero, suc, ◌+◌, ◌≤◌, ◌<◌}
use mathlib.Core.Path.{◌≡◌, refl, ap, sym, subst}
use mathlib.Core.Bool.{Bool, true, false, ◌||◌, cond}
use mathlib.Core.List.{List, [], ◌∷◌, map}
use mathlib.Core.Option.{some}
use mathlib.Core.Logic.{inl, inr, ⊎_elim}
use native.Mathlib.Omega.{arith}
use lib.Dec.{eqb}
use lib.ListN.{length, get_or, get_elem?}
use borrow.Author.Tests.{eqb-true, eq-eqb}
use Rattle.ports.specs.Kinds.{Kind, kind_of}
use Rattle.ports.specs.Ports.{width, widths, gives}
use Rattle.base.specs.Lists.{Each, member, Is}
use Rattle.graph.specs.Graph.{Ref, Payload, consts, refs, calls, Node, Function}
use Rattle.graph.specs.Look.{find_node, find_function, reads_of, reads, output_refs, ids}
use Rattle.graph.specs.Schedule.{ready, schedule}
use Rattle.graph.specs.Types.{output_types, wants_of, gives_of, gives_at, ref_type}
use Rattle.graph.specs.Sound.{Wired, Shaped, Sound, AllSound}
use Rattle.base.proofs.Bools.{and-inv, and_both, cond-or, or_left, or_right}
use Rattle.graph.proofs.Order.{in_is, Ordered, scheduled, schedule-within, reads_in}
use Rattle.bytecode.specs.Run.{places}
use Rattle.compiler.specs.Static.{Location, nowhere, input, offset, rebase, Located, locations_of, location_of, Callee, node_summary, Allocation, allocate, function_summary, summary}
use Rattle.compiler.proofs.Locations.{locating}
use Rattle.bytecode.specs.declared.Version.{Version}
use Rattle.bytecode.specs.declared.Version.TheVariants.{V1, V2}
use Rattle.lowering.specs.Naming.{name_step, sizing}
use Rattle.lowering.proofs.Naming.{Short, gives-short}

-- ---- where a value of a type may stand

-- at an input of its type, or with all its words among so many
abbrev pub WellTyped : List ℕ → ℕ → ℕ → Location → Type 0
WellTyped ins words t nowhere = ⊥
WellTyped ins words t (input i) = get_elem? ins i ≡ some t
WellTyped ins words t (offset d) = d ≤ words

-- values of these types, in turn
abbrev pub AllLie : List ℕ → ℕ → List ℕ → List Location → Type 0
AllLie ins words [] [] = Unit {0}
AllLie ins words [] (s ∷ ss) = ⊥
AllLie ins words (t ∷ ts) [] = ⊥
AllLie ins words (t ∷ ts) (s ∷ ss) = WellTyped ins words t s × AllLie ins words ts ss

-- a location with no type: an input that there is, or an offset of at most so many words
abbrev pub Within : ℕ → ℕ → Location → Type 0
Within inputs words nowhere = ⊥
Within inputs words (input i) = i < inputs
Within inputs words (offset d) = d ≤ words

elem_below : (xs : List ℕ) (i t : ℕ) → get_elem? xs i ≡ some t → i < length xs
elem_below [] i t e = let z : ◌≡◌ {A = ℕ} 0 1 = cc in absurd (omega arith)
elem_below (x ∷ xs) zero t e = omega arith
elem_below (x ∷ xs) (suc i) t e = let h = elem_below xs i t e in omega arith

-- a location for a type is a location
pub lies_within : (ins : List ℕ) (words t : ℕ) (s : Location) → WellTyped ins words t s → Within (length ins) words s
lies_within ins words t nowhere h = h
lies_within ins words t (input i) h = elem_below ins i t h
lies_within ins words t (offset d) h = omega arith

-- the same of several
pub all-within : (ins : List ℕ) (words : ℕ) (ts : List ℕ) (ss : List Location) → AllLie ins words ts ss → Each (Within (length ins) words) ss
all-within ins words [] [] h = tt
all-within ins words [] (s ∷ ss) h = absurd h
all-within ins words (t ∷ ts) [] h = absurd h
all-within ins words (t ∷ ts) (s ∷ ss) (a, h) = (lies_within ins words t s a, all-within ins words ts ss h)

-- more words
pub lies_more : (ins : List ℕ) (a b t : ℕ) (s : Location) → a ≤ b → WellTyped ins a t s → WellTyped ins b t s
lies_more ins a b t nowhere l h = h
lies_more ins a b t (input i) l h = h
lies_more ins a b t (offset d) l h = omega arith

-- the same of several
pub all_more : (ins : List ℕ) (a b : ℕ) (ts : List ℕ) (ss : List Location) → a ≤ b → AllLie ins a ts ss → AllLie ins b ts ss
all_more ins a b [] [] l h = tt
all_more ins a b [] (s ∷ ss) l h = absurd h
all_more ins a b (t ∷ ts) [] l h = absurd h
all_more ins a b (t ∷ ts) (s ∷ ss) l (x, h) = (lies_more ins a b t s l x, all_more ins a b ts ss l h)

-- the location at a port
pub port-lies : (ins : List ℕ) (words : ℕ) (ts : List ℕ) (ss : List Location) (p w : ℕ) → AllLie ins words ts ss → get_elem? ts p ≡ some w
    → WellTyped ins words w (get_or ss p nowhere)
port-lies ins words [] ss p w h e = let z : ◌≡◌ {A = ℕ} 0 1 = cc in absurd (omega arith)
port-lies ins words (t ∷ ts) [] p w h e = absurd h
port-lies ins words (t ∷ ts) (s ∷ ss) zero w (x, h) e = let q : t ≡ w = cc in subst (λ (i : ℕ). WellTyped ins words i s) q x
port-lies ins words (t ∷ ts) (s ∷ ss) (suc p) w (x, h) e = port-lies ins words ts ss p w h e

-- results one after another
pub places-lie : (ins : List ℕ) (d words : ℕ) (ts : List ℕ) → Each (λ a. a ≤ words) (places d ts) → AllLie ins words ts (map offset (places d ts))
places-lie ins d words [] h = tt
places-lie ins d words (t ∷ ts) (l, h) = (l, places-lie ins (d + width t) words ts h)

places-up : (d words : ℕ) (ts : List ℕ) → d + widths ts ≤ words → Each (λ a. a ≤ words) (places d ts)
places-up d words [] l = tt
places-up d words (t ∷ ts) l = (omega arith, places-up (d + width t) words ts (omega arith))

places-short : (base d at : ℕ) (ts : List ℕ) → at ≡ base + d → Short d ts → Each (λ a. a ≤ base + name_step) (places at ts)
places-short base d at [] e h = tt
places-short base d at (t ∷ ts) e (l, h) = (omega arith, places-short base (d + width t) (at + width t) ts (omega arith) h)

-- the ports of an instruction are among what its results take
ports-taken : (ver : Version) (k : Kind) (t d : ℕ) → Each (λ a. a ≤ d + sizing ver (gives k t)) (places d (gives k t))
ports-taken V1 k t d = places-up d (d + widths (gives k t)) (gives k t) (omega arith)
ports-taken V2 k t d = places-short d 0 d (gives k t) (omega arith) (gives-short k t)

-- a callee's location rebase a call
pub rebase-lies : (ins : List ℕ) (d : ℕ) (wants : List ℕ) (args : List Location) → AllLie ins d wants args → (words t : ℕ) (s : Location) → WellTyped wants words t s
    → WellTyped ins (d + words) t (rebase d args s)
rebase-lies ins d wants args h words t nowhere x = x
rebase-lies ins d wants args h words t (input i) x =
    lies_more ins d (d + words) t (get_or args i nowhere) (omega arith) (port-lies ins d wants args i t h x)
rebase-lies ins d wants args h words t (offset e) x = omega arith

-- the same of all a callee's locations
pub all-rebase : (ins : List ℕ) (d : ℕ) (wants : List ℕ) (args : List Location) → AllLie ins d wants args → (words : ℕ) (ts : List ℕ) (ss : List Location) → AllLie wants words ts ss
    → AllLie ins (d + words) ts (map (rebase d args) ss)
all-rebase ins d wants args h words [] [] x = tt
all-rebase ins d wants args h words [] (s ∷ ss) x = absurd x
all-rebase ins d wants args h words (t ∷ ts) [] x = absurd x
all-rebase ins d wants args h words (t ∷ ts) (s ∷ ss) (y, x) = (rebase-lies ins d wants args h words t s y, all-rebase ins d wants args h words ts ss x)

-- ---- inside one function

-- every function has its outputs' locations among its words and its inputs
abbrev pub OutputsTyped : Callee → List Function → Type 0
OutputsTyped call early = (c : ℕ) (g : Function) → find_function c early ≡ some g → AllLie g.inputs (call c).words (output_types g.outputs) (call c).outputs

abbrev pub located_ids : List Located → List ℕ
located_ids = map (λ w. w.id)

module _ (ver : Version) (early : List Function) (f : Function) where
  -- every node that has its locations has them among so many words and the inputs
  abbrev pub Known : ℕ → List Located → Type 0
  Known words [] = Unit {0}
  Known words (w ∷ ws) = AllLie f.inputs words (gives_at early (find_node w.id f.nodes)) w.locations × Known words ws

  -- more words
  pub known_more : (a b : ℕ) (ws : List Located) → a ≤ b → Known a ws → Known b ws
  known_more a b [] l h = tt
  known_more a b (w ∷ ws) l (x, h) = (all_more f.inputs a b (gives_at early (find_node w.id f.nodes)) w.locations l x, known_more a b ws l h)

  -- the locations of an id
  pub known_at : (words : ℕ) (ws : List Located) (i : ℕ) → Known words ws → member i (located_ids ws) ≡ true
      → AllLie f.inputs words (gives_at early (find_node i f.nodes)) (locations_of i ws)
  known_at words [] i h e = let z : ◌≡◌ {A = ℕ} 0 1 = cc in absurd (omega arith)
  known_at words (w ∷ ws) i (x, h) e = pick_one (eqb w.id i) refl (λ g. known_at words ws i h g) e
    where
      pick_one : (b : Bool) → eqb w.id i ≡ b
          → (member i (located_ids ws) ≡ true → AllLie f.inputs words (gives_at early (find_node i f.nodes)) (locations_of i ws))
          → cond b true (member i (located_ids ws)) ≡ true → AllLie f.inputs words (gives_at early (find_node i f.nodes)) (cond b w.locations (locations_of i ws))
      pick_one true q ih g = subst (λ (j : ℕ). AllLie f.inputs words (gives_at early (find_node j f.nodes)) w.locations) (eqb-true w.id i q) x
      pick_one false q ih g = ih g

  -- the location of a reference
  pub ref-lies : (words : ℕ) (ws : List Located) → Known words ws → (r : Ref) (w : ℕ) → eqb r.node 0 || member r.node (located_ids ws) ≡ true
      → ref_type early f r ≡ some w → WellTyped f.inputs words w (location_of ws r)
  ref-lies words ws known r w e t = pick_one (eqb r.node 0) e t
    where
      pick_one : (b : Bool) → b || member r.node (located_ids ws) ≡ true
          → get_elem? (cond b f.inputs (gives_at early (find_node r.node f.nodes))) r.port ≡ some w
          → WellTyped f.inputs words w (cond b (input r.port) (get_or (locations_of r.node ws) r.port nowhere))
      pick_one true e t = t
      pick_one false e t =
          port-lies f.inputs words (gives_at early (find_node r.node f.nodes)) (locations_of r.node ws) r.port w (known_at words ws r.node known e) t

  -- the locations of references of the types wanted
  pub refs-lie : (words : ℕ) (ws : List Located) → Known words ws → (ts : List ℕ) (rs : List Ref) → ready (located_ids ws) rs ≡ true → Wired (ref_type early f) ts rs
      → AllLie f.inputs words ts (map (location_of ws) rs)
  refs-lie words ws known [] [] e w = tt
  refs-lie words ws known [] (r ∷ rs) e w = absurd w
  refs-lie words ws known (t ∷ ts) [] e w = absurd w
  refs-lie words ws known (t ∷ ts) (r ∷ rs) e (x, w) =
      let (a, b) = and-inv (eqb r.node 0 || member r.node (located_ids ws)) (ready (located_ids ws) rs) e in
      (ref-lies words ws known r t a x, refs-lie words ws known ts rs b w)

  module _ (sound : Sound early f) (call : Callee) (seated : OutputsTyped call early) where
    payload-lies : (ws : List Located) (d : ℕ) → Known d ws → (n : Node) (p : Payload) → Shaped early n p → Wired (ref_type early f) (wants_of early n p) (reads_of p)
        → ready (located_ids ws) (reads_of p) ≡ true
        → AllLie f.inputs (d + (node_summary ver call ws d n p).words) (gives_of early n p) (node_summary ver call ws d n p).outputs
    payload-lies ws d known n (consts cs) shape wired e =
        let out = gives (kind_of n.kind) n.type in
        places-lie f.inputs d (d + sizing ver out) out (ports-taken ver (kind_of n.kind) n.type d)
    payload-lies ws d known n (refs rs) shape wired e =
        let out = gives (kind_of n.kind) n.type in
        places-lie f.inputs d (d + sizing ver out) out (ports-taken ver (kind_of n.kind) n.type d)
    payload-lies ws d known n (calls c rs) (g, found) wired e =
        let wired' : Wired (ref_type early f) g.inputs rs = rw found at wired in
        rw found
        (all-rebase f.inputs d g.inputs (map (location_of ws) rs) (refs-lie d ws known g.inputs rs e wired') (call c).words (output_types g.outputs)
        (call c).outputs (seated c g found))

    -- a node at its turn: its ports' locations
    pub node-lies : (ws : List Located) (d : ℕ) → Known d ws → (n : Node) → Is n f.nodes → ready (located_ids ws) (reads n) ≡ true
        → AllLie f.inputs (d + (node_summary ver call ws d n n.payload).words) (gives_of early n n.payload) (node_summary ver call ws d n n.payload).outputs
    node-lies ws d known n i e = payload-lies ws d known n n.payload (sound.resolved.shaped n i) (sound.resolved.wired n i) e

    -- a node more
    pub known_step : (ws : List Located) (d : ℕ) → Known d ws → (n : Node) → Is n f.nodes → ready (located_ids ws) (reads n) ≡ true
        → Known (d + (node_summary ver call ws d n n.payload).words) (locating n (node_summary ver call ws d n n.payload) ws)
    known_step ws d known n i e =
        let c = node_summary ver call ws d n n.payload in
        (rw (sound.resolved.own n i) (node-lies ws d known n i e), known_more d (d + c.words) ws (omega arith) known)

    -- what holds behind nodes in their order
    pub record Ended (ns : List Node) (ws : List Located) (d : ℕ) (b : Allocation) : Type 0 where
      pub up : d ≤ b.words
      pub old : (i : ℕ) → member i (located_ids ws) ≡ true → member i (located_ids b.located) ≡ true
      pub has : (n : Node) → Is n ns → member n.id (located_ids b.located) ≡ true
      pub known : Known b.words b.located

    -- all nodes in their order
    pub nodes-end : (ns : List Node) (ws : List Located) (d : ℕ) → ((n : Node) → Is n ns → Is n f.nodes) → Ordered (located_ids ws) ns → Known d ws
        → Ended ns ws d (allocate ver call ns ws d)
    nodes-end [] ws d within ordered known = record { up = omega arith; old = λ i h. h; has = λ n h. absurd h; known = known }
    nodes-end (n ∷ ns) ws d within (fit, ordered) known =
        let c = node_summary ver call ws d n n.payload in
        let h = nodes-end ns (locating n c ws) (d + c.words) (λ x i. within x (inr i)) ordered (known_step ws d known n (within n (inl refl)) fit) in
        record {
          up = let u : d + c.words ≤ (allocate ver call ns (locating n c ws) (d + c.words)).words = h.up in omega arith;
          old = λ i e. h.old i (cond-or (eqb n.id i) _ e);
          has = λ x i. ⊎_elim (λ e. h.old x.id (here x e)) (λ j. h.has x j) i;
          known = h.known;
        }
      where
        here : (x : Node) → x ≡ n → member x.id (n.id ∷ located_ids ws) ≡ true
        here x e = rw (eq-eqb n.id x.id (ap (λ (y : Node). y.id) (sym e))) refl

    -- the schedule's nodes, all allocate
    abbrev pub whole : Allocation
    whole = allocate ver call (schedule f.nodes) [] 0

    -- behind all nodes of the schedule
    pub whole-end : Ended (schedule f.nodes) [] 0 whole
    whole-end = nodes-end (schedule f.nodes) [] 0 (λ n i. schedule-within f.nodes n i) (scheduled early f sound).ordered tt

    all-ready : (ts : List ℕ) (rs : List Ref) → Wired (ref_type early f) ts rs → ready (located_ids whole.located) rs ≡ true
    all-ready ts [] w = refl
    all-ready [] (r ∷ rs) w = absurd w
    all-ready (t ∷ ts) (r ∷ rs) (x, w) =
        and_both (eqb r.node 0 || member r.node (located_ids whole.located)) (ready (located_ids whole.located) rs)
        (⊎_elim (λ e. or_left _ _ (eq-eqb r.node 0 e)) (λ i. or_right (eqb r.node 0) _ (present r.node i)) (reads_in early f r t x))
        (all-ready ts rs w)
      where
        present : (j : ℕ) → Is j (ids f.nodes) → member j (located_ids whole.located) ≡ true
        present j h =
            let (n, is, e) = in_is j f.nodes h in
            rw e (whole-end.has n ((scheduled early f sound).has n is))

    -- the locations of references that have the types wanted
    pub wired-lie : (ts : List ℕ) (rs : List Ref) → Wired (ref_type early f) ts rs
        → AllLie f.inputs (function_summary ver call f).words ts (map (location_of whole.located) rs)
    wired-lie ts rs w = refs-lie whole.words whole.located whole-end.known ts rs (all-ready ts rs w) w

-- ---- the functions

-- every function's outputs have locations among its words and its inputs
pub seated : (ver : Version) → (early : List Function) → AllSound early → OutputsTyped (summary ver early) early
unfolding summary
seated ver [] sound c g e = let z : ◌≡◌ {A = ℕ} 0 1 = cc in absurd (omega arith)
seated ver (f ∷ early) (s, sound) c g e = pick_one (eqb f.id c) e (seated ver early sound)
  where
    pick_one : (b : Bool) → cond b (some f) (find_function c early) ≡ some g → OutputsTyped (summary ver early) early
        → AllLie g.inputs (cond b (function_summary ver (summary ver early) f) (summary ver early c)).words (output_types g.outputs)
        (cond b (function_summary ver (summary ver early) f) (summary ver early c)).outputs
    pick_one true e ih =
        let q : f ≡ g = cc in
        subst (λ (x : Function). AllLie x.inputs (function_summary ver (summary ver early) f).words (output_types x.outputs) (function_summary ver (summary ver early) f).outputs) q
        (wired-lie ver early f s (summary ver early) ih (output_types f.outputs) (output_refs f.outputs) s.resolved.answers)
    pick_one false e ih = ih c g e

-- the locations of a function's outputs
pub outputs-lie : (ver : Version) → (early : List Function) (f : Function) → AllSound (f ∷ early)
    → AllLie f.inputs (function_summary ver (summary ver early) f).words (output_types f.outputs) (function_summary ver (summary ver early) f).outputs
outputs-lie ver early f (s, sound) =
    wired-lie ver early f s (summary ver early) (seated ver early sound) (output_types f.outputs) (output_refs f.outputs) s.resolved.answers

-- the locations of what a node reads, in the last list
pub reads-lie : (ver : Version) → (early : List Function) (f : Function) → AllSound (f ∷ early) → (n : Node) → Is n f.nodes
    → AllLie f.inputs (function_summary ver (summary ver early) f).words (wants_of early n n.payload)
    (map (location_of (allocate ver (summary ver early) (schedule f.nodes) [] 0).located) (reads n))
reads-lie ver early f (s, sound) n i =
    wired-lie ver early f s (summary ver early) (seated ver early sound) (wants_of early n n.payload) (reads n) (s.resolved.wired n i)

-- ---- the same with no types

-- the locations of a function's outputs are none nowhere, inputs that it has, and offsets of at most its words
pub outputs-within : (ver : Version) → (early : List Function) (f : Function) → AllSound (f ∷ early)
    → Each (Within (length f.inputs) (function_summary ver (summary ver early) f).words) (function_summary ver (summary ver early) f).outputs
outputs-within ver early f sound = all-within f.inputs _ (output_types f.outputs) _ (outputs-lie ver early f sound)

-- the same of what a node reads
pub reads-within : (ver : Version) → (early : List Function) (f : Function) → AllSound (f ∷ early) → (n : Node) → Is n f.nodes
    → Each (Within (length f.inputs) (function_summary ver (summary ver early) f).words) (map (location_of (allocate ver (summary ver early) (schedule f.nodes) [] 0).located) (reads n))
reads-within ver early f sound n i = all-within f.inputs _ (wants_of early n n.payload) _ (reads-lie ver early f sound n i)
