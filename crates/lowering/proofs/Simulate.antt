-- A run of what is laid down for a function leaves the words of what the function means.
use Prim.Native.Nat.{ℕ, zero, suc, ◌+◌, ◌≤◌}
use mathlib.Core.Path.{◌≡◌, refl, ap, sym, ◌∙◌, subst}
use mathlib.Core.Bool.{Bool, true, false, ◌||◌, cond}
use mathlib.Core.List.{List, [], ◌∷◌, ◌++◌, map}
use mathlib.Core.Option.{Option, some}
use mathlib.Core.Logic.{inl, inr, ⊎_elim}
use native.Mathlib.Omega.{arith}
use native.Mathlib.Nat.{add-zero}
use lib.Dec.{eqb}
use lib.ListN.{length, get_or, get_elem?}
use lib.Seq.{sets}
use borrow.Author.Tests.{eqb-true, eq-eqb}
use Rattle.value.specs.declared.Value.{Value}
use Rattle.ports.specs.Kinds.{Kind, kind_of}
use Rattle.ports.specs.declared.Form.TheVariants.{Constant}
use Rattle.ports.specs.Ports.{width, widths, ports_of, takes, gives, constant_words, form_of, exists, type_fits, legal, legal_instruction}
use Rattle.value.specs.Values.{words_of, all_words, constant_word}
use Rattle.base.specs.Lists.{every, Word, Each, member, Is}
use Rattle.value.specs.Typed.{Of, Typed}
use Rattle.value.specs.Results.{results}
use Rattle.value.proofs.Laws.{of_width, typed-widths, results-typed}
use Rattle.graph.specs.Graph.{Ref, Payload, consts, refs, calls, Node, Function}
use Rattle.graph.specs.Look.{find_node, find_function, reads, reads_of, output_refs, ids}
use Rattle.graph.specs.Types.{output_types, wants_of, gives_of, gives_at, ref_type}
use Rattle.graph.specs.Sound.{Wired, Shaped, Sound, AllSound}
use Rattle.graph.specs.Formed.{FormedPayload, FormedNode}
use Rattle.base.proofs.Outcomes.{is-each}
use Rattle.graph.specs.Meaning.{bind, all, Call, ref_means, payload_means, node_means, function_means, meaning_of}
use Rattle.graph.proofs.Means.{node-mono, node-means}
use Rattle.base.proofs.Bools.{and-inv, and_both, or_left, or_right, cond-or}
use Rattle.bytecode.specs.Run.{Instruction, values_at, execute, execute_all, places}
use Rattle.graph.specs.Schedule.{ready, schedule}
use Rattle.lowering.specs.Compile.{Written, ports_at, address, Inlined, Inline, single, inline_node, Body, also, inline_nodes, inline_function, inlined}
use Rattle.bytecode.specs.Sequential.{next_word, Below, AllFit}
use Rattle.bytecode.proofs.Memory.{Keeps, keeps-none, keeps-sets, keeps_then, StandsAt, Stand, stays, values-at, stand-placed, execute-append}
use Rattle.base.proofs.Stores.{sets-words}
use Rattle.graph.proofs.Order.{Ordered, scheduled, schedule-within, reads_in, in_is}

-- ---- the words only grow

abbrev pub Up : Inline → Type 0
Up go = (c : ℕ) (ins : List ℕ) (next : ℕ) → next ≤ (go c ins next).next

module _ (go : Inline) (up : Up go) (ins : List ℕ) where
  node-up : (written : List Written) (next : ℕ) (n : Node) (p : Payload) → next ≤ (inline_node widths go (address ins written) next n p).next
  node-up written next n (consts ws) = omega arith
  node-up written next n (refs rs) = omega arith
  node-up written next n (calls c rs) = up c (map (address ins written) rs) next

  pub nodes-up : (ns : List Node) (written : List Written) (next : ℕ) → next ≤ (inline_nodes widths go ins ns written next).next
  nodes-up [] written next = omega arith
  nodes-up (n ∷ ns) written next =
      let o = inline_node widths go (address ins written) next n n.payload in
      let a : next ≤ o.next = node-up written next n n.payload in
      let b : o.next ≤ (inline_nodes widths go ins ns (also n o written) o.next).next = nodes-up ns (also n o written) o.next in
      omega arith

pub inlined-up : (early : List Function) → Up (inlined widths early)
unfolding inlined
inlined-up [] c ins next = omega arith
inlined-up (f ∷ early) c ins next = pick_up (eqb f.id c) (inlined-up early) (inlined-up early c ins next)
  where
    pick_up : (b : Bool) → Up (inlined widths early) → next ≤ (inlined widths early c ins next).next → next ≤ (cond b (inline_function widths (inlined widths early) f ins next) (inlined widths early c ins next)).next
    pick_up true u h = nodes-up (inlined widths early) u ins (schedule f.nodes) [] next
    pick_up false u h = h

-- ---- what is served: values of the types, at the ports, and nothing else changed

pub record Served (m : List ℕ) (next : ℕ) (o : Inlined) (ts : List ℕ) (means : Option (List Value)) : Type 0 where
  pub values : List Value
  pub meant : means ≡ some values
  pub typed : Typed ts values
  pub fit : AllFit next o.code o.next
  pub kept : Keeps next o.next m (execute_all o.code m)
  pub stand : Stand (execute_all o.code m) o.next o.ports values

abbrev pub Simulates : Inline → Call → List Function → Type 0
Simulates go call early =
    (c : ℕ) (g : Function) → find_function c early ≡ some g → (args : List Value) (ins : List ℕ) (next : ℕ) (m : List ℕ) → Typed g.inputs args
    → Stand m next ins args → (go c ins next).next ≤ length m → Served m next (go c ins next) (output_types g.outputs) (call c args)

-- ---- instructions that have a code

fit_append : (is js : List Instruction) (a b c : ℕ) → AllFit a is b → AllFit b js c → AllFit a (is ++ js) c
fit_append [] js a b c f g = subst (λ (x : ℕ). AllFit x js c) (sym f) g
fit_append (i ∷ is) js a b c (h, f) g = (h, fit_append is js (next_word a i) b c f g)

pub stand-below : (m : List ℕ) (hi : ℕ) (ts at : List ℕ) (vs : List Value) → Typed ts vs → Stand m hi at vs → Below hi ts at
stand-below m hi [] [] [] h s = tt
stand-below m hi [] [] (v ∷ vs) h s = absurd h
stand-below m hi [] (a ∷ at) [] h s = absurd s
stand-below m hi [] (a ∷ at) (v ∷ vs) h s = absurd h
stand-below m hi (t ∷ ts) [] [] h s = absurd h
stand-below m hi (t ∷ ts) [] (v ∷ vs) h s = absurd s
stand-below m hi (t ∷ ts) (a ∷ at) [] h s = absurd s
stand-below m hi (t ∷ ts) (a ∷ at) (v ∷ vs) (o, h) (p, s) =
    let w : length (words_of v) ≡ width t = of_width t v o in
    let b : a + length (words_of v) ≤ hi = p.below in
    (omega arith, stand-below m hi ts at vs h s)

-- what a node with an instruction of its own has
record Single (k : Kind) (t : ℕ) (constants : List ℕ) : Type 0 where
  legal : legal_instruction k t ≡ true
  count : length constants ≡ constant_words k
  words : Each Word constants
  allowed : every constant_word constants ≡ true

constant-single : (k : Kind) (t : ℕ) (ws : List ℕ) → legal k t ≡ true → FormedPayload k (consts ws) → Single k t ws
constant-single k t ws l (s, n, f, h) = record { legal = legal-executable k t s l; count = n; words = h; allowed = f }
  where
    legal-executable : (k : Kind) (t : ℕ) → form_of k ≡ Constant → legal k t ≡ true → legal_instruction k t ≡ true
    legal-executable k t s l = let x = and-inv (exists (form_of k)) (type_fits (ports_of k) t) l in rw (s, x.1) refl

plain-single : (k : Kind) (t : ℕ) (rs : List Ref) → legal k t ≡ true → FormedPayload k (refs rs) → Single k t []
plain-single k t rs l (s, n) =
    let x = and-inv (exists (form_of k)) (type_fits (ports_of k) t) l in
    record { legal = rw (s, x.1) refl; count = rw s refl; words = tt; allowed = refl }

-- an instruction of its own
single-served :
    (kind type : ℕ) (operands constants : List ℕ) (next : ℕ) (m : List ℕ) (vs : List Value) (means : Option (List Value))
    → Single (kind_of kind) type constants → Below next (takes (kind_of kind) type) operands
    → values_at m (takes (kind_of kind) type) operands ≡ vs → Typed (takes (kind_of kind) type) vs
    → next + widths (gives (kind_of kind) type) ≤ length m → means ≡ some (results (kind_of kind) constants vs)
    → Served m next (single widths kind type operands constants next) (gives (kind_of kind) type) means
unfolding execute
single-served kind type operands constants next m vs means own below e h l q =
    let k = kind_of kind in
    let out = gives k type in
    let rs = results k constants vs in
    let typed : Typed out rs = results-typed k type constants vs h in
    let size : length (all_words rs) ≡ widths out = typed-widths out rs typed in
    let after : sets m next (all_words (results k constants (values_at m (takes k type) operands))) ≡ sets m next (all_words rs) =
    ap (λ (us : List Value). sets m next (all_words (results k constants us))) e in
    let hi = next + widths out in
    record {
      values = rs;
      meant = q;
      typed = typed;
      fit = (record { legal = own.legal; operands = below; count = own.count; words = own.words; constants = own.allowed; result = refl }, refl);
      kept = subst (λ (x : List ℕ). Keeps next hi m x) (sym after) (keeps-sets m next hi (all_words rs) (ap (λ (i : ℕ). next + i) size));
      stand =
          subst (λ (x : List ℕ). Stand x hi (places next out) rs) (sym after)
          (stand-placed (sets m next (all_words rs)) hi out rs next typed (omega arith) (sets-words (all_words rs) m next (omega arith)));
    }

no-values : (m ts : List ℕ) → values_at m ts [] ≡ []
no-values m [] = refl
no-values m (t ∷ ts) = refl

-- ---- the value at a port

choose :
    (m : List ℕ) (hi : ℕ) (ts at : List ℕ) (vs : List Value) (p w : ℕ) → Typed ts vs → Stand m hi at vs → get_elem? ts p ≡ some w
    → (v : Value) × (get_elem? vs p ≡ some v) × Of w v × StandsAt m hi (get_or at p 0) v
choose m hi [] at vs p w h s e = let z : ◌≡◌ {A = ℕ} 0 1 = cc in absurd (omega arith)
choose m hi (t ∷ ts) at [] p w h s e = absurd h
choose m hi (t ∷ ts) [] (v ∷ vs) p w h s e = absurd s
choose m hi (t ∷ ts) (a ∷ at) (v ∷ vs) zero w (o, h) (x, s) e = let q : t ≡ w = cc in (v, refl, subst (λ (i : ℕ). Of i v) q o, x)
choose m hi (t ∷ ts) (a ∷ at) (v ∷ vs) (suc p) w (o, h) (x, s) e = choose m hi ts at vs p w h s e

-- ---- inside one function

abbrev pub written_ids : List Written → List ℕ
written_ids ws = map (λ w. w.id) ws

-- where all nodes of the schedule are done, all that has a type is ready
module _ (early : List Function) (f : Function) (sound : Sound early f) (done : List ℕ)
    (has : (n : Node) → Is n (schedule f.nodes) → member n.id done ≡ true) where
  node_done : (j : ℕ) → Is j (ids f.nodes) → member j done ≡ true
  node_done j h =
      let (n, is, e) = in_is j f.nodes h in
      rw e (has n ((scheduled early f sound).has n is))

  pub all-ready : (ts : List ℕ) (rs : List Ref) → Wired (ref_type early f) ts rs → ready done rs ≡ true
  all-ready ts [] w = refl
  all-ready [] (r ∷ rs) w = absurd w
  all-ready (t ∷ ts) (r ∷ rs) (x, w) =
      and_both (eqb r.node 0 || member r.node done) (ready done rs)
      (⊎_elim (λ e. or_left _ _ (eq-eqb r.node 0 e)) (λ i. or_right (eqb r.node 0) _ (node_done r.node i)) (reads_in early f r t x))
      (all-ready ts rs w)

module _ (early : List Function) (f : Function) (args : List Value) (ins : List ℕ) where
  -- what a node means stands at its ports
  record MatchesEnv (k : ℕ) (m : List ℕ) (hi i : ℕ) (ports : List ℕ) : Type 0 where
    values : List Value
    meant : node_means (meaning_of early) f.nodes args k i ≡ some values
    typed : Typed (gives_at early (find_node i f.nodes)) values
    stand : Stand m hi ports values

  abbrev Known : ℕ → List ℕ → ℕ → List Written → Type 0
  Known k m hi [] = Unit {0}
  Known k m hi (w ∷ ws) = MatchesEnv k m hi w.id w.ports × Known k m hi ws

  known_at : (k : ℕ) (m : List ℕ) (hi : ℕ) (ws : List Written) (i : ℕ) → Known k m hi ws → member i (written_ids ws) ≡ true → MatchesEnv k m hi i (ports_at i ws)
  known_at k m hi [] i h e = let z : ◌≡◌ {A = ℕ} 0 1 = cc in absurd (omega arith)
  known_at k m hi (w ∷ ws) i (x, h) e = pick_one (eqb w.id i) refl (λ g. known_at k m hi ws i h g) e
    where
      pick_one :
          (b : Bool) → eqb w.id i ≡ b → (member i (written_ids ws) ≡ true → MatchesEnv k m hi i (ports_at i ws))
          → cond b true (member i (written_ids ws)) ≡ true → MatchesEnv k m hi i (cond b w.ports (ports_at i ws))
      pick_one true q ih g = subst (λ (j : ℕ). MatchesEnv k m hi j w.ports) (eqb-true w.id i q) x
      pick_one false q ih g = ih g

  -- more depth, and more memory
  known_on : (k : ℕ) {lo hi : ℕ} {m n : List ℕ} → lo ≤ hi → Keeps lo hi m n → (ws : List Written) → Known k m lo ws → Known (suc k) n hi ws
  known_on k l q [] h = tt
  known_on k {lo} {hi} {m} {n} l q (w ∷ ws) (x, h) = (
    record {
      values = x.values;
      meant = node-mono (meaning_of early) f.nodes args k w.id x.values x.meant;
      typed = x.typed;
      stand = stays q hi w.ports x.values l x.stand;
    },
    known_on k l q ws h,
  )

  -- ---- references

  module _ (k : ℕ) (m : List ℕ) (hi : ℕ) (ws : List Written) (inputs : Typed f.inputs args) (stood : Stand m hi ins args) (known : Known k m hi ws) where
    ref-known :
        (r : Ref) (w : ℕ) → eqb r.node 0 || member r.node (written_ids ws) ≡ true → ref_type early f r ≡ some w
        → (v : Value) × (ref_means args (node_means (meaning_of early) f.nodes args k) r ≡ some v) × Of w v × StandsAt m hi (address ins ws r) v
    ref-known r w e t = pick_one (eqb r.node 0) e t
      where
        pick_one :
            (b : Bool) → b || member r.node (written_ids ws) ≡ true
            → get_elem? (cond b f.inputs (gives_at early (find_node r.node f.nodes))) r.port ≡ some w
            → (v : Value)
            × (bind (cond b (some args) (node_means (meaning_of early) f.nodes args k r.node)) (λ vs. get_elem? vs r.port) ≡ some v)
            × Of w v
            × StandsAt m hi (get_or (cond b ins (ports_at r.node ws)) r.port 0) v
        pick_one true e t = choose m hi f.inputs ins args r.port w inputs stood t
        pick_one false e t =
            let x = known_at k m hi ws r.node known e in
            let (v, p, o, s) = choose m hi (gives_at early (find_node r.node f.nodes)) (ports_at r.node ws) x.values r.port w x.typed x.stand t in
            (v, rw x.meant p, o, s)

    refs-known :
        (ts : List ℕ) (rs : List Ref) → ready (written_ids ws) rs ≡ true → Wired (ref_type early f) ts rs
        → (vs : List Value)
        × (all (ref_means args (node_means (meaning_of early) f.nodes args k)) rs ≡ some vs)
        × Typed ts vs
        × Stand m hi (map (address ins ws) rs) vs
    refs-known [] [] e w = ([], refl, tt, tt)
    refs-known [] (r ∷ rs) e w = absurd w
    refs-known (t ∷ ts) [] e w = absurd w
    refs-known (t ∷ ts) (r ∷ rs) e (w, ws') =
        let (e1, e2) = and-inv (eqb r.node 0 || member r.node (written_ids ws)) (ready (written_ids ws) rs) e in
        let (v, p, o, s) = ref-known r t e1 w in
        let (vs, ps, os, ss) = refs-known ts rs e2 ws' in
        (v ∷ vs, rw (p, ps) refl, (o, os), (s, ss))

  -- ---- a node

  module _ (sound : Sound early f) (serves : Simulates (inlined widths early) (meaning_of early) early) (inputs : Typed f.inputs args) where
    module _ (k : ℕ) (m : List ℕ) (next : ℕ) (ws : List Written) (stood : Stand m next ins args) (known : Known k m next ws) where
      abbrev NodeServed : Node → Payload → Type 0
      NodeServed n p =
          Served m next (inline_node widths (inlined widths early) (address ins ws) next n p) (gives_of early n p) (node_means (meaning_of early) f.nodes args (suc k) n.id)

      -- its payload, with what that says of the node
      payload-served :
          (n : Node) (p : Payload) → legal (kind_of n.kind) n.type ≡ true → FormedPayload (kind_of n.kind) p → Shaped early n p → Wired (ref_type early f) (wants_of early n p) (reads_of p) → ready (written_ids ws) (reads_of p) ≡ true
          → ((vs : List Value) → all (ref_means args (node_means (meaning_of early) f.nodes args k)) (reads_of p) ≡ some vs
          → node_means (meaning_of early) f.nodes args (suc k) n.id ≡ payload_means (meaning_of early) n.kind p vs)
          → (inline_node widths (inlined widths early) (address ins ws) next n p).next ≤ length m → NodeServed n p
      payload-served n (consts cs) legal formed shape wired e q l =
          single-served n.kind n.type [] cs next m [] _ (constant-single (kind_of n.kind) n.type cs legal formed) (rw shape tt) (no-values m (takes (kind_of n.kind) n.type)) (rw shape tt) l (q [] refl)
      payload-served n (refs rs) legal formed shape wired e q l =
          let (vs, p, t, s) = refs-known k m next ws inputs stood known (takes (kind_of n.kind) n.type) rs e wired in
          single-served n.kind n.type (map (address ins ws) rs) [] next m vs _ (plain-single (kind_of n.kind) n.type rs legal formed)
          (stand-below m next (takes (kind_of n.kind) n.type) (map (address ins ws) rs) vs t s) (values-at m next (takes (kind_of n.kind) n.type) (map (address ins ws) rs) vs t s) t l (q vs p)
      payload-served n (calls c rs) legal formed (g, found) wired e q l =
          let wired' : Wired (ref_type early f) g.inputs rs = rw found at wired in
          let (vs, p, t, s) = refs-known k m next ws inputs stood known g.inputs rs e wired' in
          let r = serves c g found vs (map (address ins ws) rs) next m t s l in
          record {
            values = r.values;
            meant = q vs p ∙ r.meant;
            typed = rw found r.typed;
            fit = r.fit;
            kept = r.kept;
            stand = r.stand;
          }

      node-served :
          (n : Node) → Is n f.nodes → ready (written_ids ws) (reads n) ≡ true
          → (inline_node widths (inlined widths early) (address ins ws) next n n.payload).next ≤ length m → NodeServed n n.payload
      node-served n h e l =
          let formed = is-each FormedNode f.nodes sound.resolved.formed.nodes n h in
          payload-served n n.payload formed.legal formed.payload (sound.resolved.shaped n h) (sound.resolved.wired n h) e (λ vs. node-means (meaning_of early) f.nodes args k n vs (sound.resolved.own n h)) l

    -- ---- the nodes

    record Ended (m : List ℕ) (next : ℕ) (ns : List Node) (ws : List Written) (b : Body) : Type 0 where
      count : length b.written ≡ length ns + length ws
      old : (i : ℕ) → member i (written_ids ws) ≡ true → member i (written_ids b.written) ≡ true
      has : (n : Node) → Is n ns → member n.id (written_ids b.written) ≡ true
      fit : AllFit next b.code b.next
      kept : Keeps next b.next m (execute_all b.code m)
      known : Known (length b.written) (execute_all b.code m) b.next b.written

    nodes-end :
        (ns : List Node) (ws : List Written) (next : ℕ) (m : List ℕ) → ((n : Node) → Is n ns → Is n f.nodes) → Ordered (written_ids ws) ns
        → Stand m next ins args → Known (length ws) m next ws → (inline_nodes widths (inlined widths early) ins ns ws next).next ≤ length m
        → Ended m next ns ws (inline_nodes widths (inlined widths early) ins ns ws next)
    nodes-end [] ws next m within ordered stood known l =
        record { count = omega arith; old = λ i h. h; has = λ n h. absurd h; fit = refl; kept = keeps-none next next m; known = known }
    nodes-end (n ∷ ns) ws next m within (fit, ordered) stood known l =
        let o = inline_node widths (inlined widths early) (address ins ws) next n n.payload in
        let b = inline_nodes widths (inlined widths early) ins ns (also n o ws) o.next in
        let up : next ≤ o.next = node-up (inlined widths early) (inlined-up early) ins ws next n n.payload in
        let up' : o.next ≤ b.next = nodes-up (inlined widths early) (inlined-up early) ins ns (also n o ws) o.next in
        let r = node-served (length ws) m next ws stood known n (within n (inl refl)) fit (omega arith) in
        let m' = execute_all o.code m in
        let size : length m' ≡ length m = r.kept.size in
        let knows : MatchesEnv (suc (length ws)) m' o.next n.id o.ports =
        record {
          values = r.values;
          meant = r.meant;
          typed = rw (sound.resolved.own n (within n (inl refl))) r.typed;
          stand = r.stand;
        } in
        let h =
        nodes-end ns (also n o ws) o.next m' (λ x i. within x (inr i)) ordered (stays r.kept o.next ins args up stood)
        (knows, known_on (length ws) up r.kept ws known) (omega arith) in
        let after : execute_all b.code m' ≡ execute_all (o.code ++ b.code) m = sym (execute-append o.code b.code m) in
        record {
          count = let c = h.count in omega arith;
          old = λ i e. h.old i (cond-or (eqb n.id i) _ e);
          has = λ x i. ⊎_elim (λ e. h.old x.id (here x e)) (λ j. h.has x j) i;
          fit = fit_append o.code b.code next o.next b.next r.fit h.fit;
          kept = subst (λ (x : List ℕ). Keeps next b.next m x) after (keeps_then up up' r.kept h.kept);
          known = subst (λ (x : List ℕ). Known (length b.written) x b.next b.written) after h.known;
        }
      where
        here : (x : Node) → x ≡ n → member x.id (n.id ∷ written_ids ws) ≡ true
        here x e = rw (eq-eqb n.id x.id (ap (λ (y : Node). y.id) (sym e))) refl

    -- ---- the outputs

    pub function-served :
        (next : ℕ) (m : List ℕ) → Stand m next ins args → (inline_function widths (inlined widths early) f ins next).next ≤ length m
        → Served m next (inline_function widths (inlined widths early) f ins next) (output_types f.outputs) (function_means (meaning_of early) f args)
    function-served next m stood l =
        let b = inline_nodes widths (inlined widths early) ins (schedule f.nodes) [] next in
        let right = scheduled early f sound in
        let h = nodes-end (schedule f.nodes) [] next m (λ n i. schedule-within f.nodes n i) right.ordered stood tt l in
        let up : next ≤ b.next = nodes-up (inlined widths early) (inlined-up early) ins (schedule f.nodes) [] next in
        let m' = execute_all b.code m in
        let depth : length b.written ≡ length f.nodes = h.count ∙ add-zero _ ∙ right.size in
        let known : Known (length f.nodes) m' b.next b.written = subst (λ (k : ℕ). Known k m' b.next b.written) depth h.known in
        let fit = all-ready early f sound (written_ids b.written) h.has (output_types f.outputs) (output_refs f.outputs) sound.resolved.answers in
        let (vs, p, t, s) =
        refs-known (length f.nodes) m' b.next b.written inputs (stays h.kept b.next ins args up stood) known (output_types f.outputs)
        (output_refs f.outputs) fit sound.resolved.answers in
        record { values = vs; meant = p; typed = t; fit = h.fit; kept = h.kept; stand = s }

-- ---- the functions

pub serves : (early : List Function) → AllSound early → Simulates (inlined widths early) (meaning_of early) early
unfolding inlined meaning_of
serves [] sound c g e args ins next m typed stood l = let z : ◌≡◌ {A = ℕ} 0 1 = cc in absurd (omega arith)
serves (f ∷ early) (s, sound) c g e args ins next m typed stood l =
    pick_one (eqb f.id c) e (serves early sound) l
  where
    pick_one :
        (b : Bool) → cond b (some f) (find_function c early) ≡ some g → Simulates (inlined widths early) (meaning_of early) early
        → (cond b (inline_function widths (inlined widths early) f ins next) (inlined widths early c ins next)).next ≤ length m
        → Served m next (cond b (inline_function widths (inlined widths early) f ins next) (inlined widths early c ins next)) (output_types g.outputs)
        (cond b (function_means (meaning_of early) f args) (meaning_of early c args))
    pick_one true e ih l =
        let q : f ≡ g = cc in
        subst
        (λ (x : Function). Served m next (inline_function widths (inlined widths early) f ins next) (output_types x.outputs) (function_means (meaning_of early) f args)) q
        (function-served early f args ins s ih (subst (λ (x : Function). Typed x.inputs args) (sym q) typed) next m stood l)
    pick_one false e ih l = ih c g e args ins next m typed stood l
