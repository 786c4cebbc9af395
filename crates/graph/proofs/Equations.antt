-- On an accepted table 01's equations have exactly one solution, the meaning. What a node reads stands before it in the
-- schedule, so that an induction along the schedule gives a value to each node, and the same value for any two solutions.
use Prim.Native.Nat.{ℕ, zero, suc, ◌+◌}
use mathlib.Core.Path.{◌≡◌, refl, ap, sym, ◌∙◌, subst}
use mathlib.Core.Bool.{Bool, true, false, cond}
use mathlib.Core.List.{List, [], ◌∷◌, map, reverse}
use mathlib.Core.Option.{none, some}
use mathlib.Core.Logic.{◌⊎◌, inl, inr, ⊎_elim}
use native.Mathlib.Omega.{arith}
use lib.Dec.{eqb}
use lib.ListN.{length, get_elem?}
use borrow.Author.Tests.{eqb-true, eqb-false, eq-eqb}
use Rattle.base.specs.Lists.{member, Is}
use Rattle.base.specs.Bytes.{Bytes}
use Rattle.base.proofs.Bools.{cond-or}
use Rattle.base.proofs.Lists.{some_is, member-first, member-inv, member-later, reversed, reversed-back}
use Rattle.ports.specs.Kinds.{kind_of}
use Rattle.value.specs.declared.Value.{Value}
use Rattle.value.specs.Typed.{Of, Typed}
use Rattle.value.specs.Results.{results}
use Rattle.value.proofs.Laws.{results-typed}
use Rattle.graph.specs.Graph.{Ref, Payload, consts, refs, calls, Node, Function}
use Rattle.graph.specs.Look.{find_node, find_function, reads, output_refs, ids}
use Rattle.graph.specs.Types.{output_types, wants_of, gives_of, gives_at, ref_type}
use Rattle.graph.specs.Format.{format_of}
use Rattle.graph.specs.Rules.{Meets}
use Rattle.graph.specs.Schedule.{ready, schedule}
use Rattle.graph.specs.Sound.{Wired, Shaped, Sound, AllSound}
use Rattle.graph.specs.Orders.{Ordered}
use Rattle.graph.specs.Meaning.{bind, all, Call, Env, ref_means, payload_means, node_means, function_means, meaning_of}
use Rattle.graph.specs.Equations.{Solves, Model, OneMeaning}
use Rattle.graph.proofs.Order.{is-in, in_is, schedule-within, ready-reads, wired-in, scheduled}
use Rattle.graph.proofs.Means.{node-mono, node-means}
use Rattle.graph.proofs.Formed.{accepted}
use Rattle.graph.proofs.Exactly.{table-back}

-- ---- along the schedule

ref-member : (r : Ref) (rs : List Ref) → Is r rs → member r.node (map (λ r. r.node) rs) ≡ true
ref-member r [] h = absurd h
ref-member r (x ∷ xs) (inl e) =
    subst (λ (y : Ref). member y.node (x.node ∷ map (λ r. r.node) xs) ≡ true) (sym e) (member-first x.node (map (λ r. r.node) xs))
ref-member r (x ∷ xs) (inr h) = member-later r.node x.node (map (λ r. r.node) xs) (ref-member r xs h)

-- what holds at a node where it holds at all that the node reads, holds at every node; k counts the nodes passed
module _
    (early : List Function) (f : Function) (sound : Sound early f) (P : ℕ → ℕ → Type 0) (more : (k i : ℕ) → P k i → P (suc k) i)
    (step : (k : ℕ) (n : Node) → Is n f.nodes → ((r : Ref) → Is r (reads n) → (r.node ≡ 0) ⊎ P k r.node) → P (suc k) n.id)
  where
    abbrev Done : ℕ → List ℕ → Type 0
    Done k done = (i : ℕ) → member i done ≡ true → P k i

    done_next : (k : ℕ) (done : List ℕ) (n : Node) → Is n f.nodes → ready done (reads n) ≡ true → Done k done → Done (suc k) (n.id ∷ done)
    done_next k done n is fit h i m =
        ⊎_elim
        (λ q. subst (P (suc k)) q
        (step k n is (λ r j. ⊎_elim inl (λ x. inr (h r.node x)) (ready-reads done (reads n) r.node fit (ref-member r (reads n) j)))))
        (λ e. more k i (h i e)) (member-inv i n.id done m)

    along : (os : List Node) (done : List ℕ) (k t : ℕ) → length os + k ≡ t → ((n : Node) → Is n os → Is n f.nodes) → Ordered done os → Done k done
        → (i : ℕ) → (member i done ≡ true) ⊎ Is i (ids os) → P t i
    along [] done k t e within o h i (inl m) = subst (λ (j : ℕ). P j i) (omega arith) (h i m)
    along [] done k t e within o h i (inr x) = absurd x
    along (n ∷ os) done k t e within (fit, o) h i x =
        along os (n.id ∷ done) (suc k) t (omega arith) (λ m j. within m (inr j)) o (done_next k done n (within n (inl refl)) fit h) i (next x)
      where
        next : (member i done ≡ true) ⊎ Is i (ids (n ∷ os)) → (member i (n.id ∷ done) ≡ true) ⊎ Is i (ids os)
        next (inl m) = inl (cond-or (eqb n.id i) _ m)
        next (inr (inl q)) = inl (subst (λ (j : ℕ). member j (n.id ∷ done) ≡ true) (sym q) (member-first n.id done))
        next (inr (inr y)) = inr y

    pub at-node : (n : Node) → Is n f.nodes → P (length f.nodes) n.id
    at-node n is =
        let right = scheduled early f sound in
        let size : length (schedule f.nodes) ≡ length f.nodes = right.size in
        let none_done : Done 0 [] = λ i m. let z : ◌≡◌ {A = ℕ} 0 1 = cc in absurd (omega arith) in
        along (schedule f.nodes) [] 0 (length f.nodes) (omega arith) (schedule-within f.nodes) right.ordered none_done n.id
        (inr (is-in n (schedule f.nodes) (right.has n is)))

    -- and so wherever a reference leads
    pub at-refs : (ws : List ℕ) (rs : List Ref) → Wired (ref_type early f) ws rs → (r : Ref) → Is r rs → (r.node ≡ 0) ⊎ P (length f.nodes) r.node
    at-refs ws rs w r h = ⊎_elim inl (λ i. let (n, is, e) = in_is r.node f.nodes i in inr (rw e (at-node n is))) (wired-in early f ws rs w r.node (ref-member r rs h))

-- ---- two solutions in one function

-- on each of the functions and all arguments of its types both are defined and the same, of its outputs' types
abbrev Agreeing : Call → Call → List Function → Type 0
Agreeing call call' fs =
    (c : ℕ) (g : Function) → find_function c fs ≡ some g → (args : List Value) → Typed g.inputs args
    → (vs : List Value) × (call c args ≡ some vs) × (call' c args ≡ some vs) × Typed (output_types g.outputs) vs

port-typed : (ts : List ℕ) (vs : List Value) (p w : ℕ) → Typed ts vs → get_elem? ts p ≡ some w → (v : Value) × (get_elem? vs p ≡ some v) × Of w v
port-typed [] vs p w h e = let z : ◌≡◌ {A = ℕ} 0 1 = cc in absurd (omega arith)
port-typed (t ∷ ts) [] p w h e = absurd h
port-typed (t ∷ ts) (v ∷ vs) zero w (o, h) e = let q : t ≡ w = cc in (v, refl, subst (λ (i : ℕ). Of i v) q o)
port-typed (t ∷ ts) (v ∷ vs) (suc p) w (o, h) e = port-typed ts vs p w h e

module _ (early : List Function) (f : Function) (args : List Value) (inputs : Typed f.inputs args) where
  -- both assignments have the same values at the node, of the types that it gives
  abbrev Agree : Env → Env → ℕ → Type 0
  Agree env env' i = (vs : List Value) × (env i ≡ some vs) × (env' i ≡ some vs) × Typed (gives_at early (find_node i f.nodes)) vs

  module _ (env env' : Env) where
    ref-agrees : (r : Ref) (w : ℕ) → (r.node ≡ 0) ⊎ Agree env env' r.node → ref_type early f r ≡ some w
        → (v : Value) × (ref_means args env r ≡ some v) × (ref_means args env' r ≡ some v) × Of w v
    ref-agrees r w h t = go (eqb r.node 0) refl h t
      where
        go : (b : Bool) → eqb r.node 0 ≡ b → (r.node ≡ 0) ⊎ Agree env env' r.node
            → get_elem? (cond b f.inputs (gives_at early (find_node r.node f.nodes))) r.port ≡ some w
            → (v : Value)
            × (bind (cond b (some args) (env r.node)) (λ vs. get_elem? vs r.port) ≡ some v)
            × (bind (cond b (some args) (env' r.node)) (λ vs. get_elem? vs r.port) ≡ some v)
            × Of w v
        go true q h t = let (v, e, o) = port-typed f.inputs args r.port w inputs t in (v, e, e, o)
        go false q (inl z) t = absurd (eqb-false r.node 0 q z)
        go false q (inr (vs, a, b, h)) t =
            let (v, e, o) = port-typed (gives_at early (find_node r.node f.nodes)) vs r.port w h t in
            (v, rw a e, rw b e, o)

    refs-agree : (ws : List ℕ) (rs : List Ref) → ((r : Ref) → Is r rs → (r.node ≡ 0) ⊎ Agree env env' r.node) → Wired (ref_type early f) ws rs
        → (vs : List Value) × (all (ref_means args env) rs ≡ some vs) × (all (ref_means args env') rs ≡ some vs) × Typed ws vs
    refs-agree [] [] h w = ([], refl, refl, tt)
    refs-agree [] (r ∷ rs) h w = absurd w
    refs-agree (t ∷ ts) [] h w = absurd w
    refs-agree (t ∷ ts) (r ∷ rs) h (w, ws) =
        let (v, a, b, o) = ref-agrees r t (h r (inl refl)) w in
        let (vs, c, d, p) = refs-agree ts rs (λ x i. h x (inr i)) ws in
        (v ∷ vs, rw (a, c) refl, rw (b, d) refl, (o, p))

  module _ (sound : Sound early f) (call call' : Call) (agreeing : Agreeing call call' early) where
    payload-agrees : (n : Node) (p : Payload) (vs : List Value) → Shaped early n p → Typed (wants_of early n p) vs
        → (us : List Value)
        × (payload_means call n.kind p vs ≡ some us)
        × (payload_means call' n.kind p vs ≡ some us)
        × Typed (gives_of early n p) us
    payload-agrees n (consts ws) vs shape t =
        (results (kind_of n.kind) ws vs, refl, refl, results-typed (kind_of n.kind) n.type ws vs (rw shape t))
    payload-agrees n (refs rs) vs shape t = (results (kind_of n.kind) [] vs, refl, refl, results-typed (kind_of n.kind) n.type [] vs t)
    payload-agrees n (calls c rs) vs (g, found) t =
        let (us, a, b, o) = agreeing c g found vs (rw found at t) in
        (us, a, b, rw found o)

    module _ (env env' : Env) (solves : Solves call args env f.nodes) (solves' : Solves call' args env' f.nodes) where
      step-agrees : (k : ℕ) (n : Node) → Is n f.nodes → ((r : Ref) → Is r (reads n) → (r.node ≡ 0) ⊎ Agree env env' r.node) → Agree env env' n.id
      step-agrees k n is h =
          let (vs, a, b, t) = refs-agree env env' (wants_of early n n.payload) (reads n) h (sound.resolved.wired n is) in
          let (us, p, q, o) = payload-agrees n n.payload vs (sound.resolved.shaped n is) t in
          let x = solves n is in
          let y = solves' n is in (
            us,
            x.result ∙ ap (payload_means call n.kind n.payload) (some_is (sym x.meant ∙ a)) ∙ p,
            y.result ∙ ap (payload_means call' n.kind n.payload) (some_is (sym y.meant ∙ b)) ∙ q,
            rw (sound.resolved.own n is) o,
          )

      -- two solutions have the same outputs
      pub outputs-agree :
          (vs : List Value)
          × (all (ref_means args env) (output_refs f.outputs) ≡ some vs)
          × (all (ref_means args env') (output_refs f.outputs) ≡ some vs)
          × Typed (output_types f.outputs) vs
      outputs-agree =
          let ts = output_types f.outputs in
          let rs = output_refs f.outputs in
          let w = sound.resolved.answers in
          refs-agree env env' ts rs (at-refs early f sound (λ k i. Agree env env' i) (λ k i a. a) step-agrees ts rs w) w

  -- ---- the meaning by depth solves the equations: the depth is enough

  module _ (sound : Sound early f) (call : Call) (agreeing : Agreeing call call early) where
    abbrev depth : ℕ → Env
    depth = node_means call f.nodes args

    abbrev Defined : ℕ → ℕ → Type 0
    Defined k = Agree (depth k) (depth k)

    deeper : (k i : ℕ) → Defined k i → Defined (suc k) i
    deeper k i (vs, a, b, t) = let e = node-mono call f.nodes args k i vs a in (vs, e, e, t)

    node-defined : (k : ℕ) (n : Node) → Is n f.nodes → ((r : Ref) → Is r (reads n) → (r.node ≡ 0) ⊎ Defined k r.node) → Defined (suc k) n.id
    node-defined k n is h =
        let (vs, a, b, t) = refs-agree (depth k) (depth k) (wants_of early n n.payload) (reads n) h (sound.resolved.wired n is) in
        let (us, p, q, o) = payload-agrees sound call call agreeing n n.payload vs (sound.resolved.shaped n is) t in
        let e = node-means call f.nodes args k n vs (sound.resolved.own n is) a ∙ p in
        (us, e, e, rw (sound.resolved.own n is) o)

    depth-solves : Solves call args (depth (length f.nodes)) f.nodes
    depth-solves n is =
        let k = length f.nodes in
        let w = sound.resolved.wired n is in
        let ts = wants_of early n n.payload in
        let (us, e, e', o) = at-node early f sound Defined deeper node-defined n is in
        let (vs, a, b, t) = refs-agree (depth k) (depth k) ts (reads n) (at-refs early f sound Defined deeper node-defined ts (reads n) w) w in
        record { operands = vs; meant = a; result = e ∙ sym (node-mono call f.nodes args k n.id us e) ∙ node-means call f.nodes args k n vs (sound.resolved.own n is) a }

    function-defined : (vs : List Value) × (function_means call f args ≡ some vs) × Typed (output_types f.outputs) vs
    function-defined =
        let env = depth (length f.nodes) in
        let (vs, a, b, t) = outputs-agree sound call call agreeing env env depth-solves depth-solves in
        (vs, a, t)

-- ---- the functions of a table

meaning-agrees : (fs : List Function) → AllSound fs → Agreeing (meaning_of fs) (meaning_of fs) fs
unfolding meaning_of
meaning-agrees [] s c g e args t = let z : ◌≡◌ {A = ℕ} 0 1 = cc in absurd (omega arith)
meaning-agrees (f ∷ early) (s, ss) c g e args t = go (eqb f.id c) (meaning-agrees early ss) e
  where
    go : (b : Bool) → Agreeing (meaning_of early) (meaning_of early) early → cond b (some f) (find_function c early) ≡ some g
        → (vs : List Value)
        × (cond b (function_means (meaning_of early) f args) (meaning_of early c args) ≡ some vs)
        × (cond b (function_means (meaning_of early) f args) (meaning_of early c args) ≡ some vs)
        × Typed (output_types g.outputs) vs
    go true ih e =
        let q : f ≡ g = some_is e in
        let (vs, a, o) = function-defined early f args (subst (λ (x : Function). Typed x.inputs args) (sym q) t) s (meaning_of early) ih in
        (vs, a, a, subst (λ (x : Function). Typed (output_types x.outputs) vs) q o)
    go false ih e = ih c g e args t

model-agrees : (call : Call) (fs : List Function) → AllSound fs → Model fs call → Agreeing (meaning_of fs) call fs
unfolding meaning_of
model-agrees call [] s m c g e args t = let z : ◌≡◌ {A = ℕ} 0 1 = cc in absurd (omega arith)
model-agrees call (f ∷ early) (s, ss) m c g e args t = go (eqb f.id c) refl (model-agrees call early ss (λ h i. m h (inr i))) e
  where
    go : (b : Bool) → eqb f.id c ≡ b → Agreeing (meaning_of early) call early → cond b (some f) (find_function c early) ≡ some g
        → (vs : List Value)
        × (cond b (function_means (meaning_of early) f args) (meaning_of early c args) ≡ some vs)
        × (call c args ≡ some vs)
        × Typed (output_types g.outputs) vs
    go true i ih e =
        let q : f ≡ g = some_is e in
        let inputs : Typed f.inputs args = subst (λ (x : Function). Typed x.inputs args) (sym q) t in
        let x = m f (inl refl) args inputs in
        let (vs, a, b, o) =
        outputs-agree early f args inputs s (meaning_of early) call ih (node_means (meaning_of early) f.nodes args (length f.nodes)) x.env
        (depth-solves early f args inputs s (meaning_of early) (meaning-agrees early ss)) x.solves in
        (vs, a, ap (λ (j : ℕ). call j args) (sym (eqb-true f.id c i)) ∙ x.outputs ∙ b, subst (λ (x : Function). Typed (output_types x.outputs) vs) q o)
    go false i ih e = ih c g e args t

-- a function of a table, over those before it; what they mean is what they mean in the table
record Stands (fs : List Function) (f : Function) : Type 0 where
  early : List Function
  sound : AllSound (f ∷ early)
  own : find_function f.id fs ≡ some f
  meant : (args : List Value) → meaning_of fs f.id args ≡ function_means (meaning_of early) f args
  same : (c : ℕ) (g : Function) → find_function c early ≡ some g → (args : List Value) → meaning_of fs c args ≡ meaning_of early c args
  found : (c : ℕ) (g : Function) → find_function c early ≡ some g → find_function c fs ≡ some g

module _ (f : Function) (early : List Function) (fresh : find_function f.id early ≡ none) where
  not_own : (c : ℕ) (g : Function) → find_function c early ≡ some g → eqb f.id c ≡ false
  not_own c g e = go (eqb f.id c) refl
    where
      go : (b : Bool) → eqb f.id c ≡ b → b ≡ false
      go true q =
          let n : find_function c early ≡ none = subst (λ (j : ℕ). find_function j early ≡ none) (eqb-true f.id c q) fresh in
          let z : ◌≡◌ {A = ℕ} 0 1 = cc in
          absurd (omega arith)
      go false q = refl

  still-found : (c : ℕ) (g : Function) → find_function c early ≡ some g → find_function c (f ∷ early) ≡ some g
  still-found c g e = rw (not_own c g e) e

  still-same : (c : ℕ) (g : Function) → find_function c early ≡ some g → (args : List Value) → meaning_of (f ∷ early) c args ≡ meaning_of early c args
  unfolding meaning_of
  still-same c g e args = rw (not_own c g e) refl

  own-meaning : (args : List Value) → meaning_of (f ∷ early) f.id args ≡ function_means (meaning_of early) f args
  unfolding meaning_of
  own-meaning args = rw (eq-eqb f.id f.id refl) refl

stands : (fs : List Function) → AllSound fs → (f : Function) → Is f fs → Stands fs f
stands [] s f h = absurd h
stands (x ∷ xs) (s, ss) f (inl e) = subst (Stands (x ∷ xs)) (sym e) here
  where
    here : Stands (x ∷ xs) x
    here = record {
      early = xs;
      sound = (s, ss);
      own = rw (eq-eqb x.id x.id refl) refl;
      meant = own-meaning x xs s.resolved.fresh;
      same = still-same x xs s.resolved.fresh;
      found = still-found x xs s.resolved.fresh;
    }
stands (x ∷ xs) (s, ss) f (inr h) =
    let p = stands xs ss f h in
    let new = s.resolved.fresh in
    record {
      early = p.early;
      sound = p.sound;
      own = still-found x xs new f.id f p.own;
      meant = λ args. still-same x xs new f.id f p.own args ∙ p.meant args;
      same = λ c g e args. still-same x xs new c g (p.found c g e) args ∙ p.same c g e args;
      found = λ c g e. still-found x xs new c g (p.found c g e);
    }

-- ---- the laws

module _ (early : List Function) (f : Function) (sound : AllSound (f ∷ early)) (args : List Value) (inputs : Typed f.inputs args) where
  -- an accepted function means something on all arguments of its types, and what it means is of its outputs' types
  pub means : (vs : List Value) × (function_means (meaning_of early) f args ≡ some vs) × Typed (output_types f.outputs) vs
  means = function-defined early f args inputs sound.0 (meaning_of early) (meaning-agrees early sound.1)

  -- each node means what its kind, or its callee, makes of the meanings of its references
  pub node-equation : Solves (meaning_of early) args (node_means (meaning_of early) f.nodes args (length f.nodes)) f.nodes
  node-equation = depth-solves early f args inputs sound.0 (meaning_of early) (meaning-agrees early sound.1)

module _ (fs : List Function) (sound : AllSound fs) where
  -- every function of an accepted table means something on all arguments of its types
  pub meaning-defined : (f : Function) → Is f fs → (args : List Value) → Typed f.inputs args
      → (vs : List Value) × (meaning_of fs f.id args ≡ some vs) × Typed (output_types f.outputs) vs
  meaning-defined f is args t =
      let p = stands fs sound f is in
      let (vs, a, o) = means p.early f p.sound args t in
      (vs, p.meant args ∙ a, o)

  -- the meaning satisfies 01's equations
  pub meaning-model : Model fs (meaning_of fs)
  meaning-model f is args t = record { env = node_means (meaning_of p.early) f.nodes args (length f.nodes); solves = solves; outputs = p.meant args }
    where
      p : Stands fs f
      p = stands fs sound f is

      same : (n : Node) (q : Payload) (vs : List Value) → Shaped p.early n q
          → payload_means (meaning_of p.early) n.kind q vs ≡ payload_means (meaning_of fs) n.kind q vs
      same n (consts ws) vs h = refl
      same n (refs rs) vs h = refl
      same n (calls c rs) vs (g, found) = sym (p.same c g found vs)

      solves : Solves (meaning_of fs) args (node_means (meaning_of p.early) f.nodes args (length f.nodes)) f.nodes
      solves n i =
          let x = node-equation p.early f p.sound args t n i in
          record { operands = x.operands; meant = x.meant; result = x.result ∙ same n n.payload x.operands (p.sound.0.resolved.shaped n i) }

  -- and nothing else does
  pub meaning-unique : (call : Call) → Model fs call → (f : Function) → Is f fs → (args : List Value) → Typed f.inputs args
      → call f.id args ≡ meaning_of fs f.id args
  meaning-unique call m f is args t =
      let (vs, a, b, o) = model-agrees call fs sound m f.id f (stands fs sound f is).own args t in
      b ∙ sym a

-- ---- a table

-- an accepted table has one meaning
pub one-meaning : (s : List ℕ) → Bytes s → (fs : List Function) → Meets (format_of s) s fs → OneMeaning fs (meaning_of (reverse fs))
one-meaning s small fs m =
    let sound : AllSound (reverse fs) = accepted s small (reverse fs) (table-back s fs m) in
    let there : (f : Function) → Is f fs → Is f (reverse fs) = λ f h. reversed-back f fs [] (inl h) in
    let back : (f : Function) → Is f (reverse fs) → Is f fs = λ f h. ⊎_elim (λ a. a) (λ b. absurd b) (reversed f fs [] h) in
    record {
      defined = λ f h. meaning-defined (reverse fs) sound f (there f h);
      model = λ f h. meaning-model (reverse fs) sound f (there f h);
      only = λ call c f h. meaning-unique (reverse fs) sound call (λ g i. c g (back g i)) f (there f h);
    }
