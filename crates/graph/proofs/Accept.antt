-- The checks 9 to 13 let only sound functions pass.
use Prim.Native.Nat.{ℕ}
use mathlib.Core.Path.{◌≡◌, refl, ap, sym, ◌∙◌, subst}
use mathlib.Core.Bool.{Bool, true, false, cond}
use mathlib.Core.List.{List, [], ◌∷◌, reverse_aux}
use mathlib.Core.Option.{Option, none, some}
use mathlib.Core.Logic.{inl, inr, ⊎_elim}
use native.Mathlib.Omega.{arith}
use lib.Dec.{eqb}
use lib.ListN.{length, length-map}
use borrow.Author.Tests.{eqb-true, eq-eqb}
use Rattle.ports.specs.declared.Form.{Form}
use Rattle.ports.specs.declared.Form.TheVariants.{Constant}
use Rattle.ports.proofs.Laws.{length-takes}
use Rattle.ports.proofs.Table.{every-kind}
use Rattle.ports.specs.Kinds.{Kind, kind_of}
use Rattle.ports.specs.Ports as Ports
use Rattle.ports.specs.Ports.{arity, form_of, constant_in}
use Rattle.base.specs.Outcome.{ok, each}
use Rattle.graph.specs.Graph.{Ref, Payload, consts, refs, calls, Node, Function}
use Rattle.graph.specs.Look.{find_node, find_function, reads, reads_of, output_refs, ids}
use Rattle.graph.specs.Loops.{Leads}
use Rattle.graph.specs.Types.{inputs_of, wants_of, ref_type, output_types}
use Rattle.graph.specs.Judge.{fresh, call_ok, ref_ok, refs_ok, loop_free}
use Rattle.graph.specs.Checks.{CalleeThere, All, Says, id_checks, call_checks, ref_checks, node_ref_checks, loop_checks, link_checks, function_checks, table_checks}
use Rattle.base.specs.Lists.{Is, Each}
use Rattle.graph.specs.Sound.{Wired, Shaped, Resolved, AllSound}
use Rattle.graph.specs.Formed.{FormedPayload, FormedNode, Formed, AllFormed}
use Rattle.graph.proofs.Loops.{leads-node}
use Rattle.graph.proofs.First.{all_append, all_split, judged-is, ids-judged, calls-judged, outputs-judged, node-refs-judged, loops-judged}

-- ---- 9

-- the node of the id is the node itself, and none of those before
abbrev Own : List Node → List Node → Node → Type 0
Own before ns n = (find_node n.id before ≡ none) × (find_node n.id ns ≡ some n)

pub fresh-own : (before ns : List Node) → All (id_checks before ns) → (n : Node) → Is n ns → Own before ns n
fresh-own before [] a n h = absurd h
fresh-own before (x ∷ ns) (e, a) n (inl q) = subst (Own before (x ∷ ns)) (sym q) (e, rw (eq-eqb x.id x.id refl) refl)
fresh-own before (x ∷ ns) (e, a) n (inr h) = later (eqb x.id n.id) (fresh-own (x ∷ before) ns a n h)
  where
    later :
        (b : Bool) → (cond b (some x) (find_node n.id before) ≡ none) × (find_node n.id ns ≡ some n)
        → (find_node n.id before ≡ none) × (cond b (some x) (find_node n.id ns) ≡ some n)
    later true (p, q) = let z : ◌≡◌ {A = ℕ} 0 1 = cc in absurd (omega arith)
    later false h = h

-- ---- 11 and 12

refs-wired : (early : List Function) (f : Function) (ws : List ℕ) (rs : List Ref) → length rs ≡ length ws → All (ref_checks early f ws rs)
    → Wired (ref_type early f) ws rs
refs-wired early f [] [] l a = tt
refs-wired early f [] (r ∷ rs) l a = absurd (omega arith)
refs-wired early f (w ∷ ws) [] l a = absurd (omega arith)
refs-wired early f (w ∷ ws) (r ∷ rs) l (t, (e, a)) = (e, refs-wired early f ws rs (omega arith) a)

-- ---- 10

-- a constant has no references
no_takes : (k : Kind) (t : ℕ) → form_of k ≡ Constant → Ports.takes k t ≡ []
no_takes k t e =
    let z : arity k ≡ 0 =
    eqb-true _ _ (subst (λ (f : Form). eqb (constant_in f (arity k)) 0 ≡ true) e (every-kind (λ k. eqb (constant_in (form_of k) (arity k)) 0) refl k)) in
    rw z

call-shaped : (early : List Function) (n : Node) (p : Payload) → FormedPayload (kind_of n.kind) p → CalleeThere early p
    → Shaped early n p × (length (reads_of p) ≡ length (wants_of early n p))
call-shaped early n (consts ws) (s, l, h, b) e = (no_takes (kind_of n.kind) n.type s, refl)
call-shaped early n (refs rs) (s, l) e = (tt, l ∙ sym (length-takes (kind_of n.kind) n.type))
call-shaped early n (calls c rs) (s, l) (g, e, m) = ((g, e), m ∙ sym (ap (λ (o : Option Function). length (inputs_of o)) e))

-- what is asked of each node's call and of its references, together
nodes-wired : (early : List Function) (f : Function) (ns : List Node) → Each FormedNode ns → All (call_checks early ns) → All (node_ref_checks early f ns)
    → (n : Node) → Is n ns → Shaped early n n.payload × Wired (ref_type early f) (wants_of early n n.payload) (reads n)
nodes-wired early f [] fm cs rs n h = absurd h
nodes-wired early f (x ∷ ns) (fm, fms) (c, cs) rs n h =
    let (r, rest) = all_split (ref_checks early f (wants_of early x x.payload) (reads x)) (node_ref_checks early f ns) rs in
    let (s, l) = call-shaped early x x.payload fm.payload c in
    ⊎_elim
    (λ e. subst (λ (y : Node). Shaped early y y.payload × Wired (ref_type early f) (wants_of early y y.payload) (reads y)) (sym e)
    (s, refs-wired early f (wants_of early x x.payload) (reads x) l r)) (nodes-wired early f ns fms cs rest n) h

-- ---- 13

loops-free : (all ns : List Node) → All (loop_checks all ns) → (i : ℕ) → Is i (ids ns) → Leads all i i → ⊥
loops-free all [] a i h p = h
loops-free all (x ∷ xs) (a, rest) i (inl e) p = a (rw e at p)
loops-free all (x ∷ xs) (a, rest) i (inr h) p = loops-free all xs rest i h p

free-loops : (all ns : List Node) → ((i : ℕ) → Leads all i i → ⊥) → All (loop_checks all ns)
free-loops all [] h = tt
free-loops all (n ∷ ns) h = (h n.id, free-loops all ns h)

pub no_loop : (ns : List Node) → All (loop_checks ns ns) → (i : ℕ) → Leads ns i i → ⊥
no_loop ns a i p = loops-free ns ns a i (leads-node ns p) p

-- no node lies on a loop exactly where 13 is not given
pub loop-free-iff : (f : Function) → (loop_free f ≡ ok tt → (i : ℕ) → Leads f.nodes i i → ⊥) × (((i : ℕ) → Leads f.nodes i i → ⊥) → loop_free f ≡ ok tt)
loop-free-iff f =
    let ns = f.nodes in
    let j = loops-judged ns ns in
    (λ e. no_loop ns (subst (Says (loop_checks ns ns)) e j.0), λ h. judged-is (loop_checks ns ns) (loop_free f) (ok tt) j (free-loops ns ns h))

-- ---- the whole of a function

-- what the checks before the loops tell
pub links-resolved : (early : List Function) (f : Function) → Formed f → All (link_checks early f) → Resolved early f
links-resolved early f formed (fresh, a) =
    let ns = f.nodes in
    let (i, b) = all_split (id_checks [] ns) _ a in
    let (c, d) = all_split (call_checks early ns) _ b in
    let (o, r) = all_split (ref_checks early f (output_types f.outputs) (output_refs f.outputs)) _ d in
    let size : length (output_refs f.outputs) ≡ length (output_types f.outputs) = length-map f.outputs (λ o. o.ref) ∙ sym (length-map f.outputs (λ o. o.type)) in
    record {
      formed = formed;
      fresh = fresh;
      own = λ n h. (fresh-own [] ns i n h).1;
      shaped = λ n h. (nodes-wired early f ns formed.nodes c r n h).0;
      wired = λ n h. (nodes-wired early f ns formed.nodes c r n h).1;
      answers = refs-wired early f (output_types f.outputs) (output_refs f.outputs) size o;
    }

-- the same of the steps that passed
pub resolved-by :
    (early : List Function) (f : Function) → Formed f → find_function f.id early ≡ none → (a b c d : Unit {0}) → fresh [] f.nodes ≡ ok a
    → each (λ n. call_ok early n.place n.payload) f.nodes ≡ ok b
    → each (λ o. ref_ok early f o.type o.ref) f.outputs ≡ ok c
    → each (λ n. refs_ok early f (wants_of early n n.payload) (reads n)) f.nodes ≡ ok d → Resolved early f
resolved-by early f formed new a1 a2 a3 a4 f1 f2 f3 f4 =
    let ns = f.nodes in
    let outs = ref_checks early f (output_types f.outputs) (output_refs f.outputs) in
    let i = subst (Says (id_checks [] ns)) f1 (ids-judged [] ns).0 in
    let c = subst (Says (call_checks early ns)) f2 (calls-judged early ns).0 in
    let o = subst (Says outs) f3 (outputs-judged early f f.outputs).0 in
    let r = subst (Says (node_ref_checks early f ns)) f4 (node-refs-judged early f ns).0 in
    links-resolved early f formed (new, all_append (id_checks [] ns) _ i (all_append (call_checks early ns) _ c (all_append outs _ o r)))

pub all_sound : (early fs : List Function) → AllFormed fs → AllSound early → All (table_checks early fs) → AllSound (reverse_aux fs early)
all_sound early [] formed sound a = sound
all_sound early (f ∷ fs) (fm, formed) sound a =
    let (b, c) = all_split (function_checks early f) (table_checks (f ∷ early) fs) a in
    let (l, o) = all_split (link_checks early f) (loop_checks f.nodes f.nodes) b in
    all_sound (f ∷ early) fs formed (record { resolved = links-resolved early f fm l; free = no_loop f.nodes o }, sound) c
