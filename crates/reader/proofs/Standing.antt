-- Where the reading passed, what stands at a place is what was read.
use Prim.Native.Nat.{ℕ, zero, suc, ◌+◌, ◌*◌}
use mathlib.Core.Path.{◌≡◌, ap, sym, ◌∙◌, subst}
use mathlib.Core.List.{List, [], ◌∷◌, reverse, reverse_aux}
use native.Mathlib.Omega.{arith}
use Rattle.ports.specs.declared.Form.{Form}
use Rattle.ports.specs.declared.Form.TheVariants.{Absent, Constant, References, Call}
use Rattle.ports.specs.Kinds.{Kind}
use Rattle.ports.specs.Ports.{form_of}
use Rattle.base.specs.Outcome.{ok, Part}
use Rattle.base.specs.Bytes.{byte, u16, Bytes}
use Rattle.graph.specs.Graph.{Payload, Node, Output, Function}
use Rattle.graph.specs.Formed.{FormedNode}
use Rattle.graph.specs.Format.{Format, format_of}
use Rattle.graph.specs.Read.{inputs, outputs, payload, node, nodes, function, functions, parse}
use Rattle.graph.specs.Judge.{table, judge_all}
use Rattle.graph.proofs.Formed.{node-formed}
use Rattle.base.proofs.Outcomes.{took, after, passed, ok-is}
use Rattle.reader.specs.Layout.{kind_at, payload_at, payload_end, node_at, node_end, nodes_at, node_place, inputs_at, outputs_at, function_at, function_end, functions_at, function_place, earlier}
use Rattle.reader.specs.Find.{ReadsNode}

abbrev part : {A : Type 0} → A → ℕ → Part A
part a n = record { it = a; next = n }

payload-read : (h : Form) (k : Kind) (s : List ℕ) (at : ℕ) (p : Part Payload) → payload h k s at ≡ ok p → p ≡ part (payload_at h k s at) (payload_end h k s at)
payload-read Absent k s at p e = let z : ◌≡◌ {A = ℕ} 0 1 = cc in absurd (omega arith)
payload-read Constant k s at p e =
    let (t, e1) = passed _ _ _ _ _ e in
    let (f, e2) = passed _ _ _ _ _ e1 in
    sym (ok-is e2)
payload-read References k s at p e =
    let (t, e1) = passed _ _ _ _ _ e in
    sym (ok-is e1)
payload-read Call k s at p e =
    let (t, e1) = passed _ _ _ _ _ e in
    let (f, e2) = passed _ _ _ _ _ e1 in
    let (u, e3) = passed _ _ _ _ _ e2 in
    sym (ok-is e3)

-- a node that was read is the node that stands there
pub node-read : (s : List ℕ) (at : ℕ) (x : Part Node) → node s at ≡ ok x → x ≡ part (node_at s at) (node_end s at)
unfolding node_at node_end
node-read s at x e =
    let (t, e1) = passed _ _ _ _ _ e in
    let (u, e2) = passed _ _ _ _ _ e1 in
    let (p, ep, e3) = took _ _ _ e2 in
    let q = payload-read (form_of (kind_at s at)) (kind_at s at) s (at + 4) p ep in
    sym (ok-is e3)
    ∙ ap (λ (y : Part Payload). part (record { id = u16 s at; place = at; kind = byte s (at + 2); type = byte s (at + 3); payload = y.it }) y.next) q

-- and it is formed
pub standing-formed : (s : List ℕ) → Bytes s → (at : ℕ) → ReadsNode s at → FormedNode (node_at s at)
standing-formed s small at (x, e) = subst (λ (y : Part Node). FormedNode y.it) (node-read s at x e) (node-formed s small at x e).0

pub nodes-read : (n : ℕ) (s : List ℕ) (at : ℕ) (p : Part (List Node)) → nodes n s at ≡ ok p → p ≡ part (nodes_at n s at) (node_place s at n)
unfolding nodes_at node_place
nodes-read zero s at p e = sym (ok-is e)
nodes-read (suc n) s at p e =
    let (x, ex, e1) = took _ _ _ e in
    let (r, er, e2) = took _ _ _ e1 in
    let q : x ≡ part (node_at s at) (node_end s at) = node-read s at x ex in
    let w : r ≡ part (nodes_at n s x.next) (node_place s x.next n) = nodes-read n s x.next r er in
    sym (ok-is e2)
    ∙ ap (λ (y : Part (List Node)). part (x.it ∷ y.it) y.next) w
    ∙ ap (λ (y : Part Node). part (y.it ∷ nodes_at n s y.next) (node_place s y.next n)) q

inputs_read : (n : ℕ) (s : List ℕ) (at : ℕ) (ts : List ℕ) → inputs n s at ≡ ok ts → ts ≡ inputs_at n s at
inputs_read zero s at ts e = sym (ok-is e)
inputs_read (suc n) s at ts e =
    let (a, e1) = passed _ _ _ _ _ e in
    let (b, e2) = passed _ _ _ _ _ e1 in
    let (r, er, e3) = took _ _ _ e2 in
    sym (ok-is e3) ∙ ap (λ (us : List ℕ). byte s at ∷ us) (inputs_read n s (at + 1) r er)

outputs-read : (n : ℕ) (s : List ℕ) (at : ℕ) (os : List Output) → outputs n s at ≡ ok os → os ≡ outputs_at n s at
outputs-read zero s at os e = sym (ok-is e)
outputs-read (suc n) s at os e =
    let (a, e1) = passed _ _ _ _ _ e in
    let (b, e2) = passed _ _ _ _ _ e1 in
    let (r, er, e3) = took _ _ _ e2 in
    sym (ok-is e3) ∙ ap (λ (us : List Output). record { type = byte s at; ref = record { node = u16 s (at + 1); port = byte s (at + 1 + 2); place = at + 1 } } ∷ us) (outputs-read n s (at + 4) r er)

-- a function that was read is the function that stands there
pub function-read : (limit : ℕ) (s : List ℕ) (at : ℕ) (x : Part Function) → function limit s at ≡ ok x → x ≡ part (function_at s at) (function_end s at)
unfolding function_at function_end
function-read limit s at x e =
    let (t, e1) = passed _ _ _ _ _ e in
    let (u, e2) = passed _ _ _ _ _ e1 in
    let (ins, ei, e3) = took _ _ _ e2 in
    let (outs, eo, e4) = took _ _ _ e3 in
    let (ns, en, e5) = took _ _ _ e4 in
    let nin = byte s (at + 2) in
    let nout = byte s (at + 3) in
    let make : List ℕ → List Output → Part (List Node) → Part Function =
    λ i o n. part (record { id = u16 s at; place = at; inputs = i; outputs = o; nodes = n.it }) n.next in
    let ri : ins ≡ inputs_at nin s (at + 6) = inputs_read nin s (at + 6) ins ei in
    let ro : outs ≡ outputs_at nout s (at + 6 + nin) = outputs-read nout s (at + 6 + nin) outs eo in
    let rn = nodes-read (u16 s (at + 4)) s (at + 6 + nin + 4 * nout) ns en in
    sym (ok-is e5)
    ∙ ap (λ (i : List ℕ). make i outs ns) ri
    ∙ ap (λ (o : List Output). make (inputs_at nin s (at + 6)) o ns) ro
    ∙ ap (λ (n : Part (List Node)). make (inputs_at nin s (at + 6)) (outputs_at nout s (at + 6 + nin)) n) rn

pub functions-read : (limit n : ℕ) (s : List ℕ) (at : ℕ) (p : Part (List Function)) → functions limit n s at ≡ ok p → p.it ≡ functions_at n s at
unfolding functions_at
functions-read limit zero s at p e = ap (λ (y : Part (List Function)). y.it) (sym (ok-is e))
functions-read limit (suc n) s at p e =
    let (x, ex, e1) = took _ _ _ e in
    let (r, er, e2) = took _ _ _ e1 in
    let q : x ≡ part (function_at s at) (function_end s at) = function-read limit s at x ex in
    let w : r.it ≡ functions_at n s x.next = functions-read limit n s x.next r er in
    ap (λ (y : Part (List Function)). y.it) (sym (ok-is e2))
    ∙ ap (λ (us : List Function). x.it ∷ us) w
    ∙ ap (λ (y : Part Function). y.it ∷ functions_at n s y.next) q

-- a table that was read has the functions that stand behind its header
pub parse-read : (format : Format) (s : List ℕ) (fs : List Function) → parse format s ≡ ok fs → fs ≡ functions_at (byte s 5) s format.header
parse-read format s fs e =
    let (t1, e1) = passed _ _ _ _ _ e in
    let (t2, e2) = passed _ _ _ _ _ e1 in
    let (t3, e3) = passed _ _ _ _ _ e2 in
    let (t4, e4) = passed _ _ _ _ _ e3 in
    let (t5, e5) = passed _ _ _ _ _ e4 in
    let (p, ep, e6) = took _ _ _ e5 in
    let (t6, e7) = passed _ _ _ _ _ e6 in
    sym (ok-is e7) ∙ functions-read format.node_limit (byte s 5) s format.header p ep

-- ---- by position, the last first

earlier_more : (begin : ℕ) (s : List ℕ) (n k : ℕ) → reverse_aux (functions_at n s (function_place begin s k)) (earlier begin s k) ≡ earlier begin s (n + k)
unfolding functions_at function_place earlier
earlier_more begin s zero k = let z : k ≡ 0 + k = omega arith in ap (earlier begin s) z
earlier_more begin s (suc n) k =
    let z : n + suc k ≡ suc n + k = omega arith in
    earlier_more begin s n (suc k) ∙ ap (earlier begin s) z

pub earlier-all : (begin : ℕ) (s : List ℕ) (n : ℕ) → reverse (functions_at n s begin) ≡ earlier begin s n
unfolding function_place earlier
earlier-all begin s n = let z : n + 0 ≡ n = omega arith in earlier_more begin s n 0 ∙ ap (earlier begin s) z

-- an accepted table's functions
pub table-read : (s : List ℕ) (fs : List Function) → table s ≡ ok fs → fs ≡ earlier (format_of s).header s (byte s 5)
unfolding table
table-read s fs e =
    let (gs, p, e1) = took (parse (format_of s) s) _ fs e in
    let (u, j, e2) = after (judge_all [] gs) (ok (reverse gs)) fs e1 in
    sym (ok-is e2) ∙ ap reverse (parse-read (format_of s) s gs p) ∙ earlier-all (format_of s).header s (byte s 5)
