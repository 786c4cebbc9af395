-- What the reading gives is formed, and written where it says.
use Prim.Native.Nat.{ℕ, zero, suc, ◌+◌, ◌-◌, ◌*◌, ◌^◌, ◌≤◌, ◌<◌}
use mathlib.Core.Path.{◌≡◌, refl, ap, sym, ◌∙◌, subst}
use mathlib.Core.Bool.{true, ◌&&◌}
use mathlib.Core.List.{List, [], ◌∷◌, ◌++◌, reverse}
use native.Mathlib.Omega.{arith}
use lib.Dec.{leb, eqb}
use lib.ListN.{length, length-append}
use borrow.Author.Tests.{leb-true, eqb-true}
use Rattle.ports.specs.Kinds.{Kind, kind_of}
use Rattle.ports.specs.declared.Form.{Form}
use Rattle.ports.specs.declared.Form.TheVariants.{Absent, Constant, References, Call}
use Rattle.ports.specs.Ports.{arity, constant_words, form_of, legal}
use Rattle.value.specs.Typed.{TypeCode}
use Rattle.base.specs.Lists.{Each}
use Rattle.base.specs.Outcome.{ok, ◌>>◌, Part}
use Rattle.graph.specs.Graph.{Ref, Payload, Node, Output, Function}
use Rattle.base.specs.Bytes.{byte, u16, Bytes, bytes_of, all_bytes, constants}
use Rattle.graph.specs.Format.{Format, format_of}
use Rattle.graph.specs.Read.{inputs, reference, references, outputs, payload, node, nodes, in_range, function, functions, table_marked, parse}
use Rattle.graph.specs.Types.{output_types}
use Rattle.graph.specs.Judge.{judge_all, table}
use Rattle.graph.specs.Formed.{AllWithin, FormedPayload, FormedNode, Formed, AllFormed}
use Rattle.graph.specs.Sound.{AllSound}
use Rattle.graph.specs.Written.{flat, ref_bytes, output_bytes, payload_bytes, node_bytes, function_bytes, header_bytes, table_bytes, RefsAt, PayloadAt, OutputsAt, NodesAt, FunctionAt, FunctionsAt, Short, ShortRefs, ShortPayload, ShortNode, ShortIds, Written}
use Rattle.graph.specs.Reading.{HeadRight}
use Rattle.base.proofs.Bools.{and-inv}
use Rattle.base.proofs.Numbers.{between}
use Rattle.base.proofs.Outcomes.{took, after, passed, ok-is}
use Rattle.base.proofs.Stands.{bytes-length, all-length, Here, moved, join, onto, whole_is, little, little-below, little-here, u16-here, u16-below, constants-here, constants-length, constants-words}
use Rattle.graph.specs.Checks.{Says, table_checks}
use Rattle.graph.proofs.Formats.{Plain, plain_of}
use Rattle.graph.proofs.First.{all-judged}
use Rattle.graph.proofs.Accept.{all_sound}
use Rattle.base.specs.Limits.{function_limit}

-- ---- lengths

pub refs-length : (n : ℕ) (s : List ℕ) (at : ℕ) → length (references n s at) ≡ n
refs-length zero s at = refl
refs-length (suc n) s at = ap suc (refs-length n s (at + 3))

pub refs-size : (rs : List Ref) → length (flat ref_bytes rs) ≡ 3 * length rs
refs-size [] = omega arith
refs-size (r ∷ rs) = let e : length (flat ref_bytes rs) ≡ 3 * length rs = refs-size rs in omega arith

pub outputs-size : (os : List Output) → length (flat output_bytes os) ≡ 4 * length os
outputs-size [] = omega arith
outputs-size (o ∷ os) = let e : length (flat output_bytes os) ≡ 4 * length os = outputs-size os in omega arith

pub header-length : (format : Format) (count size : ℕ) → 8 ≤ format.header → length (header_bytes format count size) ≡ format.header
header-length format count size h = let e = bytes-length (format.header - 6) size in omega arith

-- ---- what the tests of a head and of the mark tell

pub in-range : (limit id input_count output_count count : ℕ) → in_range limit id input_count output_count count ≡ true → HeadRight limit id input_count output_count count
in-range limit id input_count output_count count u =
    let (u1, u2) = and-inv (leb 1 id && leb input_count 8 && (leb 1 output_count && leb output_count 8)) (leb count limit) u in
    let (u3, u4) = and-inv (leb 1 id && leb input_count 8) (leb 1 output_count && leb output_count 8) u1 in
    let (u5, u6) = and-inv (leb 1 id) (leb input_count 8) u3 in
    let (a, b) = between output_count 8 u4 in
    (leb-true 1 id u5, leb-true input_count 8 u6, a, b, leb-true count limit u2)

pub marked-bytes : (s : List ℕ) → table_marked s ≡ true → (byte s 0 ≡ 0x49) × (byte s 1 ≡ 0x46) × (byte s 2 ≡ 0x47)
marked-bytes s e =
    let (m, c) = and-inv (eqb (byte s 0) 0x49 && eqb (byte s 1) 0x46) (eqb (byte s 2) 0x47) e in
    let (a, b) = and-inv (eqb (byte s 0) 0x49) (eqb (byte s 1) 0x46) m in
    (eqb-true _ _ a, eqb-true _ _ b, eqb-true _ _ c)

module _ (s : List ℕ) (small : Bytes s) where
  -- ---- inputs, outputs and references

  abbrev InputsRead : ℕ → ℕ → List ℕ → Type 0
  InputsRead n at ts = (length ts ≡ n) × Each TypeCode ts × Here s at ts

  inputs-formed : (n at : ℕ) (ts : List ℕ) → inputs n s at ≡ ok ts → InputsRead n at ts
  inputs-formed zero at ts e = subst (InputsRead 0 at) (ok-is e) (refl, tt, refl)
  inputs-formed (suc n) at ts e =
      let (a, e1) = passed _ _ _ _ _ e in
      let (b, e2) = passed _ _ _ _ _ e1 in
      let (r, er, e3) = took _ _ _ e2 in
      let (l, c, h) = inputs-formed n (at + 1) r er in
      subst (InputsRead (suc n) at) (ok-is e3) (ap suc l, (between (byte s at) 3 b, c), onto s (byte s at) r at refl h)

  ref-here : (at : ℕ) → Here s at (ref_bytes (reference s at))
  ref-here at = join s (bytes_of 2 (u16 s at)) (byte s (at + 2) ∷ []) at (u16-here s small at) (onto s (byte s (at + 2)) [] (at + 2) refl refl)

  refs-here : (n at : ℕ) → Here s at (flat ref_bytes (references n s at)) × RefsAt at (references n s at) × ShortRefs (references n s at)
  refs-here zero at = (refl, tt, tt)
  refs-here (suc n) at =
      let (h, p, b) = refs-here n (at + 3) in
      (join s (ref_bytes (reference s at)) (flat ref_bytes (references n s (at + 3))) at (ref-here at) h, (refl, p), (u16-below s small at, b))

  abbrev OutputsRead : ℕ → ℕ → List Output → Type 0
  OutputsRead n at os =
      (length os ≡ n) × Each TypeCode (output_types os) × Here s at (flat output_bytes os) × OutputsAt at os × Each (λ o. Short o.ref.node) os

  outputs-formed : (n at : ℕ) (os : List Output) → outputs n s at ≡ ok os → OutputsRead n at os
  outputs-formed zero at os e = subst (OutputsRead 0 at) (ok-is e) (refl, tt, refl, tt, tt)
  outputs-formed (suc n) at os e =
      let (a, e1) = passed _ _ _ _ _ e in
      let (b, e2) = passed _ _ _ _ _ e1 in
      let (r, er, e3) = took _ _ _ e2 in
      let (l, c, h, p, w) = outputs-formed n (at + 4) r er in
      let o : Output = record { type = byte s at; ref = reference s (at + 1) } in
      subst (OutputsRead (suc n) at) (ok-is e3) (
        ap suc l,
        (between (byte s at) 3 b, c),
        join s (output_bytes o) (flat output_bytes r) at (onto s (byte s at) (ref_bytes (reference s (at + 1))) at refl (ref-here (at + 1))) h,
        (refl, p),
        (u16-below s small (at + 1), w),
      )

  -- ---- nodes

  abbrev PayloadRead : Kind → ℕ → Part Payload → Type 0
  PayloadRead k at p =
      FormedPayload k p.it × Here s at (payload_bytes p.it) × (p.next ≡ at + length (payload_bytes p.it)) × PayloadAt at p.it × ShortPayload p.it

  payload-formed : (h : Form) (k : Kind) (at : ℕ) (p : Part Payload) → form_of k ≡ h → payload h k s at ≡ ok p → PayloadRead k at p
  payload-formed Absent k at p q e = let z : ◌≡◌ {A = ℕ} 0 1 = cc in absurd (omega arith)
  payload-formed Constant k at p q e =
      let (t, e1) = passed _ _ _ _ _ e in
      let (f, e2) = passed _ _ _ _ _ e1 in
      let n = constant_words k in
      let l : length (constants n s at) ≡ n = constants-length n s at in
      let size : length (all_bytes 8 (constants n s at)) ≡ 8 * length (constants n s at) = all-length 8 (constants n s at) in
      subst (PayloadRead k at) (ok-is e2) ((q, l, f, constants-words s small n at), constants-here s small n at, omega arith, tt, tt)
  payload-formed References k at p q e =
      let (t, e1) = passed _ _ _ _ _ e in
      let n = arity k in
      let (h, w, b) = refs-here n at in
      let l : length (references n s at) ≡ n = refs-length n s at in
      let size : length (flat ref_bytes (references n s at)) ≡ 3 * length (references n s at) = refs-size (references n s at) in
      subst (PayloadRead k at) (ok-is e1) ((q, l), h, omega arith, w, b)
  payload-formed Call k at p q e =
      let (t, e1) = passed _ _ _ _ _ e in
      let (f, e2) = passed _ _ _ _ _ e1 in
      let (u, e3) = passed _ _ _ _ _ e2 in
      let n = byte s (at + 2) in
      let rs = references n s (at + 3) in
      let (h, w, b) = refs-here n (at + 3) in
      let l : length rs ≡ n = refs-length n s (at + 3) in
      let m : n ≤ 8 = leb-true n 8 f in
      let size : length (flat ref_bytes rs) ≡ 3 * length rs = refs-size rs in
      let tail : Here s (at + 2) (length rs ∷ flat ref_bytes rs) = onto s (length rs) (flat ref_bytes rs) (at + 2) (sym l) (moved s (omega arith) h) in
      subst (PayloadRead k at) (ok-is e3)
      ((q, omega arith), join s (bytes_of 2 (u16 s at)) (length rs ∷ flat ref_bytes rs) at (u16-here s small at) tail, omega arith, w, (u16-below s small at, b))

  abbrev NodeRead : ℕ → Part Node → Type 0
  NodeRead at p =
      FormedNode p.it × Here s at (node_bytes p.it) × (p.next ≡ at + length (node_bytes p.it)) × (p.it.place ≡ at)
      × PayloadAt (at + 4) p.it.payload
      × ShortNode p.it

  pub node-formed : (at : ℕ) (p : Part Node) → node s at ≡ ok p → NodeRead at p
  node-formed at p e =
      let (a, e1) = passed _ _ _ _ _ e in
      let (b, e2) = passed _ _ _ _ _ e1 in
      let (x, ex, e3) = took _ _ _ e2 in
      let k = byte s (at + 2) in
      let t = byte s (at + 3) in
      let (i, l) = and-inv (leb 1 (u16 s at)) (legal (kind_of k) t) b in
      let (f, h, q, w, u) = payload-formed (form_of (kind_of k)) (kind_of k) (at + 4) x refl ex in
      let bs = payload_bytes x.it in
      let tail : Here s (at + 2) (k ∷ t ∷ bs) = onto s k (t ∷ bs) (at + 2) refl (onto s t bs (at + 2 + 1) (ap (byte s) (omega arith)) (moved s (omega arith) h)) in
      subst (NodeRead at) (ok-is e3) (
        record { id = leb-true _ _ i; legal = l; payload = f },
        join s (bytes_of 2 (u16 s at)) (k ∷ t ∷ bs) at (u16-here s small at) tail,
        omega arith,
        refl,
        w,
        (u16-below s small at, u),
      )

  abbrev NodesRead : ℕ → ℕ → Part (List Node) → Type 0
  NodesRead n at p =
      (length p.it ≡ n) × Each FormedNode p.it × Here s at (flat node_bytes p.it) × (p.next ≡ at + length (flat node_bytes p.it)) × NodesAt at p.it
      × Each ShortNode p.it

  nodes-formed : (n at : ℕ) (p : Part (List Node)) → nodes n s at ≡ ok p → NodesRead n at p
  nodes-formed zero at p e = subst (NodesRead 0 at) (ok-is e) (refl, tt, refl, omega arith, tt, tt)
  nodes-formed (suc n) at p e =
      let (x, ex, e1) = took _ _ _ e in
      let (r, er, e2) = took _ _ _ e1 in
      let (f, h, q, a, b, c) = node-formed at x ex in
      let (l, fs, hs, qs, ps, cs) = nodes-formed n x.next r er in
      let size = length-append (node_bytes x.it) (flat node_bytes r.it) in
      subst (NodesRead (suc n) at) (ok-is e2) (
        ap suc l,
        (f, fs),
        join s (node_bytes x.it) (flat node_bytes r.it) at h (moved s q hs),
        omega arith,
        (a, b, subst (λ (i : ℕ). NodesAt i r.it) q ps),
        (c, cs),
      )

  -- ---- functions

  abbrev FunctionRead : ℕ → ℕ → Part Function → Type 0
  FunctionRead limit at p =
      Formed p.it × (length p.it.nodes ≤ limit) × Here s at (function_bytes p.it) × (p.next ≡ at + length (function_bytes p.it))
      × FunctionAt at p.it
      × ShortIds p.it

  function-here :
      (limit at input_count output_count end : ℕ) (ins : List ℕ) (outs : List Output) (ns : List Node) → byte s (at + 2) ≡ input_count → byte s (at + 3) ≡ output_count
      → HeadRight limit (u16 s at) input_count output_count (u16 s (at + 4)) → InputsRead input_count (at + 6) ins → OutputsRead output_count (at + 6 + input_count) outs
      → NodesRead (u16 s (at + 4)) (at + 6 + input_count + 4 * output_count) (record { it = ns; next = end })
      → FunctionRead limit at (record { it = record { id = u16 s at; place = at; inputs = ins; outputs = outs; nodes = ns }; next = end })
  function-here limit at input_count output_count end ins outs ns bi bo (c1, c2, c3, c4, c5) (il, it, hi) (ol, ot, ho, po, wo) (nl, nt, hn, qn, pn, wn) =
      let os = flat output_bytes outs in
      let xs = flat node_bytes ns in
      let ys = ins ++ os ++ xs in
      let count = bytes_of 2 (length ns) in
      let os-size : length os ≡ 4 * length outs = outputs-size outs in
      let l1 : length (ins ++ os) ≡ length ins + length os = length-append ins os in
      let l2 : length ys ≡ length (ins ++ os) + length xs = length-append (ins ++ os) xs in
      let h1 : Here s (at + 6) (ins ++ os) = join s ins os (at + 6) hi (moved s (omega arith) ho) in
      let h2 : Here s (at + 6) ys = join s (ins ++ os) xs (at + 6) h1 (moved s (omega arith) hn) in
      let hc : Here s (at + 4) count = subst (λ (i : ℕ). Here s (at + 4) (bytes_of 2 i)) (sym nl) (u16-here s small (at + 4)) in
      let h3 : Here s (at + 4) (count ++ ys) = join s count ys (at + 4) hc (moved s (omega arith) h2) in
      let h4 : Here s (at + 3) (length outs ∷ (count ++ ys)) = onto s (length outs) (count ++ ys) (at + 3) (bo ∙ sym ol) (moved s (omega arith) h3) in
      let h5 : Here s (at + 2) (length ins ∷ length outs ∷ (count ++ ys)) =
      onto s (length ins) (length outs ∷ (count ++ ys)) (at + 2) (bi ∙ sym il) (moved s (omega arith) h4) in (
        record { id = c1; inputs = omega arith; input_types = it; some-output = omega arith; outputs = omega arith; output_types = ot; nodes = nt },
        omega arith,
        join s (bytes_of 2 (u16 s at)) (length ins ∷ length outs ∷ (count ++ ys)) at (u16-here s small at) h5,
        omega arith,
        record {
          head = refl;
          outputs = subst (λ (i : ℕ). OutputsAt (at + 6 + i) outs) (sym il) po;
          nodes = subst (λ (i : ℕ). NodesAt i ns) (omega arith) pn;
        },
        record { id = u16-below s small at; outputs = wo; nodes = wn },
      )

  pub function-formed : (limit at : ℕ) (p : Part Function) → function limit s at ≡ ok p → FunctionRead limit at p
  function-formed limit at p e =
      let (t, e1) = passed _ _ _ _ _ e in
      let (u, e2) = passed _ _ _ _ _ e1 in
      let (ins, ei, e3) = took _ _ _ e2 in
      let (outs, eo, e4) = took _ _ _ e3 in
      let (ns, en, e5) = took _ _ _ e4 in
      let input_count = byte s (at + 2) in
      let output_count = byte s (at + 3) in
      let count = u16 s (at + 4) in
      subst (FunctionRead limit at) (ok-is e5)
      (function-here limit at input_count output_count ns.next ins outs ns.it refl refl
      (in-range limit (u16 s at) input_count output_count count u) (inputs-formed input_count (at + 6) ins ei)
      (outputs-formed output_count (at + 6 + input_count) outs eo) (nodes-formed count (at + 6 + input_count + 4 * output_count) ns en))

  -- every function is formed, and has no more nodes than the limit
  abbrev FunctionsRead : ℕ → ℕ → ℕ → Part (List Function) → Type 0
  FunctionsRead limit n at p =
      AllFormed p.it × AllWithin limit p.it × Here s at (flat function_bytes p.it) × (p.next ≡ at + length (flat function_bytes p.it))
      × FunctionsAt at p.it
      × Each ShortIds p.it
      × (length p.it ≡ n)

  functions-formed : (limit n at : ℕ) (p : Part (List Function)) → functions limit n s at ≡ ok p → FunctionsRead limit n at p
  functions-formed limit zero at p e = subst (FunctionsRead limit 0 at) (ok-is e) (tt, tt, refl, omega arith, tt, tt, refl)
  functions-formed limit (suc n) at p e =
      let (x, ex, e1) = took _ _ _ e in
      let (r, er, e2) = took _ _ _ e1 in
      let (f, m, h, q, a, c) = function-formed limit at x ex in
      let (fs, ms, hs, qs, ps, cs, l) = functions-formed limit n x.next r er in
      let size = length-append (function_bytes x.it) (flat function_bytes r.it) in
      subst (FunctionsRead limit (suc n) at) (ok-is e2) (
        (f, fs),
        (m, ms),
        join s (function_bytes x.it) (flat function_bytes r.it) at h (moved s q hs),
        omega arith,
        (a, subst (λ (i : ℕ). FunctionsAt i r.it) q ps),
        (c, cs),
        ap suc l,
      )

-- ---- the table

module _ (format : Format) (plain : Plain format) (s : List ℕ) (small : Bytes s) where
  table-stood : (gs : List Function) → table_marked s ≡ true → u16 s 3 ≡ format.version → format.size s ≡ length s → length gs ≡ byte s 5
      → Here s format.header (flat function_bytes gs) → length s ≡ format.header + length (flat function_bytes gs) → s ≡ table_bytes format gs
  table-stood gs mark version size count h l =
      let (b0, b1, b2) = marked-bytes s mark in
      let w = format.header - 6 in
      let body = flat function_bytes gs in
      let total = format.header + length body in
      let field : little s w 6 ≡ total = sym (plain.size s) ∙ size ∙ l in
      let head : Here s 0 (header_bytes format (length gs) total) =
      onto s 0x49 _ 0 b0
      (onto s 0x46 _ 1 b1
      (onto s 0x47 _ 2 b2
      (join s (bytes_of 2 format.version) (length gs ∷ bytes_of w total) 3 (subst (λ (i : ℕ). Here s 3 (bytes_of 2 i)) version (u16-here s small 3))
      (onto s (length gs) (bytes_of w total) 5 (sym count) (subst (λ (i : ℕ). Here s 6 (bytes_of w i)) field (little-here s small w 6)))))) in
      let hl = header-length format (length gs) total plain.header in
      let tl = length-append (header_bytes format (length gs) total) body in
      whole_is s (table_bytes format gs) (join s (header_bytes format (length gs) total) body 0 head (moved s (omega arith) h)) (omega arith)

  -- what the reading takes is written so
  pub parse-written : (fs : List Function) → parse format s ≡ ok fs → Written format s fs
  parse-written fs e =
      let (t1, e1) = passed _ _ _ _ _ e in
      let (t2, e2) = passed _ _ _ _ _ e1 in
      let (t3, e3) = passed _ _ _ _ _ e2 in
      let (t4, e4) = passed _ _ _ _ _ e3 in
      let (t5, e5) = passed _ _ _ _ _ e4 in
      let (p, ep, e6) = took _ _ _ e5 in
      let (t6, e7) = passed _ _ _ _ _ e6 in
      let (c1, c2) = between (byte s 5) 16 t5 in
      let size : format.size s ≡ length s = eqb-true _ _ t4 in
      let (f, m, h, q, ps, cs, l) = functions-formed s small format.node_limit (byte s 5) format.header p ep in
      subst (Written format s) (ok-is e7)
      (record {
        bytes = table-stood p.it t2 (eqb-true _ _ t3) size l h (sym (eqb-true _ _ t6) ∙ q);
        size = subst (λ (i : ℕ). i < 256 ^ (format.header - 6)) (sym (plain.size s) ∙ size) (little-below s small (format.header - 6) 6);
        some-function = subst (λ (i : ℕ). 1 ≤ i) (sym l) c1;
        count = subst (λ (i : ℕ). i ≤ function_limit) (sym l) c2;
        formed = f;
        nodes = m;
        ids = cs;
        places = ps;
      })

module _ (s : List ℕ) (small : Bytes s) where
  -- an accepted table: its functions as read, each formed, and each sound over those before it
  pub accepted : (fs : List Function) → table s ≡ ok fs → AllSound fs
  unfolding table
  accepted fs e =
      let (gs, p, e1) = took (parse (format_of s) s) (λ fs. judge_all [] fs >> ok (reverse fs)) fs e in
      let (u, j, e2) = after (judge_all [] gs) (ok (reverse gs)) fs e1 in
      let q : reverse gs ≡ fs = ok-is e2 in
      subst AllSound q
      (all_sound [] gs (parse-written (format_of s) (plain_of s) s small gs p).formed tt (subst (Says (table_checks [] gs)) j (all-judged [] gs).0))
