-- A table that is written by 01's layout, with every field in its range, is read.
use Prim.Native.Nat.{ℕ, ◌+◌, ◌-◌, ◌*◌, ◌^◌, ◌≤◌, ◌<◌}
use mathlib.Core.Path.{◌≡◌, refl, ap, ap₂, sym, ◌∙◌, subst}
use mathlib.Core.Bool.{true, ◌&&◌}
use mathlib.Core.List.{List, [], ◌∷◌, ◌++◌}
use mathlib.Core.Logic.{◌↔◌}
use native.Mathlib.Omega.{arith}
use lib.Dec.{leb, eqb}
use lib.ListN.{length, length-append}
use borrow.Author.Tests.{le-leb, eq-eqb}
use Rattle.ports.specs.Kinds.{Kind, kind_of}
use Rattle.ports.specs.declared.Form.{Form}
use Rattle.ports.specs.Ports.{is_type, arity, constant_words, form_of, legal}
use Rattle.value.specs.Values.{constant_word}
use Rattle.base.specs.Lists.{every, words_at, Each}
use Rattle.base.proofs.Lists.{whole}
use Rattle.value.specs.Typed.{TypeCode}
use Rattle.base.specs.Outcome.{Outcome, ok, Part}
use Rattle.base.specs.Bytes.{byte, u16, Bytes, bytes_of, all_bytes, constants}
use Rattle.graph.specs.Graph.{Ref, Payload, consts, refs, calls, Node, Output, Function}
use Rattle.graph.specs.Format.{Format}
use Rattle.graph.specs.Read.{inputs, reference, references, outputs, payload, node, nodes, in_range, function, functions, table_marked, parse}
use Rattle.graph.specs.Types.{output_types}
use Rattle.graph.specs.Formed.{AllWithin, FormedPayload, FormedNode, Formed, AllFormed}
use Rattle.graph.specs.Written.{flat, ref_bytes, output_bytes, payload_bytes, node_bytes, function_bytes, header_bytes, RefsAt, PayloadAt, OutputsAt, NodesAt, FunctionAt, FunctionsAt, Short, ShortRefs, ShortPayload, ShortNode, ShortIds, Written}
use Rattle.base.proofs.Bools.{and_both}
use Rattle.base.proofs.Outcomes.{takes, passes}
use Rattle.base.proofs.Stands.{split, all-length, Here, moved, off, little-read, u16-read, constants-read}
use Rattle.graph.proofs.Formats.{Plain}
use Rattle.graph.proofs.Formed.{refs-size, outputs-size, header-length, parse-written}
use Rattle.base.specs.Limits.{function_limit}

ref-is : (r : Ref) {a b c : ℕ} → a ≡ r.node → b ≡ r.port → r.place ≡ c → record { node = a; port = b; place = c } ≡ r
ref-is r p q w = rw (p, q, ← w) refl

module _ {A : Type 0} where
  part-is : {a b : A} {m n : ℕ} → a ≡ b → m ≡ n → ◌≡◌ {A = Outcome (Part A)} (ok (record { it = a; next = m })) (ok (record { it = b; next = n }))
  part-is p q = rw (p, q) refl

is-type : (t : ℕ) → TypeCode t → is_type t ≡ true
is-type t (a, b) = and_both (leb 1 t) (leb t 3) (le-leb 1 t a) (le-leb t 3 b)

module _ (s : List ℕ) where
  fit : (at n : ℕ) → at + n ≤ length s → leb (at + n) (length s) ≡ true
  fit at n h = le-leb (at + n) (length s) h

  ref-read : (r : Ref) (at : ℕ) → Here s at (ref_bytes r) → r.place ≡ at → Short r.node → reference s at ≡ r
  ref-read r at h p b =
      let (x, y) = split s (bytes_of 2 r.node) (r.port ∷ []) at h in
      ref-is r (u16-read s r.node at b x) (off s (at + 2) y).0 p

  refs-read : (rs : List Ref) (at : ℕ) → Here s at (flat ref_bytes rs) → RefsAt at rs → ShortRefs rs → references (length rs) s at ≡ rs
  refs-read [] at h p b = refl
  refs-read (r ∷ rs) at h (p, ps) (b, bs) =
      let (x, y) = split s (ref_bytes r) (flat ref_bytes rs) at h in
      ap₂ (λ (a : Ref) (xs : List Ref). a ∷ xs) (ref-read r at x p b) (refs-read rs (at + 3) y ps bs)

  inputs_read : (ts : List ℕ) (at : ℕ) → Each TypeCode ts → Here s at ts → at + length ts ≤ length s → inputs (length ts) s at ≡ ok ts
  inputs_read [] at c h l = refl
  inputs_read (t ∷ ts) at (c, cs) h l =
      let (b, r) = off s at h in
      passes (leb (at + 1) (length s)) 5 at _ (fit at 1 (omega arith))
      ∙ passes (is_type (byte s at)) 6 at _ (rw b (is-type t c))
      ∙ takes (inputs (length ts) s (at + 1)) _ ts (inputs_read ts (at + 1) cs r (omega arith))
      ∙ ap (λ (x : ℕ). ok (x ∷ ts)) b

  outputs-read : (os : List Output) (at : ℕ) → Each TypeCode (output_types os) → Here s at (flat output_bytes os) → OutputsAt at os
      → Each (λ o. Short o.ref.node) os → at + length (flat output_bytes os) ≤ length s → outputs (length os) s at ≡ ok os
  outputs-read [] at c h p b l = refl
  outputs-read (o ∷ os) at (c, cs) h (p, ps) (b, bs) l =
      let (x, y) = split s (output_bytes o) (flat output_bytes os) at h in
      let (t, r) = off s at x in
      passes (leb (at + 4) (length s)) 5 at _ (fit at 4 (omega arith))
      ∙ passes (is_type (byte s at)) 6 at _ (rw t (is-type o.type c))
      ∙ takes (outputs (length os) s (at + 4)) _ os (outputs-read os (at + 4) cs y ps bs (omega arith))
      ∙ ap₂ (λ (a : ℕ) (e : Ref). ok (record { type = a; ref = e } ∷ os)) t (ref-read o.ref (at + 1) r p b)

  payload-read : (k : Kind) (p : Payload) (at end : ℕ) → FormedPayload k p → Here s at (payload_bytes p) → PayloadAt at p → ShortPayload p
      → end ≡ at + length (payload_bytes p) → end ≤ length s → payload (form_of k) k s at ≡ ok (record { it = p; next = end })
  payload-read k (consts ws) at end (f, n, fin, words) h p b q l =
      let size : length (all_bytes 8 ws) ≡ 8 * length ws = all-length 8 ws in
      let read : constants (constant_words k) s at ≡ ws = ap (λ (i : ℕ). constants i s at) (sym n) ∙ constants-read s ws at words h in
      ap (λ (x : Form). payload x k s at) f
      ∙ passes (leb (at + 8 * constant_words k) (length s)) 5 at _ (fit at (8 * constant_words k) (omega arith))
      ∙ passes (every constant_word (constants (constant_words k) s at)) 7 at _ (rw read fin)
      ∙ part-is (ap consts read) (omega arith)
  payload-read k (refs rs) at end (f, n) h p b q l =
      let size : length (flat ref_bytes rs) ≡ 3 * length rs = refs-size rs in
      let read : references (arity k) s at ≡ rs = ap (λ (i : ℕ). references i s at) (sym n) ∙ refs-read rs at h p b in
      ap (λ (x : Form). payload x k s at) f
      ∙ passes (leb (at + 3 * arity k) (length s)) 5 at _ (fit at (3 * arity k) (omega arith))
      ∙ part-is (ap refs read) (omega arith)
  payload-read k (calls c rs) at end (f, n) h p (b, bs) q l =
      let (x, y) = split s (bytes_of 2 c) (length rs ∷ flat ref_bytes rs) at h in
      let (z, r) = off s (at + 2) y in
      let size : length (flat ref_bytes rs) ≡ 3 * length rs = refs-size rs in
      let read : references (byte s (at + 2)) s (at + 3) ≡ rs =
      ap (λ (i : ℕ). references i s (at + 3)) z ∙ refs-read rs (at + 3) (moved s (omega arith) r) p bs in
      ap (λ (x : Form). payload x k s at) f
      ∙ passes (leb (at + 3) (length s)) 5 at _ (fit at 3 (omega arith))
      ∙ passes (leb (byte s (at + 2)) 8) 6 at _ (le-leb (byte s (at + 2)) 8 (omega arith))
      ∙ passes (leb (at + 3 + 3 * byte s (at + 2)) (length s)) 5 (at + 3) _ (fit (at + 3) (3 * byte s (at + 2)) (omega arith))
      ∙ part-is (ap₂ calls (u16-read s c at b x) read) (omega arith)

  node-read : (n : Node) (at end : ℕ) → FormedNode n → Here s at (node_bytes n) → n.place ≡ at → PayloadAt (at + 4) n.payload → ShortNode n
      → end ≡ at + length (node_bytes n) → end ≤ length s → node s at ≡ ok (record { it = n; next = end })
  node-read n at end f h p w (b, bs) q l =
      let (x, y) = split s (bytes_of 2 n.id) (n.kind ∷ n.type ∷ payload_bytes n.payload) at h in
      let (ek, y1) = off s (at + 2) y in
      let (et, y2) = off s (at + 2 + 1) y1 in
      let et' : byte s (at + 3) ≡ n.type = ap (byte s) (omega arith) ∙ et in
      let ei : u16 s at ≡ n.id = u16-read s n.id at b x in
      let k = byte s (at + 2) in
      let read : payload (form_of (kind_of k)) (kind_of k) s (at + 4) ≡ ok (record { it = n.payload; next = end }) =
      ap (λ (i : ℕ). payload (form_of (kind_of i)) (kind_of i) s (at + 4)) ek
      ∙ payload-read (kind_of n.kind) n.payload (at + 4) end f.payload (moved s (omega arith) y2) w bs (omega arith) l in
      passes (leb (at + 4) (length s)) 5 at _ (fit at 4 (omega arith))
      ∙ passes (leb 1 (u16 s at) && legal (kind_of k) (byte s (at + 3))) 6 at _
      (and_both (leb 1 (u16 s at)) (legal (kind_of k) (byte s (at + 3))) (le-leb 1 (u16 s at) (subst (λ (i : ℕ). 1 ≤ i) (sym ei) f.id))
      (ap₂ (λ (i j : ℕ). legal (kind_of i) j) ek et' ∙ f.legal))
      ∙ takes (payload (form_of (kind_of k)) (kind_of k) s (at + 4)) _ _ read
      ∙ part-is (node-is ei p ek et') refl
    where
      node-is : {i a k t : ℕ} → i ≡ n.id → n.place ≡ a → k ≡ n.kind → t ≡ n.type
          → record { id = i; place = a; kind = k; type = t; payload = n.payload } ≡ n
      node-is p q u v = rw (p, ← q, u, v) refl

  nodes-read : (ns : List Node) (at end : ℕ) → Each FormedNode ns → Here s at (flat node_bytes ns) → NodesAt at ns → Each ShortNode ns
      → end ≡ at + length (flat node_bytes ns) → end ≤ length s → nodes (length ns) s at ≡ ok (record { it = ns; next = end })
  nodes-read [] at end f h p b q l = part-is refl (omega arith)
  nodes-read (n ∷ ns) at end (f, fs) h (p, w, ps) (b, bs) q l =
      let (x, y) = split s (node_bytes n) (flat node_bytes ns) at h in
      let size = length-append (node_bytes n) (flat node_bytes ns) in
      let mid = at + length (node_bytes n) in
      takes (node s at) _ _ (node-read n at mid f x p w b refl (omega arith))
      ∙ takes (nodes (length ns) s mid) _ _ (nodes-read ns mid end fs y ps bs (omega arith) l)

  function-read : (limit : ℕ) (f : Function) (at end : ℕ) → Formed f → length f.nodes ≤ limit → limit < 65536 → Here s at (function_bytes f) → FunctionAt at f
      → ShortIds f → end ≡ at + length (function_bytes f) → end ≤ length s → function limit s at ≡ ok (record { it = f; next = end })
  function-read limit f at end c m small h p b q l =
      let input_count = byte s (at + 2) in
      let output_count = byte s (at + 3) in
      let count = u16 s (at + 4) in
      let os = flat output_bytes f.outputs in
      let xs = flat node_bytes f.nodes in
      let ys = f.inputs ++ os ++ xs in
      let (h0, h1) = split s (bytes_of 2 f.id) (length f.inputs ∷ length f.outputs ∷ (bytes_of 2 (length f.nodes) ++ ys)) at h in
      let (ei, h2) = off s (at + 2) h1 in
      let (eo, h3) = off s (at + 2 + 1) h2 in
      let (hc, h4) = split s (bytes_of 2 (length f.nodes)) ys (at + 2 + 1 + 1) h3 in
      let (h5, hn) = split s (f.inputs ++ os) xs (at + 2 + 1 + 1 + 2) h4 in
      let (hi, ho) = split s f.inputs os (at + 2 + 1 + 1 + 2) h5 in
      let l1 : length (f.inputs ++ os) ≡ length f.inputs + length os = length-append f.inputs os in
      let l2 : length ys ≡ length (f.inputs ++ os) + length xs = length-append (f.inputs ++ os) xs in
      let l3 : length os ≡ 4 * length f.outputs = outputs-size f.outputs in
      let eo' : output_count ≡ length f.outputs = ap (byte s) (omega arith) ∙ eo in
      let ec : count ≡ length f.nodes = u16-read s (length f.nodes) (at + 4) (omega arith) (moved s (omega arith) hc) in
      let ed : u16 s at ≡ f.id = u16-read s f.id at b.id h0 in
      let r1 : inputs input_count s (at + 6) ≡ ok f.inputs =
      ap (λ (i : ℕ). inputs i s (at + 6)) ei ∙ inputs_read f.inputs (at + 6) c.input_types (moved s (omega arith) hi) (omega arith) in
      let r2 : outputs output_count s (at + 6 + input_count) ≡ ok f.outputs =
      ap₂ (λ (i j : ℕ). outputs i s (at + 6 + j)) eo' ei
      ∙ outputs-read f.outputs (at + 6 + length f.inputs) c.output_types (moved s (omega arith) ho) p.outputs b.outputs (omega arith) in
      let r3 : nodes count s (at + 6 + input_count + 4 * output_count) ≡ ok (record { it = f.nodes; next = end }) =
      ap₂ (λ (i j : ℕ). nodes i s j) ec (omega arith)
      ∙ nodes-read f.nodes (at + 6 + length f.inputs + 4 * length f.outputs) end c.nodes (moved s (omega arith) hn) p.nodes b.nodes (omega arith) l in
      passes (leb (at + 6) (length s)) 5 at _ (fit at 6 (omega arith))
      ∙ passes (in_range limit (u16 s at) input_count output_count count) 6 at _ (rw (ed, ei, eo', ec) ranges)
      ∙ takes (inputs input_count s (at + 6)) _ _ r1
      ∙ takes (outputs output_count s (at + 6 + input_count)) _ _ r2
      ∙ takes (nodes count s (at + 6 + input_count + 4 * output_count)) _ _ r3
      ∙ part-is (function-is ed p.head) refl
    where
      ranges : in_range limit f.id (length f.inputs) (length f.outputs) (length f.nodes) ≡ true
      ranges =
          rw
          (le-leb 1 f.id c.id, le-leb (length f.inputs) 8 c.inputs, le-leb 1 (length f.outputs) c.some-output, le-leb (length f.outputs) 8 c.outputs, le-leb (length f.nodes) limit m)
          refl

      function-is : {i a : ℕ} → i ≡ f.id → f.place ≡ a → record { id = i; place = a; inputs = f.inputs; outputs = f.outputs; nodes = f.nodes } ≡ f
      function-is p q = rw (p, ← q) refl

  functions-read : (limit : ℕ) → limit < 65536 → (fs : List Function) (at end : ℕ) → AllFormed fs → AllWithin limit fs → Here s at (flat function_bytes fs)
      → FunctionsAt at fs → Each ShortIds fs → end ≡ at + length (flat function_bytes fs) → end ≤ length s
      → functions limit (length fs) s at ≡ ok (record { it = fs; next = end })
  functions-read limit small [] at end c m h p b q l = part-is refl (omega arith)
  functions-read limit small (f ∷ fs) at end (c, cs) (m, ms) h (p, ps) (b, bs) q l =
      let (x, y) = split s (function_bytes f) (flat function_bytes fs) at h in
      let size = length-append (function_bytes f) (flat function_bytes fs) in
      let mid = at + length (function_bytes f) in
      takes (function limit s at) _ _ (function-read limit f at mid c m small x p b refl (omega arith))
      ∙ takes (functions limit (length fs) s mid) _ _ (functions-read limit small fs mid end cs ms y ps bs (omega arith) l)

module _ (format : Format) (plain : Plain format) (s : List ℕ) where
  pub written-parse : (fs : List Function) → Written format s fs → parse format s ≡ ok fs
  written-parse fs d =
      let body = flat function_bytes fs in
      let at = format.header in
      let w = at - 6 in
      let total = at + length body in
      let head = header_bytes format (length fs) total in
      let size = bytes_of w total in
      let all : Here s 0 (head ++ body) = subst (λ (x : List ℕ). words_at s 0 (length x) ≡ x) d.bytes (whole s) in
      let (h0, hb) = split s head body 0 all in
      let hl : length head ≡ at = header-length format (length fs) total plain.header in
      let big = plain.header in
      let sl : length s ≡ total = ap length d.bytes ∙ length-append head body ∙ ap (λ (i : ℕ). i + length body) hl in
      let (b0, h1) = off s 0 h0 in
      let (b1, h2) = off s 1 h1 in
      let (b2, h3) = off s 2 h2 in
      let (hv, h4) = split s (bytes_of 2 format.version) (length fs ∷ size) 3 h3 in
      let (bc, h5) = off s 5 h4 in
      let ev : u16 s 3 ≡ format.version = u16-read s format.version 3 plain.version hv in
      let el : format.size s ≡ length s = plain.size s ∙ little-read s w total 6 (subst (λ (i : ℕ). i < 256 ^ w) sl d.size) h5 ∙ sym sl in
      let lo = d.some-function in
      let hi = d.count in
      passes (leb 8 (length s)) 1 0 _ (le-leb 8 (length s) (omega arith))
      ∙ passes (table_marked s) 2 0 _ (rw (b0, b1, b2) refl)
      ∙ passes (eqb (u16 s 3) format.version) 3 3 _ (eq-eqb _ _ ev)
      ∙ passes (eqb (format.size s) (length s)) 4 6 _ (eq-eqb _ _ el)
      ∙ passes (leb 1 (byte s 5) && leb (byte s 5) function_limit) 6 5 _ (rw bc (and_both (leb 1 (length fs)) (leb (length fs) function_limit) (le-leb 1 (length fs) lo) (le-leb (length fs) function_limit hi)))
      ∙ takes (functions format.node_limit (byte s 5) s at) _ _
      (ap (λ (i : ℕ). functions format.node_limit i s at) bc
      ∙ functions-read s format.node_limit plain.limit fs at total d.formed d.nodes (moved s (omega arith) hb) d.places d.ids refl (omega arith))
      ∙ passes (eqb total (length s)) 8 total _ (eq-eqb total (length s) (sym sl))

  -- 1 to 8 pass exactly what is written so
  pub parse-iff : Bytes s → (fs : List Function) → (parse format s ≡ ok fs) ↔ Written format s fs
  parse-iff small fs = (parse-written format plain s small fs, written-parse fs)
