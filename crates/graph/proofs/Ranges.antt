-- Which numbers and places the checks have: a fault's number is 1 to 13, and its place is no more than the length field can say.
use Prim.Native.Nat.{ℕ, zero, suc, ◌+◌, ◌-◌, ◌*◌, ◌^◌, ◌≤◌, ◌<◌}
use mathlib.Core.Path.{◌≡◌, refl, ap, sym, ◌∙◌, subst}
use mathlib.Core.List.{List, [], ◌∷◌, ◌++◌}
use mathlib.Core.Logic.{◌⊎◌, inl, inr, ⊎_elim}
use native.Mathlib.Omega.{arith}
use lib.ListN.{length, length-append}
use Rattle.ports.specs.declared.Form.TheVariants.{Absent, Constant, References, Call}
use Rattle.base.specs.Lists.{Each}
use Rattle.base.specs.Outcome.{ok, fault}
use Rattle.base.specs.Bytes.{Bytes}
use Rattle.graph.specs.Graph.{Ref, Payload, consts, refs, calls, Node, Output, Function}
use Rattle.graph.specs.Look.{reads, reads_of, output_refs}
use Rattle.graph.specs.Format.{Format, format_of}
use Rattle.graph.specs.Types.{wants_of, output_types}
use Rattle.graph.specs.Judge.{verdict}
use Rattle.graph.specs.Written.{flat, ref_bytes, output_bytes, payload_bytes, node_bytes, function_bytes, header_bytes, RefsAt, PayloadAt, OutputsAt, NodesAt, FunctionAt, FunctionsAt}
use Rattle.graph.specs.Checks.{Check, First, id_checks, call_checks, ref_checks, node_ref_checks, loop_checks, link_checks, function_checks, table_checks}
use Rattle.graph.specs.Reading.{header_checks, Shape, head, input, output, node, payload, arguments, record_checks, Reading, end, stop, on}
use Rattle.graph.specs.Rules.{Fault, of-header, of-reading, of-rules}
use Rattle.base.proofs.Stands.{little-below}
use Rattle.graph.proofs.Formed.{refs-size, outputs-size, header-length}
use Rattle.graph.proofs.Formats.{Plain, plain_of}
use Rattle.graph.proofs.Exactly.{verdict-iff}
use Rattle.base.specs.Limits.{function_limit}

-- ---- checks whose numbers and places are so

module _ (P : ℕ → ℕ → Type 0) where
  abbrev pub Ranged : List Check → Type 0
  Ranged [] = Unit {0}
  Ranged (c ∷ cs) = P c.number c.place × Ranged cs

  pub first-ranged : (cs : List Check) (n p : ℕ) → Ranged cs → First cs n p → P n p
  first-ranged [] n p r f = absurd f
  first-ranged (c ∷ cs) n p (x, r) (inl (a, e, q)) = rw (← e, ← q) x
  first-ranged (c ∷ cs) n p (x, r) (inr (a, f)) = first-ranged cs n p r f

  ranged-append : (cs ds : List Check) → Ranged cs → Ranged ds → Ranged (cs ++ ds)
  ranged-append [] ds a b = b
  ranged-append (c ∷ cs) ds (x, a) b = (x, ranged-append cs ds a b)

-- ---- 1 to 8

pub header-range : (format : Format) (s : List ℕ) → Ranged (λ n p. (1 ≤ n) × (n ≤ 6) × (p ≤ 6)) (header_checks format s)
header-range format s =
    ((omega arith, omega arith, omega arith), ((omega arith, omega arith, omega arith), ((omega arith, omega arith, omega arith), ((omega arith, omega arith, omega arith), ((omega arith, omega arith, omega arith), tt)))))

module _ (limit : ℕ) (s : List ℕ) where
  abbrev AtRecord : ℕ → ℕ → ℕ → Type 0
  AtRecord at n p = (5 ≤ n) × (n ≤ 7) × (p ≡ at)

  record-range : (h : Shape) (at : ℕ) → Ranged (AtRecord at) (record_checks limit s h at)
  record-range head at = ((omega arith, omega arith, refl), ((omega arith, omega arith, refl), tt))
  record-range input at = ((omega arith, omega arith, refl), ((omega arith, omega arith, refl), tt))
  record-range output at = ((omega arith, omega arith, refl), ((omega arith, omega arith, refl), tt))
  record-range node at = ((omega arith, omega arith, refl), ((omega arith, omega arith, refl), tt))
  record-range (payload Absent k) at = ((omega arith, omega arith, refl), tt)
  record-range (payload Constant k) at = ((omega arith, omega arith, refl), ((omega arith, omega arith, refl), tt))
  record-range (payload References k) at = ((omega arith, omega arith, refl), tt)
  record-range (payload Call k) at = ((omega arith, omega arith, refl), ((omega arith, omega arith, refl), tt))
  record-range (arguments n) at = ((omega arith, omega arith, refl), tt)

  -- a record begins where the reading is, and the reading goes on only within the bytes
  pub reading-range : {hs : List Shape} {at n p : ℕ} → Reading limit s hs at (fault n p) → (5 ≤ n) × (n ≤ 8) × ((p ≡ at) ⊎ (p ≤ length s))
  reading-range (end {at = at} {o = fault n p} (inl (x, e, q))) = (omega arith, omega arith, inl (sym q))
  reading-range (end {at = at} {o = fault n p} (inr (x, f))) = absurd f
  reading-range (stop {h = h} {at = at} {n = n} {p = p} f) =
      let (a, b, c) = first-ranged (AtRecord at) (record_checks limit s h at) n p (record-range h at) f in
      (a, omega arith, inl c)
  reading-range (on (fit, x) r) = let (a, b, c) = reading-range r in (a, b, inr (⊎_elim (λ e. omega arith) (λ l. l) c))

-- ---- 9 to 13

-- what is so of the places of a function
module _ (Q : ℕ → Type 0) where
  abbrev pub RefPlaces : List Ref → Type 0
  RefPlaces = Each (λ r. Q r.place)

  abbrev pub NodePlaces : List Node → Type 0
  NodePlaces = Each (λ n. Q n.place × RefPlaces (reads n))

  pub record Places (f : Function) : Type 0 where
    pub head : Q f.place
    pub outputs : RefPlaces (output_refs f.outputs)
    pub nodes : NodePlaces f.nodes

  -- a number from 9 on
  abbrev pub Rule : ℕ → ℕ → ℕ → Type 0
  Rule top n p = (9 ≤ n) × (n ≤ top) × Q p

  module _ (top : ℕ) (h : 12 ≤ top) where
    ids-range : (before ns : List Node) → NodePlaces ns → Ranged (Rule top) (id_checks before ns)
    ids-range before [] q = tt
    ids-range before (n ∷ ns) ((q, r), qs) = ((omega arith, omega arith, q), ids-range (n ∷ before) ns qs)

    calls-range : (early : List Function) (ns : List Node) → NodePlaces ns → Ranged (Rule top) (call_checks early ns)
    calls-range early [] q = tt
    calls-range early (n ∷ ns) ((q, r), qs) = ((omega arith, omega arith, q), calls-range early ns qs)

    module _ (early : List Function) (f : Function) where
      refs-range : (ws : List ℕ) (rs : List Ref) → RefPlaces rs → Ranged (Rule top) (ref_checks early f ws rs)
      refs-range [] rs q = tt
      refs-range (w ∷ ws) [] q = tt
      refs-range (w ∷ ws) (r ∷ rs) (q, qs) = ((omega arith, omega arith, q), ((omega arith, omega arith, q), refs-range ws rs qs))

      node-refs-range : (ns : List Node) → NodePlaces ns → Ranged (Rule top) (node_ref_checks early f ns)
      node-refs-range [] q = tt
      node-refs-range (n ∷ ns) ((q, r), qs) =
          ranged-append (Rule top) (ref_checks early f (wants_of early n n.payload) (reads n)) (node_ref_checks early f ns)
          (refs-range (wants_of early n n.payload) (reads n) r) (node-refs-range ns qs)

      pub link-range : Places f → Ranged (Rule top) (link_checks early f)
      link-range q = (
        (omega arith, omega arith, q.head),
        ranged-append (Rule top) (id_checks [] f.nodes) _ (ids-range [] f.nodes q.nodes)
            (ranged-append (Rule top) (call_checks early f.nodes) _ (calls-range early f.nodes q.nodes)
            (ranged-append (Rule top) (ref_checks early f (output_types f.outputs) (output_refs f.outputs)) _
            (refs-range (output_types f.outputs) (output_refs f.outputs) q.outputs) (node-refs-range f.nodes q.nodes))),
      )

  loops-range : (all ns : List Node) → NodePlaces ns → Ranged (Rule 13) (loop_checks all ns)
  loops-range all [] q = tt
  loops-range all (n ∷ ns) ((q, r), qs) = ((omega arith, omega arith, q), loops-range all ns qs)

  pub table-range : (early fs : List Function) → Each Places fs → Ranged (Rule 13) (table_checks early fs)
  table-range early [] q = tt
  table-range early (f ∷ fs) (q, qs) =
      ranged-append (Rule 13) (function_checks early f) (table_checks (f ∷ early) fs)
      (ranged-append (Rule 13) (link_checks early f) (loop_checks f.nodes f.nodes) (link-range 13 (omega arith) early f q)
      (loops-range f.nodes f.nodes q.nodes)) (table-range (f ∷ early) fs qs)

-- where only the numbers matter
abbrev pub Anywhere : ℕ → Type 0
Anywhere p = Unit {0}

each_of : {A : Type 0} (P : A → Type 0) → ((x : A) → P x) → (xs : List A) → Each P xs
each_of P h [] = tt
each_of P h (x ∷ xs) = (h x, each_of P h xs)

pub anywhere : (f : Function) → Places Anywhere f
anywhere f = record { head = tt; outputs = each_of _ (λ r. tt) (output_refs f.outputs); nodes = each_of _ (λ n. (tt, each_of _ (λ r. tt) (reads n))) f.nodes }

-- ---- the places of a written table are below its end

module _ (bound : ℕ) where
  abbrev Below : ℕ → Type 0
  Below p = p < bound

  refs-below : (rs : List Ref) (at : ℕ) → RefsAt at rs → at + 3 * length rs ≤ bound → RefPlaces Below rs
  refs-below [] at p l = tt
  refs-below (r ∷ rs) at (p, ps) l = (omega arith, refs-below rs (at + 3) ps (omega arith))

  payload-below : (p : Payload) (at : ℕ) → PayloadAt at p → at + length (payload_bytes p) ≤ bound → RefPlaces Below (reads_of p)
  payload-below (consts ws) at p l = tt
  payload-below (refs rs) at p l = let e : length (flat ref_bytes rs) ≡ 3 * length rs = refs-size rs in refs-below rs at p (omega arith)
  payload-below (calls c rs) at p l = let e : length (flat ref_bytes rs) ≡ 3 * length rs = refs-size rs in refs-below rs (at + 3) p (omega arith)

  outputs-below : (os : List Output) (at : ℕ) → OutputsAt at os → at + 4 * length os ≤ bound → RefPlaces Below (output_refs os)
  outputs-below [] at p l = tt
  outputs-below (o ∷ os) at (p, ps) l = (omega arith, outputs-below os (at + 4) ps (omega arith))

  nodes-below : (ns : List Node) (at : ℕ) → NodesAt at ns → at + length (flat node_bytes ns) ≤ bound → NodePlaces Below ns
  nodes-below [] at p l = tt
  nodes-below (n ∷ ns) at (p, w, ps) l =
      let e = length-append (node_bytes n) (flat node_bytes ns) in
      ((omega arith, payload-below n.payload (at + 4) w (omega arith)), nodes-below ns (at + length (node_bytes n)) ps (omega arith))

  function-below : (f : Function) (at : ℕ) → FunctionAt at f → at + length (function_bytes f) ≤ bound → Places Below f
  function-below f at p l =
      let os = flat output_bytes f.outputs in
      let xs = flat node_bytes f.nodes in
      let l1 : length (f.inputs ++ os) ≡ length f.inputs + length os = length-append f.inputs os in
      let l2 : length (f.inputs ++ os ++ xs) ≡ length (f.inputs ++ os) + length xs = length-append (f.inputs ++ os) xs in
      let l3 : length os ≡ 4 * length f.outputs = outputs-size f.outputs in
      record {
        head = let e = p.head in omega arith;
        outputs = outputs-below f.outputs (at + 6 + length f.inputs) p.outputs (omega arith);
        nodes = nodes-below f.nodes (at + 6 + length f.inputs + 4 * length f.outputs) p.nodes (omega arith);
      }

  functions-below : (fs : List Function) (at : ℕ) → FunctionsAt at fs → at + length (flat function_bytes fs) ≤ bound → Each (Places Below) fs
  functions-below [] at p l = tt
  functions-below (f ∷ fs) at (p, ps) l =
      let e = length-append (function_bytes f) (flat function_bytes fs) in
      (function-below f at p (omega arith), functions-below fs (at + length (function_bytes f)) ps (omega arith))

-- ---- a fault

-- a header is shorter than what its length field can say
header-small : (w : ℕ) → 2 ≤ w → w + 6 < 256 ^ w
header-small zero h = absurd (omega arith)
header-small (suc zero) h = absurd (omega arith)
header-small (suc (suc zero)) h = omega arith
header-small (suc (suc (suc w))) h = let e : suc (suc w) + 6 < 256 ^ suc (suc w) = header-small (suc (suc w)) (omega arith) in omega arith

module _ (format : Format) (plain : Plain format) (s : List ℕ) (small : Bytes s) where
  pub fault-range : (n p : ℕ) → Fault format s n p → (1 ≤ n) × (n ≤ 13) × (p < 256 ^ (format.header - 6))
  fault-range n p (of-header f) =
      let (a, b, c) = first-ranged (λ n p. (1 ≤ n) × (n ≤ 6) × (p ≤ 6)) (header_checks format s) n p (header-range format s) f in
      let l = plain.header in
      let e = header-small (format.header - 6) (omega arith) in
      (a, omega arith, omega arith)
  fault-range n p (of-reading (x, (m, (v, (q, y)))) r) =
      let l = plain.header in
      let e = header-small (format.header - 6) (omega arith) in
      let below : length s < 256 ^ (format.header - 6) =
      subst (λ (i : ℕ). i < 256 ^ (format.header - 6)) (sym (plain.size s) ∙ q) (little-below s small (format.header - 6) 6) in
      let (a, b, c) = reading-range format.node_limit s r in
      (omega arith, omega arith, ⊎_elim (λ i. omega arith) (λ i. omega arith) c)
  fault-range n p (of-rules fs w f) =
      let body = flat function_bytes fs in
      let head = header_bytes format (length fs) (format.header + length body) in
      let l : length s ≡ format.header + length body =
      ap length w.bytes ∙ length-append head body ∙ ap (λ (i : ℕ). i + length body) (header-length format (length fs) (format.header + length body) plain.header) in
      let (a, b, c) =
      first-ranged (Rule (Below (length s)) 13) (table_checks [] fs) n p
      (table-range (Below (length s)) [] fs (functions-below (length s) fs format.header w.places (omega arith))) f in
      let z = w.size in
      (omega arith, b, omega arith)

module _ (s : List ℕ) (small : Bytes s) where
  -- a refusal's number is 1 to 13, and its place fits the length field
  pub fault-bounds : (n p : ℕ) → verdict s ≡ fault n p → (1 ≤ n) × (n ≤ 13) × (p < 256 ^ ((format_of s).header - 6))
  fault-bounds n p e = fault-range (format_of s) (plain_of s) s small n p ((verdict-iff s small (fault n p)).0 e)

  -- an accepted table has 1 to 16 functions
  pub count-bounds : (n : ℕ) → verdict s ≡ ok n → (1 ≤ n) × (n ≤ function_limit)
  count-bounds n e =
      let (fs, m, l) = (verdict-iff s small (ok n)).0 e in
      (subst (λ (i : ℕ). 1 ≤ i) l m.written.some-function, subst (λ (i : ℕ). i ≤ function_limit) l m.written.count)
