-- What the numbers of locations mean. Below the port limit a number is an input, from it on an offset; each array the
-- allocation fills is related to the list of locations it stands for, element by element, through `Codes`.
use Prim.Native.Nat.{ℕ, zero, suc, ◌+◌, ◌*◌, ◌%◌, ◌≤◌, ◌<◌}
use mathlib.Core.Path.{◌≡◌, refl, sym, ap, ◌∙◌, subst}
use mathlib.Core.Bool.{Bool, true, false, cond}
use mathlib.Core.List.{List, [], ◌∷◌, map}
use mathlib.Core.Option.{some}
use mathlib.Core.Logic.{◌⊎◌, ⊎_elim}
use native.Mathlib.Omega.{arith}
use lib.Dec.{eqb, ltb, leb}
use lib.ListN.{length, get_or, replicate, get_elem?, length-map, get_or-eq_default}
use lib.Seq.{sets}
use borrow.Author.Tests.{eqb-true, eqb-false, leb-true, leb-false, lt-ltb, le-ltb}
use Rattle.base.specs.Limits.{node_limit, no_node, function_limit, operand_limit, port_limit}
use Rattle.base.proofs.Numbers.{lt-or-le}
use Rattle.base.proofs.Lists.{some_is}
use Rattle.base.specs.Lists.{Is, Each}
use Rattle.ports.specs.declared.Form.{Form}
use Rattle.ports.specs.declared.Form.TheVariants.{Absent, Constant, References, Call}
use Rattle.ports.specs.Ports.{width, own, ports_of, form_of, calling}
use Rattle.base.specs.Bytes.{byte, u16}
use Rattle.graph.specs.Graph.{Ref, Payload, calls, Node, Output}
use Rattle.graph.specs.Look.{reads, reads_of, output_refs, ids}
use Rattle.graph.specs.Read.{reference, references}
use Rattle.graph.proofs.Formed.{refs-length}
use Rattle.reader.specs.Layout.{kind_at, payload_at, node_at, outputs_at, output_count, outputs_place, function_at, earlier}
use Rattle.bytecode.specs.Run.{places}
use Rattle.order.specs.Indices.{slot}
use Rattle.order.specs.Resolve.{index_of, target}
use Rattle.order.proofs.Nodes.{index-of, index-none, in-index}
use Rattle.compiler.specs.Static.{Location, nowhere, input, offset, rebase, Located, locations_of, location_of, Summary, Callee, node_summary, summary}
use Rattle.reader.specs.Find.{ReadsNode}
use Rattle.reader.proofs.Passed.{callee-fits}
use Rattle.sums.specs.Position.{place_of, function_in, before, position_of}
use Rattle.compiler.specs.Emit.{summary_at}
use Rattle.compiler.specs.Locating.{port_code, read_codes, rebased_code, rebased_codes, result_codes, callee_codes, node_codes, Codes, PortsCoded, PortsKnown}
use Rattle.base.proofs.Stores.{sets-in, sets_below, sets-above}
use Rattle.compiler.proofs.Bounds.{Within}
use Rattle.sums.proofs.Rows.{narrow}
use Rattle.sums.proofs.Nodes.{call-payload, call-form}
use Rattle.sums.proofs.Positions.{at_position, no-position}
use Rattle.bytecode.specs.declared.Version.{Version}
use Rattle.compiler.specs.Units.{unit_bound}

-- ---- lists of numbers

abbrev pub AllCodes : List ℕ → List Location → Type 0
AllCodes [] [] = Unit {0}
AllCodes [] (x ∷ xs) = ⊥
AllCodes (e ∷ es) [] = ⊥
AllCodes (e ∷ es) (x ∷ xs) = Codes e x × AllCodes es xs

pub codes-length : (es : List ℕ) (xs : List Location) → AllCodes es xs → length es ≡ length xs
codes-length [] [] h = refl
codes-length [] (x ∷ xs) h = absurd h
codes-length (e ∷ es) [] h = absurd h
codes-length (e ∷ es) (x ∷ xs) (c, h) = ap suc (codes-length es xs h)

pub codes_at : (es : List ℕ) (xs : List Location) → AllCodes es xs → (q : ℕ) → q < length es → Codes (get_or es q 0) (get_or xs q nowhere)
codes_at [] [] h q l = absurd (omega arith)
codes_at [] (x ∷ xs) h q l = absurd h
codes_at (e ∷ es) [] h q l = absurd h
codes_at (e ∷ es) (x ∷ xs) (c, h) zero l = c
codes_at (e ∷ es) (x ∷ xs) (c, h) (suc q) l = codes_at es xs h q (omega arith)

-- behind the last location nothing is asked
no-location : (e : ℕ) (xs : List Location) (q : ℕ) → length xs ≤ q → Codes e (get_or xs q nowhere)
no-location e xs q h = subst (Codes e) (sym (get_or-eq_default xs nowhere h)) tt

-- numbers stored in an array
pub codes-stored : (out : List ℕ) (b : ℕ) (es : List ℕ) (xs : List Location) → AllCodes es xs → b + length es ≤ length out → (q : ℕ)
    → Codes (get_or (sets out b es) (b + q) 0) (get_or xs q nowhere)
codes-stored out b es xs h l q =
    ⊎_elim
    (λ a. subst (λ (e : ℕ). Codes e (get_or xs q nowhere)) (sym (sets-in es out b q a l)) (codes_at es xs h q a))
    (λ a. no-location _ xs q (let e = codes-length es xs h in omega arith))
    (lt-or-le q (length es))

-- ---- ports of nodes that have their locations

module _ (ns : List Node) (few : length ns ≤ node_limit) (named : (n : Node) → Is n ns → 1 ≤ n.id) (allocated : List ℕ) (located : List Located)
    (known : PortsKnown ns allocated located) where
  pub port-coded : (r : Ref) → (r.node ≡ 0) ⊎ Is r.node (ids ns) → Codes (port_code allocated (target ns (some r)) r.port) (location_of located r)
  port-coded r h = pick_one (eqb r.node 0) refl (leb 8 r.port) refl
    where
      v : ℕ
      v = index_of r.node ns

      code : Bool → Bool → ℕ
      code a b = cond a 0 (cond b (get_or allocated (8 * v + r.port) 0) r.port)

      pick_one : (b : Bool) → eqb r.node 0 ≡ b → (a : Bool) → leb port_limit r.port ≡ a
          → Codes (code a (ltb v 256)) (cond b (input r.port) (get_or (locations_of r.node located) r.port nowhere))
      pick_one true q true w = λ l. let z : 8 ≤ r.port = leb-true port_limit r.port w in absurd (omega arith)
      pick_one true q false w = λ l.
          let z : r.node ≡ 0 = eqb-true r.node 0 q in
          let e : v ≡ no_node = index-none r.node ns (λ n i s. let o = named n i in omega arith) in
          ap (code false) (le-ltb v 256 (omega (arith, e)))
      pick_one false q a w =
          let i : Is r.node (ids ns) = ⊎_elim (λ z. absurd (eqb-false r.node 0 q z)) (λ x. x) h in
          let l : v < length ns = in-index r.node ns i in
          let (m, g, f, e) = index-of r.node ns few l in
          let c : PortsCoded (locations_of r.node located) allocated (8 * v) = subst (λ (j : ℕ). PortsCoded (locations_of j located) allocated (8 * v)) e (known v m g) in
          by_port a w c (lt-ltb v node_limit (omega arith))
        where
          by_port : (a : Bool) → leb port_limit r.port ≡ a → PortsCoded (locations_of r.node located) allocated (port_limit * v) → ltb v node_limit ≡ true
              → Codes (code a (ltb v 256)) (get_or (locations_of r.node located) r.port nowhere)
          by_port true w c t = no-location 0 (locations_of r.node located) r.port (let z = leb-true port_limit r.port w in let y = c.few in omega arith)
          by_port false w c t = rw t (c.coded r.port (leb-false port_limit r.port w))

  -- the references of the i-th node
  module _ (s ts : List ℕ) (i : ℕ) (x : Node) (slots : (j : ℕ) → j < operand_limit → slot ts i j ≡ target ns (get_elem? (reads x) j))
      (inside : (r : Ref) (w : ℕ) → get_elem? (reads x) w ≡ some r → (r.node ≡ 0) ⊎ Is r.node (ids ns)) where
    reads-from : (m j q : ℕ) → ((w : ℕ) → get_elem? (reads x) (j + w) ≡ get_elem? (references m s q) w) → j + m ≤ operand_limit
        → AllCodes (read_codes s ts allocated (16 * i + j) m q) (map (location_of located) (references m s q))
    unfolding read_codes
    reads-from zero j q f l = tt
    reads-from (suc m) j q f l =
        let r = reference s q in
        let z : j ≡ j + 0 = omega arith in
        let g : get_elem? (reads x) j ≡ some r = ap (get_elem? (reads x)) z ∙ f 0 in
        let e : get_or ts (16 * i + j) 0 ≡ target ns (some r) = slots j (omega arith) ∙ ap (target ns) g in
        let y : 16 * i + (j + 1) ≡ 16 * i + j + 1 = omega arith in (
          subst (λ (v : ℕ). Codes (port_code allocated v (byte s (q + 2))) (location_of located r)) (sym e) (port-coded r (inside r j g)),
          subst (λ (b : ℕ). AllCodes (read_codes s ts allocated b m (q + 3)) (map (location_of located) (references m s (q + 3)))) y
              (reads-from m (j + 1) (q + 3) (λ w. let a : j + 1 + w ≡ j + suc w = omega arith in ap (get_elem? (reads x)) a ∙ f (suc w)) (omega arith)),
        )

    pub reads-coded : (m q : ℕ) → reads x ≡ references m s q → m ≤ operand_limit → AllCodes (read_codes s ts allocated (operand_limit * i) m q) (map (location_of located) (references m s q))
    reads-coded m q e l =
        let y : 16 * i + 0 ≡ 16 * i = omega arith in
        rw y at (reads-from m 0 q (λ w. let z : 0 + w ≡ w = omega arith in ap (get_elem? (reads x)) z ∙ ap (λ (rs : List Ref). get_elem? rs w) e) (omega arith))

-- ---- the ports of a node

results-coded : (d t m : ℕ) → AllCodes (result_codes (8 + d) (width t) m) (map offset (places d (replicate m t)))
unfolding result_codes
results-coded d t zero = tt
results-coded d t (suc m) =
    let e : 8 + (d + width t) ≡ 8 + d + width t = omega arith in
    (refl, subst (λ (b : ℕ). AllCodes (result_codes b (width t) m) (map offset (places (d + width t) (replicate m t)))) e (results-coded (d + width t) t m))

module _ (locations : List ℕ) (cell n d inputs : ℕ) (args : List Location) (given : (j : ℕ) → j < n → Codes (get_or locations (cell + j) 0) (get_or args j nowhere))
    (size : length args ≡ n) (few : n ≤ 8) (near : d ≤ unit_bound) where
  rebase-coded : (e : ℕ) (o : Location) → Codes e o → Within inputs unit_bound o → Codes (rebased_code locations cell n d e) (rebase d args o)
  rebase-coded e nowhere c w = tt
  rebase-coded e (input i) c w = ⊎_elim below above (lt-or-le i n)
    where
      below : i < n → Codes (rebased_code locations cell n d e) (get_or args i nowhere)
      below l = let q : e ≡ i = c (omega arith) in rw q (rw (lt-ltb i 8 (omega arith), lt-ltb i n l) (given i l))

      above : n ≤ i → Codes (rebased_code locations cell n d e) (get_or args i nowhere)
      above l = no-location _ args i (omega arith)
  rebase-coded e (offset x) c w =
      let z : (8 + x + d) % 65536 ≡ 8 + (d + x) = omega arith in
      rw c (rw (le-ltb (8 + x) 8 (omega arith), z) refl)

  rebased-coded : (outs : List ℕ) (b : ℕ) (os : List Location) → ((q : ℕ) → q < length os → Codes (get_or outs (b + q) 0) (get_or os q nowhere)) → Each (Within inputs unit_bound) os
      → AllCodes (rebased_codes outs locations cell n d b (length os)) (map (rebase d args) os)
  unfolding rebased_codes
  rebased-coded outs b [] h w = tt
  rebased-coded outs b (o ∷ os) h (w, ws) =
      let z : b + 0 ≡ b = omega arith in (
        rebase-coded (get_or outs b 0) o (subst (λ (q : ℕ). Codes (get_or outs q 0) o) z (h 0 (omega arith))) w,
        rebased-coded outs (b + 1) os (λ q l. let y : b + suc q ≡ b + 1 + q = omega arith in subst (λ (a : ℕ). Codes (get_or outs a 0) (get_or os q nowhere)) y (h (suc q) (omega arith))) ws,
      )

-- ---- the callee, by its position

module _ (ver : Version) (s : List ℕ) where
  summary-nil : (c : ℕ) → summary ver [] c ≡ record { words = 0; outputs = [] }
  unfolding summary
  summary-nil c = refl

  summary-one : (m c : ℕ) → summary ver (before s (suc m)) c ≡ cond (eqb (u16 s (place_of s m)) c) (summary_at ver s m) (summary ver (before s m) c)
  unfolding summary earlier function_at
  summary-one m c = refl

  summary-at : (k c : ℕ) → k ≤ function_limit → position_of s k c < k → summary ver (before s k) c ≡ summary_at ver s (position_of s k c)
  summary-at k c b h = at_position s (summary ver) (summary_at ver s) (record { words = 0; outputs = [] }) summary-nil summary-one k c b h

  summary-none : (k c : ℕ) → k ≤ position_of s k c → summary ver (before s k) c ≡ record { words = 0; outputs = [] }
  summary-none k c h = no-position s (summary ver) (summary_at ver s) (record { words = 0; outputs = [] }) summary-nil summary-one k c h

  outputs-length : (n at : ℕ) → length (outputs_at n s at) ≡ n
  outputs-length zero at = refl
  outputs-length (suc n) at = ap suc (outputs-length n (at + 4))

  pub summary-size : (g : ℕ) → length (summary_at ver s g).outputs ≡ output_count s (place_of s g)
  unfolding function_at
  summary-size g =
      length-map (output_refs (function_in s g).outputs) _
      ∙ length-map (function_in s g).outputs (λ (o : Output). o.ref)
      ∙ outputs-length (output_count s (place_of s g)) (outputs_place s (place_of s g))

-- ---- the node at p

module _ (ver : Version) (s outs locations : List ℕ) (k p cell d : ℕ) (located : List Located) where
  abbrev call : Callee
  call = summary ver (before s k)

  plain_by : (f : Form) → form_of (kind_at s p) ≡ f → calling f ≡ false
      → AllCodes (result_codes (8 + d) (width (own (byte s (p + 3)) (ports_of (kind_at s p)).result)) (ports_of (kind_at s p)).results)
      (node_summary ver call located d (node_at s p) (payload_at f (kind_at s p) s (p + 4))).outputs
  unfolding node_at
  plain_by Absent e q = results-coded d (own (byte s (p + 3)) (ports_of (kind_at s p)).result) (ports_of (kind_at s p)).results
  plain_by Constant e q = results-coded d (own (byte s (p + 3)) (ports_of (kind_at s p)).result) (ports_of (kind_at s p)).results
  plain_by References e q = results-coded d (own (byte s (p + 3)) (ports_of (kind_at s p)).result) (ports_of (kind_at s p)).results
  plain_by Call e q = let z : ◌≡◌ {A = ℕ} 0 1 = cc in absurd (omega arith)

  plain-node : calling (form_of (kind_at s p)) ≡ false
      → AllCodes (result_codes (8 + d) (width (own (byte s (p + 3)) (ports_of (kind_at s p)).result)) (ports_of (kind_at s p)).results)
      (node_summary ver call located d (node_at s p) (node_at s p).payload).outputs
  unfolding node_at
  plain-node f = plain_by (form_of (kind_at s p)) refl f

  module _ (fit : ReadsNode s p) (b16 : k ≤ function_limit) (near : d ≤ unit_bound)
      (inner : calling (form_of (kind_at s p)) ≡ true → position_of s k (u16 s (p + 4)) < k
      → (inputs : ℕ) × Each (Within inputs unit_bound) (summary_at ver s (position_of s k (u16 s (p + 4)))).outputs × PortsCoded (summary_at ver s (position_of s k (u16 s (p + 4)))).outputs outs (8 * position_of s k (u16 s (p + 4))))
      (given : (j : ℕ) → j < length (reads (node_at s p)) → Codes (get_or locations (cell + j) 0) (get_or (map (location_of located) (reads (node_at s p))) j nowhere)) where
    abbrev callee : ℕ
    callee = u16 s (p + 4)

    abbrev rs : List Ref
    rs = references (byte s (p + 4 + 2)) s (p + 4 + 3)

    call_by : calling (form_of (kind_at s p)) ≡ true
        → AllCodes (callee_codes s outs locations k (position_of s k callee) cell (byte s (p + 4 + 2)) d) (map (rebase d (map (location_of located) rs)) (call callee).outputs)
    call_by f = ⊎_elim inside outside (lt-or-le (position_of s k callee) k)
      where
        payload : (node_at s p).payload ≡ calls callee rs
        payload = call-payload s p (byte s (p + 2)) (ports_of (kind_at s p)) refl refl f

        few : byte s (p + 4 + 2) ≤ 8
        few = (callee-fits s p fit (call-form (form_of (kind_at s p)) f)).1

        args : List Location
        args = map (location_of located) rs

        size : length args ≡ byte s (p + 4 + 2)
        size = length-map rs (location_of located) ∙ refs-length (byte s (p + 4 + 2)) s (p + 4 + 3)

        here : (j : ℕ) → j < byte s (p + 4 + 2) → Codes (get_or locations (cell + j) 0) (get_or args j nowhere)
        here j l =
            subst (λ (y : Payload). Codes (get_or locations (cell + j) 0) (get_or (map (location_of located) (reads_of y)) j nowhere)) payload
            (given j (subst (λ (y : Payload). j < length (reads_of y)) (sym payload) (let z = refs-length (byte s (p + 4 + 2)) s (p + 4 + 3) in omega arith)))

        inside : position_of s k callee < k → AllCodes (callee_codes s outs locations k (position_of s k callee) cell (byte s (p + 4 + 2)) d) (map (rebase d args) (call callee).outputs)
        inside l =
            let g = position_of s k callee in
            let (inputs, w, c) = inner f l in
            let few-outs = c.few in
            let m : length (summary_at ver s g).outputs ≡ output_count s (place_of s g) = summary-size ver s g in
            rw (lt-ltb g k l)
            (subst (λ (x : Summary). AllCodes (rebased_codes outs locations cell (byte s (p + 4 + 2)) d (8 * g) (output_count s (place_of s g))) (map (rebase d args) x.outputs)) (sym (summary-at ver s k callee b16 l))
            (subst (λ (y : ℕ). AllCodes (rebased_codes outs locations cell (byte s (p + 4 + 2)) d (8 * g) y) (map (rebase d args) (summary_at ver s g).outputs)) m
            (rebased-coded locations cell (byte s (p + 4 + 2)) d inputs args here size few near outs (8 * g) (summary_at ver s g).outputs (λ q ql. c.coded q (omega arith)) w)))

        outside : k ≤ position_of s k callee → AllCodes (callee_codes s outs locations k (position_of s k callee) cell (byte s (p + 4 + 2)) d) (map (rebase d args) (call callee).outputs)
        outside l =
            rw (le-ltb (position_of s k callee) k l) (subst (λ (x : Summary). AllCodes [] (map (rebase d args) x.outputs)) (sym (summary-none ver s k callee l)) tt)

    pub node-coded : AllCodes (node_codes s outs locations k p cell d) (node_summary ver call located d (node_at s p) (node_at s p).payload).outputs
    unfolding node_codes
    node-coded = pick_one (calling (form_of (kind_at s p))) refl
      where
        pick_one : (b : Bool) → calling (form_of (kind_at s p)) ≡ b
            → AllCodes
            (cond b (callee_codes s outs locations k (position_of s k callee) cell (byte s (p + 4 + 2)) d)
            (result_codes (8 + d) (width (own (byte s (p + 3)) (ports_of (kind_at s p)).result)) (ports_of (kind_at s p)).results))
            (node_summary ver call located d (node_at s p) (node_at s p).payload).outputs
        pick_one true f =
            subst (λ (y : Payload). AllCodes (callee_codes s outs locations k (position_of s k callee) cell (byte s (p + 4 + 2)) d) (node_summary ver call located d (node_at s p) y).outputs)
            (sym (call-payload s p (byte s (p + 2)) (ports_of (kind_at s p)) refl refl f)) (call_by f)
        pick_one false f = plain-node f

    rebase-size : (n m : ℕ) (b : ℕ) → length (rebased_codes outs locations cell n d b m) ≡ m
    unfolding rebased_codes
    rebase-size n zero b = refl
    rebase-size n (suc m) b = ap suc (rebase-size n m (b + 1))

    result-size : (e w m : ℕ) → length (result_codes e w m) ≡ m
    unfolding result_codes
    result-size e w zero = refl
    result-size e w (suc m) = ap suc (result-size (e + w) w m)

    pub node-few : length (node_codes s outs locations k p cell d) ≤ 8
    unfolding node_codes
    node-few = pick_one (calling (form_of (kind_at s p))) refl
      where
        outside : calling (form_of (kind_at s p)) ≡ true → length (callee_codes s outs locations k (position_of s k callee) cell (byte s (p + 4 + 2)) d) ≤ 8
        outside f =
            ⊎_elim
            (λ l. let (inputs, w, c) = inner f l in
            let a = c.few in
            let b = summary-size ver s (position_of s k callee) in
            let e = rebase-size (byte s (p + 4 + 2)) (output_count s (place_of s (position_of s k callee))) (8 * position_of s k callee) in
            rw (lt-ltb (position_of s k callee) k l) (omega arith))
            (λ l. rw (le-ltb (position_of s k callee) k l) (omega arith))
            (lt-or-le (position_of s k callee) k)

        pick_one : (b : Bool) → calling (form_of (kind_at s p)) ≡ b
            → length
            (cond b (callee_codes s outs locations k (position_of s k callee) cell (byte s (p + 4 + 2)) d)
            (result_codes (8 + d) (width (own (byte s (p + 3)) (ports_of (kind_at s p)).result)) (ports_of (kind_at s p)).results)) ≤ 8
        pick_one true f = outside f
        pick_one false f =
            let a = (narrow (byte s (p + 2))).results in
            let b = result-size (8 + d) (width (own (byte s (p + 3)) (ports_of (kind_at s p)).result)) (ports_of (kind_at s p)).results in
            omega arith

-- ---- one node more has its locations

module _ (ns : List Node) (allocated : List ℕ) (located : List Located) (i : ℕ) (x : Node) (codes : List ℕ) (outs : List Location) where
  pub knows-step : PortsKnown ns allocated located → get_elem? ns i ≡ some x → ((v : ℕ) (y : Node) → get_elem? ns v ≡ some y → y.id ≡ x.id → v ≡ i) → AllCodes codes outs → length outs ≤ 8
      → 8 * i + 8 ≤ length allocated → PortsKnown ns (sets allocated (8 * i) codes) (record { id = x.id; locations = outs } ∷ located)
  knows-step known g own h few room v y gv = pick_one (eqb x.id y.id) refl
    where
      size : length codes ≡ length outs
      size = codes-length codes outs h

      pick_one : (b : Bool) → eqb x.id y.id ≡ b → PortsCoded (cond b outs (locations_of y.id located)) (sets allocated (8 * i) codes) (8 * v)
      pick_one true e =
          let z : v ≡ i = own v y gv (sym (eqb-true x.id y.id e)) in
          record {
            few = few;
            coded = λ q l. subst (λ (w : ℕ). Codes (get_or (sets allocated (8 * i) codes) (8 * w + q) 0) (get_or outs q nowhere)) (sym z) (codes-stored allocated (8 * i) codes outs h (omega (arith, size, few)) q);
          }
      pick_one false e =
          let k = known v y gv in
          record {
            few = k.few;
            coded = λ q l. subst (λ (a : ℕ). Codes a (get_or (locations_of y.id located) q nowhere)) (sym (other q l)) (k.coded q l);
          }
        where
          apart : v ≡ i → ⊥
          apart z = eqb-false x.id y.id e (ap (λ (n : Node). n.id) (some_is (sym g ∙ ap (get_elem? ns) (sym z) ∙ gv)))

          other : (q : ℕ) → q < 8 → get_or (sets allocated (8 * i) codes) (8 * v + q) 0 ≡ get_or allocated (8 * v + q) 0
          other q l =
              ⊎_elim (λ a. sets_below codes allocated (8 * i) (8 * v + q) (omega arith)) (λ a. sets-above codes allocated (8 * i) (8 * v + q) (let d : v ≡ i → ⊥ = apart in let z = size in let w = few in omega arith)) (lt-or-le v i)
