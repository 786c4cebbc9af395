-- Inlining goes by addresses alone, and a call opens the function at its callee's position.
use Prim.Native.Nat.{ℕ, suc, ◌+◌, ◌≤◌, ◌<◌}
use mathlib.Core.Path.{◌≡◌, refl, sym, ap, ◌∙◌, subst}
use mathlib.Core.Bool.{Bool, true, false, cond}
use mathlib.Core.List.{List, [], ◌∷◌, map}
use mathlib.Core.Logic.{⊎_elim}
use native.Mathlib.Omega.{arith}
use lib.Dec.{eqb}
use lib.ListN.{length, get_or, replicate, take, drop, length-replicate, get_or-replicate, get_or-eq_default}
use lib.Seq.{sets}
use Rattle.base.proofs.Numbers.{lt-or-le}
use Rattle.ports.specs.Ports.{ports_of, form_of, calling}
use Rattle.base.specs.Bytes.{byte, u16}
use Rattle.graph.specs.Graph.{Ref, Payload, consts, refs, calls, Node, Function}
use Rattle.graph.specs.Look.{reads_of, reads, output_refs}
use Rattle.graph.specs.Schedule.{schedule}
use Rattle.graph.proofs.Formed.{refs-length}
use Rattle.reader.specs.Layout.{kind_at, node_at, function_at, earlier}
use Rattle.lowering.specs.Compile.{Written, ports_at, address, Inlined, Inline, single, inline_node, Body, also, behind, inline_nodes, inline_function, inlined}
use Rattle.sums.specs.Position.{place_of, function_in, before, position_of}
use Rattle.compiler.specs.Emit.{address_of, addresses_in, inline_with, node_inlined, function_inlined, Walks}
use Rattle.base.proofs.Stores.{sets-in, sets-above}
use Rattle.sums.proofs.Nodes.{call-payload}
use Rattle.sums.proofs.Positions.{at_position, no-position}
use Rattle.compiler.proofs.Locations.{map_same}
use Rattle.compiler.proofs.Filling.{addresses-part}
use Rattle.compiler.proofs.Single.{addresses-length}
use Rattle.base.specs.Limits.{function_limit}
use Rattle.bytecode.specs.declared.Version.{Version}
use Rattle.lowering.specs.Naming.{sizing}
use Rattle.compiler.specs.declared.Pass.{Pass}
use Rattle.compiler.specs.declared.Pass.TheVariants.{Survey, Sequential, Addressed}

-- ---- addresses that are the same at every port

abbrev pub Same : List ℕ → List ℕ → Type 0
Same xs ys = (p : ℕ) → get_or xs p 0 ≡ get_or ys p 0

node-same : (ver : Version) → (go : Inline) (f g : Ref → ℕ) → ((r : Ref) → f r ≡ g r) → (next : ℕ) (n : Node) (p : Payload) → inline_node (sizing ver) go f next n p ≡ inline_node (sizing ver) go g next n p
node-same ver go f g h next n (consts ws) = refl
node-same ver go f g h next n (refs rs) = ap (λ (xs : List ℕ). single (sizing ver) n.kind n.type xs [] next) (map_same f g h rs)
node-same ver go f g h next n (calls c rs) = ap (λ (xs : List ℕ). go c xs next) (map_same f g h rs)

abbrev ported : List ℕ → Body → Inlined
ported ps b = record { code = b.code; next = b.next; ports = ps }

module _ (ver : Version) (xs ys : List ℕ) (h : Same xs ys) where
  address_same : (w : List Written) (r : Ref) → address xs w r ≡ address ys w r
  address_same w r = pick_one (eqb r.node 0)
    where
      pick_one : (b : Bool) → get_or (cond b xs (ports_at r.node w)) r.port 0 ≡ get_or (cond b ys (ports_at r.node w)) r.port 0
      pick_one true = h r.port
      pick_one false = refl

  nodes-same : (go : Inline) (ns : List Node) (w : List Written) (next : ℕ) → inline_nodes (sizing ver) go xs ns w next ≡ inline_nodes (sizing ver) go ys ns w next
  nodes-same go [] w next = refl
  nodes-same go (n ∷ ns) w next =
      let o = inline_node (sizing ver) go (address ys w) next n n.payload in
      ap (λ (o : Inlined). behind o (inline_nodes (sizing ver) go xs ns (also n o w) o.next)) (node-same ver go (address xs w) (address ys w) (address_same w) next n n.payload)
      ∙ ap (behind o) (nodes-same go ns (also n o w) o.next)

  pub function-same : (go : Inline) (f : Function) (next : ℕ) → inline_function (sizing ver) go f xs next ≡ inline_function (sizing ver) go f ys next
  function-same go f next =
      let b = inline_nodes (sizing ver) go ys (schedule f.nodes) [] next in
      ap (λ (b : Body). ported (map (address xs b.written) (output_refs f.outputs)) b) (nodes-same go (schedule f.nodes) [] next)
      ∙ ap (λ (ps : List ℕ). ported ps b) (map_same (address xs b.written) (address ys b.written) (address_same b.written) (output_refs f.outputs))

-- a list allocated into zeros
pub padded : (n : ℕ) (xs : List ℕ) → length xs ≤ n → Same xs (sets (replicate n 0) 0 xs)
padded n xs h p = ⊎_elim below above (lt-or-le p (length xs))
  where
    zeros : ◌≡◌ {A = ℕ} (get_or (replicate n 0) p 0) 0
    zeros = ⊎_elim (λ l. get_or-replicate n p 0 0 l) (λ l. get_or-eq_default (replicate n 0) 0 (rw length-replicate l)) (lt-or-le p n)

    below : p < length xs → get_or xs p 0 ≡ get_or (sets (replicate n 0) 0 xs) p 0
    below l =
        let e : p ≡ 0 + p = omega arith in
        sym (ap (λ (q : ℕ). get_or (sets (replicate n 0) 0 xs) q 0) e ∙ sets-in xs (replicate n 0) 0 p l (rw length-replicate (omega arith)))

    above : length xs ≤ p → get_or xs p 0 ≡ get_or (sets (replicate n 0) 0 xs) p 0
    above l = get_or-eq_default xs 0 l ∙ sym (sets-above xs (replicate n 0) 0 p (omega arith) ∙ zeros)

-- ---- the addresses of what a node reads

pub open-with : (ver : Version) → (go : Inline) (from : Ref → ℕ) (next : ℕ) (n : Node) (p : Payload) (xs : List ℕ) → map from (reads_of p) ≡ xs → inline_node (sizing ver) go from next n p ≡ inline_with ver go xs next n p
open-with ver go from next n (consts ws) xs e = refl
open-with ver go from next n (refs rs) xs e = ap (λ (ys : List ℕ). single (sizing ver) n.kind n.type ys [] next) e
open-with ver go from next n (calls c rs) xs e = ap (λ (ys : List ℕ). go c ys next) e

-- ---- the callee

abbrev pub nothing : ℕ → Inlined
nothing next = record { code = []; next = next; ports = [] }

pub nothing-walks : (pass : Pass) {m : ℕ} {code place wide : List ℕ} {at next cell : ℕ} → Walks pass m code place wide code place wide at (nothing next) (record { at = at; next = next; cell = cell })
nothing-walks Survey = record { written = refl; noted = refl; measured = refl; end = omega arith; next = refl }
nothing-walks Sequential = record { written = refl; noted = refl; measured = refl; end = omega arith; next = refl }
nothing-walks Addressed = record { written = refl; noted = refl; measured = refl; end = omega arith; next = refl }

module _ (ver : Version) (s : List ℕ) (ins : List ℕ) (next : ℕ) where
  inlined-nil : (c : ℕ) → inlined (sizing ver) [] c ins next ≡ nothing next
  unfolding inlined
  inlined-nil c = refl

  inlined-one : (m c : ℕ) → inlined (sizing ver) (before s (suc m)) c ins next ≡ cond (eqb (u16 s (place_of s m)) c) (function_inlined ver s m ins next) (inlined (sizing ver) (before s m) c ins next)
  unfolding inlined earlier function_inlined function_at
  inlined-one m c = refl

  pub inlined-at : (k c : ℕ) → k ≤ function_limit → position_of s k c < k → inlined (sizing ver) (before s k) c ins next ≡ function_inlined ver s (position_of s k c) ins next
  inlined-at k c b h =
      at_position s (λ early d. inlined (sizing ver) early d ins next) (λ m. function_inlined ver s m ins next) (nothing next) inlined-nil inlined-one k c b h

  pub inlined-none : (k c : ℕ) → k ≤ position_of s k c → inlined (sizing ver) (before s k) c ins next ≡ nothing next
  inlined-none k c h =
      no-position s (λ early d. inlined (sizing ver) early d ins next) (λ m. function_inlined ver s m ins next) (nothing next) inlined-nil inlined-one k c h

module _ (ver : Version) (s locations : List ℕ) (k p cell : ℕ) (ins : List ℕ) (first next : ℕ) (f : calling (form_of (kind_at s p)) ≡ true) (n c : ℕ) (en : n ≡ byte s (p + 4 + 2)) (ec : c ≡ u16 s (p + 4)) where
  pub count-is : length (reads (node_at s p)) ≡ n
  count-is = ap (λ (y : Payload). length (reads_of y)) (call-payload s p (byte s (p + 2)) (ports_of (kind_at s p)) refl refl f) ∙ refs-length (byte s (p + 4 + 2)) s (p + 4 + 3) ∙ sym en

  abbrev given : List ℕ
  given = addresses_in locations ins first cell n

  inlined-here : node_inlined ver s locations k p cell ins first next ≡ inlined (sizing ver) (before s k) c given next
  unfolding node_inlined
  inlined-here =
      ap (λ (m : ℕ). inline_with ver (inlined (sizing ver) (before s k)) (addresses_in locations ins first cell m) next (node_at s p) (node_at s p).payload) count-is
      ∙ ap (inline_with ver (inlined (sizing ver) (before s k)) given next (node_at s p)) (call-payload s p (byte s (p + 2)) (ports_of (kind_at s p)) refl refl f)
      ∙ ap (λ (d : ℕ). inlined (sizing ver) (before s k) d given next) (sym ec)

  -- the call is the function at its callee's position, on these addresses; where there is none, nothing
  pub callee-is : {args : List ℕ} {g : ℕ} → args ≡ sets (replicate 8 0) 0 given → n ≤ 8 → g ≡ position_of s k c
      → (k ≤ function_limit → g < k → node_inlined ver s locations k p cell ins first next ≡ function_inlined ver s g args next)
      × (k ≤ g → node_inlined ver s locations k p cell ins first next ≡ nothing next)
  unfolding function_inlined
  callee-is {args} {g} ea few eg =
      let l : length given ≡ n = addresses-length locations ins first cell n in (
        λ b lt. inlined-here
            ∙ inlined-at ver s given next k c b (subst (λ (q : ℕ). q < k) eg lt)
            ∙ ap (λ (q : ℕ). function_inlined ver s q given next) (sym eg)
            ∙ function-same ver given args (subst (λ (ys : List ℕ). Same given ys) (sym ea) (padded 8 given (omega arith))) (inlined (sizing ver) (before s g)) (function_in s g) next,
        λ le. inlined-here ∙ inlined-none ver s given next k c (subst (λ (q : ℕ). k ≤ q) eg le),
      )

  -- the addresses as a part of all locations
  pub callee-part : {args : List ℕ} {g m : ℕ} → cell + n ≤ length locations → m ≡ n → args ≡ sets (replicate 8 0) 0 (map (address_of ins first) (take m (drop cell locations))) → n ≤ 8 → g ≡ position_of s k c
      → (k ≤ function_limit → g < k → node_inlined ver s locations k p cell ins first next ≡ function_inlined ver s g args next)
      × (k ≤ g → node_inlined ver s locations k p cell ins first next ≡ nothing next)
  callee-part fits em er few eg = callee-is (er ∙ ap (sets (replicate 8 0) 0) (sym (addresses-part locations ins first n cell fits em))) few eg
