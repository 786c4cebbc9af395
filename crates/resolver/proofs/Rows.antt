-- The rows of slots, and the places, in the arrays.
use Prim.Native.Nat.{ℕ, zero, suc, ◌+◌, ◌*◌, ◌≤◌, ◌<◌}
use mathlib.Core.Path.{◌≡◌, refl, sym, ap, ◌∙◌}
use mathlib.Core.List.{List, [], ◌∷◌, ◌++◌, map}
use mathlib.Core.Option.{Option, none, some}
use native.Mathlib.Omega.{arith}
use lib.ListN.{length, get_or, get_elem?, length-append, length-map, get_or-append}
use lib.Seq.{sets, length-sets, get_or-append-add}
use Rattle.graph.specs.Graph.{Ref, Node}
use Rattle.graph.specs.Look.{reads}
use Rattle.reader.specs.Layout.{node_at, node_end, nodes_at, node_place}
use Rattle.order.specs.Indices.{slot}
use Rattle.order.specs.Resolve.{target}
use Rattle.order.proofs.Nodes.{at-below}
use Rattle.resolver.specs.Slots.{padded, row_of, rows_of, places_of}
use Rattle.base.proofs.Stores.{sets-in}
use Rattle.base.specs.Limits.{no_node, operand_limit, node_limit, slot_limit}

-- ---- a row

pub length-padded : (n : ℕ) (xs : List ℕ) → length (padded n xs) ≡ n
unfolding padded
length-padded zero xs = refl
length-padded (suc n) [] = ap suc (length-padded n [])
length-padded (suc n) (x ∷ xs) = ap suc (length-padded n xs)

-- what stands in it: something of the reference, or of none
padded-at : (g : Option Ref → ℕ) → g none ≡ no_node → (n : ℕ) (rs : List Ref) (j : ℕ) → j < n → get_or (padded n (map (λ r. g (some r)) rs)) j 0 ≡ g (get_elem? rs j)
unfolding padded
padded-at g z zero rs j h = absurd (omega arith)
padded-at g z (suc n) [] zero h = sym z
padded-at g z (suc n) [] (suc j) h = padded-at g z n [] j (omega arith)
padded-at g z (suc n) (r ∷ rs) zero h = refl
padded-at g z (suc n) (r ∷ rs) (suc j) h = padded-at g z n rs j (omega arith)

pub length-row : (ns : List Node) (x : Node) → length (row_of ns x) ≡ operand_limit
unfolding row_of
length-row ns x = length-padded operand_limit (map (λ r. target ns (some r)) (reads x))

row_at : (ns : List Node) (x : Node) (j : ℕ) → j < operand_limit → get_or (row_of ns x) j 0 ≡ target ns (get_elem? (reads x) j)
unfolding row_of
row_at ns x j h = padded-at (target ns) refl operand_limit (reads x) j h

-- ---- the rows

pub length-rows : (ns xs : List Node) → length (rows_of ns xs) ≡ operand_limit * length xs
unfolding rows_of
length-rows ns [] = refl
length-rows ns (x ∷ xs) =
    let a = length-append (row_of ns x) (rows_of ns xs) in
    let b = length-row ns x in
    let c = length-rows ns xs in
    omega arith

rows_at : (ns xs : List Node) (i j : ℕ) (x : Node) → get_elem? xs i ≡ some x → j < operand_limit → get_or (rows_of ns xs) (operand_limit * i + j) 0 ≡ get_or (row_of ns x) j 0
unfolding rows_of
rows_at ns [] i j x e h = let z : ◌≡◌ {A = ℕ} 0 1 = cc in absurd (omega arith)
rows_at ns (y ∷ xs) zero j x e h =
    let z : operand_limit * 0 + j ≡ j = omega arith in
    let q : y ≡ x = cc in
    ap (λ (k : ℕ). get_or (row_of ns y ++ rows_of ns xs) k 0) z
    ∙ get_or-append (row_of ns y) (rows_of ns xs) 0 j (omega (arith, length-row ns y))
    ∙ ap (λ (w : Node). get_or (row_of ns w) j 0) q
rows_at ns (y ∷ xs) (suc i) j x e h =
    let z : operand_limit * suc i + j ≡ length (row_of ns y) + (operand_limit * i + j) = omega (arith, length-row ns y) in
    ap (λ (k : ℕ). get_or (row_of ns y ++ rows_of ns xs) k 0) z
    ∙ get_or-append-add (row_of ns y) (rows_of ns xs) (operand_limit * i + j) 0
    ∙ rows_at ns xs i j x e h

pub rows_none : (ns : List Node) {left : List Node} → left ≡ [] → rows_of ns left ≡ []
unfolding rows_of
rows_none ns e = ap (rows_of ns) e

-- slot j of node i in the array
pub row-slot : (ns : List Node) (ts : List ℕ) (i j : ℕ) (x : Node) → get_elem? ns i ≡ some x → j < operand_limit → length ns ≤ node_limit → length ts ≡ slot_limit
    → slot (sets ts 0 (rows_of ns ns)) i j ≡ target ns (get_elem? (reads x) j)
row-slot ns ts i j x e h few size =
    let l = length-rows ns ns in
    let b = at-below ns i x e in
    let z : operand_limit * i + j ≡ 0 + (operand_limit * i + j) = omega arith in
    ap (λ (k : ℕ). get_or (sets ts 0 (rows_of ns ns)) k 0) z
    ∙ sets-in (rows_of ns ns) ts 0 (operand_limit * i + j) (omega arith) (omega arith)
    ∙ rows_at ns ns i j x e h
    ∙ row_at ns x j h

pub rows-size : (ns : List Node) (ts : List ℕ) → length (sets ts 0 (rows_of ns ns)) ≡ length ts
rows-size ns ts = length-sets ts 0 (rows_of ns ns)

-- ---- the places

places-in : (n : ℕ) (s : List ℕ) (at i : ℕ) → i < n → get_or (places_of (nodes_at n s at)) i 0 ≡ node_place s at i
unfolding nodes_at node_place node_at
places-in zero s at i h = absurd (omega arith)
places-in (suc n) s at zero h = refl
places-in (suc n) s at (suc i) h = places-in n s (node_end s at) i (omega arith)

pub places-next : (s : List ℕ) {at : ℕ} {left rest : List Node} → left ≡ node_at s at ∷ rest → places_of left ≡ at ∷ places_of rest
unfolding node_at
places-next s e = ap places_of e

pub length-nodes : (n : ℕ) (s : List ℕ) (at : ℕ) → length (nodes_at n s at) ≡ n
unfolding nodes_at
length-nodes zero s at = refl
length-nodes (suc n) s at = ap suc (length-nodes n s (node_end s at))

length-places : (n : ℕ) (s : List ℕ) (at : ℕ) → length (places_of (nodes_at n s at)) ≡ n
length-places n s at = length-map (nodes_at n s at) (λ (x : Node). x.place) ∙ length-nodes n s at

-- the place of node i in the array
pub place_at : (s : List ℕ) (first count : ℕ) (ps : List ℕ) (i : ℕ) → i < count → count ≤ length ps
    → get_or (sets ps 0 (places_of (nodes_at count s first))) i 0 ≡ node_place s first i
place_at s first count ps i h l =
    let n = length-places count s first in
    let z : i ≡ 0 + i = omega arith in
    ap (λ (k : ℕ). get_or (sets ps 0 (places_of (nodes_at count s first))) k 0) z
    ∙ sets-in (places_of (nodes_at count s first)) ps 0 i (omega arith) (omega arith)
    ∙ places-in count s first i h

pub places-size : (ns : List Node) (ps : List ℕ) → length (sets ps 0 (places_of ns)) ≡ length ps
places-size ns ps = length-sets ps 0 (places_of ns)
