-- The loops that fill the layout's arrays, in plain terms.
use Prim.Native.Nat.{ℕ, zero, suc, ◌+◌, ◌-◌, ◌*◌, ◌/◌, ◌%◌, ◌≤◌, ◌<◌}
use mathlib.Core.Path.{◌≡◌, refl, sym, ap, ◌∙◌, subst}
use mathlib.Core.Bool.{Bool, true, false, cond}
use mathlib.Core.List.{List, [], ◌∷◌, map}
use mathlib.Core.Option.{some}
use native.Mathlib.Omega.{arith}
use lib.Dec.{eqb}
use lib.ListN.{length, get_or, set, replicate, take, drop, length-set, length-replicate, get_or-eq_default}
use Rattle.std.proofs.lemmas.List.{drop_more, drop_all, length-take, length-drop}
use lib.Seq.{sets}
use Rattle.base.specs.Limits.{node_limit, slot_limit, no_node}
use Rattle.base.proofs.Numbers.{one_less}
use Rattle.base.specs.Bytes.{byte}
use Rattle.base.specs.Lists.{span}
use Rattle.graph.specs.Graph.{Node}
use Rattle.graph.specs.Read.{reference}
use Rattle.reader.specs.Layout.{nodes_at}
use Rattle.std.specs.Prelude.{Option, Some, None}
use Rattle.reader.specs.Find.{node_found, found_at}
use Rattle.reader.specs.declared.Found.{Found}
use Rattle.order.specs.Indices.{slot}
use Rattle.order.specs.Resolve.{index_from, index_of, target}
use Rattle.sums.specs.Answers.{types_by}
use Rattle.lowering.specs.Naming.{name_step, names}
use Rattle.compiler.specs.Emit.{address_of, addresses_in, relocate, noted}
use Rattle.compiler.specs.Locating.{Slots, port_code, read_codes, rebased_code, rebased_codes, result_codes, output_codes}
use Rattle.resolver.specs.Slots.{rows_of, places_of, PlacesAre, nodes_by}
use Rattle.resolver.proofs.ByPlaces.{all-by}
use Rattle.resolver.proofs.Rows.{length-nodes, place_at, row-slot, rows-size}

-- ---- what is stored next, where j of n elements are stored

-- over a list, from its j-th element on
pub map-next : (f : ℕ → ℕ) (xs : List ℕ) {j a : ℕ} → j < length xs → a ≡ f (get_or xs j 0) → map f (drop j xs) ≡ a ∷ map f (drop (j + 1) xs)
map-next f xs {j} h e = ap (map f) (drop_more xs j 0 h) ∙ ap (λ (y : ℕ). y ∷ map f (drop (j + 1) xs)) (sym e)

pub map-none : (f : ℕ → ℕ) (xs : List ℕ) {j : ℕ} → length xs ≤ j → map f (drop j xs) ≡ []
map-none f xs {j} h = ap (map f) (drop_all j xs h)

-- the locations from c on, as a part of them
pub addresses-part : (xs ins : List ℕ) (first n c : ℕ) → c + n ≤ length xs → {k : ℕ} → k ≡ n → addresses_in xs ins first c n ≡ map (address_of ins first) (take k (drop c xs))
unfolding addresses_in
addresses-part xs ins first zero c l {k} e = rw e refl
addresses-part xs ins first (suc n) c l {k} e =
    rw (e, drop_more xs c 0 (omega arith)) (ap (λ (ys : List ℕ). address_of ins first (get_or xs c 0) ∷ ys) (addresses-part xs ins first n (c + 1) (omega arith) refl))

pub part-length : (xs : List ℕ) (n c : ℕ) → c + n ≤ length xs → {k : ℕ} → k ≡ n → length (take k (drop c xs)) ≡ n
part-length xs n c l {k} e = grind (arith, length-take, length-drop)

pub span-next : (a : ℕ) {n j : ℕ} → j < n → span (a + j) (n - j) ≡ (a + j) ∷ span (a + (j + 1)) (n - (j + 1))
span-next a {n} {j} h = let z : a + (j + 1) ≡ suc (a + j) = omega arith in rw z (ap (span (a + j)) (one_less n j h))

pub names-next : {n j : ℕ} → j < n → names j (n - j) ≡ (name_step * j) ∷ names (j + 1) (n - (j + 1))
names-next {n} {j} h =
    let z : suc j ≡ j + 1 = omega arith in
    ap (names j) (one_less n j h) ∙ ap (λ (i : ℕ). (name_step * j) ∷ names i (n - (j + 1))) z

pub types-next : (step : ℕ) (s : List ℕ) (q : ℕ) {n j : ℕ} → j < n → types_by step (n - j) s q ≡ byte s q ∷ types_by step (n - (j + 1)) s (q + step)
types-next step s q {n} {j} h = ap (λ (m : ℕ). types_by step m s q) (one_less n j h)

pub reads-next : (s ts allocated : List ℕ) (b q : ℕ) {n j a : ℕ} → j < n → a ≡ port_code allocated (get_or ts (b + j) 0) (byte s (q + 2))
    → read_codes s ts allocated (b + j) (n - j) q ≡ a ∷ read_codes s ts allocated (b + (j + 1)) (n - (j + 1)) (q + 3)
unfolding read_codes
reads-next s ts allocated b q {n} {j} h e =
    let z : b + (j + 1) ≡ b + j + 1 = omega arith in
    rw (z, e) (ap (λ (m : ℕ). read_codes s ts allocated (b + j) m q) (one_less n j h))

pub rebase-next : (outs locations : List ℕ) (cell n d b : ℕ) {m j a : ℕ} → j < m → a ≡ rebased_code locations cell n d (get_or outs (b + j) 0)
    → rebased_codes outs locations cell n d (b + j) (m - j) ≡ a ∷ rebased_codes outs locations cell n d (b + (j + 1)) (m - (j + 1))
unfolding rebased_codes
rebase-next outs locations cell n d b {m} {j} h e =
    let z : b + (j + 1) ≡ b + j + 1 = omega arith in
    rw (z, e) (ap (λ (x : ℕ). rebased_codes outs locations cell n d (b + j) x) (one_less m j h))

pub results_next : (e w : ℕ) {m j : ℕ} → j < m → result_codes e w (m - j) ≡ e ∷ result_codes (e + w) w (m - (j + 1))
unfolding result_codes
results_next e w {m} {j} h = ap (result_codes e w) (one_less m j h)

pub outputs-next : (s allocated : List ℕ) (xs : List Node) (q : ℕ) {m j a : ℕ} → j < m → a ≡ port_code allocated (target xs (some (reference s (q + 1)))) (byte s (q + 1 + 2))
    → output_codes s allocated xs (m - j) q ≡ a ∷ output_codes s allocated xs (m - (j + 1)) (q + 4)
unfolding output_codes
outputs-next s allocated xs q {m} {j} h e = rw e (ap (λ (x : ℕ). output_codes s allocated xs x q) (one_less m j h))

-- ---- the places of values

-- a value past the end of the list has the place 0
pub unplaced : (place : List ℕ) (a : ℕ) → length place ≤ a / name_step → a % name_step ≡ relocate place a
unplaced place a h = let z = get_or-eq_default place 0 h in rw z (omega arith)

-- the values of these names are to have x; those of the names left do not have it yet
pub record Noting (place₀ : List ℕ) (x : ℕ) (names place left : List ℕ) : Type 0 where
  pub same : length place ≡ length place₀
  pub rest : noted place₀ x names ≡ noted place x left

module _ {place₀ : List ℕ} {x : ℕ} {names place left : List ℕ} (h : Noting place₀ x names place left) where
  pub note-more : {a v : ℕ} {place' left' : List ℕ} → left ≡ a ∷ left' → v ≡ a → place' ≡ set place (v / name_step) x → Noting place₀ x names place' left'
  note-more {a} {v} {place'} {left'} el ev ep =
      let e : place' ≡ set place (a / name_step) x = ep ∙ ap (λ (y : ℕ). set place (y / name_step) x) ev in
      record { same = ap length e ∙ length-set place (a / name_step) x ∙ h.same; rest = h.rest ∙ ap (noted place x) el ∙ ap (λ (ps : List ℕ). noted ps x left') (sym e) }

  pub note-done : left ≡ [] → place ≡ noted place₀ x names
  note-done e = sym (h.rest ∙ ap (noted place x) e)

-- ---- the index of an id

-- what the search gives is the index v, which is below m, or none
abbrev Indexed : ℕ → ℕ → Option Found → Type 0
Indexed v m (Some f) = (f.index ≡ v) × (v < m)
Indexed v m None = v ≡ no_node

indexed : (i id : ℕ) (ns : List Node) → Indexed (index_from i id ns) (i + length ns) (node_found i id ns)
indexed i id [] = refl
indexed i id (n ∷ ns) = pick_one (eqb n.id id) (node_found (i + 1) id ns) (indexed (i + 1) id ns)
  where
    pick_one : (b : Bool) (r : Option Found) → Indexed (index_from (i + 1) id ns) (i + 1 + length ns) r
        → Indexed (cond b i (index_from (i + 1) id ns)) (i + suc (length ns)) (cond b (found_at i n.place) r)
    pick_one true r h = (refl, omega arith)
    pick_one false (Some f) (e, l) = (e, omega arith)
    pick_one false None h = h

pub found-index : (id : ℕ) (ns : List Node) (f : Found) → Some f ≡ node_found 0 id ns → (f.index ≡ index_of id ns) × (index_of id ns < length ns)
found-index id ns f e =
    let (a, b) = subst (Indexed (index_of id ns) (0 + length ns)) (sym e) (indexed 0 id ns) in
    (a, omega arith)

pub none-index : (id : ℕ) (ns : List Node) → None ≡ node_found 0 id ns → index_of id ns ≡ no_node
none-index id ns e = subst (Indexed (index_of id ns) (0 + length ns)) (sym e) (indexed 0 id ns)

-- ---- what the resolver gives

module _ (s : List ℕ) (at n : ℕ) (few : n ≤ node_limit) (ps : List ℕ) (h : ps ≡ sets (replicate node_limit 0) 0 (places_of (nodes_at n s at))) where
  pub places-are : PlacesAre s at n ps
  places-are i l = ap (λ (xs : List ℕ). get_or xs i 0) h ∙ place_at s at n _ i l (rw length-replicate (omega arith))

  pub slots-are : {ts : List ℕ} → ts ≡ sets (replicate slot_limit 0) 0 (rows_of (nodes_by s ps 0 n) (nodes_by s ps 0 n)) → Slots s at n ts
  slots-are {ts} e =
      let ns = nodes_at n s at in
      let z = length-nodes n s at in
      let l = length-replicate {A = ℕ} slot_limit 0 in
      let f : ts ≡ sets (replicate slot_limit 0) 0 (rows_of ns ns) = e ∙ ap (λ (xs : List Node). sets (replicate slot_limit 0) 0 (rows_of xs xs)) (all-by s ps n at places-are) in
      record {
        size = ap length f ∙ rows-size ns (replicate slot_limit 0) ∙ l;
        slots = λ i j x g jl. ap (λ (xs : List ℕ). slot xs i j) f ∙ row-slot ns (replicate slot_limit 0) i j x g jl (omega arith) l;
      }
