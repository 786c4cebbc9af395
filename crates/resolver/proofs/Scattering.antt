-- What was found for a group goes to the rows of its nodes; the groups in turn.
use Prim.Native.Nat.{ℕ, suc, ◌+◌, ◌-◌, ◌*◌, ◌≤◌, ◌<◌}
use mathlib.Core.Path.{◌≡◌, refl, sym, ap, ◌∙◌}
use mathlib.Core.List.{List, [], ◌∷◌, ◌++◌, map, append_assoc}
use mathlib.Core.Option.{some}
use native.Mathlib.Omega.{arith}
use native.Mathlib.Nat.{add-zero, zero-add}
use lib.ListN.{length, get_or, length-append, length-map}
use lib.Seq.{sets}
use Rattle.base.specs.Limits.{operand_limit}
use Rattle.base.proofs.Stands.{cons_head, cons_tail}
use Rattle.base.proofs.Stores.{Run, run-start, run_more, run-done}
use Rattle.graph.specs.Graph.{Ref, Node}
use Rattle.graph.specs.Look.{reads}
use Rattle.reader.specs.declared.Reads.{Reads}
use Rattle.reader.specs.Layout.{node_at}
use Rattle.reader.specs.Find.{ReadsOf}
use Rattle.order.specs.Resolve.{index_of, target}
use Rattle.resolver.specs.Slots.{padded, row_of, rows_of, nodes_by}
use Rattle.resolver.specs.Groups.{ids_of, named, entries, rows_from, FoundAll, GroupDone}
use Rattle.resolver.proofs.ByPlaces.{by_all, by_next, by-none, length-by, by-split}
use Rattle.resolver.proofs.Rows.{length-padded, length-rows, rows_none}
use Rattle.resolver.proofs.Gathering.{ids-length}

-- ---- entries of an array

entries-are : (g : ℕ → ℕ) (xs found : List ℕ) (k : ℕ) → ((r : ℕ) → r < length xs → get_or found (k + r) 0 ≡ g (get_or xs r 0)) → entries (length xs) found k ≡ map g xs
unfolding entries
entries-are g [] found k h = refl
entries-are g (x ∷ xs) found k h =
    let a : get_or found k 0 ≡ g x = ap (λ (j : ℕ). get_or found j 0) (sym (add-zero k)) ∙ h 0 (omega arith) in
    let b : entries (length xs) found (k + 1) ≡ map g xs =
    entries-are g xs found (k + 1) (λ r l. let z : k + 1 + r ≡ k + suc r = omega arith in ap (λ (j : ℕ). get_or found j 0) z ∙ h (suc r) (omega arith)) in
    ap (λ (y : ℕ). y ∷ entries (length xs) found (k + 1)) a ∙ ap (λ (ys : List ℕ). g x ∷ ys) b

entries-split : (g : ℕ → ℕ) (xs ys found : List ℕ) (m : ℕ) → entries (length (xs ++ ys)) found m ≡ map g (xs ++ ys)
    → (entries (length xs) found m ≡ map g xs) × (entries (length ys) found (m + length xs) ≡ map g ys)
unfolding entries
entries-split g [] ys found m h = (refl, ap (λ (k : ℕ). entries (length ys) found k) (add-zero m) ∙ h)
entries-split g (x ∷ xs) ys found m h =
    let (a, b) = entries-split g xs ys found (m + 1) (cons_tail h) in
    let z : m + suc (length xs) ≡ m + 1 + length xs = omega arith in
    (ap (λ (y : ℕ). y ∷ entries (length xs) found (m + 1)) (cons_head h) ∙ ap (λ (t : List ℕ). g x ∷ t) a, ap (λ (k : ℕ). entries (length ys) found k) z ∙ b)

-- ---- from what was gathered and found

targets-are : (ns : List Node) (rs : List Ref) → map (λ w. index_of w ns) (ids_of rs) ≡ map (λ r. target ns (some r)) rs
targets-are ns [] = refl
targets-are ns (r ∷ rs) = ap (λ (xs : List ℕ). target ns (some r) ∷ xs) (targets-are ns rs)

-- the rows, where the entries are the indices of the ids
rows-found : (ns xs : List Node) (found : List ℕ) (m : ℕ) → entries (length (named xs)) found m ≡ map (λ w. index_of w ns) (named xs) → rows_from found m xs ≡ rows_of ns xs
unfolding named rows_from row_of rows_of
rows-found ns [] found m e = refl
rows-found ns (x ∷ xs) found m e =
    let c : length (ids_of (reads x)) ≡ length (reads x) = length-map (reads x) (λ (r : Ref). r.node) in
    let (a, b) = entries-split (λ w. index_of w ns) (ids_of (reads x)) (named xs) found m e in
    let row : padded operand_limit (entries (length (reads x)) found m) ≡ padded operand_limit (map (λ r. target ns (some r)) (reads x)) =
    ap (padded operand_limit) (ap (λ (k : ℕ). entries k found m) (sym c) ∙ a ∙ targets-are ns (reads x)) in
    let rest = rows-found ns xs found (m + length (reads x)) (ap (λ (k : ℕ). entries (length (named xs)) found (m + k)) (sym c) ∙ b) in
    ap (λ (r : List ℕ). r ++ rows_from found (m + length (reads x)) xs) row
    ∙ ap (λ (r : List ℕ). padded operand_limit (map (λ r. target ns (some r)) (reads x)) ++ r) rest

pub found_rows : (ns xs : List Node) (wanted found : List ℕ) → wanted ≡ named xs → FoundAll ns wanted found → rows_from found 0 xs ≡ rows_of ns xs
found_rows ns xs wanted found e f =
    rows-found ns xs found 0
    (entries-are (λ w. index_of w ns) (named xs) found 0 (λ q l.
    ap (λ (k : ℕ). get_or found k 0) (zero-add q) ∙ f q (omega (arith, l, ap length e)) ∙ ap (λ (w : List ℕ). index_of (get_or w q 0) ns) e))

-- ---- the nodes of a group in turn: n are passed, which have m references

pub record Scattering (s ps found targets₀ : List ℕ) (i nodes : ℕ) (targets : List ℕ) (n m : ℕ) : Type 0 where
  pub index : n ≤ nodes
  pub size : m + length (named (nodes_by s ps (i + n) (nodes - n))) ≡ length (named (nodes_by s ps i nodes))
  pub run : Run (rows_from found 0 (nodes_by s ps i nodes)) targets₀ (operand_limit * i) targets (operand_limit * (i + n)) (rows_from found m (nodes_by s ps (i + n) (nodes - n)))

module _ {s ps found targets₀ : List ℕ} {i nodes : ℕ} where
  pub scatter-start : Scattering s ps found targets₀ i nodes targets₀ 0 0
  scatter-start =
      record {
        index = omega arith;
        size = zero-add (length (named (nodes_by s ps (i + 0) (nodes - 0)))) ∙ ap (λ (ns : List Node). length (named ns)) (sym (by_all s ps i nodes));
        run = run-start (omega arith) (ap (rows_from found 0) (sym (by_all s ps i nodes)));
      }

  module _ {targets : List ℕ} {n m : ℕ} (h : Scattering s ps found targets₀ i nodes targets n m) (l : n < nodes) {p : ℕ} {r : Reads} (ep : p ≡ get_or ps (i + n) 0) (f : ReadsOf s p r) where
    rest : List Node
    rest = nodes_by s ps (i + (n + 1)) (nodes - (n + 1))

    left_is : nodes_by s ps (i + n) (nodes - n) ≡ node_at s p ∷ rest
    unfolding rest
    left_is = by_next s ps i nodes n l ∙ ap (λ (q : ℕ). node_at s q ∷ nodes_by s ps (i + (n + 1)) (nodes - (n + 1))) (sym ep)

    size_is : m + r.count + length (named rest) ≡ length (named (nodes_by s ps i nodes))
    unfolding named
    size_is =
        let a : length (named (nodes_by s ps (i + n) (nodes - n))) ≡ length (ids_of (reads (node_at s p))) + length (named rest) =
        ap (λ (ns : List Node). length (named ns)) left_is ∙ length-append (ids_of (reads (node_at s p))) (named rest) in
        let b : length (ids_of (reads (node_at s p))) ≡ r.count = length-map (reads (node_at s p)) (λ (x : Ref). x.node) ∙ ids-length s p r f in
        let c = h.size in
        omega (arith, a, b, c)

    -- the node's own entries are there
    pub scatter-fits : length (named (nodes_by s ps i nodes)) ≡ length found → m + r.count ≤ length found
    scatter-fits few = let a = size_is in omega (arith, a, few)

    pub scatter-step : {targets' : List ℕ} → targets' ≡ sets targets (operand_limit * (i + n)) (padded operand_limit (entries r.count found m))
        → Scattering s ps found targets₀ i nodes targets' (n + 1) (m + r.count)
    unfolding rest rows_from
    scatter-step e =
        let row = padded operand_limit (entries r.count found m) in
        let z = length-padded operand_limit (entries r.count found m) in
        let rows : rows_from found m (nodes_by s ps (i + n) (nodes - n)) ≡ row ++ rows_from found (m + r.count) rest =
        ap (rows_from found m) left_is ∙ ap (λ (c : ℕ). padded operand_limit (entries c found m) ++ rows_from found (m + c) rest) (ids-length s p r f) in
        record {
          index = omega arith;
          size = size_is;
          run = run_more h.run row rows e (omega (arith, z));
        }

  pub scatter-done : {targets : List ℕ} {n m : ℕ} → Scattering s ps found targets₀ i nodes targets n m → nodes ≤ n → targets ≡ sets targets₀ (operand_limit * i) (rows_from found 0 (nodes_by s ps i nodes))
  unfolding rows_from
  scatter-done {n = n} {m = m} h l = run-done h.run (ap (rows_from found m) (by-none s ps (i + n) nodes n l))

-- ---- the groups in turn: the rows of the nodes before i are done

pub record Resolving (s ps : List ℕ) (count : ℕ) (targets₀ targets : List ℕ) (i : ℕ) : Type 0 where
  pub index : i ≤ count
  pub run : let ns = nodes_by s ps 0 count in Run (rows_of ns ns) targets₀ 0 targets (operand_limit * i) (rows_of ns (nodes_by s ps i (count - i)))

rows_append : (ns xs ys : List Node) → rows_of ns (xs ++ ys) ≡ rows_of ns xs ++ rows_of ns ys
unfolding rows_of
rows_append ns [] ys = refl
rows_append ns (x ∷ xs) ys = ap (λ (r : List ℕ). row_of ns x ++ r) (rows_append ns xs ys) ∙ sym (append_assoc (row_of ns x) (rows_of ns xs) (rows_of ns ys))

module _ {s ps : List ℕ} {count : ℕ} {targets₀ : List ℕ} where
  pub resolve-start : Resolving s ps count targets₀ targets₀ 0
  resolve-start = record { index = omega arith; run = run-start refl (ap (rows_of (nodes_by s ps 0 count)) (let z : count - 0 ≡ count = omega arith in ap (nodes_by s ps 0) z)) }

  module _ {targets : List ℕ} {i : ℕ} (h : Resolving s ps count targets₀ targets i) where
    pub resolve-step : {targets' : List ℕ} {r : ℕ} → GroupDone s ps count i targets targets' r → Resolving s ps count targets₀ targets' r
    resolve-step {r = r} d =
        let ns = nodes_by s ps 0 count in
        let k = r - i in
        let o = d.on in
        let most = d.most in
        let whole : i + k ≡ r = omega arith in
        let size : length (rows_of ns (nodes_by s ps i k)) ≡ operand_limit * k = length-rows ns (nodes_by s ps i k) ∙ ap (λ (n : ℕ). operand_limit * n) (length-by s ps i k) in
        let z : count - i ≡ k + (count - r) = omega (arith, whole, most) in
        let rows : rows_of ns (nodes_by s ps i (count - i)) ≡ rows_of ns (nodes_by s ps i k) ++ rows_of ns (nodes_by s ps r (count - r)) =
        ap (λ (n : ℕ). rows_of ns (nodes_by s ps i n)) z ∙ ap (rows_of ns) (by-split s ps i k (count - r)) ∙ rows_append ns (nodes_by s ps i k) (nodes_by s ps (i + k) (count - r))
        ∙ ap (λ (j : ℕ). rows_of ns (nodes_by s ps i k) ++ rows_of ns (nodes_by s ps j (count - r))) whole in
        record { index = most; run = run_more h.run (rows_of ns (nodes_by s ps i k)) rows d.rows (omega (arith, whole, size)) }

    pub resolve-done : count ≤ i → let ns = nodes_by s ps 0 count in targets ≡ sets targets₀ 0 (rows_of ns ns)
    resolve-done l = run-done h.run (rows_none (nodes_by s ps 0 count) (by-none s ps i count i l))

-- the group's answer
pub group-done : (s ps : List ℕ) (count i : ℕ) (p q : List ℕ) (nodes : ℕ) → 0 < nodes → nodes ≤ count - i → i < count
    → q ≡ sets p (operand_limit * i) (rows_of (nodes_by s ps 0 count) (nodes_by s ps i nodes)) → GroupDone s ps count i p q (i + nodes)
group-done s ps count i p q nodes a b c f =
    let z : nodes ≡ i + nodes - i = omega arith in
    record {
      on = omega arith;
      most = omega arith;
      rows = f ∙ ap (λ (n : ℕ). sets p (operand_limit * i) (rows_of (nodes_by s ps 0 count) (nodes_by s ps i n))) z;
    }
