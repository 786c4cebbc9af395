-- 9: no earlier node has the id.
use Prim.Native.Nat.{ℕ, ◌+◌, ◌-◌, ◌<◌, ◌≤◌}
use mathlib.Core.Path.{◌≡◌, refl, ap, sym, ◌∙◌}
use mathlib.Core.Bool.{Bool, true, false, not, cond, ◌||◌}
use mathlib.Core.List.{List, [], ◌∷◌}
use mathlib.Core.Option.{some}
use native.Mathlib.Omega.{arith}
use lib.Dec.{eqb}
use lib.ListN.{length, set, take}
use Rattle.std.specs.List.{list_any}
use Rattle.std.proofs.lemmas.List.{take_more_set}
use Rattle.std.proofs.lemmas.List.Folds.{list_any-append}
use Rattle.base.specs.Outcome.{ok, fault}
use Rattle.base.specs.Bytes.{u16}
use Rattle.graph.specs.Graph.{Node}
use Rattle.graph.specs.Look.{find_node, found}
use Rattle.graph.specs.Judge.{fresh}
use Rattle.base.proofs.Outcomes.{passes, fails}
use Rattle.reader.specs.Layout.{node_at, nodes_at, node_place}
use Rattle.checker.proofs.Calls.{nodes-next}

-- ---- the nodes in turn

-- the first j of the nodes were passed, and their ids stand in the array
pub record Passing (s ids : List ℕ) (first count j : ℕ) : Type 0 where
  pub before : List Node
  pub same : fresh [] (nodes_at count s first) ≡ fresh before (nodes_at (count - j) s (node_place s first j))
  pub known : (id : ℕ) → found (find_node id before) ≡ list_any (λ y. eqb y id) (take j ids)

found-cons : (n : Node) (before : List Node) (id : ℕ) (b : Bool) → found (cond b (some n) (find_node id before)) ≡ cond b true (found (find_node id before))
found-cons n before id true = refl
found-cons n before id false = refl

any-more : (a r : Bool) → cond a true r ≡ (r || (a || false))
any-more true true = refl
any-more true false = refl
any-more false true = refl
any-more false false = refl

module _ {s ids : List ℕ} {first count j : ℕ} (h : Passing s ids first count j) (l : j < count) {v : ℕ} (q : v ≡ u16 s (node_place s first j)) where
  pub fresh-fault : list_any (λ y. eqb y v) (take j ids) ≡ true → fresh [] (nodes_at count s first) ≡ fault 9 (node_place s first j)
  unfolding node_at
  fresh-fault e = h.same ∙ ap (fresh h.before) (nodes-next s first count j l) ∙ fails _ 9 _ _ (ap not (h.known _ ∙ ap (λ (x : ℕ). list_any (λ y. eqb y x) (take j ids)) (sym q) ∙ e))

  pub fresh_on : list_any (λ y. eqb y v) (take j ids) ≡ false → j < length ids → Passing s (set ids j v) first count (j + 1)
  unfolding node_at
  fresh_on e b =
      let n = node_at s (node_place s first j) in record {
        before = n ∷ h.before;
        same = h.same ∙ ap (fresh h.before) (nodes-next s first count j l) ∙ passes _ 9 _ _ (ap not (h.known _ ∙ ap (λ (x : ℕ). list_any (λ y. eqb y x) (take j ids)) (sym q) ∙ e));
        known = λ id.
            found-cons n h.before id (eqb n.id id)
            ∙ ap (λ (x : Bool). cond (eqb n.id id) true x) (h.known id)
            ∙ ap (λ (x : ℕ). cond (eqb x id) true (list_any (λ y. eqb y id) (take j ids))) (sym q)
            ∙ any-more (eqb v id) (list_any (λ y. eqb y id) (take j ids))
            ∙ sym (list_any-append (λ y. eqb y id) (take j ids) (v ∷ []))
            ∙ ap (list_any (λ y. eqb y id)) (sym (take_more_set ids j v b));
      }

pub fresh_start : (s ids : List ℕ) (count first : ℕ) → Passing s ids first count 0
unfolding node_place
fresh_start s ids count first =
    let z : count ≡ count - 0 = omega arith in
    record { before = []; same = ap (λ (n : ℕ). fresh [] (nodes_at n s first)) z; known = λ id. refl }

pub fresh-done : {s ids : List ℕ} {first count j : ℕ} → Passing s ids first count j → count ≤ j → fresh [] (nodes_at count s first) ≡ ok tt
unfolding nodes_at
fresh-done {count = count} {j = j} h l = let z : count - j ≡ 0 = omega arith in h.same ∙ rw z
