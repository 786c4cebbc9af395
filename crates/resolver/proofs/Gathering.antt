-- The ids that a group's references name, gathered.
use Prim.Native.Nat.{ℕ, zero, suc, ◌+◌, ◌-◌, ◌*◌, ◌≤◌, ◌<◌}
use mathlib.Core.Path.{◌≡◌, refl, sym, ap, ◌∙◌}
use mathlib.Core.List.{List, [], ◌∷◌, ◌++◌, append-nil, append_assoc}
use native.Mathlib.Omega.{arith}
use lib.ListN.{length, get_or, length-append, length-map}
use lib.Seq.{sets}
use Rattle.base.specs.Bytes.{u16}
use Rattle.graph.specs.Graph.{Ref, Node}
use Rattle.graph.specs.Look.{reads}
use Rattle.graph.specs.Read.{references}
use Rattle.graph.proofs.Formed.{refs-length}
use Rattle.reader.specs.Layout.{node_at}
use Rattle.reader.specs.declared.Reads.{Reads}
use Rattle.reader.specs.Find.{ReadsOf}
use Rattle.resolver.specs.Slots.{nodes_by}
use Rattle.resolver.specs.Groups.{ids_of, named, Gathered}
use Rattle.resolver.proofs.ByPlaces.{by_last}
use Rattle.base.proofs.Stores.{sets-append}
use Rattle.base.specs.Limits.{node_limit, operand_limit}

-- ---- one node's

pub ids-size : (s : List ℕ) (n q : ℕ) → length (ids_of (references n s q)) ≡ n
ids-size s n q = length-map (references n s q) (λ (r : Ref). r.node) ∙ refs-length n s q

pub ids-at : (s : List ℕ) (n q k : ℕ) → k < n → get_or (ids_of (references n s q)) k 0 ≡ u16 s (q + 3 * k)
ids-at s zero q k h = absurd (omega arith)
ids-at s (suc n) q zero h = let z : q ≡ q + 3 * 0 = omega arith in ap (u16 s) z
ids-at s (suc n) q (suc k) h = let z : q + 3 + 3 * k ≡ q + 3 * suc k = omega arith in ids-at s n (q + 3) k (omega arith) ∙ ap (u16 s) z

-- ---- the nodes in turn

named-append : (xs ys : List Node) → named (xs ++ ys) ≡ named xs ++ named ys
unfolding named
named-append [] ys = refl
named-append (x ∷ xs) ys = ap (λ (zs : List ℕ). ids_of (reads x) ++ zs) (named-append xs ys) ∙ sym (append_assoc (ids_of (reads x)) (named xs) (named ys))

named-one : (x : Node) → named (x ∷ []) ≡ ids_of (reads x)
unfolding named
named-one x = append-nil (ids_of (reads x))

some-nodes : (s ps : List ℕ) (i n m : ℕ) → m ≡ length (named (nodes_by s ps i n)) → 0 < m → 0 < n
unfolding named nodes_by
some-nodes s ps i zero m e h = absurd (omega (arith, e, h))
some-nodes s ps i (suc n) m e h = omega arith

-- the references of a node that was read
pub ids-length : (s : List ℕ) (p : ℕ) (r : Reads) → ReadsOf s p r → length (reads (node_at s p)) ≡ r.count
ids-length s p r h = ap length h.refs ∙ refs-length r.count s r.first

-- n nodes are passed, which name m ids
pub record Gathering (s ps : List ℕ) (i left : ℕ) (wanted₀ wanted : List ℕ) (n m : ℕ) : Type 0 where
  pub most : n ≤ left
  pub fits : m ≤ node_limit
  pub size : m ≡ length (named (nodes_by s ps i n))
  pub ids : wanted ≡ sets wanted₀ 0 (named (nodes_by s ps i n))

module _ {s ps : List ℕ} {i left : ℕ} {wanted₀ : List ℕ} where
  pub gather-start : Gathering s ps i left wanted₀ wanted₀ 0 0
  unfolding named nodes_by
  gather-start = record { most = omega arith; fits = omega arith; size = refl; ids = refl }

  module _ {wanted : List ℕ} {n m : ℕ} (h : Gathering s ps i left wanted₀ wanted n m) where
    pub gather-step : {wanted' : List ℕ} {p : ℕ} {r : Reads} → n < left → m ≤ node_limit - operand_limit → p ≡ get_or ps (i + n) 0 → ReadsOf s p r
        → wanted' ≡ sets wanted m (ids_of (references r.count s r.first)) → Gathering s ps i left wanted₀ wanted' (n + 1) (m + r.count)
    gather-step {p = p} {r = r} l f ep reads-are ew =
        let few = reads-are.few in
        let a : length ids ≡ r.count = ids-size s r.count r.first in
        let b : length (named (nodes_by s ps i (n + 1))) ≡ length old + length ids = ap length whole ∙ length-append old ids in
        let c = h.size in
        record {
          most = omega arith;
          fits = omega arith;
          size = omega (arith, a, b, c);
          ids =
              ew ∙ ap (λ (w : List ℕ). sets w m ids) h.ids ∙ ap (λ (k : ℕ). sets (sets wanted₀ 0 old) k ids) start
              ∙ sym (sets-append old ids wanted₀ 0) ∙ ap (sets wanted₀ 0) (sym whole);
        }
      where
        ids : List ℕ
        ids = ids_of (references r.count s r.first)

        old : List ℕ
        old = named (nodes_by s ps i n)

        start : m ≡ 0 + length old
        start = let c = h.size in omega (arith, c)

        whole : named (nodes_by s ps i (n + 1)) ≡ old ++ ids
        whole =
            ap named (by_last s ps i n) ∙ named-append (nodes_by s ps i n) (node_at s (get_or ps (i + n) 0) ∷ [])
            ∙ ap (λ (xs : List ℕ). old ++ xs) (named-one (node_at s (get_or ps (i + n) 0)))
            ∙ ap (λ (q : ℕ). old ++ ids_of (reads (node_at s q))) (sym ep) ∙ ap (λ (rs : List Ref). old ++ ids_of rs) reads-are.refs

    pub gather-full : 0 < m → Gathered s ps i left wanted₀ wanted (record { nodes = n; refs = m })
    gather-full l = record { some = some-nodes s ps i n m h.size l; most = h.most; fits = h.fits; size = h.size; ids = h.ids }

    pub gather-done : 0 < left → left ≤ n → Gathered s ps i left wanted₀ wanted (record { nodes = n; refs = m })
    gather-done l e = record { some = omega arith; most = h.most; fits = h.fits; size = h.size; ids = h.ids }
