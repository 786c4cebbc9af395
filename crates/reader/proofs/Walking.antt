-- The nodes of a function in turn, i of them passed.
use Prim.Native.Nat.{ℕ, suc, ◌+◌, ◌-◌, ◌≤◌, ◌<◌}
use mathlib.Core.Path.{◌≡◌, sym, ap, ◌∙◌, subst}
use mathlib.Core.List.{List, [], ◌∷◌}
use native.Mathlib.Omega.{arith}
use lib.ListN.{length}
use Rattle.base.specs.Limits.{kind_limit}
use Rattle.ports.specs.Ports.{ports_of, ports_at}
use Rattle.ports.proofs.Laws.{row_of}
use Rattle.base.specs.Bytes.{byte}
use Rattle.reader.specs.Layout.{kind_at, node_at, node_end, nodes_at}
use Rattle.reader.specs.Find.{ReadsNode, ReadsNodes}
use Rattle.reader.proofs.Passed.{head-fits, first_reads, rest-reads, kind-below}

-- the node at a place, which was read
pub record Here (s : List ℕ) (at : ℕ) : Type 0 where
  pub reads : ReadsNode s at
  pub head : at + 4 ≤ length s
  pub kind : byte s (at + 2) < kind_limit

pub node-here : (s : List ℕ) (at : ℕ) → ReadsNode s at → Here s at
node-here s at r = record { reads = r; head = head-fits s at r; kind = kind-below s at r }

-- the row of its kind, from the table
pub row_here : (s : List ℕ) (at : ℕ) {k : ℕ} → k ≡ byte s (at + 2) → ports_at k ≡ ports_of (kind_at s at)
row_here s at e = ap ports_at e ∙ row_of (byte s (at + 2))

pub record Passed (s : List ℕ) (count at i : ℕ) : Type 0 where
  pub index : i ≤ count
  pub reads : ReadsNodes (count - i) s at

module _ {s : List ℕ} {count : ℕ} where
  pub pass-start : {at : ℕ} → ReadsNodes count s at → Passed s count at 0
  pass-start {at} r =
      let z : count - 0 ≡ count = omega arith in
      record { index = omega arith; reads = subst (λ (n : ℕ). ReadsNodes n s at) (sym z) r }

  pub pass-here : {at i : ℕ} → Passed s count at i → i < count → Here s at
  pass-here {at} {i} h l = node-here s at (first_reads s (count - i) at (omega arith) h.reads)

  pub pass_step : {at at' i : ℕ} → Passed s count at i → i < count → at' ≡ node_end s at → Passed s count at' (i + 1)
  pass_step {at} {at'} {i} h l e =
      let m : count - i - 1 ≡ count - (i + 1) = omega arith in
      record {
        index = omega arith;
        reads = subst (λ (n : ℕ). ReadsNodes n s at') m (subst (λ (p : ℕ). ReadsNodes (count - i - 1) s p) (sym e) (rest-reads s (count - i) at (omega arith) h.reads));
      }

-- ---- the nodes that are left

module _ (s : List ℕ) (count : ℕ) where
  pub left-next : (at at' i : ℕ) → i < count → at' ≡ node_end s at → nodes_at (count - i) s at ≡ node_at s at ∷ nodes_at (count - (i + 1)) s at'
  unfolding nodes_at
  left-next at at' i l e =
      let m : count - i ≡ suc (count - (i + 1)) = omega arith in
      ap (λ (n : ℕ). nodes_at n s at) m ∙ ap (λ (p : ℕ). node_at s at ∷ nodes_at (count - (i + 1)) s p) (sym e)

  pub left-none : (at i : ℕ) → count ≤ i → nodes_at (count - i) s at ≡ []
  unfolding nodes_at
  left-none at i l = let z : count - i ≡ 0 = omega arith in ap (λ (n : ℕ). nodes_at n s at) z

  pub left-all : (at : ℕ) → nodes_at count s at ≡ nodes_at (count - 0) s at
  left-all at = let z : count ≡ count - 0 = omega arith in ap (λ (n : ℕ). nodes_at n s at) z
