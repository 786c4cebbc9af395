-- 13 as the verdict on a whole table: where nothing before it fails, exactly when a function's nodes have no order.
use Prim.Native.Nat.{ℕ, ◌≤◌}
use mathlib.Core.Path.{◌≡◌, refl, ap, subst}
use mathlib.Core.List.{List, [], ◌∷◌, ◌++◌, reverse, reverse_aux}
use mathlib.Core.Logic.{inl, inr, ⊎_elim, ◌↔◌}
use native.Mathlib.Omega.{arith}
use Rattle.base.specs.Lists.{Is}
use Rattle.base.specs.Outcome.{fault}
use Rattle.base.specs.Bytes.{Bytes}
use Rattle.graph.specs.Graph.{Node, Function}
use Rattle.graph.specs.Format.{Format, format_of}
use Rattle.graph.specs.Judge.{verdict}
use Rattle.graph.specs.Formed.{Formed}
use Rattle.graph.specs.Written.{Written}
use Rattle.graph.specs.Orders.{FirstOnLoop, Orders}
use Rattle.graph.specs.Checks.{All, First, id_checks, loop_checks, link_checks, function_checks, table_checks}
use Rattle.graph.specs.Reading.{header_checks}
use Rattle.graph.specs.Rules.{Fault, of-header, of-reading, of-rules, LoopFault}
use Rattle.base.proofs.Outcomes.{is-each}
use Rattle.graph.proofs.First.{all_append, all_split, first-left, first-right, first-split, first-loop}
use Rattle.graph.proofs.Accept.{links-resolved}
use Rattle.graph.proofs.Fresh.{ids-distinct}
use Rattle.graph.proofs.Order.{no-order-loop}
use Rattle.graph.proofs.Ranges.{Anywhere, anywhere, Rule, first-ranged, header-range, reading-range, link-range}
use Rattle.graph.proofs.Exactly.{verdict-iff}

-- ---- only 13 is 13

links-not-13 : (early : List Function) (f : Function) (p : ℕ) → First (link_checks early f) 13 p → ⊥
links-not-13 early f p h =
    let (a, b, c) = first-ranged (Rule Anywhere 12) (link_checks early f) 13 p (link-range Anywhere 12 (omega arith) early f (anywhere f)) h in
    omega arith

-- ---- the function that has the loop

abbrev Looping : List Function → List Function → ℕ → Type 0
Looping early fs p =
    (before : List Function) × (f : Function) × (behind : List Function) × (fs ≡ before ++ f ∷ behind) × All (table_checks early before)
    × All (link_checks (reverse_aux before early) f)
    × First (loop_checks f.nodes f.nodes) 13 p

first-13 : (early fs : List Function) (p : ℕ) → First (table_checks early fs) 13 p → Looping early fs p
first-13 early [] p h = absurd h
first-13 early (f ∷ fs) p h = ⊎_elim here (λ (a, g). later a (first-13 (f ∷ early) fs p g)) (first-split (function_checks early f) (table_checks (f ∷ early) fs) 13 p h)
  where
    here : First (function_checks early f) 13 p → Looping early (f ∷ fs) p
    here g =
        ⊎_elim (λ x. absurd (links-not-13 early f p x)) (λ (a, l). ([], f, fs, refl, tt, a, l))
        (first-split (link_checks early f) (loop_checks f.nodes f.nodes) 13 p g)

    later : All (function_checks early f) → Looping (f ∷ early) fs p → Looping early (f ∷ fs) p
    later a (before, x, behind, e, b, l, y) =
        (f ∷ before, x, behind, ap (λ (gs : List Function). f ∷ gs) e, all_append (function_checks early f) (table_checks (f ∷ early) before) a b, l, y)

first-13-back : (early before : List Function) (f : Function) (behind : List Function) (p : ℕ) → All (table_checks early before)
    → All (link_checks (reverse_aux before early) f) → First (loop_checks f.nodes f.nodes) 13 p → First (table_checks early (before ++ f ∷ behind)) 13 p
first-13-back early [] f behind p a l h =
    first-left (function_checks early f) (table_checks (f ∷ early) behind) 13 p (first-right (link_checks early f) (loop_checks f.nodes f.nodes) 13 p l h)
first-13-back early (g ∷ before) f behind p a l h =
    let (x, y) = all_split (function_checks early g) (table_checks (g ∷ early) before) a in
    first-right (function_checks early g) (table_checks (g ∷ early) (before ++ f ∷ behind)) 13 p x (first-13-back (g ∷ early) before f behind p y l h)

-- ---- the verdict

module _ (format : Format) (s : List ℕ) (p : ℕ) where
  fault-there : Fault format s 13 p → LoopFault format s p
  fault-there (of-header f) =
      let (a, b, c) = first-ranged (λ n q. (1 ≤ n) × (n ≤ 6) × (q ≤ 6)) (header_checks format s) 13 p (header-range format s) f in
      absurd (omega arith)
  fault-there (of-reading a r) = let (x, y, z) = reading-range format.node_limit s r in absurd (omega arith)
  fault-there (of-rules fs w f) =
      let (before, x, behind, e, a, l, y) = first-13 [] fs p f in
      let (m, o, q, r) = (first-loop x.nodes 13 p).0 y in
      record {
        before = before;
        function = x;
        behind = behind;
        written = subst (Written format s) e w;
        earlier = a;
        links = l;
        node = m;
        first = o;
        place = r;
      }

  fault-back : LoopFault format s p → Fault format s 13 p
  fault-back l =
      of-rules (l.before ++ l.function ∷ l.behind) l.written
      (first-13-back [] l.before l.function l.behind p l.earlier l.links
      ((first-loop l.function.nodes 13 p).1 (l.node, l.first, refl, l.place)))

  pub fault-13 : Fault format s 13 p ↔ LoopFault format s p
  fault-13 = (fault-there, fault-back)

stands : (before : List Function) (f : Function) (behind : List Function) → Is f (before ++ f ∷ behind)
stands [] f behind = inl refl
stands (g ∷ before) f behind = inr (stands before f behind)

module _ (s : List ℕ) (small : Bytes s) where
  -- 13 with its place
  pub verdict-13 : (p : ℕ) → (verdict s ≡ fault 13 p) ↔ LoopFault (format_of s) s p
  verdict-13 p =
      let i = verdict-iff s small (fault 13 p) in
      let j = fault-13 (format_of s) s p in
      (λ e. j.0 (i.0 e), λ l. i.1 (j.1 l))

  -- where no earlier fault stands, 13 is given exactly when no order puts each node of the function after all that it reads
  pub no-order-verdict : (before : List Function) (f : Function) (behind : List Function) → Written (format_of s) s (before ++ f ∷ behind)
      → All (table_checks [] before) → All (link_checks (reverse before) f)
      → ((m : Node) × FirstOnLoop f.nodes m × (verdict s ≡ fault 13 m.place)) ↔ ((os : List Node) → Orders f.nodes os → ⊥)
  no-order-verdict before f behind w a l = (λ (m, o, e). loop.0 (m, o), back)
    where
      loop : ((m : Node) × FirstOnLoop f.nodes m) ↔ ((os : List Node) → Orders f.nodes os → ⊥)
      loop =
          let formed = is-each Formed (before ++ f ∷ behind) w.formed f (stands before f behind) in
          no-order-loop (reverse before) f (links-resolved (reverse before) f formed l) (ids-distinct [] f.nodes (all_split (id_checks [] f.nodes) _ l.1).0)

      back : ((os : List Node) → Orders f.nodes os → ⊥) → (m : Node) × FirstOnLoop f.nodes m × (verdict s ≡ fault 13 m.place)
      back h =
          let (m, o) = loop.1 h in (
            m,
            o,
            (verdict-13 m.place).1
                (record { before = before; function = f; behind = behind; written = w; earlier = a; links = l; node = m; first = o; place = refl }),
          )
