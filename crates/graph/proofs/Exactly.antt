-- The verdict is what 01 gives: accepted exactly when the table meets the rules, and refused exactly with its first fault.
use Prim.Native.Nat.{ℕ}
use mathlib.Core.Path.{◌≡◌, ap, sym, ◌∙◌, subst}
use mathlib.Core.List.{List, [], reverse}
use mathlib.Core.Logic.{inl, inr, ⊎_elim, ◌↔◌}
use lib.ListN.{length, length-reverse}
use Rattle.base.specs.Outcome.{Outcome, ok, fault}
use Rattle.base.specs.Bytes.{Bytes}
use Rattle.graph.specs.Graph.{Function}
use Rattle.graph.specs.Format.{format_of}
use Rattle.graph.specs.Read.{parse}
use Rattle.graph.specs.Judge.{judge_all, table, verdict}
use Rattle.graph.specs.Checks.{Says, table_checks}
use Rattle.graph.specs.Rules.{Meets, Fault, of-header, of-reading, of-rules, Gives}
use Rattle.base.proofs.Outcomes.{took, after, takes, stops, goes, halts, took-fault, after-fault, no-fault, ok-is}
use Rattle.graph.proofs.Formats.{plain_of}
use Rattle.graph.proofs.Formed.{parse-written}
use Rattle.graph.proofs.Writes.{written-parse}
use Rattle.graph.proofs.First.{judged-is, all-judged}
use Rattle.graph.proofs.FrontToBack.{parse-fault, fault-parse}

module _ (s : List ℕ) where
  -- the functions of an accepted table, the last first
  pub table-back : (fs : List Function) → Meets (format_of s) s fs → table s ≡ ok (reverse fs)
  unfolding table
  table-back fs m =
      takes (parse (format_of s) s) _ fs (written-parse (format_of s) (plain_of s) s fs m.written)
      ∙ goes (judge_all [] fs) _ tt (judged-is (table_checks [] fs) (judge_all [] fs) (ok tt) (all-judged [] fs) m.rules)

  gives_back : (o : Outcome ℕ) → Gives (format_of s) s o → verdict s ≡ o
  unfolding verdict table
  gives_back (ok n) (fs, m, l) = takes (table s) _ (reverse fs) (table-back fs m) ∙ ap ok (length-reverse fs ∙ l)
  gives_back (fault n p) (of-header f) = stops (table s) _ n p (stops (parse (format_of s) s) _ n p (fault-parse (format_of s) s n p (inl f)))
  gives_back (fault n p) (of-reading a r) = stops (table s) _ n p (stops (parse (format_of s) s) _ n p (fault-parse (format_of s) s n p (inr (a, r))))
  gives_back (fault n p) (of-rules fs w f) =
      stops (table s) _ n p
      (takes (parse (format_of s) s) _ fs (written-parse (format_of s) (plain_of s) s fs w)
      ∙ halts (judge_all [] fs) _ n p (judged-is (table_checks [] fs) (judge_all [] fs) (fault n p) (all-judged [] fs) f))

  module _ (small : Bytes s) where
    pub table-there : (gs : List Function) → table s ≡ ok gs → (fs : List Function) × Meets (format_of s) s fs × (reverse fs ≡ gs)
    unfolding table
    table-there gs e =
        let (fs, q, e1) = took (parse (format_of s) s) _ gs e in
        let (u, j, e2) = after (judge_all [] fs) (ok (reverse fs)) gs e1 in
        (fs, record { written = parse-written (format_of s) (plain_of s) s small fs q; rules = subst (Says (table_checks [] fs)) j (all-judged [] fs).0 }, ok-is e2)

    fault-there : (n p : ℕ) → table s ≡ fault n p → Fault (format_of s) s n p
    unfolding table
    fault-there n p e =
        ⊎_elim (λ f. ⊎_elim of-header (λ (a, r). of-reading a r) (parse-fault (format_of s) s n p f))
        (λ (fs, f, g).
        ⊎_elim (λ j. of-rules fs (parse-written (format_of s) (plain_of s) s small fs f) (subst (Says (table_checks [] fs)) j (all-judged [] fs).0))
        (λ (u, j, r). absurd (no-fault (reverse fs) n p r)) (after-fault (judge_all [] fs) (ok (reverse fs)) n p g))
        (took-fault (parse (format_of s) s) _ n p e)

    gives-there : (o : Outcome ℕ) → verdict s ≡ o → Gives (format_of s) s o
    unfolding verdict
    gives-there (ok n) e =
        let (gs, p, e1) = took (table s) _ n e in
        let (fs, m, q) = table-there gs p in
        (fs, m, sym (length-reverse fs) ∙ ap length q ∙ ok-is e1)
    gives-there (fault n p) e =
        ⊎_elim (λ f. fault-there n p f) (λ (fs, q, f). absurd (no-fault (length fs) n p f)) (took-fault (table s) _ n p e)

    -- the verdict on bytes is what 01 gives, and only that
    pub verdict-iff : (o : Outcome ℕ) → (verdict s ≡ o) ↔ Gives (format_of s) s o
    verdict-iff o = (gives-there o, gives_back o)
