use Rattle.std.proofs.Common.{◌≡◌, sym, ap, ◌∙◌, subst, List, set, arith}
use Rattle.reader.specs.Find.{ReadsFunction}
use Rattle.sums.specs.declared.Sums.{Sums}
use Rattle.sums.specs.Capped.{capped_sums}
use Rattle.sums.proofs.Tabulate.{tabulate-none, tabulate-more, sums-in, read-true}
use Rattle.sums.proofs.all_sums.Goals as goal

pub loop-k-init : goal.loop-k-init
loop-k-init c = sym (tabulate-none (capped_sums c.args.table.now) c.args.sums.now)

pub invariant_of-early : goal.invariant_of-early
invariant_of-early c = let l = c.loop-k in
    let a = c.args in
    let (few, started) = c.requires.n_le_function_limit in
    record {
      few = omega arith;
      read = λ j h. read-true a.table.now _ (started.reads j (omega arith));
      places = λ j h. started.places j (omega arith);
      held = sums-in a.table.now a.sums.now l.sums l.k l.invariant (omega arith);
    }

pub next_sums-own-requires : goal.next_sums-own-requires
next_sums-own-requires c = let k = c.loop-k.k in
    let started = c.requires.n_le_function_limit.1 in
    let place = started.places k (omega arith) in
    (place, subst (ReadsFunction c.args.table.now) (sym place) (started.reads k (omega arith)))

pub loop-k-preserved : goal.loop-k-preserved
loop-k-preserved c = let l = c.loop-k in
    let a = c.args in
    ap (set l.sums l.k) c.next_sums-own.ensures
    ∙ ap (λ (xs : List Sums). set xs l.k (capped_sums a.table.now l.k)) l.invariant
    ∙ sym (tabulate-more (capped_sums a.table.now) a.sums.now l.k)

pub returns-clause-sums_held : goal.returns-clause-sums_held
returns-clause-sums_held c = let l = c.loop-k in
    let a = c.args in
    let few = c.requires.n_le_function_limit.0 in
    let last : l.k ≡ a.n = omega arith in
    sums-in a.table.now a.sums.now l.sums a.n (rw last at l.invariant) (omega arith)
