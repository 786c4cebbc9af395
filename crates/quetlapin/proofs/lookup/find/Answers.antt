use Rattle.std.proofs.Common.{◌≡◌, ◌≤◌, suc, refl, sym, ap, ◌∙◌, arith}
use Rattle.std.proofs.lemmas.Result.{err_from_is_err_and}
use Rattle.base.specs.Bytes.{Bytes}
use Rattle.base.specs.Limits.{function_limit}
use Rattle.base.specs.Outcome.{ok}
use Rattle.graph.specs.Judge.{verdict}
use Rattle.sums.specs.Position.{position_of, Accepted, Started}
use Rattle.sums.proofs.Accepted.{few-functions, all_read}
use Rattle.sums.proofs.Tabulate.{fewer-starts}
use Rattle.quetlapin.proofs.Choosing.{named-refused, named-at, named_none}
use Rattle.quetlapin.proofs.lookup.find.Goals.{In_ok-count, In-Some}
use Rattle.quetlapin.proofs.lookup.find.Goals as goal

pub returns-in_err-count : goal.returns-in_err-count
returns-in_err-count c =
    let p = err_from_is_err_and c.from_residual.result c.from_residual.ensures.1 in
    rw (p.1, p.2) (named-refused c.args.table.now c.args.id _ _ (sym c.in_err-count.ensures.value))

-- the table is accepted
accepted : (c : In_ok-count) → verdict c.args.table.now ≡ ok c.in_ok-count.count
accepted c = sym c.in_ok-count.ensures.value

small : (c : In_ok-count) → Bytes c.args.table.now
small c q = omega (arith, c.type_inv.table q)

few : (c : In_ok-count) → c.in_ok-count.count ≤ function_limit
few c = few-functions c.args.table.now c.in_ok-count.count (accepted c) (small c)

pub find_starts-requires : goal.find_starts-requires
find_starts-requires c = let g = (goal.at.find_starts-requires c).In_ok-count in
    (few g, all_read c.args.table.now c.in_ok-count.count (accepted g) (small g))

pub position_of-requires : goal.position_of-requires
position_of-requires c = (few (goal.at.position_of-requires c).In_ok-count, c.find_starts.ensures.started)

pub returns-in_default : goal.returns-in_default
returns-in_default c = let a = c.args in
    let n = c.in_ok-count.count in
    rw c.at.ensures (named_none a.table.now a.id n (position_of a.table.now n a.id) (accepted (goal.at.returns-in_default c).In_ok-count) refl (rw c.from.ensures at c.in_default.ensures.1))

pub measure-found-requires : goal.measure-found-requires
measure-found-requires c = let a = c.args in
    let g = (goal.at.measure-found-requires c).In_ok-count in
    let l = c.in-Some.ensures.1 in (
      record { functions = c.in_ok-count.count; judged = accepted g; most = omega arith; small = small g },
      fewer-starts a.table.now _ c.in_ok-count.count _ c.find_starts.ensures.started (omega arith),
    )

pub returns : goal.returns
returns c = let a = c.args in
    let g = (goal.at.returns c).In_ok-count in
    let l = c.in-Some.ensures.1 in
    let e : c.in-Some.position ≡ position_of a.table.now c.in_ok-count.count a.id = c.in-Some.ensures.0 ∙ ap (position_of a.table.now c.in_ok-count.count) c.from.ensures in
    record {
      accepted = record { functions = c.in_ok-count.count; judged = accepted g; most = omega arith; small = small g };
      named = named-at a.table.now a.id c.in_ok-count.count c.in-Some.position (accepted g) e (few g) l;
      sizes = c.measure-found.ensures.0;
      places = fewer-starts a.table.now _ c.in_ok-count.count _ c.find_starts.ensures.started (omega arith);
      held = c.measure-found.ensures.1;
    }
