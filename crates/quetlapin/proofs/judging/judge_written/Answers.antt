-- `quetlapin::judge_written`: the list of version 1 is written, then the judge.
use Rattle.std.proofs.Common.{ℕ, ◌≤◌, sym, ◌∙◌, length, replicate, arith}
use lib.ListN.{length-replicate}
use lib.Seq.{length-take-le}
use Rattle.validator.specs.Sizes.{list_limit}
use Rattle.quetlapin.proofs.Proposing.{writable, code-there, list_written, judgeable, judged-counted}
use Rattle.quetlapin.proofs.judging.judge_written.Goals as goal

pub compile_prepared-requires-clause-accepted : goal.compile_prepared-requires-clause-accepted
compile_prepared-requires-clause-accepted c = let f = c.requires.ready.0.1.found in (f.accepted, f.places, c.requires.ready.1)

pub compile_prepared-requires-clause-measured : goal.compile_prepared-requires-clause-measured
compile_prepared-requires-clause-measured c = writable c.requires.ready.0 (replicate list_limit 0) (length-replicate {A = ℕ} list_limit 0)

pub slice_bounds-list-end : goal.slice_bounds-list-end
slice_bounds-list-end c = code-there c.requires.ready.0 (replicate list_limit 0) (length-replicate {A = ℕ} list_limit 0) c.compile_prepared.ensures

pub slice_bounds-judge-end : goal.slice_bounds-judge-end
slice_bounds-judge-end c =
    sym (length-take-le _ _ (code-there c.requires.ready.0 (replicate list_limit 0) (length-replicate {A = ℕ} list_limit 0) c.compile_prepared.ensures))

pub judge-requires : goal.judge-requires
judge-requires c =
    judgeable c.requires.ready.0 c.requires.comparable c.args.layout.now.order c.args.layout.now.locations
    (list_written c.requires.ready.0 (replicate list_limit 0) (length-replicate {A = ℕ} list_limit 0) c.compile_prepared.ensures) (omega arith) (omega arith)

pub returns : goal.returns
returns c =
    c.judge.ensures
    ∙ judged-counted c.requires.ready.0 c.requires.comparable (list_written c.requires.ready.0 (replicate list_limit 0) (length-replicate {A = ℕ} list_limit 0) c.compile_prepared.ensures)
