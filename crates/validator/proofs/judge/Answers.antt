use Rattle.std.proofs.Common.{ℕ, ◌≤◌, ◌+◌, ◌-◌, refl, ap, sym, ◌∙◌, subst, arith, length}
use Rattle.base.specs.Limits.{header_length, word_limit}
use Rattle.base.specs.Outcome.{fault}
use Rattle.base.specs.Refusals.{number}
use Rattle.base.specs.declared.refusal.Refusal.{Refusal}
use Rattle.validator.specs.Tests.{results_from}
use Rattle.validator.proofs.Following.{kept, going-first, listable, arguments-room, kind-there, number-there, steppable, wrong, going_next, outputs-there, refused, accepted, outputs-wrong}
use Rattle.validator.proofs.judge.Goals as goal

pub index_list-requires : goal.index_list-requires
index_list-requires c = listable c.requires

pub overflow_sub-total : goal.overflow_sub-total
overflow_sub-total c = (arguments-room c.requires).0

pub note_arguments-requires : goal.note_arguments-requires
note_arguments-requires c =
    let a = c.args in
    let room = arguments-room c.requires in
    let size = kept a.words.now word_limit (results_from a.count a.ours.now header_length a.arguments) c.index_list.ensures.1 in
    (subst (λ (n : ℕ). a.arguments + (a.total - a.arguments) ≤ n) (sym size) room.1, room.2)

pub loop-p-init : goal.loop-p-init
loop-p-init c =
    let a = c.args in (
      length a.index.now,
      length a.words.now,
      c.requires,
      going-first c.requires a.index.now a.words.now refl refl c.index_list.ensures.0 c.index_list.ensures.1 c.note_arguments.ensures,
    )

pub bounds-code-at : goal.bounds-code-at
bounds-code-at c = let (n, w, j, g) = c.loop-p.invariant in (kind-there j g c.loop-p-test.true).0

pub bounds-numbers-p : goal.bounds-numbers-p
bounds-numbers-p c = let (n, w, j, g) = c.loop-p.invariant in number-there j g c.loop-p-test.true

pub carry_out-requires : goal.carry_out-requires
carry_out-requires c =
    let (n, w, j, g) = c.loop-p.invariant in
    steppable j g c.loop-p-test.true c.from-m.ensures c.ports_of-row.ensures

pub returns-in_default : goal.returns-in_default
returns-in_default c =
    let (n, w, j, g) = c.loop-p.invariant in
    ap (λ (r : Refusal). fault (number r.fault) r.place) c.at.ensures ∙ refused j (wrong j g c.loop-p-test.true c.from-m.ensures c.carry_out.ensures c.in_default.is)

pub loop-p-preserved : goal.loop-p-preserved
loop-p-preserved c =
    let (n, w, j, g) = c.loop-p.invariant in
    (n, w, j, going_next j g c.loop-p-test.true c.from-m.ensures c.carry_out.ensures _ c.in-Some.is)

pub overflow_sub-ours : goal.overflow_sub-ours
overflow_sub-ours c = let (n, w, j, g) = c.loop-p.invariant in (outputs-there j).0

pub overflow_sub-code : goal.overflow_sub-code
overflow_sub-code c = let (n, w, j, g) = c.loop-p.invariant in (outputs-there j).1

pub held_outputs-requires : goal.held_outputs-requires
held_outputs-requires c =
    let (n, w, j, g) = c.loop-p.invariant in
    let (a, b) = outputs-there j in
    (omega arith, omega arith)

pub returns-then-held_outputs : goal.returns-then-held_outputs
returns-then-held_outputs c =
    let (n, w, j, g) = c.loop-p.invariant in
    accepted j g (omega (arith, c.loop-p-test.false)) c.held_outputs.ensures c.if-held_outputs.true

pub returns-else-held_outputs : goal.returns-else-held_outputs
returns-else-held_outputs c =
    let (n, w, j, g) = c.loop-p.invariant in
    ap (λ (r : Refusal). fault (number r.fault) r.place) c.at-else-held_outputs.ensures ∙ outputs-wrong j g (omega (arith, c.loop-p-test.false)) c.held_outputs.ensures c.if-held_outputs.false
