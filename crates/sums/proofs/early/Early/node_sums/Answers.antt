use Rattle.std.proofs.Common.{refl, sym, ◌∙◌, ◌+◌, arith}
use Rattle.base.specs.Bytes.{byte}
use Rattle.reader.proofs.Passed.{head-fits}
use Rattle.sums.specs.Position.{position_of}
use Rattle.sums.specs.Capped.{sums_at}
use Rattle.sums.proofs.Tabulate.{true-read}
use Rattle.sums.proofs.Summing.{called-sums, no-callee-sums, plain-sums}
use Rattle.sums.proofs.early.Early.node_sums.Goals as goal

pub overflow_add-p : goal.overflow_add-p
overflow_add-p c = omega (arith, head-fits c.args.self.now.table.now c.args.p c.requires)

pub bounds-self-p : goal.bounds-self-p
bounds-self-p c = omega (arith, head-fits c.args.self.now.table.now c.args.p c.requires)

pub overflow_add-p-then-not-is_call : goal.overflow_add-p-then-not-is_call
overflow_add-p-then-not-is_call c = omega (arith, head-fits c.args.self.now.table.now c.args.p c.requires)

pub bounds-self-p-then-not-is_call : goal.bounds-self-p-then-not-is_call
bounds-self-p-then-not-is_call c = omega (arith, head-fits c.args.self.now.table.now c.args.p c.requires)

pub returns-then-not-is_call : goal.returns-then-not-is_call
returns-then-not-is_call c = let e = c.args.self.now in
    let s = e.table.now in
    let p = c.args.p in
    plain-sums s e.count p (byte s (p + 2)) c.ports_of-row.result refl c.ports_of-row.ensures (sym c.is_call.ensures ∙ c.if-not-is_call.true) c.plain_sums.result
    c.plain_sums.ensures.value c.plain_sums.ensures.bounded

pub position_of-requires : goal.position_of-requires
position_of-requires c = let e = c.args.self.now in (e.few, record { places = e.places; reads = λ j l. true-read e.table.now _ (e.read j l) })

pub returns-in-Some : goal.returns-in-Some
returns-in-Some c = let e = c.args.self.now in
    let s = e.table.now in
    let p = c.args.p in
    let (found, before) = c.in-Some.ensures in
    called-sums s e.count p (byte s (p + 2)) c.ports_of-row.result refl c.ports_of-row.ensures (sym c.is_call.ensures ∙ c.if-not-is_call.false) c.callee_at-id.result c.in-Some.g c.callee_at-id.ensures
    found e.few e.sums.now e.held before (sums_at e.sums.now c.in-Some.g) refl

pub returns-in-None : goal.returns-in-None
returns-in-None c = let e = c.args.self.now in
    let s = e.table.now in
    let p = c.args.p in
    no-callee-sums s e.count p (byte s (p + 2)) c.ports_of-row.result refl c.ports_of-row.ensures (sym c.is_call.ensures ∙ c.if-not-is_call.false) c.callee_at-id.result (position_of s e.count c.callee_at-id.result) c.callee_at-id.ensures
    refl c.in-None.ensures.1
