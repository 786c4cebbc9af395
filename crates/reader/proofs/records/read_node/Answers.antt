use Rattle.ports.specs.Ports.{legal}
use Rattle.std.proofs.Common.{◌≡◌, false, refl, sym, ◌∙◌, ◌+◌, arith}
use Rattle.base.specs.Bytes.{byte}
use Rattle.reader.specs.Layout.{kind_at}
use Rattle.std.proofs.lemmas.Result.{err_from_is_err_and}
use Rattle.reader.proofs.Extents.{ends, short}
use Rattle.reader.proofs.Payloads.{legal-by, NodeHead, node-short, node-zero, node-illegal, node-read-is, node-read-fault}
use Rattle.reader.proofs.records.read_node.Goals.{then-not-exists-via-then-not-exists, then-not-exists-via-else-not-exists+then-not-type_fits}
use Rattle.reader.proofs.records.read_node.Goals as goal

pub returns-in_default : goal.returns-in_default
returns-in_default c =
    rw c.at.ensures (node-short c.args.s.now c.args.at (short c.args.s.now _ _ c.read_record.ensures c.in_default.is))

pub u16_at-id-requires : goal.u16_at-id-requires
u16_at-id-requires c = let h = (ends c.args.s.now _ _ c.read_record.ensures c.in-Some.is).0 in omega arith

pub overflow_add-kind : goal.overflow_add-kind
overflow_add-kind c = let h = (ends c.args.s.now _ _ c.read_record.ensures c.in-Some.is).0 in omega arith

pub bounds-s-at : goal.bounds-s-at
bounds-s-at c = let h = (ends c.args.s.now _ _ c.read_record.ensures c.in-Some.is).0 in omega arith

pub overflow_add-ty : goal.overflow_add-ty
overflow_add-ty c = let h = (ends c.args.s.now _ _ c.read_record.ensures c.in-Some.is).0 in omega arith

pub bounds-s-at-2 : goal.bounds-s-at-2
bounds-s-at-2 c = let h = (ends c.args.s.now _ _ c.read_record.ensures c.in-Some.is).0 in omega arith

pub returns-then-id-lt1 : goal.returns-then-id-lt1
returns-then-id-lt1 c = let a = c.args in
    rw c.at-then-id-lt1.ensures (sym (node-zero a.s.now a.at (ends c.args.s.now _ _ c.read_record.ensures c.in-Some.is).0 (rw c.u16_at-id.ensures.0 at c.if-id-lt1.true)))

pub returns-then-not-exists : goal.returns-then-not-exists
returns-then-not-exists c = let a = c.args in
    let illegal : legal (kind_at a.s.now a.at) (byte a.s.now (a.at + 3)) ≡ false = elim c.then-not-exists.branch [
      | then-not-exists-via-then-not-exists w ↦ legal-by c.ports_of-row.result (kind_at a.s.now a.at) (byte a.s.now (a.at + 3)) c.ports_of-row.ensures (sym c.exists.ensures ∙ w.if-not-exists.true) refl
      | then-not-exists-via-else-not-exists+then-not-type_fits w ↦ legal-by c.ports_of-row.result (kind_at a.s.now a.at) (byte a.s.now (a.at + 3)) c.ports_of-row.ensures (sym c.exists.ensures ∙ w.if-not-exists.false) (sym w.type_fits.ensures ∙ w.if-not-type_fits.true)
    ] in
    rw c.at-then-not-exists.ensures (sym (node-illegal a.s.now a.at (ends c.args.s.now _ _ c.read_record.ensures c.in-Some.is).0 (rw c.u16_at-id.ensures.0 at c.if-id-lt1.false) illegal))

pub returns : goal.returns
returns c = let a = c.args in
    let room = (ends c.args.s.now _ _ c.read_record.ensures c.in-Some.is) in
    let passed : NodeHead a.s.now a.at = record { fits = room.0; named = (rw c.u16_at-id.ensures.0 at c.if-id-lt1.false); typed = legal-by c.ports_of-row.result (kind_at a.s.now a.at) (byte a.s.now (a.at + 3)) c.ports_of-row.ensures (sym c.exists.ensures ∙ c.if-not-exists.false) (sym c.type_fits.ensures ∙ c.if-not-type_fits.false) } in
    let r = rw room.1 at c.in_ok-payload.ensures in
    rw c.u16_at-id.ensures.0 (sym (node-read-is passed _ _ r))

pub returns-in_err-payload : goal.returns-in_err-payload
returns-in_err-payload c = let a = c.args in
    let room = (ends c.args.s.now _ _ c.read_record.ensures c.in-Some.is) in
    let passed : NodeHead a.s.now a.at = record { fits = room.0; named = (rw c.u16_at-id.ensures.0 at c.if-id-lt1.false); typed = legal-by c.ports_of-row.result (kind_at a.s.now a.at) (byte a.s.now (a.at + 3)) c.ports_of-row.ensures (sym c.exists.ensures ∙ c.if-not-exists.false) (sym c.type_fits.ensures ∙ c.if-not-type_fits.false) } in
    let r = rw room.1 at c.in_err-payload.ensures in
    let p = err_from_is_err_and c.from_residual.result c.from_residual.ensures.1 in
    rw (p.1, p.2) (sym (node-read-fault passed _ _ r))
