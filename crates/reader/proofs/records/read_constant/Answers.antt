use Rattle.std.proofs.Common.{◌≡◌, sym, ap, ◌∙◌, subst, ℕ, arith}
use Rattle.ports.specs.Kinds.{kind_of}
use Rattle.ports.specs.Ports.{width, ports_of, constant_words}
use Rattle.ports.specs.declared.Ports.{Ports}
use Rattle.value.specs.Values.{value_of}
use Rattle.value.specs.declared.Value.{Value}
use Rattle.base.specs.Bytes.{constants}
use Rattle.base.specs.Outcome.{ok}
use Rattle.reader.specs.declared.Payload as Payloads
use Rattle.reader.specs.Records.{FiniteWords}
use Rattle.reader.proofs.Extents.{ends, short}
use Rattle.reader.proofs.Payloads.{constant-short, constant-infinite, constant-read}
use Rattle.reader.proofs.Words.{finite-words}
use Rattle.reader.proofs.Rows.{constant-width}
use Rattle.reader.proofs.records.read_constant.Goals as goal

pub returns-in_default : goal.returns-in_default
returns-in_default c = let a = c.args in
    let p = c.requires in
    let k = kind_of a.kind in
    let words : c.width-n.result ≡ constant_words k =
    c.width-n.ensures.value
    ∙ ap (λ (r : Ports). width r.result) p.0
    ∙ sym (constant-width a.kind (ap (λ (r : Ports). r.form) (sym p.0) ∙ p.1)) in
    rw c.at.ensures (constant-short a.s.now a.at k _ words (short c.args.s.now _ _ c.read_record.ensures c.in_default.is))

pub constants_allowed-requires : goal.constants_allowed-requires
constants_allowed-requires c = (ends c.args.s.now _ _ c.read_record.ensures c.in-Some.is).0

pub returns-then-not-constants_allowed : goal.returns-then-not-constants_allowed
returns-then-not-constants_allowed c = let a = c.args in
    let p = c.requires in
    let k = kind_of a.kind in
    let words : c.width-n.result ≡ constant_words k =
    c.width-n.ensures.value
    ∙ ap (λ (r : Ports). width r.result) p.0
    ∙ sym (constant-width a.kind (ap (λ (r : Ports). r.form) (sym p.0) ∙ p.1)) in
    rw c.at-then-not-constants_allowed.ensures (sym (constant-infinite a.s.now a.at k _ words (ends c.args.s.now _ _ c.read_record.ensures c.in-Some.is).0 (sym c.constants_allowed.ensures ∙ c.if-not-constants_allowed.true)))

pub constant_at-requires : goal.constant_at-requires
constant_at-requires c = let a = c.args in
    subst (FiniteWords a.s.now a.at) c.width-n.ensures.value
    (finite-words a.s.now (λ q. omega (arith, c.type_inv.s q)) a.at _ (ends c.args.s.now _ _ c.read_record.ensures c.in-Some.is).0 (sym c.constants_allowed.ensures ∙ c.if-not-constants_allowed.false))

pub returns : goal.returns
returns c = let a = c.args in
    let p = c.requires in
    let k = kind_of a.kind in
    let words : c.width-n.result ≡ constant_words k =
    c.width-n.ensures.value
    ∙ ap (λ (r : Ports). width r.result) p.0
    ∙ sym (constant-width a.kind (ap (λ (r : Ports). r.form) (sym p.0) ∙ p.1)) in
    let room = (ends c.args.s.now _ _ c.read_record.ensures c.in-Some.is) in
    ap (λ (v : Value). ok (Payloads.Payload.Constant v, c.in-Some.end))
    (c.constant_at.ensures
    ∙ ap (λ (n : ℕ). value_of a.row.result (constants n a.s.now a.at)) (sym c.width-n.ensures.value)
    ∙ ap (λ (r : Ports). value_of r.result (constants c.width-n.result a.s.now a.at)) p.0)
    ∙ ap (λ (n : ℕ). ok (Payloads.Payload.Constant (value_of (ports_of k).result (constants c.width-n.result a.s.now a.at)), n)) room.1
    ∙ sym (constant-read a.s.now a.at k _ words room.0 (sym c.constants_allowed.ensures ∙ c.if-not-constants_allowed.false))
