use Rattle.std.proofs.Common.{sym, ap, ◌∙◌, ℕ}
use Rattle.ports.specs.Kinds.{kind_of}
use Rattle.ports.specs.declared.Ports.{Ports}
use Rattle.base.specs.Outcome.{ok}
use Rattle.reader.specs.declared.Payload.TheVariants.{References}
use Rattle.reader.proofs.Extents.{ends, short}
use Rattle.reader.proofs.Payloads.{refs-short, refs-good}
use Rattle.reader.proofs.records.read_references.Goals as goal

pub returns-in_default : goal.returns-in_default
returns-in_default c = let a = c.args in
    rw c.at.ensures (refs-short a.s.now a.at (kind_of a.kind) _ (c.from-count.ensures ∙ ap (λ (p : Ports). p.operands) c.requires) (short c.args.s.now _ _ c.read_record.ensures c.in_default.is))

pub returns : goal.returns
returns c = let a = c.args in
    let n = c.from-count.result in
    let (h, e) = ends c.args.s.now _ _ c.read_record.ensures c.in-Some.is in
    ap (λ (x : ℕ). ok (References (record { first = a.at; count = n }), x)) e
    ∙ sym (refs-good a.s.now a.at (kind_of a.kind) n (c.from-count.ensures ∙ ap (λ (p : Ports). p.operands) c.requires) h)
