use Rattle.std.proofs.Common.{ℕ, ◌∙◌, ap, sym, arith}
use Rattle.ports.specs.Kinds.{kind_of}
use Rattle.ports.specs.Ports.{ports_of}
use Rattle.ports.proofs.Laws.{row_of, no_kind}
use Rattle.ports.proofs.ports_of.Goals as goal

pub returns-then-at-lt-KIND_LIMIT : goal.returns-then-at-lt-KIND_LIMIT
returns-then-at-lt-KIND_LIMIT c = row_of c.from-at.result ∙ ap (λ (k : ℕ). ports_of (kind_of k)) c.from-at.ensures

pub returns-else-at-lt-KIND_LIMIT : goal.returns-else-at-lt-KIND_LIMIT
returns-else-at-lt-KIND_LIMIT c = sym (no_kind c.args.kind (omega arith))
