use Rattle.std.proofs.Common.{ℕ}
use Rattle.validator.specs.Tests.{Judgeable}
use Rattle.validator.proofs.Following.{Going}
use Rattle.validator.proofs.judge.Given as goal

abbrev pub invariant-loop-p : goal.invariant-loop-p
invariant-loop-p l =
    (n : ℕ) × (w : ℕ) × (j : Judgeable l.ours l.code l.numbers l.arguments l.outputs l.count l.total n w) × Going j l.p l.at l.index l.words
