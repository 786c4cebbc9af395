use Rattle.listing.proofs.Digits.{Left}
use Rattle.listing.proofs.fill_digits.Given as goal

abbrev pub invariant-loop-i : goal.invariant-loop-i
invariant-loop-i l = Left l.n l.digits l.m l.i
