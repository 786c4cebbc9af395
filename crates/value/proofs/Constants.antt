-- A test of each of some constants, by their numbers.
use Rattle.std.proofs.Common.{◌≡◌, ℕ, zero, suc, ◌+◌, ◌*◌, Bool, ◌&&◌, List, refl, ap, arith}
use Rattle.std.specs.List.{list_all, range_with_len}
use Rattle.base.specs.Bytes.{u64, constants}
use Rattle.base.specs.Lists.{every}

pub each-in-turn : (ok : ℕ → Bool) (s : List ℕ) (from n a : ℕ)
    → list_all (λ i. ok (u64 s (from + 8 * i))) (range_with_len a n) ≡ every ok (constants n s (from + 8 * a))
each-in-turn ok s from zero a = refl
each-in-turn ok s from (suc n) a =
    let next : from + 8 * (a + 1) ≡ from + 8 * a + 8 = omega arith in
    let rest = each-in-turn ok s from n (a + 1) in
    ap (λ b. ok (u64 s (from + 8 * a)) && b) (rw next at rest)
