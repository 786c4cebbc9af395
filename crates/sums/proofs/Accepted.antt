-- What an accepted table gives: its functions by position, their places, and that each is sound over those before it.
use Prim.Native.Nat.{ℕ, zero, suc, ◌+◌, ◌-◌, ◌≤◌, ◌<◌}
use mathlib.Core.Path.{◌≡◌, sym, ap, ◌∙◌, subst}
use mathlib.Core.List.{List, ◌∷◌}
use mathlib.Core.Logic.{⊎_elim}
use native.Mathlib.Omega.{arith}
use lib.ListN.{length}
use Rattle.base.specs.Limits.{function_limit, node_limit, port_limit, table_limit}
use Rattle.base.specs.Outcome.{Outcome, ok, fault, ◌>>=◌}
use Rattle.base.specs.Bytes.{byte, u16, Bytes}
use Rattle.graph.specs.Graph.{Function}
use Rattle.graph.specs.Format.{format_of}
use Rattle.graph.specs.Read.{parse}
use Rattle.graph.specs.Judge.{table, verdict}
use Rattle.graph.specs.Sound.{AllSound}
use Rattle.base.proofs.Outcomes.{took, passed, ok-is}
use Rattle.base.proofs.Numbers.{lt-or-eq}
use Rattle.graph.proofs.Formed.{in-range, accepted}
use Rattle.reader.specs.Layout.{input_count, output_count, function_place, earlier}
use Rattle.reader.specs.Find.{ReadsFunction, ReadsFunctions}
use Rattle.reader.specs.Records.{seen}
use Rattle.reader.proofs.Standing.{table-read}
use Rattle.reader.proofs.Passed.{length-earlier}
use Rattle.checker.proofs.Whole.{Whole, whole, first_function, rest-functions}
use Rattle.sums.specs.Position.{place_of, function_in, before, AllRead, Accepted}

-- ---- a refused table

faulted : (o : Outcome (List Function)) (a b : ℕ) → (o >>= λ fs. ok (length fs)) ≡ fault a b → o ≡ fault a b
unfolding ◌>>=◌
faulted (ok fs) a b e = let z : ◌≡◌ {A = ℕ} 0 1 = cc in absurd (omega arith)
faulted (fault n p) a b e = (cc)

pub refused-table : (s : List ℕ) (a b : ℕ) → verdict s ≡ fault a b → table s ≡ fault a b
unfolding verdict
refused-table s a b e = faulted (table s) a b e

-- ---- the functions by position

module _ (s : List ℕ) (n : ℕ) (e : verdict s ≡ ok n) where
  judged : (fs : List Function) × (table s ≡ ok fs) × (length fs ≡ n)
  unfolding verdict
  judged =
      let (fs, t, l) = took (table s) _ n e in
      (fs, t, ok-is l)

  count-is : n ≡ byte s 5
  count-is =
      let (fs, t, l) = judged in
      sym l ∙ ap length (table-read s fs t) ∙ length-earlier (format_of s).header s (byte s 5)

  -- all functions, the last first
  pub functions-are : table s ≡ ok (before s n)
  functions-are =
      let (fs, t, l) = judged in
      t ∙ ap ok (table-read s fs t ∙ ap (before s) (sym count-is))

  read : Bytes s → Whole s
  unfolding table
  read small = let (gs, p, e0) = took (parse (format_of s) s) _ (before s n) functions-are in whole s small (sym (ap seen p))

-- each function was read where it stands
at_places : (s : List ℕ) (n k : ℕ) → ReadsFunctions n s (place_of s k) → (j : ℕ) → j < n → ReadsFunction s (place_of s (k + j))
unfolding function_place
at_places s zero k r j l = absurd (omega arith)
at_places s (suc n) k r zero l =
    let z : k ≡ k + 0 = omega arith in
    subst (λ (i : ℕ). ReadsFunction s (place_of s i)) z (first_function s (suc n) (place_of s k) (omega arith) r)
at_places s (suc n) k r (suc j) l =
    let m : suc n - 1 ≡ n = omega arith in
    let z : suc k + j ≡ k + suc j = omega arith in
    let rest = subst (λ (i : ℕ). ReadsFunctions i s (place_of s (suc k))) m (rest-functions s (suc n) (place_of s k) (omega arith) r) in
    subst (λ (i : ℕ). ReadsFunction s (place_of s i)) z (at_places s n (suc k) rest j (omega arith))

sound-at : (s : List ℕ) (n k : ℕ) → k < n → AllSound (before s n) → AllSound (before s (suc k))
unfolding earlier
sound-at s zero k l h = absurd (omega arith)
sound-at s (suc n) k l (a, h) =
    ⊎_elim (λ m. sound-at s n k m h) (λ q. subst (λ (j : ℕ). AllSound (before s (suc j))) (sym q) (a, h)) (lt-or-eq k n l)

module _ (s : List ℕ) (n : ℕ) (e : verdict s ≡ ok n) (small : Bytes s) where
  -- there are at most function_limit
  pub few-functions : n ≤ function_limit
  few-functions = let q = count-is s n e in let m = (read s n e small).few in omega arith

  pub all_read : AllRead s n
  unfolding function_place
  all_read j l =
      let q = count-is s n e in
      let z : 0 + j ≡ j = omega arith in
      subst (λ (i : ℕ). ReadsFunction s (place_of s i)) z (at_places s (byte s 5) 0 (read s n e small).reads j (omega arith))

-- ---- of the first k functions

module _ (s : List ℕ) (k : ℕ) (acc : Accepted s k) where
  pub few : k ≤ function_limit
  few = let a = few-functions s acc.functions acc.judged acc.small in let b = acc.most in omega arith

  pub read_below : AllRead s k
  read_below j l = let b = acc.most in all_read s acc.functions acc.judged acc.small j (omega arith)

  pub sound-below : (j : ℕ) → j < k → AllSound (function_in s j ∷ before s j)
  unfolding earlier
  sound-below j l =
      let b = acc.most in
      let n = acc.functions in
      sound-at s n j (omega arith) (accepted s acc.small (before s n) (functions-are s n acc.judged))

  pub short : length s < table_limit
  short = (read s acc.functions acc.judged acc.small).short

-- the functions before j
pub fewer : (s : List ℕ) (k j : ℕ) → Accepted s k → j ≤ k → Accepted s j
fewer s k j acc l = let m = acc.most in record { functions = acc.functions; judged = acc.judged; most = omega arith; small = acc.small }

-- a function that was read has few ports
pub few-ports : (s : List ℕ) (at : ℕ) → ReadsFunction s at → (input_count s at ≤ port_limit) × (output_count s at ≤ port_limit)
few-ports s at (x, e) =
    let (t, e1) = passed _ _ _ _ _ e in
    let (u, e2) = passed _ _ _ _ _ e1 in
    let (id, ins, some, outs, nodes) = in-range node_limit (u16 s at) (input_count s at) (output_count s at) (u16 s (at + 4)) u in
    (ins, outs)
