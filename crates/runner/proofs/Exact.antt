-- The answers of the check and of the run, against the lists that have a code.
use Rattle.std.specs.Prelude.{Some, Err}
use Prim.Native.Nat.{ℕ}
use mathlib.Core.Path.{◌≡◌, ap, sym, ◌∙◌, subst}
use mathlib.Core.List.{List}
use native.Mathlib.Omega.{arith}
use Rattle.base.specs.Bytes.{Bytes}
use Rattle.base.specs.Outcome.{Outcome, ok, fault}
use Rattle.base.specs.declared.refusal.Refusal.{Refusal}
use Rattle.base.specs.Refusals.{outcome}
use Rattle.bytecode.specs.Code.{decode}
use Rattle.bytecode.specs.Answers.{Buffers, ran}
use Rattle.bytecode.proofs.Decoded as Decoded
use Rattle.bytecode.proofs.Decoded.{well-formed, not-well-formed}
use Rattle.runner.specs.Answers.{Checked}
use Rattle.runner.specs.Checks.{checked_of, Exactly}
use Rattle.runner.specs.Runs.{answer_of, Answered, Refused18}
use Rattle.runner.proofs.Decoding.{is-formed, is-malformed}

pub check-exact : (s : List ℕ) → Bytes s → {r : Checked} → r ≡ checked_of (decode s) → (r ≡ checked_of (decode s)) × Exactly s r
unfolding checked_of
check-exact s small {r} q = (
  q,
  record {
    malformed = (
      λ e v b d. (not-well-formed s small).0 (is-malformed (decode s) (sym q ∙ e)) b (v, d),
      λ h. q ∙ ap checked_of ((not-well-formed s small).1 (λ b (v, d). h v b d)),
    );
    formed = λ c. (
      λ e. let (b, d, k) = is-formed (decode s) c (sym q ∙ e) in let (v, d) = (well-formed s small b).0 d in (v, b, d, k),
      λ (v, b, d, k). q ∙ ap checked_of ((well-formed s small b).1 (v, d)) ∙ ap Some k,
    );
  },
)

pub is-fault : (g : Outcome Buffers) (n p : ℕ) → answer_of g ≡ fault n p → g ≡ fault n p
is-fault (ok b) n p e = let z : ◌≡◌ {A = ℕ} 0 1 = cc in absurd (omega arith)
is-fault (fault i j) n p e = cc

module _ (s arguments work out : List ℕ) (small : Bytes s) where
  pub run-exact : {work' out' : List ℕ} {r : Outcome ℕ} → Answered (ran s arguments work out) work out work' out' r
      → Answered (ran s arguments work out) work out work' out' r × Refused18 s r
  run-exact a =
      let g = ran s arguments work out in
      let (there, back) = Decoded.refused-18 s small arguments work out in
      (a, (λ e v b d. there (is-fault g 18 0 (sym a.answer ∙ e)) b (v, d), λ h. a.answer ∙ ap answer_of (back (λ b (v, d). h v b d))))

  -- of a refusal
  pub refused-exact : {e f : Refusal} → e ≡ f → Answered (ran s arguments work out) work out work out (outcome (Err f))
      → Answered (ran s arguments work out) work out work out (outcome (Err e)) × Refused18 s (outcome (Err e))
  refused-exact {e} {f} q a = run-exact (subst (λ (x : Refusal). Answered (ran s arguments work out) work out work out (outcome (Err x))) (sym q) a)
