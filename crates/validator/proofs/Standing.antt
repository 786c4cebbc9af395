-- The instructions of a code as they stand in its bytes, one behind the other.
use Prim.Native.Nat.{ℕ, zero, suc, ◌+◌, ◌≤◌}
use mathlib.Core.Path.{◌≡◌, refl, ap, sym, ◌∙◌, subst}
use mathlib.Core.Bool.{true}
use mathlib.Core.List.{List, [], ◌∷◌}
use mathlib.Core.Option.{some}
use Rattle.std.specs.Prelude.{Some}
use native.Mathlib.Omega.{arith}
use lib.ListN.{length}
use Rattle.ports.specs.Kinds.{kind_of}
use Rattle.ports.specs.Ports.{takes, arity, legal_instruction}
use Rattle.base.specs.Bytes.{byte, u16}
use Rattle.base.specs.Limits.{header_length}
use Rattle.base.specs.Lists.{every}
use Rattle.base.specs.Outcome.{Part}
use Rattle.base.proofs.Lists.{some_is}
use Rattle.bytecode.specs.Run.{Instruction, BoardList, spans}
use Rattle.bytecode.specs.Ranges.{Range, result_value}
use Rattle.bytecode.specs.declared.Version.{Version}
use Rattle.bytecode.specs.Version.{number, version_of}
use Rattle.bytecode.specs.Code.{addresses, readable, result_at, read_instruction, Listed, read_instructions, argument_words, encode, decode}
use Rattle.bytecode.specs.WellFormed.{Codes}
use Rattle.bytecode.proofs.Back.{decode-encode, version-number}
use Rattle.bytecode.proofs.Decoded.{then-inv}
use Rattle.executor.specs.Execution.{instruction_at, end_of}
use Rattle.executor.proofs.Loop.{operands_at, read-inv}
use Rattle.runner.specs.Checks.{counts_of, checked_of}
use Rattle.runner.proofs.Decoding.{Decoded, decoded}

-- an instruction at its place, which reads words that are written
pub record Stands (v : Version) (written : List Range) (s : List ℕ) (at : ℕ) (i : Instruction) : Type 0 where
  pub legal : legal_instruction (kind_of (byte s at)) (byte s (at + 1)) ≡ true
  pub fits : end_of (byte s at) (operands_at v at) ≤ length s
  pub reads :
      every (readable v written) (spans (takes (kind_of (byte s at)) (byte s (at + 1))) (addresses (arity (kind_of (byte s at))) s (operands_at v at)))
      ≡ true
  pub is : instruction_at (byte s at) (byte s (at + 1)) s (operands_at v at) (result_at v s (at + 2) written) ≡ i

abbrev pub AllStand : Version → List ℕ → ℕ → List Range → List Instruction → Type 0
AllStand v s at written [] = Unit {0}
AllStand v s at written (i ∷ is) = Stands v written s at i × AllStand v s (end_of (byte s at) (operands_at v at)) (result_value i ∷ written) is

stands_read : (v : Version) (written : List Range) (s : List ℕ) (at : ℕ) (i : Part Instruction) → read_instruction v written s at ≡ some i
    → Stands v written s at i.it × (end_of (byte s at) (operands_at v at) ≡ i.next)
stands_read v written s at i e =
    let r = read-inv v written s at i e in
    (record { legal = r.legal; fits = r.fits; reads = r.reads; is = ap (λ (x : Part Instruction). x.it) r.is }, ap (λ (x : Part Instruction). x.next) r.is)

all_read : (v : Version) (n : ℕ) (s : List ℕ) (at : ℕ) (written : List Range) (l : Listed) → read_instructions v n s at written ≡ some l
    → AllStand v s at written l.instructions
all_read v zero s at written l e = subst (λ (x : Listed). AllStand v s at written x.instructions) (some_is e) tt
all_read v (suc n) s at written l e =
    let (i, ei, e1) = then-inv (read_instruction v written s at) _ l e in
    let (r, er, e2) = then-inv (read_instructions v n s i.next (result_value i.it ∷ written)) _ l e1 in
    let (here, end) = stands_read v written s at i ei in
    let rest = all_read v n s i.next (result_value i.it ∷ written) r er in
    subst (λ (x : Listed). AllStand v s at written x.instructions) (some_is e2)
    (here, subst (λ (q : ℕ). AllStand v s q (result_value i.it ∷ written) r.instructions) (sym end) rest)

-- ---- of the code of a list

module _ (v : Version) (s : List ℕ) (b : BoardList) (c : Codes v s b) where
  pub codes-decoded : decode s ≡ some b
  codes-decoded = ap decode c.bytes ∙ decode-encode v b c.formed

  counted : checked_of (decode s) ≡ Some (counts_of b)
  unfolding checked_of
  counted = rw codes-decoded refl

  pub known : Decoded s (counts_of b)
  known = decoded s (counts_of b) counted

  -- the list that was read is this one
  pub known_is : known.list ≡ b
  known_is = some_is (sym known.is ∙ codes-decoded)

  pub version-at : u16 s 3 ≡ number v
  unfolding encode
  version-at = let e : u16 (encode v b) 3 ≡ number v = omega arith in ap (λ (x : List ℕ). u16 x 3) c.bytes ∙ e

  pub version-known : known.version ≡ v
  version-known = some_is (sym known.version-is ∙ ap version_of version-at ∙ version-number v)

  pub stand : AllStand v s header_length (argument_words b.arguments) b.instructions
  stand =
      subst (λ (w : Version). AllStand w s header_length (argument_words b.arguments) b.instructions) version-known
      (subst (AllStand known.version s header_length (argument_words b.arguments)) (known.instructions ∙ ap (λ (x : BoardList). x.instructions) known_is)
      (all_read known.version (length b.instructions) s header_length (argument_words b.arguments) known.listed known.reads))
