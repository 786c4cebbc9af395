-- How long a code is at most: that many instructions of the most bytes that a kind has.
use Prim.Native.Nat.{ℕ, ◌+◌, ◌*◌, ◌≤◌}
use mathlib.Core.Path.{◌≡◌, refl, ap, ◌∙◌}
use mathlib.Core.List.{List, [], ◌∷◌, ◌++◌}
use native.Mathlib.Omega.{arith}
use native.Mathlib.Nat.{mul-suc, mul-le-mul_left}
use borrow.Author.Tests.{leb-true}
use lib.Dec.{leb}
use lib.ListN.{length, length-append}
use Rattle.base.proofs.Stands.{all-length}
use Rattle.base.specs.Bytes.{all_bytes}
use Rattle.base.specs.Limits.{operation_limit, port_word_limit}
use Rattle.ports.specs.Kinds.{Kind, kind_of}
use Rattle.ports.specs.Ports.{arity, constant_words}
use Rattle.ports.proofs.Laws.{length-takes}
use Rattle.ports.proofs.Table.{every-kind}
use Rattle.bytecode.specs.Run.{Instruction, BoardList}
use Rattle.bytecode.specs.Ranges.{Range, result_value}
use Rattle.bytecode.specs.declared.Version.{Version}
use Rattle.bytecode.specs.declared.Version.TheVariants.{V1, V2}
use Rattle.bytecode.specs.Version.{number}
use Rattle.bytecode.specs.Code.{instruction_code, instructions_code, header_code, encode, result_bytes, argument_words}
use Rattle.bytecode.specs.WellFormed.{AllFormed, FormedList}
use Rattle.bytecode.proofs.Back.{instruction-length}

-- composematrix has the most references, constmat the longest constant
kind-length : (k : Kind) → 2 + 2 * arity k + 8 * constant_words k ≤ 130
kind-length k = leb-true _ _ (every-kind (λ k. leb (2 + 2 * arity k + 8 * constant_words k) 130) refl k)

pub result-most : (v : Version) → result_bytes v ≤ 2
result-most V1 = omega arith
result-most V2 = omega arith

module _ (v : Version) where
  instructions-length : (is : List Instruction) (written : List Range) → AllFormed v written is → length (instructions_code v is) ≤ (130 + result_bytes v) * length is
  instructions-length [] written f = omega arith
  instructions-length (i ∷ is) written (f, g) =
      let k = kind_of i.kind in
      let r = result_bytes v in
      let operands : length i.operands ≡ arity k = f.arity ∙ length-takes k i.type in
      let constants : length i.constants ≡ constant_words k = f.count in
      let own : length (instruction_code v i) ≡ 2 + r + 2 * length i.operands + 8 * length i.constants = instruction-length v i in
      let most : 2 + 2 * arity k + 8 * constant_words k ≤ 130 = kind-length k in
      let rest : length (instructions_code v is) ≤ (130 + r) * length is = instructions-length is (result_value i ∷ written) g in
      let next : (130 + r) * length (i ∷ is) ≡ (130 + r) * length is + (130 + r) = mul-suc (130 + r) (length is) in
      let both : length (instruction_code v i ++ instructions_code v is) ≡ length (instruction_code v i) + length (instructions_code v is) =
      length-append (instruction_code v i) (instructions_code v is) in
      omega arith

  pub encode-length : (b : BoardList) → FormedList v b → length (encode v b) ≤ 12 + (130 + result_bytes v) * operation_limit + 2 * port_word_limit
  unfolding encode
  encode-length b f =
      let head = header_code (number v) b.arguments (length b.outputs) (length b.instructions) b.words in
      let mid = instructions_code v b.instructions in
      let last = all_bytes 2 b.outputs in
      let a : length mid ≤ (130 + result_bytes v) * length b.instructions =
      instructions-length b.instructions (argument_words b.arguments) f.instructions in
      let n : length b.instructions ≤ operation_limit = f.count in
      let m : (130 + result_bytes v) * length b.instructions ≤ (130 + result_bytes v) * operation_limit = mul-le-mul_left (130 + result_bytes v) n in
      let o : length b.outputs ≤ port_word_limit = f.outputs in
      let l : length last ≡ 2 * length b.outputs = all-length 2 b.outputs in
      let size : length (head ++ (mid ++ last)) ≡ 12 + (length mid + length last) =
      length-append head (mid ++ last) ∙ ap (λ (i : ℕ). 12 + i) (length-append mid last) in
      omega arith
