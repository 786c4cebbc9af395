-- How long version 1's list is at most: no kind has more bytes behind its head than eight for each word of its result.
use Prim.Native.Nat.{ℕ, ◌+◌, ◌*◌, ◌≤◌}
use mathlib.Core.Path.{◌≡◌, refl, ap, ◌∙◌}
use mathlib.Core.Bool.{Bool, true, false, cond}
use mathlib.Core.List.{List, [], ◌∷◌, ◌++◌}
use native.Mathlib.Omega.{arith}
use borrow.Author.Tests.{leb-true}
use lib.Dec.{leb}
use lib.ListN.{length, length-append}
use Rattle.base.specs.Bytes.{all_bytes}
use Rattle.base.specs.Limits.{operation_limit, port_word_limit, word_limit}
use Rattle.base.proofs.Stands.{all-length}
use Rattle.ports.specs.Kinds.{Kind, kind_of}
use Rattle.ports.specs.Ports.{width, takes, arity, constant_words, ports_of, has_type, result_words}
use Rattle.ports.proofs.Laws.{length-takes, words-given}
use Rattle.ports.proofs.Table.{every-kind}
use Rattle.bytecode.specs.Run.{Instruction, BoardList}
use Rattle.bytecode.specs.Sequential.{next_word, AllFit}
use Rattle.bytecode.specs.declared.Version.TheVariants.{V1}
use Rattle.bytecode.specs.Version.{number}
use Rattle.bytecode.specs.Code.{instruction_code, instructions_code, header_code, encode}
use Rattle.bytecode.specs.Origin.{result_width}
use Rattle.bytecode.proofs.Back.{instruction-length}
use Rattle.bytecode.proofs.Readable.{width_some}
use Rattle.bytecode.proofs.Sequential.{below_length}
use Rattle.validator.specs.Sizes.{list_limit}

-- a kind with T has at most four operands and no constant, and a word of T at least
abbrev narrow : Kind → Bool
narrow k = let w = cond (has_type (ports_of k)) 1 (ports_of k).words in leb (2 * arity k + 8 * constant_words k) (8 * w)

kind-narrow : (k : Kind) (t : ℕ) → 2 * arity k + 8 * constant_words k ≤ 8 * result_words (ports_of k) t
kind-narrow k t = pick (has_type (ports_of k)) (leb-true _ _ (every-kind narrow refl k))
  where
    pick : (b : Bool) → 2 * arity k + 8 * constant_words k ≤ 8 * cond b 1 (ports_of k).words → 2 * arity k + 8 * constant_words k ≤ 8 * cond b (width t) (ports_of k).words
    pick true h = let w = width_some t in omega arith
    pick false h = h

instructions-length : (is : List Instruction) (next stop : ℕ) → AllFit next is stop → length (instructions_code V1 is) + 8 * next ≤ 2 * length is + 8 * stop
instructions-length [] next stop f = omega arith
instructions-length (i ∷ is) next stop (x, f) =
    let k = kind_of i.kind in
    let operands : length i.operands ≡ arity k = below_length next (takes k i.type) i.operands x.operands ∙ length-takes k i.type in
    let constants : length i.constants ≡ constant_words k = x.count in
    let own : length (instruction_code V1 i) ≡ 2 + 0 + 2 * length i.operands + 8 * length i.constants = instruction-length V1 i in
    let most : 2 * arity k + 8 * constant_words k ≤ 8 * result_words (ports_of k) i.type = kind-narrow k i.type in
    let words : result_words (ports_of k) i.type ≡ result_width i = words-given k i.type in
    let rest : length (instructions_code V1 is) + 8 * next_word next i ≤ 2 * length is + 8 * stop = instructions-length is (next_word next i) stop f in
    let both = length-append (instruction_code V1 i) (instructions_code V1 is) in
    omega arith

pub own-length : (b : BoardList) → AllFit b.arguments b.instructions b.words → length b.instructions ≤ operation_limit → b.words ≤ word_limit
    → length b.outputs ≤ port_word_limit → length (encode V1 b) ≤ list_limit
unfolding encode
own-length b f count words outputs =
    let head = header_code (number V1) b.arguments (length b.outputs) (length b.instructions) b.words in
    let mid = instructions_code V1 b.instructions in
    let last = all_bytes 2 b.outputs in
    let a = instructions-length b.instructions b.arguments b.words f in
    let l : length last ≡ 2 * length b.outputs = all-length 2 b.outputs in
    let size : length (head ++ (mid ++ last)) ≡ 12 + (length mid + length last) =
    length-append head (mid ++ last) ∙ ap (λ (i : ℕ). 12 + i) (length-append mid last) in
    omega arith
