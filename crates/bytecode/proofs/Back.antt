-- The code of a board list of either version is read back as the board list.
use Prim.Native.Nat.{ℕ, suc, ◌+◌, ◌*◌, ◌≤◌, ◌<◌}
use mathlib.Core.Path.{◌≡◌, refl, ap, ap₂, sym, ◌∙◌, subst}
use mathlib.Core.Bool.{Bool, true}
use mathlib.Core.List.{List, [], ◌∷◌, ◌++◌}
use mathlib.Core.Option.{Option, some}
use native.Mathlib.Omega.{arith}
use native.Mathlib.Numerals.{add-one}
use lib.Dec.{leb, eqb}
use lib.ListN.{length, length-append}
use borrow.Author.Tests.{le-leb, eq-eqb}
use Rattle.ports.specs.Kinds.{kind_of}
use Rattle.ports.specs.Ports.{arity, constant_words, legal_instruction}
use Rattle.ports.proofs.Laws.{length-takes}
use Rattle.base.specs.Lists.{words_at, every, Each}
use Rattle.value.specs.Values.{constant_word}
use Rattle.base.proofs.Lists.{whole}
use Rattle.base.specs.Bytes.{byte, u16, constants, bytes_of, all_bytes}
use Rattle.base.specs.Outcome.{Part}
use Rattle.base.proofs.Bools.{and_both}
use Rattle.bytecode.specs.Run.{Instruction, BoardList}
use Rattle.bytecode.specs.Origin.{operand_places}
use Rattle.bytecode.specs.Ranges.{Range, behind, result_value}
use Rattle.bytecode.specs.declared.Version.{Version}
use Rattle.bytecode.specs.declared.Version.TheVariants.{V1, V2}
use Rattle.bytecode.specs.Version.{number, version_of}
use Rattle.bytecode.specs.Code.{result_code, instruction_code, instructions_code, header_code, encode, guard, then, addresses, readable, result_at, result_bytes, read_operands, read_kind, read_instruction, read_instructions, read_outputs, counts_fit, argument_words, read_counts, code_marked, decode}
use Rattle.bytecode.specs.WellFormed.{written_by, ResultAt, Formed, AllFormed, FormedList}
use Rattle.base.proofs.Stands.{cons, cons_head, cons_tail, split, all-length, Here, u16-read, constants-read}
use Rattle.base.specs.Limits.{operation_limit, word_limit, address_limit, port_word_limit}

module _ {A : Type 0} where
  pub guarded : (t : Bool) (o : Option A) → t ≡ true → guard t o ≡ o
  unfolding guard
  guarded t o e = rw e refl

module _ {A B : Type 0} where
  pub then_some : (o : Option A) (k : A → Option B) (a : A) → o ≡ some a → then o k ≡ k a
  unfolding then
  then_some o k a e = rw e refl

addresses-read : (s xs : List ℕ) (at : ℕ) → Each (λ a. a < address_limit) xs → Here s at (all_bytes 2 xs) → addresses (length xs) s at ≡ xs
addresses-read s [] at l h = refl
addresses-read s (x ∷ xs) at (l, ls) h =
    let (p, q) = split s (bytes_of 2 x) (all_bytes 2 xs) at h in
    cons (u16-read s x at l p) (addresses-read s xs (at + 2) ls q)

every_true : (t : ℕ → Bool) (xs : List ℕ) → Each (λ a. t a ≡ true) xs → every t xs ≡ true
every_true t [] h = refl
every_true t (x ∷ xs) (p, h) = and_both (t x) (every t xs) p (every_true t xs h)

pub version-number : (v : Version) → version_of (number v) ≡ some v
version-number V1 = refl
version-number V2 = refl

-- ---- an instruction

result-length : (v : Version) (x : ℕ) → length (result_code v x) ≡ result_bytes v
result-length V1 x = refl
result-length V2 x = refl

result-read : (s : List ℕ) (v : Version) (at : ℕ) (written : List Range) (x : ℕ) → ResultAt v written x → Here s at (result_code v x) → result_at v s at written ≡ x
result-read s V1 at written x e h = sym e
result-read s V2 at written x l h = u16-read s x at l h

module _ (v : Version) where
  pub instruction-length : (i : Instruction) → length (instruction_code v i) ≡ 2 + result_bytes v + 2 * length i.operands + 8 * length i.constants
  instruction-length i =
      let a : length (all_bytes 2 i.operands) ≡ 2 * length i.operands = all-length 2 i.operands in
      let b : length (all_bytes 8 i.constants) ≡ 8 * length i.constants = all-length 8 i.constants in
      let c = length-append (all_bytes 2 i.operands) (all_bytes 8 i.constants) in
      let d = length-append (result_code v i.result) (all_bytes 2 i.operands ++ all_bytes 8 i.constants) in
      let e : length (result_code v i.result) ≡ result_bytes v = result-length v i.result in
      omega arith

  module _ (s : List ℕ) where
    abbrev done : Instruction → ℕ → Option (Part Instruction)
    done i end = some (record { it = i; next = end })

    kind-read :
        (i : Instruction) (written : List Range) (at end : ℕ) → Formed v written i → Here s at (result_code v i.result ++ (all_bytes 2 i.operands ++ all_bytes 8 i.constants))
        → end ≡ at + result_bytes v + 2 * length i.operands + 8 * length i.constants → end ≤ length s
        → read_kind v written i.kind i.type s at ≡ done i end
    kind-read i written at end f h q e =
        let k = i.kind in
        let t = i.type in
        let n = arity (kind_of k) in
        let c = constant_words (kind_of k) in
        let from = at + result_bytes v in
        let (x, y) = split s (result_code v i.result) (all_bytes 2 i.operands ++ all_bytes 8 i.constants) at h in
        let y' = subst (λ (j : ℕ). Here s (at + j) (all_bytes 2 i.operands ++ all_bytes 8 i.constants)) (result-length v i.result) y in
        let (p, r) = split s (all_bytes 2 i.operands) (all_bytes 8 i.constants) from y' in
        let nl : length i.operands ≡ n = f.arity ∙ length-takes (kind_of k) t in
        let cl : length i.constants ≡ c = f.count in
        let al : length (all_bytes 2 i.operands) ≡ 2 * length i.operands = all-length 2 i.operands in
        let place : from + length (all_bytes 2 i.operands) ≡ from + 2 * n = omega arith in
        let r' : Here s (from + 2 * n) (all_bytes 8 i.constants) = subst (λ (j : ℕ). Here s j (all_bytes 8 i.constants)) place r in
        let xs : addresses n s from ≡ i.operands = ap (λ (j : ℕ). addresses j s from) (sym nl) ∙ addresses-read s i.operands from f.small p in
        let cs : constants c s (from + 2 * n) ≡ i.constants =
        ap (λ (j : ℕ). constants j s (from + 2 * n)) (sym cl) ∙ constants-read s i.constants (from + 2 * n) f.words r' in
        let stop : from + 2 * n + 8 * c ≡ end = omega arith in
        let result : result_at v s at written ≡ i.result = result-read s v at written i.result f.result x in
        guarded (legal_instruction (kind_of k) t) _ f.legal
        ∙ guarded (leb (from + 2 * n + 8 * c) (length s)) _ (le-leb (from + 2 * n + 8 * c) (length s) (omega arith))
        ∙ ap₂ (λ (a b : List ℕ). read_operands v written k t (result_at v s at written) a b (from + 2 * n + 8 * c)) xs cs
        ∙ guarded (every (readable v written) (operand_places i)) _ (every_true (readable v written) (operand_places i) f.reads)
        ∙ guarded (every constant_word i.constants) _ f.constants
        ∙ ap₂ (λ (a b : ℕ). done (record { kind = k; type = t; operands = i.operands; constants = i.constants; result = a }) b) result stop

    instruction-read :
        (i : Instruction) (written : List Range) (at end : ℕ) → Formed v written i → Here s at (instruction_code v i) → end ≡ at + length (instruction_code v i)
        → end ≤ length s → read_instruction v written s at ≡ done i end
    instruction-read i written at end f h q e =
        let size = instruction-length i in
        let k : byte s at ≡ i.kind = cons_head h in
        let t : byte s (suc at) ≡ i.type = cons_head (cons_tail h) in
        let t' : byte s (at + 1) ≡ i.type = subst (λ (j : ℕ). byte s j ≡ i.type) (sym (add-one at)) t in
        let place : suc (suc at) ≡ at + 2 = omega arith in
        let body = result_code v i.result ++ (all_bytes 2 i.operands ++ all_bytes 8 i.constants) in
        let r : Here s (at + 2) body = subst (λ (j : ℕ). Here s j body) place (cons_tail (cons_tail h)) in
        guarded (leb (at + 2) (length s)) _ (le-leb (at + 2) (length s) (omega arith))
        ∙ ap₂ (λ (x y : ℕ). read_kind v written x y s (at + 2)) k t'
        ∙ kind-read i written (at + 2) end f r (omega arith) e

    instructions-read :
        (is : List Instruction) (written : List Range) (at end : ℕ) → AllFormed v written is → Here s at (instructions_code v is)
        → end ≡ at + length (instructions_code v is) → end ≤ length s
        → read_instructions v (length is) s at written ≡ some (record { instructions = is; at = end; written = written_by written is })
    instructions-read [] written at end f h q e =
        let p : at ≡ end = omega arith in
        ap (λ (x : ℕ). some (record { instructions = []; at = x; written = written })) p
    instructions-read (i ∷ is) written at end (a, f) h q e =
        let (p, r) = split s (instruction_code v i) (instructions_code v is) at h in
        let size = length-append (instruction_code v i) (instructions_code v is) in
        let mid = at + length (instruction_code v i) in
        let first : read_instruction v written s at ≡ done i mid = instruction-read i written at mid a p refl (omega arith) in
        let rest = instructions-read is (result_value i ∷ written) mid end f r (omega arith) e in
        then_some (read_instruction v written s at) _ (record { it = i; next = mid }) first
        ∙ then_some (read_instructions v (length is) s mid (result_value i ∷ written)) _ _ rest

  -- ---- the whole

  outputs-read : (s : List ℕ) (b : BoardList) (at : ℕ) → FormedList v b → Here s at (all_bytes 2 b.outputs) → at + 2 * length b.outputs ≡ length s
      → read_outputs v s b.arguments (length b.outputs) b.words
      (record { instructions = b.instructions; at = at; written = written_by (argument_words b.arguments) b.instructions })
      ≡ some b
  outputs-read s b at f h e =
      let n = length b.outputs in
      let written = written_by (argument_words b.arguments) b.instructions in
      let xs : addresses n s at ≡ b.outputs = addresses-read s b.outputs at f.small h in
      guarded (eqb (behind written) b.words) _ (eq-eqb (behind written) b.words f.highest)
      ∙ guarded (eqb (at + 2 * n) (length s)) _ (eq-eqb _ _ e)
      ∙ ap
      (λ (ys : List ℕ).
      guard (every (readable v written) ys) (some (record { arguments = b.arguments; instructions = b.instructions; words = b.words; outputs = ys })))
      xs
      ∙ guarded (every (readable v written) b.outputs) _ (every_true (readable v written) b.outputs f.reads)

  module _ (b : BoardList) (f : FormedList v b) where
    code_read : (s : List ℕ) → s ≡ encode v b → decode s ≡ some b
    unfolding encode decode
    code_read s q =
        let outs = length b.outputs in
        let count = length b.instructions in
        let head = header_code (number v) b.arguments outs count b.words in
        let mid = instructions_code v b.instructions in
        let last = all_bytes 2 b.outputs in
        let all : Here s 0 (head ++ (mid ++ last)) = subst (λ (x : List ℕ). words_at s 0 (length x) ≡ x) q (whole s) in
        let (h, r) = split s head (mid ++ last) 0 all in
        let (m, o) = split s mid last 12 r in
        let size : length s ≡ 12 + (length mid + length last) = ap length q ∙ length-append head (mid ++ last) ∙ ap (λ (i : ℕ). 12 + i) (length-append mid last) in
        let ol : length last ≡ 2 * outs = all-length 2 b.outputs in
        let lc = f.count in
        let lw = f.words in
        let b0 : byte s 0 ≡ 0x49 = cons_head h in
        let h1 = cons_tail h in
        let b1 : byte s 1 ≡ 0x46 = cons_head h1 in
        let h2 = cons_tail h1 in
        let b2 : byte s 2 ≡ 0x52 = cons_head h2 in
        let h3 = cons_tail h2 in
        let b3 : byte s 3 ≡ number v = cons_head h3 in
        let h4 = cons_tail h3 in
        let b4 : byte s 4 ≡ 0 = cons_head h4 in
        let h5 = cons_tail h4 in
        let b5 : byte s 5 ≡ b.arguments = cons_head h5 in
        let h6 = cons_tail h5 in
        let b6 : byte s 6 ≡ outs = cons_head h6 in
        let h7 = cons_tail h6 in
        let b7 : byte s 7 ≡ 0 = cons_head h7 in
        let h8 = cons_tail h7 in
        let (hc, hw) = split s (bytes_of 2 count) (bytes_of 2 b.words) 8 h8 in
        let b8 : u16 s 8 ≡ count = u16-read s count 8 (omega arith) hc in
        let b10 : u16 s 10 ≡ b.words = u16-read s b.words 10 (omega arith) hw in
        let version : u16 s 3 ≡ number v = omega arith in
        let mark : code_marked s ≡ true = rw (b0, b1, b2, b7) refl in
        let lo = f.some-output in
        let limits : counts_fit b.arguments outs count b.words ≡ true =
        rw (le-leb b.arguments port_word_limit f.arguments, le-leb 1 outs lo, le-leb outs port_word_limit f.outputs, le-leb count operation_limit lc, le-leb b.words word_limit lw) refl in
        guarded (leb 12 (length s)) _ (le-leb 12 (length s) (omega arith))
        ∙ guarded (code_marked s) _ mark
        ∙ then_some (version_of (u16 s 3)) _ v (ap version_of version ∙ version-number v)
        ∙ ap₂ (λ (x y : ℕ). read_counts v s x y (u16 s 8) (u16 s 10)) b5 b6
        ∙ ap₂ (λ (x y : ℕ). read_counts v s b.arguments outs x y) b8 b10
        ∙ guarded (counts_fit b.arguments outs count b.words) _ limits
        ∙ then_some (read_instructions v count s 12 (argument_words b.arguments)) _ _
        (instructions-read s b.instructions (argument_words b.arguments) 12 (12 + length mid) f.instructions m refl (omega arith))
        ∙ outputs-read s b (12 + length mid) f o (omega arith)

    pub decode-encode : decode (encode v b) ≡ some b
    decode-encode = code_read (encode v b) refl
