-- What is read from a code is a board list that is well formed in the version that the header names, and the code is its own: well formed is exactly what
-- is the code of such a list.
use Prim.Native.Nat.{ℕ, zero, suc, ◌+◌, ◌*◌, ◌≤◌, ◌<◌}
use mathlib.Core.Path.{◌≡◌, refl, ap, sym, ◌∙◌, subst}
use mathlib.Core.Bool.{Bool, true, false, ◌&&◌, cond}
use mathlib.Core.List.{List, [], ◌∷◌, ◌++◌}
use mathlib.Core.Option.{Option, none, some}
use mathlib.Core.Logic.{◌↔◌, ⊎_elim}
use native.Mathlib.Omega.{arith}
use lib.Dec.{leb, eqb}
use lib.ListN.{length, length-append}
use lib.Seq.{sets}
use borrow.Author.Tests.{leb-true, eqb-true}
use Rattle.ports.specs.Kinds.{kind_of}
use Rattle.ports.specs.Ports.{takes, arity, constant_words, legal_instruction}
use Rattle.ports.proofs.Laws.{length-takes}
use Rattle.value.specs.Values.{constant_word, argument_word}
use Rattle.base.specs.Lists.{every, Each}
use Rattle.base.specs.Outcome.{Outcome, ok, fault, ◌>>=◌, ◌>>◌, need, or_else, Part}
use Rattle.base.specs.Bytes.{byte, u16, constants, Bytes, bytes_of, all_bytes}
use Rattle.base.proofs.Bools.{and-inv}
use Rattle.base.proofs.Stands.{constants-length, constants-words, all-length, Here, join, moved, onto, whole_is, u16-here, constants-here}
use Rattle.base.proofs.Outcomes.{passed-fault, no-fault}
use Rattle.bytecode.specs.Run.{Instruction, BoardList, run, spans}
use Rattle.bytecode.specs.Ranges.{Range, behind, result_value}
use Rattle.bytecode.specs.declared.Version.{Version}
use Rattle.bytecode.specs.declared.Version.TheVariants.{V1, V2}
use Rattle.bytecode.specs.Version.{number, version_of}
use Rattle.bytecode.specs.Code.{result_code, instruction_code, instructions_code, header_code, encode, guard, then, addresses, readable, result_at, result_bytes, read_instruction, Listed, read_instructions, counts_fit, argument_words, code_marked, decode}
use Rattle.bytecode.specs.WellFormed.{written_by, ResultAt, Formed, AllFormed, Codes}
use Rattle.bytecode.specs.Answers.{Buffers, ran}
use Rattle.bytecode.proofs.Back.{decode-encode}
use Rattle.base.proofs.Lists.{some_is}
use Rattle.base.specs.Limits.{within_limits, operation_limit, word_limit, port_word_limit, address_limit}

module _ {A : Type 0} where
  pub guard-inv : (t : Bool) (o : Option A) (a : A) → guard t o ≡ some a → (t ≡ true) × (o ≡ some a)
  unfolding guard
  guard-inv true o a e = (refl, e)
  guard-inv false o a e = let z : ◌≡◌ {A = ℕ} 0 1 = cc in absurd (omega arith)

module _ {A B : Type 0} where
  pub then-inv : (o : Option A) (k : A → Option B) (b : B) → then o k ≡ some b → (a : A) × (o ≡ some a) × (k a ≡ some b)
  unfolding then
  then-inv none k b e = let z : ◌≡◌ {A = ℕ} 0 1 = cc in absurd (omega arith)
  then-inv (some a) k b e = (a, refl, e)

pub addresses-length : (n : ℕ) (s : List ℕ) (at : ℕ) → length (addresses n s at) ≡ n
addresses-length zero s at = refl
addresses-length (suc n) s at = ap suc (addresses-length n s (at + 2))

every-each : (t : ℕ → Bool) (xs : List ℕ) → every t xs ≡ true → Each (λ a. t a ≡ true) xs
every-each t [] e = tt
every-each t (x ∷ xs) e = let (a, b) = and-inv (t x) (every t xs) e in (a, every-each t xs b)

module _ (s : List ℕ) (small : Bytes s) where
  addresses-here : (n at : ℕ) → Here s at (all_bytes 2 (addresses n s at))
  addresses-here zero at = refl
  addresses-here (suc n) at = join s (bytes_of 2 (u16 s at)) (all_bytes 2 (addresses n s (at + 2))) at (u16-here s small at) (addresses-here n (at + 2))

  addresses-size : (n at : ℕ) → length (all_bytes 2 (addresses n s at)) ≡ 2 * n
  addresses-size n at = all-length 2 (addresses n s at) ∙ ap (λ (i : ℕ). 2 * i) (addresses-length n s at)

  constants-size : (n at : ℕ) → length (all_bytes 8 (constants n s at)) ≡ 8 * n
  constants-size n at = all-length 8 (constants n s at) ∙ ap (λ (i : ℕ). 8 * i) (constants-length n s at)

  u16-small : (at : ℕ) → u16 s at < address_limit
  u16-small at = let a = small at in let b = small (at + 1) in omega arith

  addresses-small : (n at : ℕ) → Each (λ a. a < address_limit) (addresses n s at)
  addresses-small zero at = tt
  addresses-small (suc n) at = (u16-small at, addresses-small n (at + 2))

  result-placed : (v : Version) (at : ℕ) (written : List Range) → ResultAt v written (result_at v s at written)
  result-placed V1 at written = refl
  result-placed V2 at written = u16-small at

  result-here : (v : Version) (at : ℕ) (written : List Range) → Here s at (result_code v (result_at v s at written))
  result-here V1 at written = refl
  result-here V2 at written = u16-here s small at

  result-size : (v : Version) (x : ℕ) → length (result_code v x) ≡ result_bytes v
  result-size V1 x = refl
  result-size V2 x = refl

  module _ (v : Version) where
    -- what was read is well formed, and its code stands from `at` up to the next
    abbrev Stood : ℕ → List Range → Part Instruction → Type 0
    Stood at written p = Formed v written p.it × Here s at (instruction_code v p.it) × (p.next ≡ at + length (instruction_code v p.it))

    instruction-formed : (at : ℕ) (written : List Range) (p : Part Instruction) → read_instruction v written s at ≡ some p → Stood at written p
    instruction-formed at written p e =
        let k = byte s at in
        let t = byte s (at + 1) in
        let n = arity (kind_of k) in
        let c = constant_words (kind_of k) in
        let from = at + 2 + result_bytes v in
        let xs = addresses n s from in
        let cs = constants c s (from + 2 * n) in
        let result = result_at v s (at + 2) written in
        let (a1, e1) = guard-inv (leb (at + 2) (length s)) _ p e in
        let (a2, e2) = guard-inv (legal_instruction (kind_of k) t) _ p e1 in
        let (a3, e3) = guard-inv (leb (from + 2 * n + 8 * c) (length s)) _ p e2 in
        let (a4, e4) = guard-inv (every (readable v written) (spans (takes (kind_of k) t) xs)) _ p e3 in
        let (a5, e5) = guard-inv (every constant_word cs) _ p e4 in
        let rl : length (result_code v result) ≡ result_bytes v = result-size v result in
        let xl : length (all_bytes 2 xs) ≡ 2 * n = addresses-size n from in
        let cl : length (all_bytes 8 cs) ≡ 8 * c = constants-size c (from + 2 * n) in
        let size = length-append (all_bytes 2 xs) (all_bytes 8 cs) in
        let size' = length-append (result_code v result) (all_bytes 2 xs ++ all_bytes 8 cs) in
        let read : Here s from (all_bytes 2 xs ++ all_bytes 8 cs) =
        join s (all_bytes 2 xs) (all_bytes 8 cs) from (addresses-here n from) (moved s (omega arith) (constants-here s small c (from + 2 * n))) in
        let body : Here s (at + 2) (result_code v result ++ (all_bytes 2 xs ++ all_bytes 8 cs)) =
        join s (result_code v result) (all_bytes 2 xs ++ all_bytes 8 cs) (at + 2) (result-here v (at + 2) written) (moved s (omega arith) read) in
        subst (Stood at written) (some_is e5) (
          record {
            legal = a2;
            arity = addresses-length n s from ∙ sym (length-takes (kind_of k) t);
            small = addresses-small n from;
            reads = every-each (readable v written) (spans (takes (kind_of k) t) xs) a4;
            count = constants-length c s (from + 2 * n);
            words = constants-words s small c (from + 2 * n);
            constants = a5;
            result = result-placed v (at + 2) written;
          },
          onto s k (t ∷ result_code v result ++ (all_bytes 2 xs ++ all_bytes 8 cs)) at refl
              (onto s t (result_code v result ++ (all_bytes 2 xs ++ all_bytes 8 cs)) (at + 1) refl (moved s (omega arith) body)),
          omega arith,
        )

    abbrev StoodAll : ℕ → ℕ → List Range → Listed → Type 0
    StoodAll n at written l =
        AllFormed v written l.instructions × Here s at (instructions_code v l.instructions) × (l.at ≡ at + length (instructions_code v l.instructions))
        × (length l.instructions ≡ n)
        × (l.written ≡ written_by written l.instructions)

    instructions-formed : (n at : ℕ) (written : List Range) (l : Listed) → read_instructions v n s at written ≡ some l → StoodAll n at written l
    instructions-formed zero at written l e = subst (StoodAll 0 at written) (some_is e) (tt, refl, omega arith, refl, refl)
    instructions-formed (suc n) at written l e =
        let (i, ei, e1) = then-inv (read_instruction v written s at) _ l e in
        let (r, er, e2) = then-inv (read_instructions v n s i.next (result_value i.it ∷ written)) _ l e1 in
        let (f, h, q) = instruction-formed at written i ei in
        let (g, k, p, c, w) = instructions-formed n i.next (result_value i.it ∷ written) r er in
        let size = length-append (instruction_code v i.it) (instructions_code v r.instructions) in
        subst (StoodAll (suc n) at written) (some_is e2)
        ((f, g), join s (instruction_code v i.it) (instructions_code v r.instructions) at h (moved s q k), omega arith, ap suc c, w)

  version-is : (v : Version) → version_of (u16 s 3) ≡ some v → u16 s 3 ≡ number v
  version-is v e = go (eqb (u16 s 3) 1) refl (eqb (u16 s 3) 2) refl e
    where
      go : (x : Bool) → eqb (u16 s 3) 1 ≡ x → (y : Bool) → eqb (u16 s 3) 2 ≡ y → cond x (some V1) (cond y (some V2) none) ≡ some v → u16 s 3 ≡ number v
      go true p y q e = eqb-true _ _ p ∙ ap number (some_is e)
      go false p true q e = eqb-true _ _ q ∙ ap number (some_is e)
      go false p false q e = let z : ◌≡◌ {A = ℕ} 0 1 = cc in absurd (omega arith)

  -- mark, version and counts
  header-here : (v : Version) → code_marked s ≡ true → u16 s 3 ≡ number v → number v < 256 → Here s 0 (header_code (number v) (byte s 5) (byte s 6) (u16 s 8) (u16 s 10))
  header-here v m version l =
      let (m2, z) = and-inv (eqb (byte s 0) 0x49 && eqb (byte s 1) 0x46 && eqb (byte s 2) 0x52) (eqb (byte s 7) 0) m in
      let (m3, b2) = and-inv (eqb (byte s 0) 0x49 && eqb (byte s 1) 0x46) (eqb (byte s 2) 0x52) m2 in
      let (b0, b1) = and-inv (eqb (byte s 0) 0x49) (eqb (byte s 1) 0x46) m3 in
      let low = small 3 in
      onto s 0x49 _ 0 (eqb-true _ _ b0)
      (onto s 0x46 _ 1 (eqb-true _ _ b1)
      (onto s 0x52 _ 2 (eqb-true _ _ b2)
      (onto s (number v) _ 3 (omega arith)
      (onto s 0 _ 4 (omega arith)
      (onto s (byte s 5) _ 5 refl
      (onto s (byte s 6) _ 6 refl
      (onto s 0 _ 7 (eqb-true _ _ z)
      (join s (bytes_of 2 (u16 s 8)) (bytes_of 2 (u16 s 10)) 8 (u16-here s small 8) (u16-here s small 10)))))))))

  number_small : (v : Version) → number v < 256
  number_small V1 = omega arith
  number_small V2 = omega arith

  -- in one of the versions
  abbrev pub Coded : BoardList → Type 0
  Coded b = (v : Version) × Codes v s b

  pub decoded : (b : BoardList) → decode s ≡ some b → Coded b
  unfolding encode decode
  decoded b e =
      let arguments = byte s 5 in
      let outputs = byte s 6 in
      let count = u16 s 8 in
      let words = u16 s 10 in
      let (t1, e1) = guard-inv (leb 12 (length s)) _ b e in
      let (t2, e2) = guard-inv (code_marked s) _ b e1 in
      let (v, ev, e2') = then-inv (version_of (u16 s 3)) _ b e2 in
      let (t3, e3) = guard-inv (counts_fit arguments outputs count words) _ b e2' in
      let (l, el, e4) = then-inv (read_instructions v count s 12 (argument_words arguments)) _ b e3 in
      let xs = addresses outputs s l.at in
      let (t5, e5) = guard-inv (eqb (behind l.written) words) _ b e4 in
      let (t6, e6) = guard-inv (eqb (l.at + 2 * outputs) (length s)) _ b e5 in
      let (t7, e7) = guard-inv (every (readable v l.written) xs) _ b e6 in
      let (m2, m1) = and-inv (leb arguments port_word_limit && leb 1 outputs && leb outputs port_word_limit) (within_limits count words) t3 in
      let (l4, l5) = and-inv (leb count operation_limit) (leb words word_limit) m1 in
      let (m3, l3) = and-inv (leb arguments port_word_limit && leb 1 outputs) (leb outputs port_word_limit) m2 in
      let (l1, l2) = and-inv (leb arguments port_word_limit) (leb 1 outputs) m3 in
      let h2 : 1 ≤ outputs = leb-true 1 outputs l2 in
      let h3 : outputs ≤ port_word_limit = leb-true outputs port_word_limit l3 in
      let h4 : count ≤ operation_limit = leb-true count operation_limit l4 in
      let (f, h, q, c, w) = instructions-formed v count 12 (argument_words arguments) l el in
      let end : l.at + 2 * outputs ≡ length s = eqb-true _ _ t6 in
      let code = instructions_code v l.instructions in
      let o : length xs ≡ outputs = addresses-length outputs s l.at in
      let xl : length (all_bytes 2 xs) ≡ 2 * outputs = addresses-size outputs l.at in
      let size = length-append code (all_bytes 2 xs) in
      let head = header_code (number v) arguments outputs count words in
      let tail : Here s 12 (code ++ all_bytes 2 xs) = join s code (all_bytes 2 xs) 12 h (moved s q (addresses-here outputs l.at)) in
      let all : s ≡ head ++ (code ++ all_bytes 2 xs) =
      whole_is s (head ++ (code ++ all_bytes 2 xs))
      (join s head (code ++ all_bytes 2 xs) 0 (header-here v t2 (version-is v ev) (number_small v)) tail) (omega arith) in
      subst Coded (some_is e7) (
        v,
        record {
          formed = record {
            arguments = leb-true arguments port_word_limit l1;
            some-output = omega arith;
            outputs = omega arith;
            count = omega arith;
            words = leb-true words word_limit l5;
            instructions = f;
            highest = ap behind (sym w) ∙ eqb-true (behind l.written) words t5;
            small = addresses-small outputs l.at;
            reads = subst (λ (rs : List Range). Each (λ a. readable v rs a ≡ true) xs) w (every-each (readable v l.written) xs t7);
          };
          bytes = rw (o, c) all;
        },
      )

  -- well formed exactly when it is the code of such a board list
  pub well-formed : (b : BoardList) → (decode s ≡ some b) ↔ Coded b
  well-formed b = (decoded b, λ (v, c). ap decode c.bytes ∙ decode-encode v b c.formed)

  pub not-well-formed : (decode s ≡ none) ↔ ((b : BoardList) → Coded b → ⊥)
  not-well-formed = (λ e b c. refuse e ((well-formed b).1 c), λ h. go (decode s) refl h)
    where
      refuse : {b : BoardList} → decode s ≡ none → decode s ≡ some b → ⊥
      refuse e f = let z : ◌≡◌ {A = ℕ} 0 1 = cc in omega arith

      go : (o : Option BoardList) → decode s ≡ o → ((b : BoardList) → Coded b → ⊥) → o ≡ none
      go none e h = refl
      go (some b) e h = absurd (h b ((well-formed b).0 e))

  -- 18 exactly when it is the code of none
  pub refused-18 : (arguments work out : List ℕ) → (ran s arguments work out ≡ fault 18 0) ↔ ((b : BoardList) → Coded b → ⊥)
  unfolding ran ◌>>=◌
  refused-18 arguments work out = (λ e. not-well-formed.0 (there (decode s) e), λ h. back (not-well-formed.1 h))
    where
      after : BoardList → Outcome Buffers
      after b = do
        need (eqb (length arguments) b.arguments) 19 0
        need (every argument_word arguments) 20 0
        need (leb b.words (length work) && leb (length b.outputs) (length out)) 21 0
        ok (record { count = length b.outputs; work = (run b arguments work).memory; out = sets out 0 (run b arguments work).outputs })

      other : (t : Bool) (n : ℕ) (g : Outcome Buffers) → 18 < n → (need t n 0 >> g) ≡ fault 18 0 → g ≡ fault 18 0
      other t n g l e = ⊎_elim (λ x. absurd (omega (arith, x.1, l))) (λ x. x.1) (passed-fault t n 0 g 18 0 e)

      there : (o : Option BoardList) → (or_else o 18 0 >>= after) ≡ fault 18 0 → o ≡ none
      there none e = refl
      there (some b) e = absurd (no-fault _ 18 0 (other _ 21 _ (omega arith) (other _ 20 _ (omega arith) (other _ 19 _ (omega arith) e))))

      back : decode s ≡ none → (or_else (decode s) 18 0 >>= after) ≡ fault 18 0
      back e = rw e refl
