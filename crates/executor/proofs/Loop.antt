-- The loop over the instructions of either version: those that are left, on the words as they are, end where all end. The words that are written so far are
-- known to the invariant alone; the loop keeps where the next result goes, and only version 1 looks at it.
use Prim.Native.Nat.{ℕ, zero, suc, ◌+◌, ◌-◌, ◌*◌, ◌≤◌, ◌<◌}
use mathlib.Core.Path.{◌≡◌, refl, ap, ap₂, sym, ◌∙◌, subst}
use mathlib.Core.Bool.{Bool, true, false, cond}
use mathlib.Core.List.{List, ◌∷◌}
use mathlib.Core.Option.{some}
use native.Mathlib.Omega.{arith}
use native.Mathlib.Numerals.{sub-one}
use lib.Dec.{leb}
use lib.ListN.{length}
use borrow.Author.Tests.{leb-true}
use Rattle.ports.specs.Kinds.{kind_of}
use Rattle.ports.specs.Ports.{takes, arity, constant_words, legal_instruction}
use Rattle.ports.proofs.Laws.{length-takes}
use Rattle.value.specs.Values.{constant_word}
use Rattle.base.specs.Lists.{every}
use Rattle.base.specs.Bytes.{byte, u16, constants}
use Rattle.base.specs.Outcome.{Part}
use Rattle.bytecode.specs.Run.{Instruction, execute, execute_all, spans}
use Rattle.bytecode.specs.Ranges.{Range, behind, result_value}
use Rattle.bytecode.specs.declared.Version.{Version}
use Rattle.bytecode.specs.declared.Version.TheVariants.{V1, V2}
use Rattle.bytecode.specs.Code.{addresses, readable, result_at, result_bytes, argument_words, read_instruction, Listed, read_instructions}
use Rattle.bytecode.proofs.Decoded.{guard-inv, then-inv, addresses-length}
use Rattle.bytecode.proofs.Readable.{behind-grows}
use Rattle.base.proofs.Lists.{some_is}
use Rattle.bytecode.proofs.Origins.{execute-length}
use Rattle.executor.specs.declared.Extent.{Extent}
use Rattle.executor.specs.Execution.{instruction_at, end_of, code_bytes, words_given, Executable, Executed}
use Rattle.executor.specs.Instructions.{version_by, CanonicalReads, after_all, Instructions}
use Rattle.executor.proofs.Canonical.{after-execute, all-loadable}

-- ---- an instruction that is read, and what is known of it

-- where its operands stand
abbrev pub operands_at : Version → ℕ → ℕ
operands_at v at = at + 2 + result_bytes v

pub record Read (v : Version) (written : List Range) (s : List ℕ) (at : ℕ) (i : Part Instruction) : Type 0 where
  pub legal : legal_instruction (kind_of (byte s at)) (byte s (at + 1)) ≡ true
  pub fits : end_of (byte s at) (operands_at v at) ≤ length s
  pub reads :
      every (readable v written) (spans (takes (kind_of (byte s at)) (byte s (at + 1))) (addresses (arity (kind_of (byte s at))) s (operands_at v at)))
      ≡ true
  pub is :
      record {
        it = instruction_at (byte s at) (byte s (at + 1)) s (operands_at v at) (result_at v s (at + 2) written);
        next = end_of (byte s at) (operands_at v at);
      }
      ≡ i

pub read-inv : (v : Version) (written : List Range) (s : List ℕ) (at : ℕ) (i : Part Instruction) → read_instruction v written s at ≡ some i → Read v written s at i
read-inv v written s at i e =
    let k = byte s at in
    let t = byte s (at + 1) in
    let from = operands_at v at in
    let (a, e1) = guard-inv (leb (at + 2) (length s)) _ i e in
    let (b, e2) = guard-inv (legal_instruction (kind_of k) t) _ i e1 in
    let (c, e3) = guard-inv (leb (end_of k from) (length s)) _ i e2 in
    let (d, e4) = guard-inv (every (readable v written) (spans (takes (kind_of k) t) (addresses (arity (kind_of k)) s from))) _ i e3 in
    let (f, e5) = guard-inv (every constant_word (constants (constant_words (kind_of k)) s (from + 2 * arity (kind_of k)))) _ i e4 in
    record { legal = b; fits = leb-true _ _ c; reads = d; is = some_is e5 }

-- ---- where a result goes

-- the next word: of version 1 the word behind all results so far
abbrev pub Next : Version → List Range → ℕ → Type 0
Next V1 written n = n ≡ behind written
Next V2 written n = Unit {0}

pub result-is : (b : Bool) (written : List Range) (s : List ℕ) (at next : ℕ) → Next (version_by b) written next
    → cond b (u16 s at) next ≡ result_at (version_by b) s at written
result-is false written s at next e = e
result-is true written s at next e = refl

next-is : (v : Version) (written : List Range) (s : List ℕ) (at n w : ℕ) → n ≡ result_at v s at written + w
    → Next v (record { first = result_at v s at written; width = w } ∷ written) n
next-is V1 written s at n w e = omega arith
next-is V2 written s at n w e = tt

-- ---- the invariant

pub record Running (v : Version) (s : List ℕ) (left at next : ℕ) (m end : List ℕ) : Type 0 where
  pub written : List Range
  pub next_word : Next v written next
  pub rest : Listed
  pub reads : read_instructions v left s at written ≡ some rest
  pub room : behind rest.written ≤ length m
  pub canonical : CanonicalReads v written m
  pub same : execute_all rest.instructions m ≡ end

first_next : (v : Version) (n : ℕ) → Next v (argument_words n) n
first_next V1 n = omega arith
first_next V2 n = tt

pub start : (v : Version) (s : List ℕ) (count first : ℕ) (m : List ℕ) → Instructions v s count first m
    → Running v s count 12 first m (after_all (read_instructions v count s 12 (argument_words first)) m)
unfolding after_all
start v s count first m h =
    record {
      written = argument_words first;
      next_word = first_next v first;
      rest = h.listed;
      reads = h.reads;
      room = h.room;
      canonical = h.canonical;
      same = rw h.reads;
    }

-- the first instruction that is left, and the others
record Split (v : Version) (written : List Range) (s : List ℕ) (left at : ℕ) (m end : List ℕ) : Type 0 where
  first : Part Instruction
  read : Read v written s at first
  rest : Listed
  reads : read_instructions v left s first.next (result_value first.it ∷ written) ≡ some rest
  room : behind rest.written ≤ length m
  canonical : CanonicalReads v written m
  same : execute_all rest.instructions (execute first.it m) ≡ end

split : (v : Version) (s : List ℕ) (left at next : ℕ) (m end : List ℕ) (h : Running v s (suc left) at next m end) → Split v h.written s left at m end
split v s left at next m end h =
    let written = h.written in
    let (i, ei, e1) = then-inv (read_instruction v written s at) _ h.rest h.reads in
    let (r, er, e2) = then-inv (read_instructions v left s i.next (result_value i.it ∷ written)) _ h.rest e1 in
    let q : record { instructions = i.it ∷ r.instructions; at = r.at; written = r.written } ≡ h.rest = some_is e2 in
    record {
      first = i;
      read = read-inv v written s at i ei;
      rest = r;
      reads = er;
      room = subst (λ (x : Listed). behind x.written ≤ length m) (sym q) h.room;
      canonical = h.canonical;
      same = ap (λ (x : Listed). execute_all x.instructions m) q ∙ h.same;
    }

executable-of : (v : Version) (written : List Range) (s : List ℕ) (left at : ℕ) (m end : List ℕ) → Split v written s left at m end
    → Executable (byte s at) (byte s (at + 1)) s (operands_at v at) (result_at v s (at + 2) written) m
executable-of v written s left at m end p =
    let k = byte s at in
    let t = byte s (at + 1) in
    let r = p.read in
    let result = result_at v s (at + 2) written in
    let xs = addresses (arity (kind_of k)) s (operands_at v at) in
    let g : behind (result_value p.first.it ∷ written) ≤ behind p.rest.written =
    behind-grows v left s p.first.next (result_value p.first.it ∷ written) p.rest p.reads in
    let e : behind (record { first = result; width = words_given k t } ∷ written) ≡ behind (result_value p.first.it ∷ written) =
    ap (λ (x : Part Instruction). behind (result_value x.it ∷ written)) r.is in
    let o : behind p.rest.written ≤ length m = p.room in
    record {
      legal = r.legal;
      ready = record {
        fits = r.fits;
        operands = all-loadable v written m (omega arith) p.canonical (takes (kind_of k) t) xs
            (addresses-length (arity (kind_of k)) s (operands_at v at) ∙ sym (length-takes (kind_of k) t)) r.reads;
        room = omega arith;
      };
    }

pub same_size : (k t : ℕ) (s : List ℕ) (at result : ℕ) (m after : List ℕ) (x : Extent) → Executed k t s at result m after x → length after ≡ length m
same_size k t s at result m after x d = ap length d.words ∙ execute-length (instruction_at k t s at result) m

next_of : (v : Version) (written : List Range) (s : List ℕ) (left at : ℕ) (m end after : List ℕ) (x : Extent) → Split v written s left at m end
    → Executed (byte s at) (byte s (at + 1)) s (operands_at v at) (result_at v s (at + 2) written) m after x
    → Running v s left (operands_at v at + x.bytes) (result_at v s (at + 2) written + x.words) after end
next_of v written s left at m end after x p d =
    let i = p.first in
    let e = p.read.is in
    let k = byte s at in
    let t = byte s (at + 1) in
    let from = operands_at v at in
    let result = result_at v s (at + 2) written in
    let value : Range = record { first = result; width = words_given k t } in
    let b : x.bytes ≡ code_bytes k = d.bytes in
    let g : x.words ≡ words_given k t = d.given in
    let ek : operands_at v at + x.bytes ≡ end_of k from = omega arith in
    let ea : operands_at v at + x.bytes ≡ i.next = ek ∙ ap (λ (y : Part Instruction). y.next) e in
    let ev : value ∷ written ≡ result_value i.it ∷ written = ap (λ (y : Part Instruction). result_value y.it ∷ written) e in
    let em : after ≡ execute i.it m = d.words ∙ ap (λ (y : Part Instruction). execute y.it m) e in
    let el : length after ≡ length m = same_size k t s from result m after x d in
    let o : behind p.rest.written ≤ length m = p.room in
    record {
      written = value ∷ written;
      next_word = next-is v written s (at + 2) (result + x.words) (words_given k t) (ap (λ (n : ℕ). result + n) g);
      rest = p.rest;
      reads = ap₂ (read_instructions v left s) ea ev ∙ p.reads;
      room = omega arith;
      canonical = subst (CanonicalReads v (value ∷ written)) (sym d.words) (after-execute v k t s from (at + 2) written m (executable-of v written s left at m end p) p.canonical);
      same = ap (execute_all p.rest.instructions) em ∙ p.same;
    }

-- ---- a turn of the loop, whose operands stand at `from` and whose result goes to `result`

less : (v : Version) (s : List ℕ) (left at next : ℕ) (m end : List ℕ) (h : Running v s left at next m end) → 0 < left → Split v h.written s (left - 1) at m end
less v s zero at next m end h p = absurd (omega arith)
less v s (suc left) at next m end h p = rw sub-one (split v s left at next m end h)

module _ (b : Bool) {s : List ℕ} {left at next : ℕ} {m end : List ℕ} (h : Running (version_by b) s left at next m end) (more : 0 < left) where
  pub head-there : operands_at (version_by b) at ≤ length s
  head-there = let f : end_of (byte s at) (operands_at (version_by b) at) ≤ length s = (less (version_by b) s left at next m end h more).read.fits in omega arith

  module _ {from result : ℕ} (ef : from ≡ operands_at (version_by b) at) (er : result ≡ cond b (u16 s (at + 2)) next) where
    placed : result ≡ result_at (version_by b) s (at + 2) h.written
    placed = er ∙ result-is b h.written s (at + 2) next h.next_word

    pub ready : Executable (byte s at) (byte s (at + 1)) s from result m
    ready =
        subst (λ (f : ℕ). Executable (byte s at) (byte s (at + 1)) s f result m) (sym ef)
        (subst (λ (r : ℕ). Executable (byte s at) (byte s (at + 1)) s (operands_at (version_by b) at) r m) (sym placed)
        (executable-of (version_by b) h.written s (left - 1) at m end (less (version_by b) s left at next m end h more)))

    pub turned : {after : List ℕ} {x : Extent} → Executed (byte s at) (byte s (at + 1)) s from result m after x
        → Running (version_by b) s (left - 1) (from + x.bytes) (result + x.words) after end
    turned {after} {x} d =
        let v = version_by b in
        let d' : Executed (byte s at) (byte s (at + 1)) s (operands_at v at) (result_at v s (at + 2) h.written) m after x =
        subst (λ (r : ℕ). Executed (byte s at) (byte s (at + 1)) s (operands_at v at) r m after x) placed
        (subst (λ (f : ℕ). Executed (byte s at) (byte s (at + 1)) s f result m after x) ef d) in
        subst (λ (f : ℕ). Running v s (left - 1) (f + x.bytes) (result + x.words) after end) (sym ef)
        (subst (λ (r : ℕ). Running v s (left - 1) (operands_at v at + x.bytes) (r + x.words) after end) (sym placed)
        (next_of v h.written s (left - 1) at m end after x (less v s left at next m end h more) d'))

-- with as many left
pub left-is : {v : Version} {s : List ℕ} {i j at next : ℕ} {m end : List ℕ} → i ≡ j → Running v s i at next m end → Running v s j at next m end
left-is {v} {s} {i} {j} {at} {next} {m} {end} e h = subst (λ (n : ℕ). Running v s n at next m end) e h

pub done : (v : Version) (s : List ℕ) (left at next : ℕ) (m end : List ℕ) → Running v s left at next m end → left ≡ 0 → m ≡ end
done v s zero at next m end h z = ap (λ (x : Listed). execute_all x.instructions m) (some_is h.reads) ∙ h.same
done v s (suc left) at next m end h z = absurd (omega arith)
