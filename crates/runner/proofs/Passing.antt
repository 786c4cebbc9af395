-- The check of all instructions of either version, and of the list behind the header. The loop's invariant knows the words that are written so far: the loop
-- keeps the word behind them, and in version 2 a mark for each.
use Rattle.std.specs.Prelude.{Some, None}
use Prim.Native.Nat.{ℕ, zero, suc, ◌+◌, ◌-◌, ◌*◌, ◌≤◌, ◌<◌, max}
use mathlib.Core.Path.{◌≡◌, refl, ap, ap₂, sym, ◌∙◌, subst}
use mathlib.Core.Bool.{Bool, true, false, ◌&&◌, cond}
use mathlib.Core.List.{List, [], ◌∷◌}
use mathlib.Core.Option.{Option, none, some}
use native.Mathlib.Omega.{arith}
use native.Mathlib.Numerals.{sub-one}
use borrow.Author.Tests.{le-leb, lt-leb, leb-true, leb-false}
use lib.Dec.{leb}
use lib.ListN.{length}
use Rattle.ports.specs.declared.Ports.{Ports}
use Rattle.ports.specs.Kinds.{kind_of}
use Rattle.ports.specs.Ports.{rows, ports_of, takes, arity, result_words}
use Rattle.ports.proofs.Laws.{no_kind, words-few, words-given}
use Rattle.base.specs.Bytes.{byte, u16}
use Rattle.base.specs.Lists.{every}
use Rattle.base.specs.Limits.{word_limit}
use Rattle.base.specs.Outcome.{Part}
use Rattle.base.proofs.Bools.{and-inv, and_both, and-false}
use Rattle.base.proofs.Lists.{some_is}
use Rattle.bytecode.specs.Run.{Instruction}
use Rattle.bytecode.specs.Ranges.{Range, behind, result_value}
use Rattle.bytecode.specs.declared.Version.{Version}
use Rattle.bytecode.specs.declared.Version.TheVariants.{V1, V2}
use Rattle.bytecode.specs.Code.{then, addresses, readable, argument_words, read_instruction, Listed, read_instructions}
use Rattle.bytecode.proofs.Readable.{behind-grows}
use Rattle.executor.specs.Execution.{end_of, words_given}
use Rattle.executor.specs.Instructions.{version_by}
use Rattle.executor.proofs.Loop.{operands_at, read-inv}
use Rattle.runner.specs.declared.Cursor.{Cursor}
use Rattle.runner.specs.Answers.{Progress}
use Rattle.runner.specs.Checks.{Recorded, Extended, legal_row, operands_from, operands_good, inputs_end, inputs_good, placed, Writes, Put, step, Stepped, ended_of, written_of, Checkable, Ended}
use Rattle.runner.proofs.Marks.{records-next}
use Rattle.runner.proofs.Checking.{good_operands, good_constant, too-short}
use Rattle.runner.proofs.Reading.{reads_of, instruction_of, unread, is_read, good-reads}

-- ---- the instructions that are left

refused-apart : {x : Cursor} → None ≡ Some x → ⊥
refused-apart e = let z : ◌≡◌ {A = ℕ} 0 1 = cc in omega arith

passed_is : {x y : Cursor} → Some x ≡ Some y → x ≡ y
passed_is e = cc

-- what is read behind the first is what is read behind all
record Behind (x o : Option Listed) : Type 0 where
  ends : ended_of x ≡ ended_of o
  writes : written_of x ≡ written_of o

inner : (o : Option Listed) (i : Instruction) → Behind (then o (λ r. some (record { instructions = i ∷ r.instructions; at = r.at; written = r.written }))) o
unfolding ended_of written_of then
inner none i = record { ends = refl; writes = refl }
inner (some l) i = record { ends = refl; writes = refl }

module _ (v : Version) (s : List ℕ) where
  after_none : (n at : ℕ) (written : List Range) → read_instruction v written s at ≡ none → ended_of (read_instructions v (suc n) s at written) ≡ None
  unfolding ended_of then
  after_none n at written e = rw e

  after-some : (n at : ℕ) (written : List Range) (i : Part Instruction) → read_instruction v written s at ≡ some i
      → Behind (read_instructions v (suc n) s at written) (read_instructions v n s i.next (result_value i.it ∷ written))
  unfolding then
  after-some n at written i e = rw e (inner (read_instructions v n s i.next (result_value i.it ∷ written)) i.it)

  -- words past the limit are not taken back
  over : (n at : ℕ) (written : List Range) → word_limit < behind written → ended_of (read_instructions v n s at written) ≡ None
  unfolding ended_of
  over n at written h = go (read_instructions v n s at written) refl
    where
      go : (o : Option Listed) → read_instructions v n s at written ≡ o → ended_of o ≡ None
      go none e = refl
      go (some l) e =
          let g : behind written ≤ behind l.written = behind-grows v n s at written l e in
          rw (lt-leb (behind l.written) word_limit (omega arith)) refl

-- ---- the invariant

pub record Going (b : Bool) (s : List ℕ) (o : Option Listed) (left at high : ℕ) (marks : List Bool) : Type 0 where
  pub written : List Range
  pub ends : ended_of (read_instructions (version_by b) left s at written) ≡ ended_of o
  pub writes : written_of (read_instructions (version_by b) left s at written) ≡ written_of o
  pub high_is : behind written ≡ high
  pub recorded : Recorded b written marks
  pub within : at ≤ length s
  pub small : high + 16 * left ≤ word_limit + 16 * 65535
  pub few : left ≤ 65535

pub start : (b : Bool) (s : List ℕ) (count first : ℕ) (marks : List Bool) → Checkable b s count first marks
    → Going b s (read_instructions (version_by b) count s 12 (argument_words first)) count 12 first marks
start b s count first marks h =
    let f : first ≤ 255 = h.first_small in
    let c : count ≤ 65535 = h.few in
    record {
      written = argument_words first;
      ends = refl;
      writes = refl;
      high_is = omega arith;
      recorded = h.recorded;
      within = h.long;
      small = omega arith;
      few = c;
    }

pub stopped : {b : Bool} {o : Option Listed} {marks : List Bool} → None ≡ ended_of o → Ended b o marks None
stopped e = record { answer = e; recorded = λ x q. absurd (refused-apart q) }

module _ (b : Bool) {s : List ℕ} {o : Option Listed} where
  pub stop : {left at high : ℕ} {marks : List Bool} (g : Going b s o left at high marks) → 0 < left → read_instruction (version_by b) g.written s at ≡ none
      → None ≡ ended_of o
  stop {left} {at} g h e = go left h g.ends
    where
      go : (n : ℕ) → 0 < n → ended_of (read_instructions (version_by b) n s at g.written) ≡ ended_of o → None ≡ ended_of o
      go zero h q = absurd (omega arith)
      go (suc n) h q = sym (after_none (version_by b) s n at g.written e) ∙ q

  -- past the first instruction
  module _ {left at high : ℕ} {marks : List Bool} (g : Going b s o left at high marks) (h : 0 < left) where
    abbrev v : Version
    v = version_by b

    abbrev value : Range
    value = result_value (instruction_of v g.written s at).it

    behind-first : (n : ℕ) → 0 < n → read_instruction v g.written s at ≡ some (instruction_of v g.written s at)
        → Behind (read_instructions v n s at g.written) (read_instructions v (n - 1) s (end_of (byte s at) (operands_at v at)) (value ∷ g.written))
    behind-first zero h e = absurd (omega arith)
    behind-first (suc n) h e = rw sub-one (after-some v s n at g.written (instruction_of v g.written s at) e)

    module _ (e : read_instruction v g.written s at ≡ some (instruction_of v g.written s at)) where
      beyond : word_limit < behind (value ∷ g.written) → None ≡ ended_of o
      beyond l = sym (over v s (left - 1) (end_of (byte s at) (operands_at v at)) (value ∷ g.written) l) ∙ sym (behind-first left h e).ends ∙ g.ends

      on : {after : List Bool} (y : Cursor) → y.at ≡ end_of (byte s at) (operands_at v at) → y.at ≤ length s → y.result ≡ behind (value ∷ g.written)
          → y.result + 16 * (left - 1) ≤ word_limit + 16 * 65535 → Recorded b (value ∷ g.written) after
          → Going b s o (left - 1) y.at y.result after
      on y ea w eh l r =
          let q = behind-first left h e in
          let f : left ≤ 65535 = g.few in
          record {
            written = value ∷ g.written;
            ends = ap (λ (a : ℕ). ended_of (read_instructions v (left - 1) s a (value ∷ g.written))) ea ∙ sym q.ends ∙ g.ends;
            writes = ap (λ (a : ℕ). written_of (read_instructions v (left - 1) s a (value ∷ g.written))) ea ∙ sym q.writes ∙ g.writes;
            high_is = sym eh;
            recorded = r;
            within = w;
            small = l;
            few = omega arith;
          }

-- ---- a turn

pub record Turned (b : Bool) (s : List ℕ) (o : Option Listed) (left : ℕ) (after : List Bool) (r : Progress) : Type 0 where
  pub refused : r ≡ None → None ≡ ended_of o
  pub passed : (y : Cursor) → r ≡ Some y → Going b s o (left - 1) y.at y.result after

abbrev pub row_at : List ℕ → ℕ → Ports
row_at s at = ports_of (kind_of (byte s at))

-- its instruction is read: its result is placed, or there is no room
placing : (b : Bool) {s : List ℕ} {o : Option Listed} {left at high : ℕ} {marks after : List Bool} {r : Progress} (g : Going b s o left at high marks)
    → 0 < left → read_instruction (version_by b) g.written s at ≡ some (instruction_of (version_by b) g.written s at)
    → r ≡ placed b (u16 s (at + 2)) (result_words (row_at s at) (byte s (at + 1))) (inputs_end (row_at s at) (operands_from b at)) high (length marks)
    → ((x : Cursor) → r ≡ Some x → Writes b (u16 s (at + 2)) (result_words (row_at s at) (byte s (at + 1))) marks after)
    → Turned b s o left after r
placing false {s} {o} {left} {at} {high} {marks} {after} {r} g h i e w =
    let k = byte s at in
    let t = byte s (at + 1) in
    let f : end_of k (operands_at V1 at) ≤ length s = (read-inv V1 g.written s at (instruction_of V1 g.written s at) i).fits in
    let words : result_words (row_at s at) t ≡ words_given k t = words-given (kind_of k) t in
    let few : words_given k t ≤ 16 = words-few (kind_of k) t in
    let q : behind g.written ≡ high = g.high_is in
    let z : high + 16 * left ≤ word_limit + 16 * 65535 = g.small in
    let end : Cursor = record { at = inputs_end (row_at s at) (operands_from false at); result = high + result_words (row_at s at) t } in
    let next : Going false s o (left - 1) end.at end.result after = on false g h i end (omega arith) (omega arith) (omega arith) (omega arith) tt in
    record {
      refused = λ u. absurd (refused-apart (sym u ∙ e));
      passed = λ y u. subst (λ (c : Cursor). Going false s o (left - 1) c.at c.result after) (passed_is (sym e ∙ u)) next;
    }
placing true {s} {o} {left} {at} {high} {marks} {after} {r} g h i e w = go (leb last (length marks)) refl
  where
    k : ℕ
    k = byte s at

    t : ℕ
    t = byte s (at + 1)

    last : ℕ
    last = u16 s (at + 2) + result_words (row_at s at) t

    end : Cursor
    end = record { at = inputs_end (row_at s at) (operands_from true at); result = max high last }

    words : result_words (row_at s at) t ≡ words_given k t
    words = words-given (kind_of k) t

    highest : max high last ≡ behind (result_value (instruction_of V2 g.written s at).it ∷ g.written)
    highest =
        let q : behind g.written ≡ high = g.high_is in
        let e = words in
        omega arith

    go : (d : Bool) → leb last (length marks) ≡ d → Turned true s o left after r
    go false ed =
        let l : length marks < last = leb-false _ _ ed in
        let n : length marks ≡ word_limit = g.recorded.size in
        let q = highest in
        let a : r ≡ None = e ∙ ap (λ (d : Bool). cond {A = Progress} d (Some end) None) ed in
        record {
          refused = λ u. beyond true g h i (omega arith);
          passed = λ y u. absurd (refused-apart (sym a ∙ u));
        }
    go true ed =
        let l : last ≤ length marks = leb-true _ _ ed in
        let n : length marks ≡ word_limit = g.recorded.size in
        let a : r ≡ Some end = e ∙ ap (λ (d : Bool). cond {A = Progress} d (Some end) None) ed in
        let ext : Extended (u16 s (at + 2)) (words_given k t) marks after =
        subst (λ (m : ℕ). Extended (u16 s (at + 2)) m marks after) words (w _ a) in
        let f : end_of k (operands_at V2 at) ≤ length s = (read-inv V2 g.written s at (instruction_of V2 g.written s at) i).fits in
        let z : high + 16 * left ≤ word_limit + 16 * 65535 = g.small in
        let c : left ≤ 65535 = g.few in
        let next : Going true s o (left - 1) end.at end.result after =
        on true g h i end (omega arith) (omega arith) highest (omega arith) (records-next g.recorded ext) in
        record {
          refused = λ u. absurd (refused-apart (sym u ∙ a));
          passed = λ y u. subst (λ (c : Cursor). Going true s o (left - 1) c.at c.result after) (passed_is (sym a ∙ u)) next;
        }

module _ (b : Bool) {s : List ℕ} {o : Option Listed} {left at high : ℕ} {marks after : List Bool} {r : Progress} (g : Going b s o left at high marks)
    (h : 0 < left) (w : Stepped b s at high marks after r) where
  abbrev kind_here : ℕ
  kind_here = byte s at

  abbrev type_here : ℕ
  type_here = byte s (at + 1)

  abbrev from_here : ℕ
  from_here = operands_from b at

  abbrev row_here : Ports
  row_here = row_at s at

  abbrev test : Bool
  test = legal_row row_here type_here && inputs_good b s from_here row_here type_here high marks

  same : good_operands b s from_here row_here type_here high marks ≡ every (readable (version_by b) g.written) (reads_of (version_by b) g.written s at)
  same =
      ap (λ (n : ℕ). operands_good b marks n (takes (kind_of kind_here) type_here) (addresses (arity (kind_of kind_here)) s from_here)) (sym g.high_is)
      ∙ good-reads b g.written marks g.recorded (takes (kind_of kind_here) type_here) (addresses (arity (kind_of kind_here)) s from_here)

  end-is : end_of kind_here from_here ≡ inputs_end row_here from_here
  end-is = omega arith

  read : test ≡ true → read_instruction (version_by b) g.written s at ≡ some (instruction_of (version_by b) g.written s at)
  unfolding inputs_good
  read e =
      let (a, i) = and-inv (legal_row row_here type_here) (inputs_good b s from_here row_here type_here high marks) e in
      let (fo, d) = and-inv (leb (inputs_end row_here from_here) (length s) && good_operands b s from_here row_here type_here high marks)
      (good_constant b s from_here row_here type_here high marks) i in
      let (f, c) = and-inv (leb (inputs_end row_here from_here) (length s)) (good_operands b s from_here row_here type_here high marks) fo in
      let l : inputs_end row_here from_here ≤ length s = leb-true _ _ f in
      is_read (version_by b) g.written s at (omega arith) a (ap (λ (n : ℕ). leb n (length s)) end-is ∙ f) (sym same ∙ c) d

  not-read : test ≡ false → read_instruction (version_by b) g.written s at ≡ none
  unfolding inputs_good
  not-read e =
      unread (version_by b) g.written s at (λ l a f c d.
      let q : test ≡ true =
      and_both (legal_row row_here type_here) (inputs_good b s from_here row_here type_here high marks) a
      (and_both (leb (inputs_end row_here from_here) (length s) && good_operands b s from_here row_here type_here high marks)
      (good_constant b s from_here row_here type_here high marks)
      (and_both (leb (inputs_end row_here from_here) (length s)) (good_operands b s from_here row_here type_here high marks)
      (ap (λ (n : ℕ). leb n (length s)) (sym end-is) ∙ f) (same ∙ c)) d) in
      let z : ◌≡◌ {A = ℕ} 0 1 = cc in
      omega arith)

  pub turned : Turned b s o left after r
  unfolding step
  turned = go test refl
    where
      to : Progress
      to = placed b (u16 s (at + 2)) (result_words row_here type_here) (inputs_end row_here from_here) high (length marks)

      go : (x : Bool) → test ≡ x → Turned b s o left after r
      go false e =
          let a : r ≡ None = w.answer ∙ ap (λ (x : Bool). cond x to None) e in
          record { refused = λ u. stop b g h (not-read e); passed = λ y u. absurd (refused-apart (sym a ∙ u)) }
      go true e = placing b g h (read e) (w.answer ∙ ap (λ (x : Bool). cond x to None) e) w.extended

-- none is left
module _ (b : Bool) {s : List ℕ} {o : Option Listed} {left at high : ℕ} {marks : List Bool} (g : Going b s o left at high marks) (z : left ≡ 0) where
  all_read : read_instructions (version_by b) left s at g.written ≡ read_instructions (version_by b) 0 s at g.written
  all_read = ap (λ (n : ℕ). read_instructions (version_by b) n s at g.written) z

  pub too_many : word_limit < high → None ≡ ended_of o
  too_many l = let q : behind g.written ≡ high = g.high_is in sym (over (version_by b) s left at g.written (omega arith)) ∙ g.ends

  pub ended : high ≤ word_limit → Ended b o marks (Some (record { at = at; result = high }))
  unfolding ended_of written_of
  ended l =
      let q : behind g.written ≡ high = g.high_is in
      let w : written_of o ≡ some g.written = sym g.writes ∙ ap written_of all_read in
      record {
        answer = ap (λ (n : ℕ). Some (record { at = at; result = n })) (sym q)
            ∙ ap (λ (c : Bool). cond c (Some (record { at = at; result = behind g.written })) None) (sym (le-leb (behind g.written) word_limit (omega arith)))
            ∙ ap ended_of (sym all_read)
            ∙ g.ends;
        recorded = λ x e written f. subst (λ (rs : List Range). Recorded b rs marks) (some_is (sym w ∙ f)) g.recorded;
      }

-- ---- version 1 keeps no marks

pub unmarked : {b : Bool} {s : List ℕ} {count first : ℕ} {marks : List Bool} → Checkable b s count first marks → Checkable false s count first []
unmarked h = record { long = h.long; few = h.few; first_small = h.first_small; recorded = tt }

pub no-marks : {o : Option Listed} {marks after : List Bool} {r : Progress} → Ended false o marks r → Ended false o after r
no-marks h = record { answer = h.answer; recorded = λ x e written f. tt }

-- ---- an instruction, test by test

module _ (first words next high : ℕ) (marks after : List Bool) where
  pub not-stored : length marks < first + words → Put true first words next high marks after None
  not-stored l = record { answer = rw (lt-leb (first + words) (length marks) l); extended = λ x q. absurd (refused-apart q) }

  pub is-stored : first + words ≤ length marks → {n : ℕ} → n ≡ max high (first + words) → Extended first words marks after
      → Put true first words next high marks after (Some (record { at = next; result = n }))
  is-stored l {n} q h = record { answer = rw (le-leb (first + words) (length marks) l, q) refl; extended = λ x u. h }

module _ (b : Bool) (s : List ℕ) (at high : ℕ) (marks after : List Bool) where
  refuses : legal_row (row_at s at) (byte s (at + 1)) && inputs_good b s (operands_from b at) (row_at s at) (byte s (at + 1)) high marks ≡ false
      → Stepped b s at high marks after None
  unfolding step
  refuses e = record { answer = rw e refl; extended = λ x q. absurd (refused-apart q) }

  module _ {row : Ports} (er : row ≡ row_at s at) {t : ℕ} (et : t ≡ byte s (at + 1)) {from : ℕ} (ef : from ≡ operands_from b at) where
    legal-is : legal_row row t ≡ legal_row (row_at s at) (byte s (at + 1))
    legal-is = ap₂ legal_row er et

    inputs-are : inputs_good b s from row t high marks ≡ inputs_good b s (operands_from b at) (row_at s at) (byte s (at + 1)) high marks
    inputs-are =
        ap₂ (λ (r : Ports) (u : ℕ). inputs_good b s from r u high marks) er et
        ∙ ap (λ (f : ℕ). inputs_good b s f (row_at s at) (byte s (at + 1)) high marks) ef

    pub no-kind-here : legal_row row t ≡ false → Stepped b s at high marks after None
    no-kind-here a =
        refuses (ap (λ (x : Bool). x && inputs_good b s (operands_from b at) (row_at s at) (byte s (at + 1)) high marks) (sym legal-is ∙ a))

    pub no-inputs : inputs_good b s from row t high marks ≡ false → Stepped b s at high marks after None
    no-inputs e =
        refuses
        (ap (λ (x : Bool). legal_row (row_at s at) (byte s (at + 1)) && x) (sym inputs-are ∙ e) ∙ and-false (legal_row (row_at s at) (byte s (at + 1))))

    -- all passed
    pub stepped : legal_row row t ≡ true → inputs_good b s from row t high marks ≡ true → {words next : ℕ} {r : Progress}
        → words ≡ result_words row t → next ≡ inputs_end row from → Put b (u16 s (at + 2)) words next high marks after r
        → Stepped b s at high marks after r
    unfolding step
    stepped a i {words} {next} {r} ew en h =
        let ew' : words ≡ result_words (row_at s at) (byte s (at + 1)) = ew ∙ ap₂ result_words er et in
        let en' : next ≡ inputs_end (row_at s at) (operands_from b at) = en ∙ ap₂ inputs_end er ef in
        let pass : (legal_row (row_at s at) (byte s (at + 1)) && inputs_good b s (operands_from b at) (row_at s at) (byte s (at + 1)) high marks) ≡ true =
        and_both _ _ (sym legal-is ∙ a) (sym inputs-are ∙ i) in
        record {
          answer = h.answer ∙ ap₂ (λ (w n : ℕ). placed b (u16 s (at + 2)) w n high (length marks)) ew' en' ∙ rw pass refl;
          extended = λ x u. subst (λ (n : ℕ). Writes b (u16 s (at + 2)) n marks after) ew' (h.extended x u);
        }

  pub kind-high : length rows ≤ byte s at → Stepped b s at high marks after None
  kind-high h = no-kind-here refl refl refl (ap (λ (r : Ports). legal_row r (byte s (at + 1))) (no_kind (byte s at) h))

  pub no-head : length s < operands_from b at → Stepped b s at high marks after None
  no-head l = no-inputs refl refl refl (too-short b s (operands_from b at) (row_at s at) (byte s (at + 1)) high marks (omega arith))
