-- The list behind the header, and the whole code: each test against the reading, in the version that the header names.
use Rattle.std.specs.Prelude.{Some, None}
use Prim.Native.Nat.{ℕ, zero, suc, ◌+◌, ◌*◌, ◌≤◌, ◌<◌}
use mathlib.Core.Path.{◌≡◌, refl, ap, sym, ◌∙◌}
use mathlib.Core.Bool.{Bool, true, false, ◌&&◌, cond}
use mathlib.Core.List.{List, [], ◌∷◌}
use mathlib.Core.Option.{Option, none, some}
use mathlib.Core.Logic.{◌⊎◌, inl, inr, ⊎_elim}
use native.Mathlib.Omega.{arith}
use borrow.Author.Tests.{le-leb, lt-leb, leb-true, leb-false, eq-eqb, ne_eqb, eqb-true, eqb-false}
use lib.Dec.{leb, eqb}
use lib.ListN.{length, replicate}
use Rattle.std.specs.Bool.{then_some}
use Rattle.base.specs.Bytes.{byte, u16}
use Rattle.base.specs.Lists.{every}
use Rattle.base.specs.Limits.{port_word_limit, operation_limit, word_limit, within_limits}
use Rattle.base.proofs.Bools.{and-inv, and-inv-false}
use Rattle.base.proofs.Lists.{some_is}
use Rattle.base.specs.Outcome.{Part}
use Rattle.bytecode.specs.Run.{Instruction, BoardList}
use Rattle.bytecode.specs.Ranges.{Range, behind, result_value}
use Rattle.bytecode.specs.declared.Version.{Version}
use Rattle.bytecode.specs.Version.{number, version_of}
use Rattle.bytecode.specs.Code.{guard, then, addresses, readable, argument_words, read_instruction, Listed, read_instructions, read_outputs, counts_fit, read_counts, code_marked, decode}
use Rattle.bytecode.proofs.Back.{version-number}
use Rattle.bytecode.proofs.Decoded.{then-inv, addresses-length}
use Rattle.executor.specs.Execution.{end_of}
use Rattle.executor.specs.Instructions.{version_by}
use Rattle.executor.proofs.Loop.{operands_at, read-inv}
use Rattle.runner.specs.declared.Counts.{Counts}
use Rattle.runner.specs.declared.Cursor.{Cursor}
use Rattle.runner.specs.Answers.{Progress, Checked}
use Rattle.runner.specs.Checks.{all_less, marked, behind_good, Recorded, Extended, ended_of, written_of, Ended, Listable, checked_of, header_counts, list_of}
use Rattle.runner.proofs.Marks.{records-first, every-same}
use Rattle.runner.proofs.Reading.{less-reads}

-- ---- instructions that were read

at-within : (v : Version) (n : ℕ) (s : List ℕ) (at : ℕ) (written : List Range) (l : Listed) → at ≤ length s → read_instructions v n s at written ≡ some l → l.at ≤ length s
at-within v zero s at written l h e = let q : at ≡ l.at = ap (λ (x : Listed). x.at) (some_is e) in omega arith
at-within v (suc n) s at written l h e =
    let (i, ei, e1) = then-inv (read_instruction v written s at) _ l e in
    let (r, er, e2) = then-inv (read_instructions v n s i.next (result_value i.it ∷ written)) _ l e1 in
    let d = read-inv v written s at i ei in
    let f : end_of (byte s at) (operands_at v at) ≤ length s = d.fits in
    let p : end_of (byte s at) (operands_at v at) ≡ i.next = ap (λ (y : Part Instruction). y.next) d.is in
    let w : r.at ≤ length s = at-within v n s i.next (result_value i.it ∷ written) r (omega arith) er in
    let q : r.at ≡ l.at = ap (λ (x : Listed). x.at) (some_is e2) in
    omega arith

pub count-is : (v : Version) (n : ℕ) (s : List ℕ) (at : ℕ) (written : List Range) (l : Listed) → read_instructions v n s at written ≡ some l → length l.instructions ≡ n
count-is v zero s at written l e = sym (ap (λ (x : Listed). length x.instructions) (some_is e))
count-is v (suc n) s at written l e =
    let (i, ei, e1) = then-inv (read_instruction v written s at) _ l e in
    let (r, er, e2) = then-inv (read_instructions v n s i.next (result_value i.it ∷ written)) _ l e1 in
    sym (ap (λ (x : Listed). length x.instructions) (some_is e2)) ∙ ap suc (count-is v n s i.next (result_value i.it ∷ written) r er)

-- what the check of all tells
passed-end : (o : Option Listed) (x : Cursor) → ended_of o ≡ Some x → (l : Listed) × (o ≡ some l) × (x.at ≡ l.at) × (x.result ≡ behind l.written)
unfolding ended_of
passed-end none x e = let z : ◌≡◌ {A = ℕ} 0 1 = cc in absurd (omega arith)
passed-end (some l) x e = go (leb (behind l.written) word_limit) e
  where
    go : (b : Bool) → cond b (Some (record { at = l.at; result = behind l.written })) None ≡ Some x
        → (l' : Listed) × (some l ≡ some l') × (x.at ≡ l'.at) × (x.result ≡ behind l'.written)
    go true e =
        let q : record { at = l.at; result = behind l.written } ≡ x = cc in
        (l, refl, sym (ap (λ (y : Cursor). y.at) q), sym (ap (λ (y : Cursor). y.result) q))
    go false e = let z : ◌≡◌ {A = ℕ} 0 1 = cc in absurd (omega arith)

refused_end : (o : Option Listed) → ended_of o ≡ None → (o ≡ none) ⊎ ((l : Listed) × (o ≡ some l) × (word_limit < behind l.written))
unfolding ended_of
refused_end none e = inl refl
refused_end (some l) e = go (leb (behind l.written) word_limit) refl e
  where
    go : (b : Bool) → leb (behind l.written) word_limit ≡ b → cond {A = Progress} b (Some (record { at = l.at; result = behind l.written })) None ≡ None
        → (some l ≡ none) ⊎ ((l' : Listed) × (some l ≡ some l') × (word_limit < behind l'.written))
    go true q e = let z : ◌≡◌ {A = ℕ} 0 1 = cc in absurd (omega arith)
    go false q e = inr (l, refl, leb-false _ _ q)

written_is : (o : Option Listed) (l : Listed) → o ≡ some l → written_of o ≡ some l.written
unfolding written_of
written_is o l e = rw e refl

-- ---- tests passed and failed

pub on-check : {b : Bool} (o : Option BoardList) → b ≡ true → checked_of (guard b o) ≡ checked_of o
unfolding guard
on-check o e = rw e

pub off-check : {b : Bool} (o : Option BoardList) → b ≡ false → checked_of (guard b o) ≡ None
unfolding guard checked_of
off-check o e = rw e

pub some_by : (b : Bool) (c : Counts) → then_some b c ≡ cond {A = Checked} b (Some c) None
some_by true c = refl
some_by false c = refl

-- ---- the list

-- outputs, by the version
outputs-are : (b : Bool) (written : List Range) (marks : List Bool) → Recorded b written marks → (words : ℕ) → behind written ≡ words → (xs : List ℕ)
    → every (readable (version_by b) written) xs ≡ cond b (every (marked marks) xs) (all_less words xs)
outputs-are false written marks r words e xs = less-reads written xs ∙ ap (λ (n : ℕ). all_less n xs) e
outputs-are true written marks r words e xs = sym (every-same (marked marks) (readable (version_by true) written) r.is xs)

module _ (b : Bool) {s : List ℕ} {c : Counts} {marks : List Bool} (h : Listable b s c marks) where
  abbrev v : Version
  v = version_by b

  abbrev all : Option Listed
  all = read_instructions v c.instructions s 12 (argument_words c.arguments)

  pub no-list : ended_of all ≡ None → None ≡ checked_of (list_of v s c)
  unfolding then checked_of
  no-list e = ⊎_elim
      (λ q. rw q)
      (λ (l, q, w).
      let n : c.words ≤ word_limit = h.words in
      rw q (sym (off-check _ (ne_eqb (behind l.written) c.words (λ z. absurd (omega arith))))))
      (refused_end all e)

  module _ {after : List Bool} {x : Cursor} (e : Ended b all after (Some x)) where
    found : (l : Listed) × (all ≡ some l) × (x.at ≡ l.at) × (x.result ≡ behind l.written)
    found = passed-end all x (sym e.answer)

    abbrev the-list : Listed
    the-list = found.0

    is-list : all ≡ some the-list
    is-list = found.1

    at-is : x.at ≡ the-list.at
    at-is = found.2

    words-is : x.result ≡ behind the-list.written
    words-is = found.3

    pub end-within : x.at ≤ length s
    end-within =
        let w : the-list.at ≤ length s = at-within v c.instructions s 12 (argument_words c.arguments) the-list h.long is-list in
        let a = at-is in
        omega arith

    listed : checked_of (list_of v s c) ≡ checked_of (read_outputs v s c.arguments c.outputs c.words the-list)
    unfolding then
    listed = rw is-list

    pub other-words : (x.result ≡ c.words → ⊥) → None ≡ checked_of (list_of v s c)
    other-words d = sym (listed ∙ off-check _ (ne_eqb (behind the-list.written) c.words (λ q. d (words-is ∙ q))))

    module _ (same : x.result ≡ c.words) where
      counted : eqb (behind the-list.written) c.words ≡ true
      counted = eq-eqb (behind the-list.written) c.words (sym words-is ∙ same)

      pub other_length : (x.at + 2 * c.outputs ≡ length s → ⊥) → None ≡ checked_of (list_of v s c)
      other_length d =
          sym (listed ∙ on-check _ counted ∙ off-check _ (ne_eqb (the-list.at + 2 * c.outputs) (length s) (λ q. d (ap (λ (a : ℕ). a + 2 * c.outputs) at-is ∙ q))))

      module _ (full : x.at + 2 * c.outputs ≡ length s) where
        ended-there : eqb (the-list.at + 2 * c.outputs) (length s) ≡ true
        ended-there = eq-eqb (the-list.at + 2 * c.outputs) (length s) (ap (λ (a : ℕ). a + 2 * c.outputs) (sym at-is) ∙ full)

        abbrev outputs_pass : Bool
        outputs_pass = cond b (every (marked after) (addresses c.outputs s x.at)) (all_less c.words (addresses c.outputs s x.at))

        outputs-is : every (readable v the-list.written) (addresses c.outputs s the-list.at) ≡ outputs_pass
        outputs-is =
            outputs-are b the-list.written after (e.recorded x refl the-list.written (written_is all the-list is-list)) c.words (sym words-is ∙ same) (addresses c.outputs s the-list.at)
            ∙ ap (λ (a : ℕ). cond b (every (marked after) (addresses c.outputs s a)) (all_less c.words (addresses c.outputs s a))) (sym at-is)

        pub bad-output : outputs_pass ≡ false → None ≡ checked_of (list_of v s c)
        bad-output d = sym (listed ∙ on-check _ counted ∙ on-check _ ended-there ∙ off-check _ (outputs-is ∙ d))

        pub formed : outputs_pass ≡ true → Some c ≡ checked_of (list_of v s c)
        unfolding checked_of
        formed d =
            let n : length (addresses c.outputs s the-list.at) ≡ c.outputs = addresses-length c.outputs s the-list.at in
            let m : length the-list.instructions ≡ c.instructions = count-is v c.instructions s 12 (argument_words c.arguments) the-list is-list in
            ap (λ (o : ℕ). Some (record { arguments = c.arguments; outputs = o; instructions = c.instructions; words = c.words })) (sym n)
            ∙ ap (λ (i : ℕ). Some (record { arguments = c.arguments; outputs = length (addresses c.outputs s the-list.at); instructions = i; words = c.words })) (sym m)
            ∙ sym (listed ∙ on-check _ counted ∙ on-check _ ended-there ∙ on-check _ (outputs-is ∙ d))

    -- by what stands behind the instructions
    pub by-behind : {r : Checked} → r ≡ cond (behind_good b s c x after) (Some c) None → r ≡ checked_of (list_of v s c)
    by-behind {r} d =
        go (eqb x.result c.words) refl (eqb (x.at + 2 * c.outputs) (length s)) refl
        (cond b (every (marked after) (addresses c.outputs s x.at)) (all_less c.words (addresses c.outputs s x.at))) refl
      where
        given : {p : Bool} → behind_good b s c x after ≡ p → r ≡ cond {A = Checked} p (Some c) None
        given q = d ∙ ap (λ (y : Bool). cond {A = Checked} y (Some c) None) q

        go : (p : Bool) → eqb x.result c.words ≡ p → (q : Bool) → eqb (x.at + 2 * c.outputs) (length s) ≡ q
            → (y : Bool) → cond b (every (marked after) (addresses c.outputs s x.at)) (all_less c.words (addresses c.outputs s x.at)) ≡ y
            → r ≡ checked_of (list_of v s c)
        go false i q j y k = given {p = false} (rw i refl) ∙ other-words (eqb-false _ _ i)
        go true i false j y k = given {p = false} (rw (i, j) refl) ∙ other_length (eqb-true _ _ i) (eqb-false _ _ j)
        go true i true j false k = given {p = false} (rw (i, j, k) refl) ∙ bad-output (eqb-true _ _ i) (eqb-true _ _ j) k
        go true i true j true k = given {p = true} (rw (i, j, k) refl) ∙ formed (eqb-true _ _ i) (eqb-true _ _ j) k

-- with the marks of the arguments
pub with-marks : {s : List ℕ} {c : Counts} {marks : List Bool} → Listable false s c [] → Extended 0 c.arguments (replicate word_limit false) marks → Listable true s c marks
with-marks h e =
    record { long = h.long; arguments = h.arguments; outputs = h.outputs; instructions = h.instructions; words = h.words; recorded = records-first e }

pub listable : (s : List ℕ) (c : Counts) → 12 ≤ length s → counts_fit c.arguments c.outputs c.instructions c.words ≡ true → Listable false s c []
listable s c l e =
    let (a, w) = and-inv (leb c.arguments port_word_limit && leb 1 c.outputs && leb c.outputs port_word_limit) (within_limits c.instructions c.words) e in
    let (b, o) = and-inv (leb c.arguments port_word_limit && leb 1 c.outputs) (leb c.outputs port_word_limit) a in
    let (p, q) = and-inv (leb c.arguments port_word_limit) (leb 1 c.outputs) b in
    let (i, n) = and-inv (leb c.instructions operation_limit) (leb c.words word_limit) w in
    let few : c.instructions ≤ operation_limit = leb-true _ _ i in
    record {
      long = l;
      arguments = leb-true _ _ p;
      outputs = leb-true _ _ o;
      instructions = omega arith;
      words = leb-true _ _ n;
      recorded = tt;
    }

-- ---- the code

module _ (s : List ℕ) where
  pub no_header : length s < 12 → None ≡ checked_of (decode s)
  unfolding decode
  no_header h = sym (off-check _ (lt-leb 12 (length s) h))

  pub not-headed : leb 12 (length s) && code_marked s ≡ false → None ≡ checked_of (decode s)
  unfolding decode
  not-headed e = sym (⊎_elim (λ h. off-check _ h) (λ h. go (leb 12 (length s)) refl h) (and-inv-false (leb 12 (length s)) (code_marked s) e))
    where
      go : (p : Bool) → leb 12 (length s) ≡ p → code_marked s ≡ false → checked_of (decode s) ≡ None
      go false q h = off-check _ q
      go true q h = on-check _ q ∙ off-check _ h

  module _ (long : 12 ≤ length s) where
    pub no-mark : code_marked s ≡ false → None ≡ checked_of (decode s)
    unfolding decode
    no-mark e = sym (on-check _ (le-leb 12 (length s) long) ∙ off-check _ e)

    module _ (mark : code_marked s ≡ true) where
      abbrev in_version : Version → Option BoardList
      in_version v = read_counts v s (byte s 5) (byte s 6) (u16 s 8) (u16 s 10)

      read : checked_of (decode s) ≡ checked_of (then (version_of (u16 s 3)) in_version)
      unfolding decode
      read = on-check _ (le-leb 12 (length s) long) ∙ on-check _ mark

      pub over-limits : counts_fit (byte s 5) (byte s 6) (u16 s 8) (u16 s 10) ≡ false → None ≡ checked_of (decode s)
      unfolding then checked_of
      over-limits e = sym (read ∙ go (version_of (u16 s 3)))
        where
          go : (o : Option Version) → checked_of (then o in_version) ≡ None
          go none = refl
          go (some v) = off-check _ e

      module _ (limits : counts_fit (byte s 5) (byte s 6) (u16 s 8) (u16 s 10) ≡ true) where
        pub by-version : (v : Version) → u16 s 3 ≡ number v → checked_of (list_of v s (header_counts s)) ≡ checked_of (decode s)
        unfolding then
        by-version v e = sym (read ∙ ap (λ (o : Option Version). checked_of (then o in_version)) (ap version_of e ∙ version-number v) ∙ on-check _ limits)

      pub no-version : (u16 s 3 ≡ 1 → ⊥) → (u16 s 3 ≡ 2 → ⊥) → None ≡ checked_of (decode s)
      unfolding then checked_of
      no-version a b = sym (read ∙ rw (ne_eqb (u16 s 3) 1 a, ne_eqb (u16 s 3) 2 b) refl)
