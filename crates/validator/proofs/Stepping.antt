-- One instruction beside the instruction of version 1 that it carries out, test by test; and the index of version 1's instructions.
use Prim.Native.Nat.{ℕ, suc, ◌+◌, ◌*◌, ◌-◌, ◌/◌, ◌≤◌, ◌<◌}
use mathlib.Core.Path.{◌≡◌, refl, ap, ap₂, sym, ◌∙◌, subst}
use mathlib.Core.Bool.{Bool, true, false, ◌&&◌}
use mathlib.Core.List.{List}
use native.Mathlib.Omega.{arith}
use borrow.Author.Tests.{eq-eqb, ne_eqb, lt-ltb, le-ltb}
use lib.Dec.{eqb}
use lib.ListN.{length, get_or, set}
use lib.Seq.{sets}
use Rattle.ports.specs.declared.Ports.{Ports}
use Rattle.ports.specs.Kinds.{kind_of}
use Rattle.ports.specs.Ports.{types, own, constant_in, ports_of, result_words}
use Rattle.base.specs.Bytes.{byte, u16, constants}
use Rattle.base.specs.Lists.{span}
use Rattle.base.specs.Limits.{address_limit, word_limit, header_length}
use Rattle.base.proofs.Stores.{Run, run-start, run_step, run-done, none_left}
use Rattle.bytecode.specs.Code.{addresses}
use Rattle.std.specs.Prelude.{Some, None}
use Rattle.validator.specs.Judge.{alike}
use Rattle.validator.specs.Tests.{held_operands, Comparable, carried_at, behind_at, passed_at, own_end, end_at, words_at, result_of, stored_at, Steppable, Stepped, halves, results_from, Listed}

-- ---- the bytes of both instructions, by the counts that were read

module _ {ours : List ℕ} {from : ℕ} {code : List ℕ} {at : ℕ} {row : Ports} (h : Comparable ours from code at row) {n m : ℕ} (en : n ≡ row.operands)
    (em : m ≡ constant_in row.form row.words) where
  counted : (k : ℕ) → row ≡ ports_of (kind_of k) → (x : ℕ) → x + (2 * n + 8 * m) ≡ behind_at k x
  counted k er x =
      ap₂ (λ (n m : ℕ). x + (2 * n + 8 * m)) (en ∙ ap (λ (r : Ports). r.operands) er) (em ∙ ap (λ (r : Ports). constant_in r.form r.words) er) ∙ omega arith

  pub code-there : at + 4 + (2 * n + 8 * m) ≤ length code
  code-there = rw (counted (byte code at) h.row_is (at + 4)) h.there

  pub ours-there : byte code at ≡ byte ours from → from + 2 + (2 * n + 8 * m) ≤ length ours
  ours-there ek = rw (counted (byte ours from) (h.row_is ∙ ap (λ (k : ℕ). ports_of (kind_of k)) ek) (from + 2)) h.own-there

-- two numbers that differ, as a test found them
pub not-same : {v : Bool} {x y : ℕ} → v ≡ eqb x y → (x ≡ y → ⊥) → v ≡ true → false ≡ true
not-same {x = x} {y} e n t = sym (ne_eqb x y n) ∙ sym e ∙ t

-- ---- what is carried out, by the kind's row

module _ (ours : List ℕ) (from : ℕ) (code : List ℕ) (at : ℕ) (words : List ℕ) where
  abbrev pub row_constants : Ports → Bool
  row_constants row =
      let n = row.operands in
      let m = constant_in row.form row.words in
      alike eqb (constants m code (at + 4 + 2 * n)) (constants m ours (from + 2 + 2 * n))

  abbrev row_operands : Ports → Bool
  row_operands row =
      let n = row.operands in
      let t = byte code (at + 1) in
      held_operands words (types n (own t row.first) (own t row.rest)) (addresses n ours (from + 2)) (addresses n code (at + 4))

  abbrev carried_row : Ports → Bool
  carried_row row = eqb (byte code at) (byte ours from) && eqb (byte code (at + 1)) (byte ours (from + 1)) && row_constants row && row_operands row

  module _ {row : Ports} (er : row ≡ ports_of (kind_of (byte code at))) where
    by_row : carried_row row ≡ carried_at ours from code at words
    unfolding carried_at
    by_row = ap carried_row er

    pub constants-are : {n m : ℕ} {r : Bool} → n ≡ row.operands → m ≡ constant_in row.form row.words
        → r ≡ alike eqb (constants m code (at + 4 + 2 * n)) (constants m ours (from + 2 + 2 * n)) → row_constants row ≡ r
    constants-are en em e =
        ap₂ (λ (n m : ℕ). alike eqb (constants m code (at + 4 + 2 * n)) (constants m ours (from + 2 + 2 * n))) (sym en) (sym em) ∙ sym e

    pub other-kind : (byte code at ≡ byte ours from → ⊥) → false ≡ carried_at ours from code at words
    other-kind n = sym (rw (ne_eqb (byte code at) (byte ours from) n) refl) ∙ by_row

    module _ (ek : byte code at ≡ byte ours from) where
      pub other-type : (byte code (at + 1) ≡ byte ours (from + 1) → ⊥) → false ≡ carried_at ours from code at words
      other-type n = sym (rw (eq-eqb (byte code at) (byte ours from) ek, ne_eqb (byte code (at + 1)) (byte ours (from + 1)) n) refl) ∙ by_row

      module _ (et : byte code (at + 1) ≡ byte ours (from + 1)) where
        pub other-constants : row_constants row ≡ false → false ≡ carried_at ours from code at words
        other-constants e =
            sym (rw (eq-eqb (byte code at) (byte ours from) ek, eq-eqb (byte code (at + 1)) (byte ours (from + 1)) et, e) refl) ∙ by_row

        pub by-operands : row_constants row ≡ true → {n first rest : ℕ} {r : Bool} → n ≡ row.operands → first ≡ own (byte code (at + 1)) row.first
            → rest ≡ own (byte code (at + 1)) row.rest
            → r ≡ held_operands words (types n first rest) (addresses n ours (from + 2)) (addresses n code (at + 4)) → r ≡ carried_at ours from code at words
        by-operands e {n} {first} {rest} {r} en ef es eo =
            let o : row_operands row ≡ r =
            ap₂ (λ (x y : ℕ). held_operands words (types row.operands x y) (addresses row.operands ours (from + 2)) (addresses row.operands code (at + 4))) (sym ef) (sym es)
            ∙ ap (λ (k : ℕ). held_operands words (types k first rest) (addresses k ours (from + 2)) (addresses k code (at + 4))) (sym en)
            ∙ sym eo in
            sym (rw (eq-eqb (byte code at) (byte ours from) ek, eq-eqb (byte code (at + 1)) (byte ours (from + 1)) et, e, o) refl) ∙ by_row

-- ---- a step

module _ (ours code : List ℕ) (at m count : ℕ) (index words : List ℕ) where
  refused : passed_at ours code at m count index words ≡ false → Stepped ours code at m count index words index words None
  refused e = record { answer = rw e; indexed = rw e; stored = rw e }

  pub no_number : count ≤ m → Stepped ours code at m count index words index words None
  unfolding passed_at
  no_number h = refused (rw (le-ltb m count h))

  module _ (h : m < count) where
    pub again : get_or index m 0 ≡ 0 → Stepped ours code at m count index words index words None
    unfolding passed_at
    again z = refused (rw (lt-ltb m count h, eq-eqb (get_or index m 0) 0 z))

    module _ (n : get_or index m 0 ≡ 0 → ⊥) where
      pub not_carried : carried_at ours (2 * get_or index m 0) code at words ≡ false → Stepped ours code at m count index words index words None
      unfolding passed_at
      not_carried e = refused (rw (lt-ltb m count h, ne_eqb (get_or index m 0) 0 n, e))

      pub stepped : carried_at ours (2 * get_or index m 0) code at words ≡ true → {next : ℕ} {words' : List ℕ} → next ≡ end_at code at → words' ≡ stored_at code at m words
          → Stepped ours code at m count index words (set index m 0) words' (Some next)
      unfolding passed_at
      stepped e en ew =
          let p : passed_at ours code at m count index words ≡ true = rw (lt-ltb m count h, ne_eqb (get_or index m 0) 0 n, e) in
          record { answer = rw (p, en); indexed = rw p; stored = rw p ew }

module _ {ours code : List ℕ} {at m count : ℕ} {row : Ports} {index words : List ℕ} (s : Steppable ours code at m count row index words) where
  pub comparable : m < count → (get_or index m 0 ≡ 0 → ⊥) → {half : ℕ} → half ≡ get_or index m 0 → Comparable ours (2 * half) code at row
  comparable h n e = record { row_is = s.row_is; own-there = rw e (s.own-there h n); there = s.there }

  -- the result's words and the words that they hold
  pub holdable : m < count → {a w n : ℕ} → a ≡ u16 code (at + 2) → w ≡ result_of words m → n ≡ result_words row (byte code (at + 1))
      → (a + n ≤ length words) × (w + n ≤ address_limit)
  holdable h {a} {w} {n} ea ew en =
      let k : n ≡ words_at code at = en ∙ ap (λ (r : Ports). result_words r (byte code (at + 1))) s.row_is in
      (rw (ea, k) s.room, rw (ew, k) (s.small h))

  pub next-is : {n c : ℕ} → n ≡ row.operands → c ≡ constant_in row.form row.words → at + 4 + 2 * n + 8 * c ≡ end_at code at
  next-is en ec =
      ap₂ (λ (n c : ℕ). at + 4 + 2 * n + 8 * c) (en ∙ ap (λ (r : Ports). r.operands) s.row_is) (ec ∙ ap (λ (r : Ports). constant_in r.form r.words) s.row_is)

-- the result's words, as they were read
pub stored_is : (code : List ℕ) (at m : ℕ) (words : List ℕ) {row : Ports} → row ≡ ports_of (kind_of (byte code at)) → {a w n : ℕ} {words' : List ℕ} → a ≡ u16 code (at + 2)
    → w ≡ result_of words m → n ≡ result_words row (byte code (at + 1)) → words' ≡ sets words a (span w n) → words' ≡ stored_at code at m words
stored_is code at m words er {a} {w} {n} ea ew en e =
    e
    ∙ ap₂ (λ (x y : ℕ). sets words x (span y n)) ea ew
    ∙ ap (λ (k : ℕ). sets words (u16 code (at + 2)) (span (result_of words m) k)) (en ∙ ap (λ (r : Ports). result_words r (byte code (at + 1))) er)

-- ---- the index

-- what is behind an instruction of version 1, and the word behind its result
module _ (s : List ℕ) (at : ℕ) {row : Ports} (er : row ≡ ports_of (kind_of (byte s at))) where
  pub end_is : {n c : ℕ} → n ≡ row.operands → c ≡ constant_in row.form row.words → at + (2 + 2 * n + 8 * c) ≡ own_end s at
  end_is en ec =
      ap₂ (λ (n c : ℕ). at + (2 + 2 * n + 8 * c)) (en ∙ ap (λ (r : Ports). r.operands) er) (ec ∙ ap (λ (r : Ports). constant_in r.form r.words) er) ∙ omega arith

  pub word-is : (w : ℕ) {r : ℕ} → r ≡ result_words row (byte s (at + 1)) → w + r ≡ w + words_at s at
  word-is w e = ap (λ (n : ℕ). w + n) (e ∙ ap (λ (r : Ports). result_words r (byte s (at + 1))) er)

-- i of them are listed; the next stands at `at`, and its result at the word w
pub record Listing (ours : List ℕ) (count first : ℕ) (index₀ words₀ index words : List ℕ) (at w i : ℕ) : Type 0 where
  pub few : i ≤ count
  pub halved : Run (halves count ours header_length) index₀ 0 index i (halves (count - i) ours at)
  pub given : Run (results_from count ours header_length first) words₀ word_limit words (word_limit + i) (results_from (count - i) ours at w)
  pub listed : Listed (count - i) ours at w

pub list-start : {ours : List ℕ} {count first : ℕ} {index words : List ℕ} → Listed count ours header_length first
    → Listing ours count first index words index words header_length first 0
list-start {ours} {count} {first} l =
    let z : count - 0 ≡ count = omega arith in
    record {
      few = omega arith;
      halved = run-start refl (rw z);
      given = run-start refl (rw z);
      listed = rw z l;
    }

module _ {ours : List ℕ} {count first : ℕ} {index₀ words₀ index words : List ℕ} {at w i : ℕ} (g : Listing ours count first index₀ words₀ index words at w i) where
  module _ (h : i < count) where
    one_more : count - i ≡ suc (count - (i + 1))
    one_more = omega arith

    listed_here : Listed (suc (count - (i + 1))) ours at w
    listed_here = subst (λ (n : ℕ). Listed n ours at w) one_more g.listed

    pub list-there : own_end ours at ≤ length ours
    list-there = listed_here.0

    pub list-small : w < address_limit
    list-small = listed_here.1

    pub list-turned : {at' w' : ℕ} → at' ≡ own_end ours at → w' ≡ w + words_at ours at
        → Listing ours count first index₀ words₀ (set index i (at / 2)) (set words (word_limit + i) w) at' w' (i + 1)
    list-turned {at'} {w'} ea ew =
        record {
          few = omega arith;
          halved = run_step g.halved (rw (one_more, ea)) refl;
          given = run_step g.given (rw (one_more, ea, ew)) (omega arith);
          listed = rw (ea, ew) listed_here.2;
        }

  pub list_done : count ≤ i
      → (index ≡ sets index₀ 0 (halves count ours header_length)) × (words ≡ sets words₀ word_limit (results_from count ours header_length first))
  list_done h = (
    run-done g.halved (none_left (λ n. halves n ours at) h refl),
    run-done g.given (none_left (λ n. results_from n ours at w) h refl),
  )
