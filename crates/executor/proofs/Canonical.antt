-- Words that instructions give are canonical, and so is every word that an instruction may read.
use Prim.Native.Nat.{ℕ, suc, ◌+◌, ◌-◌, ◌*◌, ◌≤◌, ◌<◌}
use mathlib.Core.Path.{◌≡◌, refl, ap, sym, ◌∙◌, subst}
use mathlib.Core.Bool.{Bool, true, false}
use mathlib.Core.List.{List, [], ◌∷◌, ◌++◌}
use mathlib.Core.Logic.{⊎_elim}
use native.Mathlib.Omega.{arith}
use borrow.Author.Tests.{ltb-true, ltb-false}
use lib.Dec.{ltb}
use lib.Ieee as Ieee
use lib.Ieee.{nan, inf, fin, binary64}
use lib.ListN.{length, set, length-set}
use lib.Seq.{sets, get_or-set_same}
use Rattle.ports.specs.Kinds.{kind_of}
use Rattle.ports.specs.Ports.{width, takes, gives, arity, constant_words, ports_of, executable}
use Rattle.ports.proofs.Laws.{length-takes}
use Rattle.value.specs.declared.Row.{Row}
use Rattle.value.specs.declared.Value.{Value}
use Rattle.value.specs.declared.Value.TheVariants.{Scalar, Vector, Matrix}
use Rattle.value.specs.Values.{word, row_words, words_of, all_words}
use Rattle.base.specs.Lists.{word_at, words_at, span, every, Each}
use Rattle.value.specs.Typed.{TypeCode, Canonical, Held, RowHeld, ValueHeld, Of, Typed}
use Rattle.value.specs.Results.{results}
use Rattle.value.proofs.Laws.{there, typed-widths, results-typed, value-of, value-at}
use Rattle.base.specs.Bytes.{constants}
use Rattle.base.proofs.Bools.{and-inv}
use Rattle.bytecode.specs.Run.{values_at, execute, spans}
use Rattle.bytecode.specs.Ranges.{Range, behind, result_value}
use Rattle.bytecode.specs.declared.Version.{Version}
use Rattle.bytecode.specs.Code.{addresses, readable, result_at, argument_words}
use Rattle.bytecode.proofs.Decoded.{addresses-length}
use Rattle.bytecode.proofs.Readable.{readable-behind, readable-first, readable-next, width_some, every_append, every-span}
use Rattle.base.proofs.Stores.{sets_below, sets-above}
use Rattle.base.proofs.Lists.{each_append}
use Rattle.bytecode.proofs.Origins.{takes-codes}
use Rattle.executor.specs.Execution.{Loadable, AllLoadable, instruction_at, words_given, Executable}
use Rattle.executor.specs.Instructions.{CanonicalReads}

-- ---- one word

-- fmod by zero
pub remainder_nan : (x : Ieee.Float) → Ieee.rem binary64 x (Ieee.of_bits binary64 0) ≡ nan
unfolding Ieee.rem Ieee.of_bits
remainder_nan nan = refl
remainder_nan (inf s) = refl
remainder_nan (fin s m e) = refl

-- ---- the words of values

canonical-word : (x : Ieee.Float) → Held x → Canonical (word x)
canonical-word x h = ap word (there x h)

row-words : (r : Row) → RowHeld r → Each Canonical (row_words r)
row-words r (p, q, s, t) = (canonical-word _ p, (canonical-word _ q, (canonical-word _ s, (canonical-word _ t, tt))))

value-words : (v : Value) → ValueHeld v → Each Canonical (words_of v)
value-words (Scalar a) h = (canonical-word a h, tt)
value-words (Vector v) (p, q, r) = (canonical-word _ p, (canonical-word _ q, (canonical-word _ r, tt)))
value-words (Matrix m) (p, q, r, s) =
    each_append Canonical (row_words m.r0 ++ row_words m.r1 ++ row_words m.r2) (row_words m.r3)
    (each_append Canonical (row_words m.r0 ++ row_words m.r1) (row_words m.r2)
    (each_append Canonical (row_words m.r0) (row_words m.r1) (row-words m.r0 p) (row-words m.r1 q)) (row-words m.r2 r))
    (row-words m.r3 s)

values-words : (ts : List ℕ) (vs : List Value) → Typed ts vs → Each Canonical (all_words vs)
values-words [] [] h = tt
values-words [] (v ∷ vs) h = absurd h
values-words (t ∷ ts) [] h = absurd h
values-words (t ∷ ts) (v ∷ vs) (o, h) = each_append Canonical (words_of v) (all_words vs) (value-words v o.held) (values-words ts vs h)

-- ---- overwriting

sets-each : (P : ℕ → Type 0) (ws m : List ℕ) (at : ℕ) → Each P ws → at + length ws ≤ length m
    → (i : ℕ) → at ≤ i → i < at + length ws → P (word_at (sets m at ws) i)
sets-each P [] m at e r i a b = absurd (omega arith)
sets-each P (w ∷ ws) m at (p, e) r i a b =
    let z : length (set m at w) ≡ length m = length-set m at w in
    pick (λ h. sets-each P ws (set m at w) (suc at) e (omega arith) i h (omega arith)) (ltb at i) refl
  where
    pick : (suc at ≤ i → P (word_at (sets m at (w ∷ ws)) i)) → (c : Bool) → ltb at i ≡ c → P (word_at (sets m at (w ∷ ws)) i)
    pick go true q = let h : at < i = ltb-true at i q in go (omega arith)
    pick go false q =
        let h : i ≤ at = ltb-false at i q in
        let z : at ≡ i = omega arith in
        subst (λ (j : ℕ). P (word_at (sets m at (w ∷ ws)) j)) z
        (subst P (sym (sets_below ws (set m at w) (suc at) at (omega arith) ∙ get_or-set_same m at w 0 (omega arith))) p)

-- words that are stored at a result's place
pub after-sets : (v : Version) (s : List ℕ) (from : ℕ) (written : List Range) (ws m : List ℕ) → let at = result_at v s from written in
    Each Canonical ws → at + length ws ≤ length m → CanonicalReads v written m
    → CanonicalReads v (record { first = at; width = length ws } ∷ written) (sets m at ws)
after-sets v s from written ws m e r c a h = ⊎_elim (λ (l, u). sets-each Canonical ws m at e r a l u) other (readable-next v s from written (length ws) a h)
  where
    at : ℕ
    at = result_at v s from written

    -- also where the word is stored anew
    other : readable v written a ≡ true → Canonical (word_at (sets m at ws) a)
    other q = pick (ltb a at) (ltb a (at + length ws)) refl refl
      where
        pick : (x y : Bool) → ltb a at ≡ x → ltb a (at + length ws) ≡ y → Canonical (word_at (sets m at ws) a)
        pick true y p u = subst Canonical (sym (sets_below ws m at a (ltb-true a at p))) (c a q)
        pick false true p u = sets-each Canonical ws m at e r a (ltb-false a at p) (ltb-true a (at + length ws) u)
        pick false false p u = subst Canonical (sym (sets-above ws m at a (ltb-false a (at + length ws) u))) (c a q)

-- words that are stored at the front
pub front-sets : (v : Version) (ws m : List ℕ) → Each Canonical ws → length ws ≤ length m → CanonicalReads v (argument_words (length ws)) (sets m 0 ws)
front-sets v ws m e r a h =
    let l : a < length ws = readable-first v (length ws) a h in
    sets-each Canonical ws m 0 e (omega arith) a (omega arith) (omega arith)

-- ---- an instruction

values-typed : (m ts xs : List ℕ) → Each TypeCode ts → length xs ≡ length ts → Typed ts (values_at m ts xs)
values-typed m [] xs c l = tt
values-typed m (t ∷ ts) [] c l = absurd (omega arith)
values-typed m (t ∷ ts) (a ∷ xs) (p, c) l =
    (subst (Of t) (sym (value-at m t a)) (value-of t (words_at m a (width t)) p), values-typed m ts xs c (omega arith))

pub after-execute : (v : Version) (k t : ℕ) (s : List ℕ) (at from : ℕ) (written : List Range) (m : List ℕ) → let result = result_at v s from written in
    Executable k t s at result m → CanonicalReads v written m
    → CanonicalReads v (result_value (instruction_at k t s at result) ∷ written) (execute (instruction_at k t s at result) m)
unfolding execute
after-execute v k t s at from written m h before =
    let result = result_at v s from written in
    let ts = takes (kind_of k) t in
    let vs = values_at m ts (addresses (arity (kind_of k)) s at) in
    let rs = results (kind_of k) (constants (constant_words (kind_of k)) s (at + 2 * arity (kind_of k))) vs in
    let (a, b) = and-inv (executable (ports_of (kind_of k)).form) _ h.legal in
    let g : Typed (gives (kind_of k) t) rs =
    results-typed (kind_of k) t _ vs (values-typed m ts _ (takes-codes (kind_of k) t b) (addresses-length (arity (kind_of k)) s at ∙ sym (length-takes (kind_of k) t))) in
    let l : length (all_words rs) ≡ words_given k t = typed-widths (gives (kind_of k) t) rs g in
    let r : result + words_given k t ≤ length m = h.ready.room in
    subst (λ (n : ℕ). CanonicalReads v (record { first = result; width = n } ∷ written) (sets m result (all_words rs))) l
    (after-sets v s from written (all_words rs) m (values-words (gives (kind_of k) t) rs g) (omega arith) before)

-- ---- operands are read where all words are canonical

pub all-loadable : (v : Version) (written : List Range) (m : List ℕ) → behind written ≤ length m → CanonicalReads v written m → (ts xs : List ℕ)
    → length xs ≡ length ts → every (readable v written) (spans ts xs) ≡ true → AllLoadable m ts xs
all-loadable v written m r c [] xs l h = tt
all-loadable v written m r c (t ∷ ts) [] l h = absurd (omega arith)
all-loadable v written m r c (t ∷ ts) (a ∷ xs) l h =
    let ok = readable v written in
    let (x, y) = and-inv (every ok (span a (width t))) (every ok (spans ts xs)) (sym (every_append ok (span a (width t)) (spans ts xs)) ∙ h) in
    let each : (i : ℕ) → a ≤ i → i < a + width t → ok i ≡ true = every-span ok (width t) a x in
    let w : 1 ≤ width t = width_some t in
    let last : a + (width t - 1) < behind written = readable-behind v written (a + (width t - 1)) (each (a + (width t - 1)) (omega arith) (omega arith)) in
    (record { room = omega arith; each = λ i p q. c i (each i p q) }, all-loadable v written m r c ts xs (omega arith) y)

-- some of the words
pub part : {m : List ℕ} {at n a w : ℕ} → Loadable m at n → at ≤ a → a + w ≤ at + n → Loadable m a w
part {m} {at} {n} {a} {w} h l u =
    let r : at + n ≤ length m = h.room in
    record { room = omega arith; each = λ i p q. h.each i (omega arith) (omega arith) }
