-- The loop over the proposed instructions: those that are left, with the state as it is, follow as all do.
use Prim.Native.Nat.{ℕ, zero, suc, ◌+◌, ◌-◌, ◌*◌, ◌≤◌, ◌<◌}
use mathlib.Core.Path.{◌≡◌, refl, ap, ap₂, sym, ◌∙◌, subst}
use mathlib.Core.Bool.{Bool, true, false, ◌&&◌, cond}
use mathlib.Core.List.{List, [], ◌∷◌, map}
use mathlib.Core.Option.{some}
use mathlib.Core.Logic.{◌⊎◌, inl, inr}
use native.Mathlib.Omega.{arith}
use native.Mathlib.Numerals.{add-one}
use lib.Dec.{eqb}
use lib.ListN.{length, get_or, get_elem?, drop, set, length-set}
use lib.Seq.{sets, length-sets}
use Rattle.ports.specs.declared.Ports.{Ports}
use Rattle.ports.specs.Kinds.{kind_of}
use Rattle.ports.specs.Ports.{ports_of, form_of, executable, type_fits}
use Rattle.ports.proofs.Laws.{no_kind, words-few, words-given}
use Rattle.base.specs.Bytes.{byte, u16}
use Rattle.base.specs.Limits.{address_limit, header_length, kind_limit, value_limit, word_limit}
use Rattle.base.specs.Lists.{member, span, Each}
use Rattle.base.specs.Outcome.{Outcome, ok, fault}
use Rattle.base.proofs.Bools.{never, and-inv}
use Rattle.base.proofs.Lists.{some_is}
use Rattle.base.proofs.Numbers.{lt-or-le}
use Rattle.base.proofs.Outcomes.{passes, fails, takes, stops}
use Rattle.bytecode.specs.Run.{Instruction, BoardList}
use Rattle.bytecode.specs.Ranges.{Range, behind, result_value}
use Rattle.bytecode.specs.Sequential.{next_word, AllFit}
use Rattle.bytecode.specs.declared.Version.TheVariants.{V1, V2}
use Rattle.bytecode.specs.Code.{addresses, argument_words, encode, decode}
use Rattle.bytecode.specs.Origin.{Origin, origin_at, result_width, made, after, start}
use Rattle.bytecode.specs.WellFormed.{written_by}
use Rattle.bytecode.proofs.Origins.{start-length}
use Rattle.bytecode.proofs.Sequential.{fit-up}
use Rattle.executor.specs.Execution.{end_of}
use Rattle.executor.proofs.Loop.{operands_at}
use Rattle.std.specs.Prelude.{Option, Some, None}
use Rattle.validator.specs.Judge.{same_origin, alike, follow, paired, own_readings, own_origins, followed}
use Rattle.validator.specs.Tests.{held_at, own_end, end_at, words_at, passed_at, result_of, stored_at, Steppable, Stepped, halves, results_from, Listed, first_words, followed_in, Judgeable}
use Rattle.validator.proofs.Standing.{Stands, AllStand, stand, known, known_is, codes-decoded}
use Rattle.validator.proofs.Records.{held-outputs}
use Rattle.validator.proofs.Carrying.{their-result}
use Rattle.validator.proofs.Tracing.{there, Tracing, right, passed_is, words-is, tracing-next}
use Rattle.validator.proofs.Indexing.{all_listed, tracing-first}
use Rattle.validator.proofs.Length.{own-length}

-- ---- lists

drop-first : (xs : List ℕ) (p : ℕ) → p < length xs → drop p xs ≡ get_or xs p 0 ∷ drop (suc p) xs
drop-first [] p l = absurd (omega arith)
drop-first (x ∷ xs) zero l = refl
drop-first (x ∷ xs) (suc p) l = drop-first xs p (omega arith)

pub written-up : (is : List Instruction) (written : List Range) → behind written ≤ behind (written_by written is)
written-up [] written = omega arith
written-up (i ∷ is) written = let h = written-up is (result_value i ∷ written) in omega arith

-- a run of stores keeps the length
pub kept : (l : List ℕ) (at : ℕ) (xs : List ℕ) {n : List ℕ} → n ≡ sets l at xs → length n ≡ length l
kept l at xs e = ap length e ∙ length-sets l at xs

-- so does a step
pub step_kept : {ours code : List ℕ} {at m count : ℕ} {index words index' words' : List ℕ} {r : Option ℕ} → Stepped ours code at m count index words index' words' r
    → (length index' ≡ length index) × (length words' ≡ length words)
step_kept {ours} {code} {at} {m} {count} {index} {words} {index'} {words'} s = (
  ap length s.indexed ∙ either (passed_at ours code at m count index words) (set index m 0) index (length-set index m 0),
  ap length s.stored ∙ either (passed_at ours code at m count index words) (stored_at code at m words) words
      (length-sets words (u16 code (at + 2)) (span (result_of words m) (words_at code at))),
)
  where
    either : (b : Bool) (xs ys : List ℕ) → length xs ≡ length ys → length (cond b xs ys) ≡ length ys
    either true xs ys e = e
    either false xs ys e = refl

-- version 1's results stand before its words' end
result_low : (is : List Instruction) (next stop m : ℕ) (i : Instruction) → AllFit next is stop → get_elem? is m ≡ some i → i.result ≤ stop
result_low [] next stop m i f e = let z : ◌≡◌ {A = ℕ} 0 1 = cc in absurd (omega arith)
result_low (x ∷ is) next stop zero i (g, f) e =
    let up : next_word next x ≤ stop = fit-up is (next_word next x) stop f in
    let r : x.result ≡ next = g.result in
    subst (λ (y : Instruction). y.result ≤ stop) (some_is e) (omega arith)
result_low (x ∷ is) next stop (suc m) i (g, f) e = result_low is (next_word next x) stop m i f e

-- every kind that an instruction may have has a row
pub kind_row : (k t : ℕ) → executable (form_of (kind_of k)) && type_fits (ports_of (kind_of k)) t ≡ true → k < kind_limit
kind_row k t e = pick (lt-or-le k kind_limit)
  where
    pick : (k < kind_limit) ⊎ (kind_limit ≤ k) → k < kind_limit
    pick (inl l) = l
    pick (inr l) =
        let (a, b) = and-inv (executable (form_of (kind_of k))) (type_fits (ports_of (kind_of k)) t) e in
        never (sym (ap (λ (r : Ports). executable r.form) (no_kind k l)) ∙ a)

-- ---- the state of the loop

module _ {ours code numbers : List ℕ} {arguments outputs count total index-size words_size : ℕ}
    (j : Judgeable ours code numbers arguments outputs count total index-size words_size) where
  abbrev b : BoardList
  b = j.list

  abbrev b' : BoardList
  b' = j.proposed

  abbrev few : b.words ≤ word_limit
  few = j.own.formed.words

  -- the definition's walk over all instructions
  abbrev pub all : Outcome (List Origin)
  all = follow (own_readings b) 0 [] (start b.arguments b'.words) (paired numbers b'.instructions)

  -- at instruction p, which stands at `at`
  pub record Going (p at : ℕ) (index words : List ℕ) : Type 0 where
    pub seen : List ℕ
    pub o : List Origin
    pub written : List Range
    pub left : List Instruction
    pub stands : AllStand V2 code at written left
    pub position : p + length left ≡ count
    pub rest : all ≡ follow (own_readings b) p seen o (paired (drop p numbers) left)
    pub state : Tracing b j.fit few ours seen o index words
    pub size : length o ≡ b'.words
    pub high : behind (written_by written left) ≤ b'.words

  arguments-up : b.arguments ≤ b'.words
  arguments-up =
      let e = j.counted.arguments in
      let h = written-up b'.instructions (argument_words b'.arguments) in
      let w = j.theirs.formed.highest in
      omega arith

  pub going-first : (index₀ words₀ : List ℕ) {index words noted : List ℕ} → length index₀ ≡ index-size → length words₀ ≡ words_size
      → index ≡ sets index₀ 0 (halves count ours header_length) → noted ≡ sets words₀ word_limit (results_from count ours header_length arguments)
      → words ≡ sets noted 0 (first_words arguments (total - arguments)) → Going 0 header_length index words
  going-first index₀ words₀ {index} {words} {noted} li lw ei en ew =
      let ea = j.arguments-is in
      let ec = j.count-is in
      let et = j.total-is in
      let most : b'.words ≤ word_limit = j.theirs.formed.words in
      let ix : length b.instructions ≤ length index₀ = omega (arith, j.index-room) in
      let wx : word_limit + length b.instructions ≤ length words₀ = omega (arith, j.words-room) in
      let first = tracing-first b j.fit few ours j.own b'.words arguments-up most index₀ words₀ ix wx in
      let index_is : sets index₀ 0 (halves (length b.instructions) ours header_length) ≡ index =
      ap (λ (n : ℕ). sets index₀ 0 (halves n ours header_length)) (sym ec) ∙ sym ei in
      let noted-is : sets words₀ word_limit (results_from (length b.instructions) ours header_length b.arguments) ≡ noted =
      ap₂ (λ (n a : ℕ). sets words₀ word_limit (results_from n ours header_length a)) (sym ec) (sym ea) ∙ sym en in
      let words_are : sets (sets words₀ word_limit (results_from (length b.instructions) ours header_length b.arguments)) 0 (first_words b.arguments (b'.words - b.arguments)) ≡ words =
      ap (λ (ns : List ℕ). sets ns 0 (first_words b.arguments (b'.words - b.arguments))) noted-is
      ∙ ap₂ (λ (a t : ℕ). sets noted 0 (first_words a (t - a))) (sym ea) (sym et)
      ∙ sym ew in
      record {
        seen = [];
        o = start b.arguments b'.words;
        written = argument_words b'.arguments;
        left = b'.instructions;
        stands = stand V2 code b' j.theirs;
        position = omega (arith, j.counted.instructions);
        rest = refl;
        state =
            subst (λ (xs : List ℕ). Tracing b j.fit few ours [] (start b.arguments b'.words) xs words) index_is
            (subst (Tracing b j.fit few ours [] (start b.arguments b'.words) (sets index₀ 0 (halves (length b.instructions) ours header_length))) words_are first);
        size = start-length b.arguments b'.words arguments-up;
        high = omega (arith, j.theirs.formed.highest);
      }

  -- ---- before the loop

  pub listable : Listed count ours header_length arguments × (length ours ≤ 0x20000) × (count ≤ index-size) × (word_limit + count ≤ words_size)
  listable =
      let long = own-length b j.fit j.own.formed.count few j.own.formed.outputs in
      let size : length ours ≡ length (encode V1 b) = ap length j.own.bytes in (
        subst (λ (n : ℕ). Listed n ours header_length arguments) (sym j.count-is)
            (subst (Listed (length b.instructions) ours header_length) (sym j.arguments-is) (all_listed b j.fit few ours j.own)),
        omega arith,
        j.index-room,
        j.words-room,
      )

  pub arguments-room : (arguments ≤ total) × (arguments + (total - arguments) ≤ words_size) × (arguments ≤ address_limit)
  arguments-room =
      let up = arguments-up in
      let ea = j.arguments-is in
      let et = j.total-is in
      let most : b'.words ≤ word_limit = j.theirs.formed.words in
      let room = j.words-room in
      (omega arith, omega arith, omega arith)

  -- ---- a turn

  pub record Turn (p at : ℕ) (index words : List ℕ) (g : Going p at index words) : Type 0 where
    pub i : Instruction
    pub is : List Instruction
    pub left_is : g.left ≡ i ∷ is
    pub here : Stands V2 g.written code at i
    pub behind-it : AllStand V2 code (end_of (byte code at) (operands_at V2 at)) (result_value i ∷ g.written) is
    pub position : suc p + length is ≡ count
    pub rest : all ≡ follow (own_readings b) p g.seen g.o (paired (get_or numbers p 0 ∷ drop (suc p) numbers) (i ∷ is))
    pub low : behind g.written ≤ length g.o
    pub fits : behind (result_value i ∷ g.written) ≤ length g.o
    pub high : behind (written_by (result_value i ∷ g.written) is) ≤ b'.words

  turn_by : (p at : ℕ) (index words : List ℕ) (g : Going p at index words) → p < count → (left : List Instruction) → g.left ≡ left → Turn p at index words g
  turn_by p at index words g l [] e = let z = ap length e in let q = g.position in absurd (omega arith)
  turn_by p at index words g l (i ∷ is) e =
      let (h, hs) = subst (AllStand V2 code at g.written) e g.stands in
      let size : length g.left ≡ suc (length is) = ap length e in
      let q = g.position in
      let high : behind (written_by g.written (i ∷ is)) ≤ b'.words = subst (λ (xs : List Instruction). behind (written_by g.written xs) ≤ b'.words) e g.high in
      let up = written-up is (result_value i ∷ g.written) in
      let so = g.size in
      let n = j.counted.numbered in
      let ec = j.count-is in
      record {
        i = i;
        is = is;
        left_is = e;
        here = h;
        behind-it = hs;
        position = omega arith;
        rest = g.rest ∙ ap₂ (λ (ns : List ℕ) (xs : List Instruction). follow (own_readings b) p g.seen g.o (paired ns xs)) (drop-first numbers p (omega arith)) e;
        low = omega arith;
        fits = omega arith;
        high = high;
      }

  pub turn : {p at : ℕ} {index words : List ℕ} (g : Going p at index words) → p < count → Turn p at index words g
  turn {p} {at} {index} {words} g l = turn_by p at index words g l g.left refl

  module _ {p at : ℕ} {index words : List ℕ} (g : Going p at index words) (l : p < count) where
    abbrev t : Turn p at index words g
    t = turn g l

    abbrev m : ℕ
    m = get_or numbers p 0

    their-end : end_of (byte code at) (operands_at V2 at) ≡ end_at code at
    their-end = omega arith

    pub kind-there : (at < length code) × (byte code at < kind_limit)
    kind-there = (omega (arith, t.here.fits), kind_row (byte code at) (byte code (at + 1)) t.here.legal)

    pub number-there : p < length numbers
    number-there = omega (arith, j.counted.numbered, j.count-is)

    steppable-own : {row : Ports} → row ≡ ports_of (kind_of (byte code at)) → Steppable ours code at m count row index words
    steppable-own e =
        let s = g.state in
        let few_words : words_at code at ≤ value_limit =
        subst (λ (n : ℕ). n ≤ value_limit) (sym (words-given (kind_of (byte code at)) (byte code (at + 1)))) (words-few (kind_of (byte code at)) (byte code (at + 1))) in
        let ec = j.count-is in
        let wide = words-is b j.fit few ours g.seen g.o index words s code at m t.i g.written t.here t.low in
        record {
          row_is = e;
          there = omega (arith, t.here.fits);
          indexed = omega (arith, s.indexed);
          own-there = λ k d. own-there' k d;
          results = omega (arith, s.room);
          small = λ k. small' k few_words;
          room = room' wide;
        }
      where
        own-there' : m < count → (get_or index m 0 ≡ 0 → ⊥) → own_end ours (2 * get_or index m 0) ≤ length ours
        own-there' k d = pick (member m g.seen) refl
          where
            pick : (q : Bool) → member m g.seen ≡ q → own_end ours (2 * get_or index m 0) ≤ length ours
            pick true q = absurd (d (g.state.taken m q))
            pick false q =
                let (i, e) = there b.instructions m (omega (arith, j.count-is, k)) in
                let (w, h, z) = g.state.fresh m i e q in
                let fits = h.fits in
                omega arith

        small' : m < count → words_at code at ≤ value_limit → result_of words m + words_at code at ≤ address_limit
        small' k few_words =
            let (i, e) = there b.instructions m (omega (arith, j.count-is, k)) in
            let r = g.state.results m i e in
            let low = result_low b.instructions b.arguments b.words m i j.fit e in
            omega (arith, few)

        room' : words_at code at ≡ result_width t.i → u16 code (at + 2) + words_at code at ≤ length words
        room' wide =
            let r = their-result g.written code at t.i t.here in
            let f = t.fits in
            let z = g.state.size in
            let q = g.state.room in
            omega arith

    pub steppable : {n : ℕ} {row : Ports} → n ≡ m → row ≡ ports_of (kind_of (byte code at)) → Steppable ours code at n count row index words
    steppable {row = row} en e = subst (λ (k : ℕ). Steppable ours code at k count row index words) (sym en) (steppable-own e)

    -- ---- what the step gave

    abbrev seen' : List ℕ
    seen' = m ∷ g.seen

    abbrev test : Bool
    test = right b j.fit few ours g.seen g.o index words g.state code at m t.i g.written t.here t.low

    test-is : passed_at ours code at m count index words ≡ test
    test-is =
        ap (λ (n : ℕ). passed_at ours code at m n index words) j.count-is
        ∙ passed_is b j.fit few ours g.seen g.o index words g.state code at m t.i g.written t.here t.low

    -- the instruction is at fault
    pub wrong : {n : ℕ} {index' words' : List ℕ} {r : Option ℕ} → n ≡ m → Stepped ours code at n count index words index' words' r → r ≡ None → all ≡ fault 29 p
    wrong {index' = index'} {words'} {r} en s₀ e = pick test refl
      where
        s : Stepped ours code at m count index words index' words' r
        s = subst (λ (k : ℕ). Stepped ours code at k count index words index' words' r) en s₀

        pick : (q : Bool) → test ≡ q → all ≡ fault 29 p
        pick true q =
            let z : Some (end_at code at) ≡ None = sym (ap (λ (x : Bool). cond x (Some (end_at code at)) None) (test-is ∙ q)) ∙ sym s.answer ∙ e in
            absurd (differ z)
          where
            differ : {n : ℕ} → Some n ≡ None → ⊥
            differ z = let w : ◌≡◌ {A = ℕ} 0 1 = cc in omega arith
        pick false q = t.rest ∙ fails test 29 p _ q

    -- it is right, and the next stands behind it
    pub going_next : {n : ℕ} {index' words' : List ℕ} {r : Option ℕ} → n ≡ m → Stepped ours code at n count index words index' words' r → (next : ℕ) → r ≡ Some next
        → Going (p + 1) next index' words'
    going_next {index' = index'} {words'} {r} en s₀ next e = subst (λ (k : ℕ). Going k next index' words') (sym (add-one p)) (pick test refl)
      where
        s : Stepped ours code at m count index words index' words' r
        s = subst (λ (k : ℕ). Stepped ours code at k count index words index' words' r) en s₀

        differ : {n : ℕ} → None ≡ Some n → ⊥
        differ z = let w : ◌≡◌ {A = ℕ} 0 1 = cc in omega arith

        next-is : {x y : ℕ} → Some x ≡ Some y → x ≡ y
        next-is z = cc

        pick : (q : Bool) → test ≡ q → Going (suc p) next index' words'
        pick false q = absurd (differ (sym (ap (λ (x : Bool). cond x (Some (end_at code at)) None) (test-is ∙ q)) ∙ sym s.answer ∙ e))
        pick true q =
            let passed = test-is ∙ q in
            let end : end_at code at ≡ next = next-is (sym (ap (λ (x : Bool). cond x (Some (end_at code at)) None) passed) ∙ sym s.answer ∙ e) in
            let ei : set index m 0 ≡ index' = sym (s.indexed ∙ ap (λ (x : Bool). cond x (set index m 0) index) passed) in
            let ew : stored_at code at m words ≡ words' = sym (s.stored ∙ ap (λ (x : Bool). cond x (stored_at code at m words) words) passed) in
            let state = tracing-next b j.fit few ours g.seen g.o index words g.state code at m t.i g.written t.here t.low t.fits q in
            record {
              seen = m ∷ g.seen;
              o = after m t.i g.o;
              written = result_value t.i ∷ g.written;
              left = t.is;
              stands = subst (λ (n : ℕ). AllStand V2 code n (result_value t.i ∷ g.written) t.is) (their-end ∙ end) t.behind-it;
              position = t.position;
              rest = t.rest ∙ passes test 29 p _ q;
              state =
                  subst (λ (xs : List ℕ). Tracing b j.fit few ours (m ∷ g.seen) (after m t.i g.o) xs words') ei
                  (subst (Tracing b j.fit few ours (m ∷ g.seen) (after m t.i g.o) (set index m 0)) ew state);
              size = length-sets g.o t.i.result (made m (result_width t.i)) ∙ g.size;
              high = t.high;
            }

  -- ---- the end

  pub decoded-both : followed_in (decode ours) (decode code) numbers ≡ followed b b' numbers
  unfolding followed_in
  decoded-both = rw (codes-decoded V1 ours b j.own, codes-decoded V2 code b' j.theirs) refl

  pub refused : {p : ℕ} → all ≡ fault 29 p → fault 29 p ≡ followed_in (decode ours) (decode code) numbers
  refused {p} e = sym (decoded-both ∙ stops all _ 29 p e)

  -- the places of the output words
  pub outputs-there : (2 * outputs ≤ length ours) × (2 * outputs ≤ length code)
  outputs-there =
      let k = (known V1 ours b j.own).fits in
      let k' = (known V2 code b' j.theirs).fits in
      let e = j.outputs-is in
      let c = j.counted.outputs in
      (omega arith, omega arith)

  module _ {p at : ℕ} {index words : List ℕ} (g : Going p at index words) (l : count ≤ p) where
    none_left : (left : List Instruction) → p + length left ≡ count → left ≡ []
    none_left [] e = refl
    none_left (i ∷ is) e = absurd (omega arith)

    walked : all ≡ ok g.o
    walked = g.rest ∙ ap (λ (xs : List Instruction). follow (own_readings b) p g.seen g.o (paired (drop p numbers) xs)) (none_left g.left g.position) ∙ ends (drop p numbers)
      where
        ends : (ns : List ℕ) → follow (own_readings b) p g.seen g.o (paired ns []) ≡ ok g.o
        ends [] = refl
        ends (n ∷ ns) = refl

    abbrev outputs-same : Bool
    outputs-same = alike same_origin (map (origin_at g.o) b'.outputs) (map (origin_at (own_origins b)) b.outputs)

    -- the code's test of the outputs
    held-is : {r : Bool} → r ≡ alike eqb (map (held_at words) (addresses outputs code (length code - 2 * outputs))) (addresses outputs ours (length ours - 2 * outputs))
        → r ≡ outputs-same
    held-is {r} e =
        let k = known V1 ours b j.own in
        let k' = known V2 code b' j.theirs in
        let eo = j.outputs-is in
        let co = j.counted.outputs in
        let xs : addresses outputs ours (length ours - 2 * outputs) ≡ b.outputs =
        ap (λ (n : ℕ). addresses n ours (length ours - 2 * n)) eo ∙ sym k.places ∙ ap (λ (x : BoardList). x.outputs) (known_is V1 ours b j.own) in
        let ys : addresses outputs code (length code - 2 * outputs) ≡ b'.outputs =
        ap (λ (n : ℕ). addresses n code (length code - 2 * n)) (eo ∙ sym co) ∙ sym k'.places ∙ ap (λ (x : BoardList). x.outputs) (known_is V2 code b' j.theirs) in
        let low : Each (λ x. x < b.words) b.outputs = subst (Each (λ x. x < b.words)) (sym k.places ∙ ap (λ (x : BoardList). x.outputs) (known_is V1 ours b j.own)) k.below in
        let low' : Each (λ y. y < b'.words) b'.outputs =
        subst (Each (λ x. x < b'.words)) (sym k'.places ∙ ap (λ (x : BoardList). x.outputs) (known_is V2 code b' j.theirs)) k'.below in
        e ∙ ap₂ (λ (us vs : List ℕ). alike eqb (map (held_at words) us) vs) ys xs
        ∙ held-outputs b j.fit few g.o words g.state.traced b.outputs b'.outputs low (subst (λ (n : ℕ). Each (λ y. y < n) b'.outputs) (sym g.size) low')

    module _ {r : Bool} (e : r ≡ alike eqb (map (held_at words) (addresses outputs code (length code - 2 * outputs))) (addresses outputs ours (length ours - 2 * outputs))) where
      pub accepted : r ≡ true → ok count ≡ followed_in (decode ours) (decode code) numbers
      accepted q =
          sym (decoded-both ∙ takes all _ g.o walked ∙ passes outputs-same 29 (length b.instructions) _ (sym (held-is e) ∙ q) ∙ ap ok (sym j.count-is))

      pub outputs-wrong : r ≡ false → fault 29 count ≡ followed_in (decode ours) (decode code) numbers
      outputs-wrong q =
          sym (decoded-both ∙ takes all _ g.o walked ∙ fails outputs-same 29 (length b.instructions) _ (sym (held-is e) ∙ q) ∙ ap (fault 29) (sym j.count-is))
