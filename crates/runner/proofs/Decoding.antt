-- What a well formed code tells the run, and what the definition then answers.
use Rattle.std.specs.Prelude.{Some, None}
use Prim.Native.Nat.{ℕ, suc, ◌+◌, ◌-◌, ◌*◌, ◌≤◌, ◌<◌}
use mathlib.Core.Path.{◌≡◌, refl, ap, sym, ◌∙◌, subst}
use mathlib.Core.Bool.{Bool, true, false, ◌&&◌, cond}
use mathlib.Core.List.{List, [], ◌∷◌, map}
use mathlib.Core.Option.{Option, none, some}
use native.Mathlib.Omega.{arith}
use borrow.Author.Tests.{le-leb, lt-leb, eq-eqb, ne_eqb, eqb-true, leb-true}
use lib.Dec.{leb, eqb}
use lib.ListN.{length}
use lib.Seq.{sets, length-sets}
use Rattle.base.specs.Lists.{word_at, every, Word, Each}
use Rattle.value.specs.Values.{argument_word}
use Rattle.value.specs.Typed.{Canonical}
use Rattle.value.proofs.Laws.{same_word}
use Rattle.base.specs.Outcome.{Outcome, ok, fault, ◌>>=◌, ◌>>◌, need}
use Rattle.base.specs.Bytes.{byte, u16}
use Rattle.base.specs.Limits.{port_word_limit, within_limits, header_length}
use Rattle.base.proofs.Bools.{and-inv, and-false}
use Rattle.bytecode.specs.Run.{Instruction, BoardList, execute, execute_all, run}
use Rattle.bytecode.specs.Ranges.{Range, behind}
use Rattle.bytecode.specs.declared.Version.{Version}
use Rattle.bytecode.specs.declared.Version.TheVariants.{V1, V2}
use Rattle.bytecode.specs.Version.{version_of}
use Rattle.bytecode.specs.Code.{addresses, readable, argument_words, Listed, read_instructions, counts_fit, read_counts, code_marked, decode}
use Rattle.bytecode.specs.Answers.{Buffers, ran}
use Rattle.bytecode.proofs.Decoded.{guard-inv, then-inv, addresses-length}
use Rattle.bytecode.proofs.Readable.{readable-behind, behind-grows}
use Rattle.base.proofs.Lists.{some_is, each-less}
use Rattle.bytecode.proofs.Origins.{execute-length}
use Rattle.runner.specs.declared.Counts.{Counts}
use Rattle.executor.specs.Instructions.{version_by, CanonicalReads, after_all, Instructions}
use Rattle.executor.proofs.Canonical.{front-sets}
use Rattle.runner.specs.Checks.{counts_of, checked_of}
use Rattle.runner.specs.Runs.{work_after, out_after, Answered, memory_of, outputs_of, OutputsReady}
use Rattle.runner.proofs.Whole.{count-is}

pub record Decoded (s : List ℕ) (c : Counts) : Type 0 where
  pub list : BoardList
  pub is : decode s ≡ some list
  pub arguments : c.arguments ≡ list.arguments
  pub outputs : c.outputs ≡ length list.outputs
  pub words : c.words ≡ list.words
  pub long : header_length ≤ length s
  pub version : Version
  pub version-is : version_of (u16 s 3) ≡ some version
  pub listed : Listed
  pub reads : read_instructions version c.instructions s header_length (argument_words c.arguments) ≡ some listed
  pub same-words : behind listed.written ≡ c.words
  pub instructions : listed.instructions ≡ list.instructions
  pub places : list.outputs ≡ addresses c.outputs s (length s - 2 * c.outputs)
  pub fits : 2 * c.outputs ≤ length s
  pub below : Each (λ a. a < c.words) (addresses c.outputs s (length s - 2 * c.outputs))
  pub first : c.arguments ≤ c.words
  pub small : c.outputs ≤ port_word_limit

-- words that may be read stand before the word count
each_below : (v : Version) (written : List Range) (xs : List ℕ) → every (readable v written) xs ≡ true → Each (λ a. a < behind written) xs
each_below v written [] e = tt
each_below v written (x ∷ xs) e =
    let (p, q) = and-inv (readable v written x) (every (readable v written) xs) e in
    (readable-behind v written x p, each_below v written xs q)

of-counts : (s : List ℕ) (v : Version) (a o n w : ℕ) (b : BoardList) (c : Counts) → header_length ≤ length s → version_of (u16 s 3) ≡ some v → read_counts v s a o n w ≡ some b
    → decode s ≡ some b → counts_of b ≡ c → Decoded s c
of-counts s v a o n w b c long ev e d q =
    let (t, e1) = guard-inv (counts_fit a o n w) _ b e in
    let (t2, l4) = and-inv (leb a port_word_limit && leb 1 o && leb o port_word_limit) (within_limits n w) t in
    let (t3, l3) = and-inv (leb a port_word_limit && leb 1 o) (leb o port_word_limit) t2 in
    let few : o ≤ port_word_limit = leb-true o port_word_limit l3 in
    let (l, el, e2) = then-inv (read_instructions v n s 12 (argument_words a)) _ b e1 in
    let (u1, e3) = guard-inv (eqb (behind l.written) w) _ b e2 in
    let (u2, e4) = guard-inv (eqb (l.at + 2 * o) (length s)) _ b e3 in
    let (u3, e5) = guard-inv (every (readable v l.written) (addresses o s l.at)) _ b e4 in
    let r : record { arguments = a; instructions = l.instructions; words = w; outputs = addresses o s l.at } ≡ b = some_is e5 in
    let ra : a ≡ b.arguments = ap (λ (x : BoardList). x.arguments) r in
    let ri : l.instructions ≡ b.instructions = ap (λ (x : BoardList). x.instructions) r in
    let rw' : w ≡ b.words = ap (λ (x : BoardList). x.words) r in
    let ro : addresses o s l.at ≡ b.outputs = ap (λ (x : BoardList). x.outputs) r in
    let ca : b.arguments ≡ c.arguments = ap (λ (x : Counts). x.arguments) q in
    let co : length b.outputs ≡ c.outputs = ap (λ (x : Counts). x.outputs) q in
    let ci : length b.instructions ≡ c.instructions = ap (λ (x : Counts). x.instructions) q in
    let cw : b.words ≡ c.words = ap (λ (x : Counts). x.words) q in
    let n-is : n ≡ c.instructions = sym (count-is v n s 12 (argument_words a) l el) ∙ ap length ri ∙ ci in
    let o_is : o ≡ c.outputs = sym (addresses-length o s l.at) ∙ ap length ro ∙ co in
    let a-is : a ≡ c.arguments = ra ∙ ca in
    let w-is : w ≡ c.words = rw' ∙ cw in
    let lw : behind l.written ≡ w = eqb-true (behind l.written) w u1 in
    let full : l.at + 2 * o ≡ length s = eqb-true (l.at + 2 * o) (length s) u2 in
    let at-is : l.at ≡ length s - 2 * c.outputs = omega arith in
    let grow : behind (argument_words a) ≤ behind l.written = behind-grows v n s 12 (argument_words a) l el in
    let moved : addresses o s l.at ≡ addresses c.outputs s (length s - 2 * c.outputs) =
    ap (λ (k : ℕ). addresses k s l.at) o_is ∙ ap (addresses c.outputs s) at-is in
    record {
      list = b;
      is = d;
      arguments = sym ca;
      outputs = sym co;
      words = sym cw;
      long = long;
      version = v;
      version-is = ev;
      listed = l;
      reads = ap (λ (k : ℕ). read_instructions v k s 12 (argument_words c.arguments)) (sym n-is) ∙ ap (λ (k : ℕ). read_instructions v n s 12 (argument_words k)) (sym a-is) ∙ el;
      same-words = lw ∙ w-is;
      instructions = ri;
      places = sym ro ∙ moved;
      fits = omega arith;
      below = subst (λ (xs : List ℕ). Each (λ x. x < c.words) xs) moved (subst (λ (k : ℕ). Each (λ x. x < k) (addresses o s l.at)) (lw ∙ w-is) (each_below v l.written (addresses o s l.at) u3));
      first = omega arith;
      small = omega arith;
    }

pub is-formed : (o : Option BoardList) (c : Counts) → checked_of o ≡ Some c
    → (b : BoardList) × (o ≡ some b) × (counts_of b ≡ c)
unfolding checked_of
is-formed none c e = let z : ◌≡◌ {A = ℕ} 0 1 = cc in absurd (omega arith)
is-formed (some b) c e = (b, refl, cc)

pub is-malformed : (o : Option BoardList) → checked_of o ≡ None → o ≡ none
unfolding checked_of
is-malformed none e = refl
is-malformed (some b) e = let z : ◌≡◌ {A = ℕ} 0 1 = cc in absurd (omega arith)

pub decoded : (s : List ℕ) (c : Counts) → checked_of (decode s) ≡ Some c → Decoded s c
unfolding decode
decoded s c e =
    let (b, d, q) = is-formed (decode s) c e in
    let (t, e1) = guard-inv (leb 12 (length s)) _ b d in
    let (u, e2) = guard-inv (code_marked s) _ b e1 in
    let (v, ev, e3) = then-inv (version_of (u16 s 3)) _ b e2 in
    of-counts s v (byte s 5) (byte s 6) (u16 s 8) (u16 s 10) b c (leb-true _ _ t) ev e3 d q

-- ---- refusals

pub refused : (g : Outcome Buffers) (n p : ℕ) (work out : List ℕ) → g ≡ fault n p → Answered g work out work out (fault n p)
unfolding work_after out_after
refused g n p work out e = record { answer = rw e; work-after = rw e; out-after = rw e }

module _ (s arguments work out : List ℕ) where
  pub refused-18 : checked_of (decode s) ≡ None → Answered (ran s arguments work out) work out work out (fault 18 0)
  unfolding ran ◌>>=◌
  refused-18 e = refused (ran s arguments work out) 18 0 work out (rw (is-malformed (decode s) e))

  module _ {c : Counts} (d : Decoded s c) where
    pub refused-19 : (length arguments ≡ c.arguments → ⊥) → Answered (ran s arguments work out) work out work out (fault 19 0)
    unfolding ran ◌>>=◌ ◌>>◌ need
    refused-19 n =
        refused (ran s arguments work out) 19 0 work out
        (rw (d.is, ne_eqb (length arguments) d.list.arguments (λ q. n (q ∙ sym d.arguments))))

    module _ (count : length arguments ≡ c.arguments) where
      pub refused-20 : every argument_word arguments ≡ false → Answered (ran s arguments work out) work out work out (fault 20 0)
      unfolding ran ◌>>=◌ ◌>>◌ need
      refused-20 f =
          refused (ran s arguments work out) 20 0 work out (rw (d.is, eq-eqb (length arguments) d.list.arguments (count ∙ d.arguments), f))

      module _ (f : every argument_word arguments ≡ true) where
        short : (leb d.list.words (length work) && leb (length d.list.outputs) (length out)) ≡ false
            → Answered (ran s arguments work out) work out work out (fault 21 0)
        unfolding ran ◌>>=◌ ◌>>◌ need
        short h =
            refused (ran s arguments work out) 21 0 work out
            (rw (d.is, eq-eqb (length arguments) d.list.arguments (count ∙ d.arguments), f, h))

        pub refused-work : length work < c.words → Answered (ran s arguments work out) work out work out (fault 21 0)
        refused-work l =
            let w = d.words in
            short (ap (λ (b : Bool). b && leb (length d.list.outputs) (length out)) (lt-leb d.list.words (length work) (omega arith)))

        pub refused-out : length out < c.outputs → Answered (ran s arguments work out) work out work out (fault 21 0)
        refused-out l =
            let o = d.outputs in
            short (ap (λ (b : Bool). leb d.list.words (length work) && b) (lt-leb (length d.list.outputs) (length out) (omega arith)) ∙ and-false (leb d.list.words (length work)))

        -- past all refusals the run is the list's
        pub ran-ok : c.words ≤ length work → c.outputs ≤ length out
            → ran s arguments work out
            ≡ ok (record { count = c.outputs; work = memory_of (decode s) arguments work; out = outputs_of (decode s) arguments work out })
        unfolding memory_of outputs_of ran ◌>>=◌ ◌>>◌ need
        ran-ok w o =
            let dw = d.words in
            let do' = d.outputs in
            let h1 = le-leb d.list.words (length work) (omega arith) in
            let h2 = le-leb (length d.list.outputs) (length out) (omega arith) in
            rw (d.is, eq-eqb (length arguments) d.list.arguments (count ∙ d.arguments), f, h1, h2, d.outputs) refl

        pub completed : c.words ≤ length work → c.outputs ≤ length out → {work' out' : List ℕ} → work' ≡ memory_of (decode s) arguments work
            → out' ≡ outputs_of (decode s) arguments work out → Answered (ran s arguments work out) work out work' out' (ok c.outputs)
        unfolding work_after out_after
        completed w o e1 e2 = let g = ran-ok w o in record { answer = rw g refl; work-after = rw g e1; out-after = rw g e2 }

-- ---- the run of a code that was checked

-- the version by whether the header says 2
pub version-by : (s : List ℕ) (v : Version) → version_of (u16 s 3) ≡ some v → {b : Bool} → b ≡ eqb (u16 s 3) 2 → version_by b ≡ v
version-by s v e {b} q = ap version_by q ∙ go (eqb (u16 s 3) 1) refl (eqb (u16 s 3) 2) refl e
  where
    go : (x : Bool) → eqb (u16 s 3) 1 ≡ x → (y : Bool) → eqb (u16 s 3) 2 ≡ y → cond x (some V1) (cond y (some V2) none) ≡ some v → version_by y ≡ v
    go true p true r e = let a : u16 s 3 ≡ 1 = eqb-true _ _ p in let b : u16 s 3 ≡ 2 = eqb-true _ _ r in absurd (omega arith)
    go true p false r e = some_is e
    go false p true r e = some_is e
    go false p false r e = let z : ◌≡◌ {A = ℕ} 0 1 = cc in absurd (omega arith)

module _ (s arguments work out : List ℕ) {c : Counts} (d : Decoded s c) {v : Version} (ev : v ≡ d.version) {first all : List ℕ} (e1 : first ≡ sets work 0 arguments)
    (e2 : all ≡ after_all (read_instructions v c.instructions s header_length (argument_words c.arguments)) first) where
  memory-is : all ≡ (run d.list arguments work).memory
  unfolding after_all
  memory-is =
      e2
      ∙ ap (λ (u : Version). after_all (read_instructions u c.instructions s header_length (argument_words c.arguments)) first) ev
      ∙ ap (λ (x : Option Listed). after_all x first) d.reads
      ∙ ap (execute_all d.listed.instructions) e1
      ∙ ap (λ (is : List Instruction). execute_all is (sets work 0 arguments)) d.instructions

  pub ran-memory : all ≡ memory_of (decode s) arguments work
  unfolding memory_of
  ran-memory = memory-is ∙ ap (λ (x : Option BoardList). memory_of x arguments work) (sym d.is)

  pub ran-outputs : {out' : List ℕ} → out' ≡ sets out 0 (map (word_at all) (addresses c.outputs s (length s - 2 * c.outputs)))
      → out' ≡ outputs_of (decode s) arguments work out
  unfolding outputs_of
  ran-outputs e3 =
      e3 ∙ ap (λ (xs : List ℕ). sets out 0 (map (word_at all) xs)) (sym d.places)
      ∙ ap (λ (x : List ℕ). sets out 0 (map (word_at x) d.list.outputs)) memory-is
      ∙ ap (λ (x : Option BoardList). outputs_of x arguments work out) (sym d.is)

-- the arguments are canonical words

each-canonical : (xs : List ℕ) → every argument_word xs ≡ true → ((i : ℕ) → Word (word_at xs i)) → Each Canonical xs
each-canonical [] e f = tt
each-canonical (x ∷ xs) e f =
    let (a, b) = and-inv (argument_word x) (every argument_word xs) e in
    (same_word x (f 0, a), each-canonical xs b (λ i. f (suc i)))

pub copied : (v : Version) {m : List ℕ} (work arguments : List ℕ) {n : ℕ} → m ≡ sets work 0 arguments → length arguments ≡ n → n ≤ length work
    → every argument_word arguments ≡ true → ((i : ℕ) → Word (word_at arguments i)) → CanonicalReads v (argument_words n) m
copied v {m} work arguments {n} e l r a f =
    subst (CanonicalReads v (argument_words n)) (sym e)
    (subst (λ (k : ℕ). CanonicalReads v (argument_words k) (sets work 0 arguments)) l
    (front-sets v arguments work (each-canonical arguments a f) (omega arith)))

pub instructions-ready : (s : List ℕ) (c : Counts) (m : List ℕ) (d : Decoded s c) → c.words ≤ length m → {v : Version} → v ≡ d.version
    → CanonicalReads v (argument_words c.arguments) m → Instructions v s c.instructions c.arguments m
instructions-ready s c m d h {v} ev k =
    let w = d.same-words in
    record {
      listed = d.listed;
      reads = ap (λ (u : Version). read_instructions u c.instructions s header_length (argument_words c.arguments)) ev ∙ d.reads;
      room = omega arith;
      canonical = k;
    }

pub outputs-ready : (s : List ℕ) (c : Counts) (size room : ℕ) → Decoded s c → c.words ≤ size → c.outputs ≤ room
    → OutputsReady s (length s - 2 * c.outputs) c.outputs size room
outputs-ready s c size room d h r =
    let f = d.fits in
    record { fits = omega arith; below = each-less (addresses c.outputs s (length s - 2 * c.outputs)) c.words size h d.below; out = r }

-- ---- lengths

length-all : (is : List Instruction) (m : List ℕ) → length (execute_all is m) ≡ length m
length-all [] m = refl
length-all (i ∷ is) m = length-all is (execute i m) ∙ execute-length i m

pub length-after : (o : Option Listed) (m : List ℕ) → length (after_all o m) ≡ length m
unfolding after_all
length-after none m = refl
length-after (some l) m = length-all l.instructions m

pub length-copy : {m : List ℕ} (work arguments : List ℕ) → m ≡ sets work 0 arguments → length m ≡ length work
length-copy work arguments e = ap length e ∙ length-sets work 0 arguments

pub memory-length : (o : Option BoardList) (arguments work : List ℕ) → length (memory_of o arguments work) ≡ length work
unfolding memory_of
memory-length none arguments work = refl
memory-length (some b) arguments work = length-all b.instructions (sets work 0 arguments) ∙ length-sets work 0 arguments

pub outputs-length : (o : Option BoardList) (arguments work out : List ℕ) → length (outputs_of o arguments work out) ≡ length out
unfolding outputs_of
outputs-length none arguments work out = refl
outputs-length (some b) arguments work out = length-sets out 0 (run b arguments work).outputs
