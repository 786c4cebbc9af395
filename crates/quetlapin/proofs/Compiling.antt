-- What the compiler answers of a function that was found, and what it asks.
use Prim.Native.Nat.{ℕ, suc, ◌+◌, ◌*◌, ◌≤◌, ◌<◌, min}
use mathlib.Core.Path.{◌≡◌, refl, sym, ap, ◌∙◌}
use mathlib.Core.Bool.{Bool, true, false, cond}
use mathlib.Core.Option.{some}
use mathlib.Core.List.{List, [], ◌∷◌, ◌++◌, map}
use native.Mathlib.Omega.{arith}
use lib.Dec.{leb}
use lib.ListN.{length, length-append, length-map}
use lib.Seq.{sets}
use borrow.Author.Tests.{le-leb, lt-leb, leb-true, leb-false}
use Rattle.base.specs.Bytes.{all_bytes}
use Rattle.base.specs.Limits.{operation_limit, port_word_limit, word_limit}
use Rattle.base.specs.Outcome.{Outcome, ok, fault, ◌>>◌, need}
use Rattle.base.proofs.Outcomes.{takes, stops, passes, fails, passed, needs, needed}
use Rattle.base.proofs.Stands.{all-length}
use Rattle.ports.specs.Ports.{widths}
use Rattle.graph.specs.Graph.{Function}
use Rattle.graph.specs.Types.{output_types}
use Rattle.graph.specs.Sums.{function_operations, operations_of}
use Rattle.graph.specs.Sound.{AllSound}
use Rattle.graph.specs.Table.{Chosen}
use Rattle.reader.specs.Layout.{earlier}
use Rattle.bytecode.specs.declared.Version.{Version}
use Rattle.bytecode.specs.declared.Version.TheVariants.{V1, V2}
use Rattle.bytecode.specs.Version.{version_of}
use Rattle.bytecode.specs.Run.{Instruction, places}
use Rattle.bytecode.specs.Code.{instruction_code, instructions_code, header_code, encode}
use Rattle.bytecode.proofs.Back.{instruction-length}
use Rattle.std.specs.Prelude.{Some, None}
use Rattle.placement.specs.Record.{extent_of}
use Rattle.placement.specs.Place.{Placed, places_of, rename, renamed, reusing}
use Rattle.lowering.specs.Compile.{board_list_of}
use Rattle.lowering.specs.Naming.{name_step, sizing, names}
use Rattle.lowering.specs.Answers.{code_of, compilable, compiled}
use Rattle.lowering.proofs.Limits.{words-of}
use Rattle.sums.specs.declared.Sizes.{Sizes}
use Rattle.sums.specs.CodeSums.{function_instructions, function_bytes, instructions_of, bytes_of_function}
use Rattle.sums.specs.Position.{function_in, before}
use Rattle.sums.specs.Capped.{operation_cap, byte_cap, result_words_at, instructions_at}
use Rattle.sums.specs.Answers.{capped_sizes}
use Rattle.sums.proofs.Accepted.{sound-below}
use Rattle.sums.proofs.CodeSizes.{function-instructions, encode-length}
use Rattle.sums.proofs.CodeLimits.{function-operations, bytes_below}
use Rattle.compiler.specs.Whole as compiler
use Rattle.quetlapin.specs.declared.lookup.Found.{Found}
use Rattle.quetlapin.specs.Measures.{chosen_at, exact_sizes, placed_length, operations_allowed, limits_allowed, code_allowed, FoundAt, ReadyAt}
use Rattle.quetlapin.proofs.Choosing.{over-operations, over-words, within-limits, exact}

-- ---- 17, and the code

module _ (s : List ℕ) (c n : ℕ) (code : List ℕ) where
  pub refused : (a b : ℕ) → compilable s c n ≡ fault a b → compiled s c n code ≡ fault a b
  unfolding compiled
  refused a b e = stops (compilable s c n) _ a b e

  module _ (v : Version) (x : Chosen) (e : compilable s c n ≡ ok (record { chosen = x; version = v })) where
    pub too_long : length code < length (code_of v x) → compiled s c n code ≡ fault 17 0
    unfolding compiled
    too_long l =
        takes (compilable s c n) _ (record { chosen = x; version = v }) e ∙ fails (leb (length (code_of v x)) (length code)) 17 0 _ (lt-leb (length (code_of v x)) (length code) l)

    pub written : length (code_of v x) ≤ length code → compiled s c n code ≡ ok (record { size = length (code_of v x); buffer = sets code 0 (code_of v x) })
    unfolding compiled
    written l =
        takes (compilable s c n) _ (record { chosen = x; version = v }) e ∙ passes (leb (length (code_of v x)) (length code)) 17 0 _ (le-leb (length (code_of v x)) (length code) l)

-- ---- 15 and 16

pub not_allowed : (n limit a : ℕ) → limit < n → fault a 0 ≡ need (leb n limit) a 0
unfolding need
not_allowed n limit a l = rw (lt-leb n limit l) refl

pub allowed : (n limit a : ℕ) → n ≤ limit → ok tt ≡ need (leb n limit) a 0
allowed n limit a l = sym (needs (leb n limit) a 0 (le-leb n limit l))

-- a test that did not pass, and its fault
failed : (t : Bool) (n p a b : ℕ) → fault a b ≡ need t n p → t ≡ false
unfolding need
failed true n p a b e = let z : ◌≡◌ {A = ℕ} 0 1 = cc in absurd (omega arith)
failed false n p a b e = refl

same-fault : {B : Type 0} (t : Bool) (n p a b : ℕ) → fault a b ≡ need t n p → ◌≡◌ {A = Outcome B} (fault n p) (fault a b)
unfolding need
same-fault true n p a b e = let z : ◌≡◌ {A = ℕ} 0 1 = cc in absurd (omega arith)
same-fault false n p a b e = let x : n ≡ a = cc in let y : p ≡ b = cc in rw (x, y) refl

pub few-there : (m : Sizes) (u : Unit {0}) → ok u ≡ operations_allowed m → m.operations ≤ operation_limit
few-there m u e = leb-true m.operations operation_limit (needed (leb m.operations operation_limit) 15 0 u (sym e))

pub room-there : (m : Sizes) (room : ℕ) (u : Unit {0}) → ok u ≡ code_allowed m room → m.code ≤ room
room-there m room u e = leb-true m.code room (needed (leb m.code room) 17 0 u (sym e))

module _ (s : List ℕ) (c : ℕ) (g : Found) (r : FoundAt s c g) where
  pub too_many : (n : ℕ) (v : Version) (a b : ℕ) → version_of n ≡ some v → fault a b ≡ operations_allowed g.sizes → compilable s c n ≡ fault a b
  too_many n v a b ev e =
      let f = failed (leb g.sizes.operations operation_limit) 15 0 a b e in
      over-operations s c g.position r.named g.sizes r.sizes.sizes n v ev (leb-false g.sizes.operations operation_limit f)
      ∙ same-fault (leb g.sizes.operations operation_limit) 15 0 a b e

  pub not_ready : (a b : ℕ) → fault a b ≡ limits_allowed g.sizes → compilable s c 1 ≡ fault a b
  unfolding need ◌>>◌
  not_ready a b e = pick (leb g.sizes.operations operation_limit) (leb g.sizes.words word_limit) refl refl e
    where
      pick : (t w : Bool) → leb g.sizes.operations operation_limit ≡ t → leb g.sizes.words word_limit ≡ w → fault a b ≡ (need t 15 0 >> need w 16 0) → compilable s c 1 ≡ fault a b
      pick false w x y e = over-operations s c g.position r.named g.sizes r.sizes.sizes 1 V1 refl (leb-false g.sizes.operations operation_limit x) ∙ same-fault false 15 0 a b e
      pick true false x y e =
          over-words s c g.position r.named g.sizes r.sizes.sizes (leb-true g.sizes.operations operation_limit x) (leb-false g.sizes.words word_limit y) ∙ same-fault false 16 0 a b e
      pick true true x y e = let z : ◌≡◌ {A = ℕ} 0 1 = cc in absurd (omega arith)

  pub ready : (u : Unit {0}) → ok u ≡ limits_allowed g.sizes → ReadyAt s c g
  ready u e =
      let p = passed (leb g.sizes.operations operation_limit) 15 0 (need (leb g.sizes.words word_limit) 16 0) u (sym e) in
      let few = leb-true g.sizes.operations operation_limit p.0 in
      let short = leb-true g.sizes.words word_limit (needed (leb g.sizes.words word_limit) 16 0 u p.1) in
      record {
        found = r;
        compilable = within-limits s c g.position r.named g.sizes r.sizes.sizes few short;
        sizes = exact s c g.position r.named g.sizes r.sizes.sizes few short;
        few-operations = few;
        few_words = short;
      }

-- ---- a function that can be compiled in version 1

module _ (s : List ℕ) (c : ℕ) (g : Found) (r : ReadyAt s c g) where
  pub code_is : g.sizes.code ≡ length (code_of V1 (chosen_at s g.position))
  unfolding exact_sizes
  code_is = ap (λ (x : Sizes). x.code) r.sizes

  pub no-room : (code : List ℕ) (a b : ℕ) → fault a b ≡ code_allowed g.sizes (length code) → compiled s c 1 code ≡ fault a b
  no-room code a b e =
      let l = leb-false g.sizes.code (length code) (failed (leb g.sizes.code (length code)) 17 0 a b e) in
      let q = code_is in
      too_long s c 1 code V1 (chosen_at s g.position) r.compilable (omega (arith, q, l)) ∙ same-fault (leb g.sizes.code (length code)) 17 0 a b e

  pub sound : AllSound (function_in s g.position ∷ before s g.position)
  unfolding earlier
  sound = sound-below s (suc g.position) r.found.accepted g.position (omega arith)

  pub words_are : g.sizes.words ≡ (compiler.source_at s g.position).words
  unfolding exact_sizes
  words_are = ap (λ (x : Sizes). x.words) r.sizes ∙ sym (words-of (before s g.position) (function_in s g.position) sound)

  pub measured : compiler.Measured V1 s g.position g.sizes.instructions g.sizes.arguments g.sizes.outputs
  unfolding exact_sizes compiler.inlined_at result_words_at
  measured =
      let f = function_in s g.position in
      let early = before s g.position in
      let i = ap (λ (x : Sizes). x.instructions) r.sizes in
      let o = ap (λ (x : Sizes). x.operations) r.sizes in
      let a = ap (λ (x : Sizes). x.arguments) r.sizes in
      let w : g.sizes.words ≡ widths f.inputs + result_words_at s g.position = ap (λ (x : Sizes). x.words) r.sizes in
      let n = function-operations early f in
      let lo = r.few-operations in
      let lw = r.few_words in
      record {
        instructions = i ∙ sym (function-instructions widths early f sound (places 0 f.inputs) (widths f.inputs));
        arguments = a;
        results = ap (λ (x : Sizes). x.outputs) r.sizes;
        few = omega arith;
        narrow = (r.found.sizes.arguments, r.found.sizes.outputs);
        own = omega arith;
        end = omega arith;
      }

-- ---- in version 2

code-added : (ps : List Placed) (is : List Instruction) → length (instructions_code V2 (map (renamed ps) is)) ≡ length (instructions_code V1 is) + 2 * length is
code-added ps [] = omega arith
code-added ps (i ∷ is) =
    let j = renamed ps i in
    let a : length (instruction_code V2 j ++ instructions_code V2 (map (renamed ps) is)) ≡ length (instruction_code V2 j) + length (instructions_code V2 (map (renamed ps) is)) =
    length-append (instruction_code V2 j) (instructions_code V2 (map (renamed ps) is)) in
    let b : length (instruction_code V1 i ++ instructions_code V1 is) ≡ length (instruction_code V1 i) + length (instructions_code V1 is) = length-append (instruction_code V1 i) (instructions_code V1 is) in
    let d : length (instruction_code V2 j) ≡ 2 + 2 + 2 * length j.operands + 8 * length i.constants = instruction-length V2 j in
    let e : length (instruction_code V1 i) ≡ 2 + 0 + 2 * length i.operands + 8 * length i.constants = instruction-length V1 i in
    let f : length j.operands ≡ length i.operands = length-map i.operands (rename ps) in
    let h = code-added ps is in
    omega arith

placed-code : (early : List Function) (f : Function) → length (encode V2 (reusing f.inputs (board_list_of early f))) ≡ length (encode V1 (board_list_of early f)) + 2 * length (board_list_of early f).instructions
unfolding encode
placed-code early f =
    let b = board_list_of early f in
    let b' = reusing f.inputs b in
    let ps = places_of f.inputs b in
    let i = instructions_code V1 b.instructions in
    let j = instructions_code V2 b'.instructions in
    let o = all_bytes 2 b.outputs in
    let q = all_bytes 2 b'.outputs in
    let h = header_code 1 b.arguments (length b.outputs) (length b.instructions) b.words in
    let g = header_code 2 b'.arguments (length b'.outputs) (length b'.instructions) b'.words in
    let a1 : length (h ++ (i ++ o)) ≡ 12 + length (i ++ o) = length-append h (i ++ o) in
    let a2 : length (i ++ o) ≡ length i + length o = length-append i o in
    let a3 : length o ≡ 2 * length b.outputs = all-length 2 b.outputs in
    let b1 : length (g ++ (j ++ q)) ≡ 12 + length (j ++ q) = length-append g (j ++ q) in
    let b2 : length (j ++ q) ≡ length j + length q = length-append j q in
    let b3 : length q ≡ 2 * length b'.outputs = all-length 2 b'.outputs in
    let b4 : length b'.outputs ≡ length b.outputs = length-map b.outputs (rename ps) in
    let e : length j ≡ length i + 2 * length b.instructions = code-added ps b.instructions in
    omega arith

module _ (s : List ℕ) (c : ℕ) (g : Found) (r : FoundAt s c g) (few : g.sizes.operations ≤ operation_limit) where
  sound-2 : AllSound (function_in s g.position ∷ before s g.position)
  unfolding earlier
  sound-2 = sound-below s (suc g.position) r.accepted g.position (omega arith)

  counts-are : (g.sizes.operations ≡ min operation_cap (function_operations (operations_of (before s g.position)) (function_in s g.position)))
      × (g.sizes.instructions ≡ min operation_cap (function_instructions (instructions_of (before s g.position)) (function_in s g.position)))
      × (g.sizes.bytes ≡ min byte_cap (function_bytes (bytes_of_function (before s g.position)) (function_in s g.position)))
      × (g.sizes.arguments ≡ widths (function_in s g.position).inputs)
      × (g.sizes.outputs ≡ widths (output_types (function_in s g.position).outputs))
  unfolding capped_sizes
  counts-are = let e = r.sizes.sizes in (
    ap (λ (x : Sizes). x.operations) e,
    ap (λ (x : Sizes). x.instructions) e,
    ap (λ (x : Sizes). x.bytes) e,
    ap (λ (x : Sizes). x.arguments) e,
    ap (λ (x : Sizes). x.outputs) e,
  )

  few-operations : function_operations (operations_of (before s g.position)) (function_in s g.position) ≤ operation_limit
  few-operations = let o = counts-are.0 in omega arith

  exact-instructions : g.sizes.instructions ≡ function_instructions (instructions_of (before s g.position)) (function_in s g.position)
  exact-instructions = let i = counts-are.1 in let n = function-operations (before s g.position) (function_in s g.position) in let o = few-operations in omega arith

  exact_bytes : g.sizes.bytes ≡ function_bytes (bytes_of_function (before s g.position)) (function_in s g.position)
  exact_bytes = counts-are.2 ∙ bytes_below (before s g.position) (function_in s g.position) few-operations

  pub sizes-low : (g.sizes.bytes ≤ byte_cap) × (g.sizes.instructions ≤ operation_cap) × (g.sizes.outputs ≤ port_word_limit)
  sizes-low = let i = counts-are.1 in let b = counts-are.2 in (omega arith, omega arith, r.sizes.outputs)

  pub placed-length : placed_length g.sizes ≡ length (code_of V2 (chosen_at s g.position))
  placed-length =
      let f = function_in s g.position in
      let early = before s g.position in
      let a : length (encode V1 (board_list_of early f)) ≡ 12 + function_bytes (bytes_of_function early) f + 2 * widths (output_types f.outputs) = encode-length early f sound-2 in
      let b : length (code_of V2 (chosen_at s g.position)) ≡ length (encode V1 (board_list_of early f)) + 2 * length (board_list_of early f).instructions = placed-code early f in
      let d : length (board_list_of early f).instructions ≡ function_instructions (instructions_of early) f = function-instructions widths early f sound-2 (places 0 f.inputs) (widths f.inputs) in
      let i = exact-instructions in
      let y = exact_bytes in
      let o = counts-are.4 in
      omega arith

  pub measured-placed : compiler.Measured V2 s g.position g.sizes.instructions g.sizes.arguments g.sizes.outputs
  unfolding compiler.inlined_at instructions_at
  measured-placed =
      let f = function_in s g.position in
      let early = before s g.position in
      let i = exact-instructions in
      let n = function-operations early f in
      let o = few-operations in
      let l = sound-2.0.resolved.formed.inputs in
      record {
        instructions = i ∙ sym (function-instructions (sizing V2) early f sound-2 (names 0 (length f.inputs)) (name_step * length f.inputs));
        arguments = counts-are.3;
        results = counts-are.4;
        few = omega arith;
        narrow = (r.sizes.arguments, r.sizes.outputs);
        own = omega arith;
        end = omega arith;
      }

-- an extent that is a number, or over the limit
pub extent-words : (n w : ℕ) → Some n ≡ extent_of w → (n ≡ w) × (w ≤ word_limit)
extent-words n w e = pick (leb w word_limit) refl e
  where
    pick : (c : Bool) → leb w word_limit ≡ c → Some n ≡ cond c (Some w) None → (n ≡ w) × (w ≤ word_limit)
    pick true q e = (cc, leb-true w word_limit q)
    pick false q e = let z : ◌≡◌ {A = ℕ} 0 1 = cc in absurd (omega arith)

pub extent-over : (w : ℕ) → None ≡ extent_of w → word_limit < w
extent-over w e = pick (leb w word_limit) refl e
  where
    pick : (c : Bool) → leb w word_limit ≡ c → None ≡ cond c (Some w) None → word_limit < w
    pick true q e = let z : ◌≡◌ {A = ℕ} 0 1 = cc in absurd (omega arith)
    pick false q e = leb-false w word_limit q
