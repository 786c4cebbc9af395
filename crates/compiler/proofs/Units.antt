-- What a function takes as its callers see it: its words, or the names of its instructions.
use Prim.Native.Nat.{ℕ, ◌+◌, ◌*◌, ◌≤◌, ◌<◌}
use mathlib.Core.Path.{◌≡◌, refl, sym, ap, ◌∙◌}
use mathlib.Core.Bool.{true}
use mathlib.Core.List.{List, [], ◌∷◌}
use mathlib.Core.Logic.{⊎_elim}
use native.Mathlib.Omega.{arith}
use Rattle.base.specs.Bytes.{byte, u16}
use Rattle.base.specs.Limits.{function_limit}
use Rattle.base.proofs.Numbers.{lt-or-le}
use Rattle.ports.specs.declared.Ports.{Ports}
use Rattle.ports.specs.Kinds.{kind_of}
use Rattle.ports.specs.Ports.{widths, ports_of, calling}
use Rattle.reader.specs.Layout.{node_at}
use Rattle.graph.specs.Graph.{Payload, consts, refs, calls, Node, Function}
use Rattle.graph.specs.Sums.{sum, node_operations, operations_of, node_words, result_words, result_words_of}
use Rattle.graph.specs.Sound.{AllSound}
use Rattle.bytecode.specs.declared.Version.{Version}
use Rattle.bytecode.specs.declared.Version.TheVariants.{V1, V2}
use Rattle.bytecode.specs.Run.{places}
use Rattle.lowering.specs.Compile.{inline_function, inlined}
use Rattle.lowering.specs.Naming.{name_step, sizing}
use Rattle.lowering.proofs.Limits.{inlined-size, words-of}
use Rattle.lowering.proofs.Naming.{inlined-names, nodes-names}
use Rattle.graph.specs.Schedule.{schedule}
use Rattle.sums.specs.declared.Sums.{Sums}
use Rattle.sums.specs.CodeSums.{node_instructions, node_bytes, function_instructions, instructions_of, bytes_of_function}
use Rattle.sums.specs.Position.{function_in, before, position_of}
use Rattle.sums.specs.Capped.{adds_sums, call_sums, no_sums, nodes_sums, capped_sums, result_words_at, instructions_at, SumsHeld}
use Rattle.sums.proofs.Positions.{sums_of, sums-at, sums_none}
use Rattle.sums.proofs.Summing.{added}
use Rattle.sums.proofs.CodeSizes.{function-instructions, inlined-instructions}
use Rattle.compiler.specs.Static.{Located, node_summary, function_summary, summary}
use Rattle.compiler.specs.Units.{units_in, units_at, adds_units, unit_limit, end_limit, unit_bound, Held, AllHeld}
use Rattle.compiler.proofs.Locations.{inlined-follows, inlined-next, function-next}

inlined-units : (v : Version) (early : List Function) → AllSound early → (c : ℕ) → (inlined (sizing v) early c [] 0).next ≡ 0 + units_in v (sums_of early c)
inlined-units V1 early sound c = inlined-size early sound c [] 0
inlined-units V2 early sound c = inlined-names early c [] 0 ∙ ap (λ (n : ℕ). 0 + name_step * n) (inlined-instructions (sizing V2) early sound c [] 0)

pub summary-units : (v : Version) (early : List Function) → AllSound early → (c : ℕ) → (summary v early c).words ≡ units_in v (sums_of early c)
summary-units v early sound c =
    let a : (inlined (sizing v) early c [] 0).next ≡ 0 + (summary v early c).words = inlined-next v early c [] 0 in
    let b : (inlined (sizing v) early c [] 0).next ≡ 0 + units_in v (sums_of early c) = inlined-units v early sound c in
    omega arith

-- of a function over those before it
abbrev pub function_units : Version → List Function → Function → ℕ
function_units V1 early f = result_words (result_words_of early) f
function_units V2 early f = name_step * function_instructions (instructions_of early) f

pub units-at : (v : Version) (s : List ℕ) (k : ℕ) → function_units v (before s k) (function_in s k) ≡ units_at v s k
unfolding result_words_at instructions_at
units-at V1 s k = refl
units-at V2 s k = refl

function-inlined : (v : Version) (early : List Function) (f : Function) → AllSound (f ∷ early)
    → (inline_function (sizing v) (inlined (sizing v) early) f (places 0 f.inputs) (widths f.inputs)).next ≡ widths f.inputs + function_units v early f
function-inlined V1 early f sound = words-of early f sound
function-inlined V2 early f sound =
    let ins = places 0 f.inputs in
    let w = widths f.inputs in
    nodes-names (inlined (sizing V2) early) (inlined-names early) ins (schedule f.nodes) [] w
    ∙ ap (λ (n : ℕ). w + name_step * n) (function-instructions (sizing V2) early f sound ins w)

pub function-units : (v : Version) (early : List Function) (f : Function) → AllSound (f ∷ early) → (function_summary v (summary v early) f).words ≡ function_units v early f
function-units v early f sound =
    let w = widths f.inputs in
    let o = inline_function (sizing v) (inlined (sizing v) early) f (places 0 f.inputs) w in
    let a : o.next ≡ w + (function_summary v (summary v early) f).words = function-next v (inlined (sizing v) early) (summary v early) (inlined-follows v early) f (places 0 f.inputs) w in
    let b : o.next ≡ w + function_units v early f = function-inlined v early f sound in
    omega arith

-- ---- limits

pub limit-bound : (v : Version) → unit_limit v ≤ unit_bound
limit-bound V1 = omega arith
limit-bound V2 = omega arith

pub end-bound : (v : Version) → end_limit v ≤ unit_bound
end-bound V1 = omega arith
end-bound V2 = omega arith

-- ---- sums

names-sum : (f : Node → ℕ) (ns : List Node) → name_step * sum f ns ≡ sum (λ n. name_step * f n) ns
names-sum f [] = omega arith
names-sum f (n ∷ ns) = let a : name_step * sum f ns ≡ sum (λ x. name_step * f x) ns = names-sum f ns in omega arith

-- what some nodes add
pub nodes-units : (v : Version) (s : List ℕ) (k : ℕ) (ns : List Node) → units_in v (nodes_sums s k ns) ≡ sum (adds_units v s k) ns
nodes-units V1 s k ns = refl
nodes-units V2 s k ns = names-sum (λ n. (adds_sums s k n).instructions) ns

-- ---- as they are summed

pub sums-held : (v : Version) (s : List ℕ) (g : ℕ) {x : Sums} → x ≡ capped_sums s g → Held v s g (units_in v x)
sums-held V1 s g e = let h = ap (λ (y : Sums). y.words) e in record { over = λ l. omega arith; within = λ l. omega arith }
sums-held V2 s g e = let h = ap (λ (y : Sums). y.instructions) e in record { over = λ l. omega arith; within = λ l. omega arith }

-- so the sums of all functions before k are enough for both versions
pub sums-held-all : (v : Version) {s : List ℕ} (xs : List Sums) {k : ℕ} → SumsHeld s xs k → AllHeld v s xs k
sums-held-all v xs h = λ g l. sums-held v _ g (h g l)

-- ---- what a node adds

call-units : (v : Version) (x : Sums) → units_in v (call_sums x) ≡ units_in v x
call-units V1 x = refl
call-units V2 x = refl

-- a call adds its callee's
module _ (v : Version) (s : List ℕ) (k p kind : ℕ) (row : Ports) (ek : kind ≡ byte s (p + 2)) (er : row ≡ ports_of (kind_of kind)) (f : calling row.form ≡ true)
    (callee g : ℕ) (ec : callee ≡ u16 s (p + 4)) (eg : g ≡ position_of s k callee) where
  pub callee-units : k ≤ function_limit → g < k → adds_units v s k (node_at s p) ≡ units_at v s g
  callee-units le lt =
      ap (units_in v) (added s k p kind row ek er f callee g ec eg) ∙ call-units v _ ∙ ap (units_in v) (sums-at s k callee g eg le lt)

  pub no-units : k ≤ g → adds_units v s k (node_at s p) ≡ 0
  no-units le = ap (units_in v) (added s k p kind row ek er f callee g ec eg) ∙ call-units v _ ∙ ap (units_in v) (sums_none s k callee g eg le) ∙ none v
    where
      none : (v : Version) → units_in v no_sums ≡ 0
      none V1 = refl
      none V2 = refl

-- by its payload
abbrev payload_sums : List Function → Node → Payload → Sums
payload_sums early n p =
    record {
      operations = node_operations (operations_of early) p;
      words = node_words (result_words_of early) n p;
      instructions = node_instructions (instructions_of early) p;
      bytes = node_bytes (bytes_of_function early) n p;
    }

-- what a node adds is what it takes as its function's callers see it
pub node-units : (v : Version) (early : List Function) → AllSound early → (s : List ℕ) (k : ℕ) → before s k ≡ early → (located : List Located) (d : ℕ) (n : Node)
    → adds_units v s k n ≡ (node_summary v (summary v early) located d n n.payload).words
node-units v early sound s k e located d n = by v n.payload
  where
    by : (v : Version) (p : Payload) → units_in v (payload_sums (before s k) n p) ≡ (node_summary v (summary v early) located d n p).words
    by V1 (consts ws) = refl
    by V1 (refs rs) = refl
    by V1 (calls c rs) = ap (λ (fs : List Function). result_words_of fs c) e ∙ sym (summary-units V1 early sound c)
    by V2 (consts ws) = refl
    by V2 (refs rs) = refl
    by V2 (calls c rs) = ap (λ (fs : List Function). name_step * instructions_of fs c) e ∙ sym (summary-units V2 early sound c)

-- which is exact where the function is within the limit
pub held-exact : {v : Version} {s : List ℕ} {g x : ℕ} → Held v s g x → units_at v s g ≤ unit_limit v → x ≡ units_at v s g
held-exact {v} {x = x} h l = ⊎_elim (λ a. absurd (let b = h.over a in omega arith)) (λ a. h.within a) (lt-or-le (unit_limit v) x)
