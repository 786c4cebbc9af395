-- A function has at most as many instructions as operations, so that within the limit of operations no sum of its code is capped.
use Prim.Native.Nat.{ℕ, ◌+◌, ◌*◌, ◌≤◌, min}
use mathlib.Core.Path.{◌≡◌, sym, subst}
use mathlib.Core.Bool.{Bool, true, false, cond}
use mathlib.Core.List.{List, [], ◌∷◌}
use native.Mathlib.Nat.{mul-add}
use native.Mathlib.Omega.{arith}
use lib.Dec.{eqb}
use Rattle.base.specs.Limits.{operation_limit, instruction_limit, operand_limit}
use Rattle.ports.specs.declared.Form.{Form}
use Rattle.ports.specs.declared.Form.TheVariants.{Absent, Constant, References, Call}
use Rattle.ports.specs.Kinds.{kind_of}
use Rattle.ports.specs.Ports.{arity, form_of, constant_in, constant_words, ports_of}
use Rattle.graph.specs.Graph.{Payload, consts, refs, calls, Node, Function}
use Rattle.graph.specs.Sums.{sum, node_operations, function_operations, operations_of}
use Rattle.sums.specs.CodeSums.{node_instructions, node_bytes, function_instructions, function_bytes, instructions_of, bytes_of_function}
use Rattle.sums.specs.Capped.{byte_cap}
use Rattle.sums.proofs.Rows.{narrow}
use Rattle.sums.proofs.CodeSizes.{Counted, instructions-counted, bytes_counted}

-- ---- at most m for each operation

abbrev Few : ℕ → (ℕ → ℕ) → (ℕ → ℕ) → Type 0
Few m a b = (c : ℕ) → a c ≤ m * b c

module _ (m : ℕ) (add : (ℕ → ℕ) → Node → ℕ) (of : List Function → ℕ → ℕ) (counted : Counted add of)
    (node : (a b : ℕ → ℕ) → Few m a b → (n : Node) → add a n ≤ m * node_operations b n.payload) where
  nodes-few : (a b : ℕ → ℕ) → Few m a b → (ns : List Node) → sum (add a) ns ≤ m * sum (λ n. node_operations b n.payload) ns
  nodes-few a b h [] = omega arith
  nodes-few a b h (n ∷ ns) =
      let x : add a n ≤ m * node_operations b n.payload = node a b h n in
      let y : sum (add a) ns ≤ m * sum (λ n. node_operations b n.payload) ns = nodes-few a b h ns in
      let z = mul-add m (node_operations b n.payload) (sum (λ n. node_operations b n.payload) ns) in
      omega arith

  of-few : (early : List Function) → Few m (of early) (operations_of early)
  unfolding operations_of
  of-few [] c = let z = counted.none c in omega arith
  of-few (f ∷ early) c = subst (λ (x : ℕ). x ≤ m * operations_of (f ∷ early) c) (sym (counted.one f early c)) (pick_one (eqb f.id c) (of-few early))
    where
      pick_one : (b : Bool) → Few m (of early) (operations_of early)
          → cond b (sum (add (of early)) f.nodes) (of early c) ≤ m * cond b (function_operations (operations_of early) f) (operations_of early c)
      pick_one true h = nodes-few (of early) (operations_of early) h f.nodes
      pick_one false h = h c

  few : (early : List Function) (f : Function) → sum (add (of early)) f.nodes ≤ m * function_operations (operations_of early) f
  few early f = nodes-few (of early) (operations_of early) (of-few early) f.nodes

-- ---- instructions: one, and none for a call

node-operations : (a b : ℕ → ℕ) → Few 1 a b → (p : Payload) → node_instructions a p ≤ 1 * node_operations b p
node-operations a b h (consts ws) = omega arith
node-operations a b h (refs rs) = omega arith
node-operations a b h (calls c rs) = let l = h c in omega arith

pub function-operations : (early : List Function) (f : Function) → function_instructions (instructions_of early) f ≤ function_operations (operations_of early) f
function-operations early f =
    let h = few 1 (λ callee n. node_instructions callee n.payload) instructions_of instructions-counted (λ a b h n. node-operations a b h n.payload) early f in
    omega arith

-- ---- bytes: at most those of the longest instruction

constant-few : (f : Form) (w : ℕ) → constant_in f w ≤ w
constant-few Absent w = omega arith
constant-few Constant w = omega arith
constant-few References w = omega arith
constant-few Call w = omega arith

instruction-few : (k : ℕ) → 2 + 2 * arity (kind_of k) + 8 * constant_words (kind_of k) ≤ instruction_limit
instruction-few k =
    let n = narrow k in
    let a : arity (kind_of k) ≤ operand_limit = n.operands in
    let b : (ports_of (kind_of k)).words ≤ 16 = n.words in
    let c : constant_words (kind_of k) ≤ (ports_of (kind_of k)).words = constant-few (form_of (kind_of k)) (ports_of (kind_of k)).words in
    omega arith

node-few : (a b : ℕ → ℕ) → Few instruction_limit a b → (n : Node) (p : Payload) → node_bytes a n p ≤ instruction_limit * node_operations b p
node-few a b h n (consts ws) = instruction-few n.kind
node-few a b h n (refs rs) = instruction-few n.kind
node-few a b h n (calls c rs) = let l = h c in omega arith

-- capping changes nothing
pub bytes_below : (early : List Function) (f : Function) → function_operations (operations_of early) f ≤ operation_limit
    → min byte_cap (function_bytes (bytes_of_function early) f) ≡ function_bytes (bytes_of_function early) f
bytes_below early f l =
    let h = few instruction_limit (λ callee n. node_bytes callee n n.payload) bytes_of_function bytes_counted (λ a b h n. node-few a b h n n.payload) early f in
    omega arith
