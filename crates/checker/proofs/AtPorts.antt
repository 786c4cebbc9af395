-- The types at the ports of inputs, outputs and nodes.
use Prim.Native.Nat.{ℕ, zero, suc, ◌+◌, ◌*◌, ◌<◌, ◌≤◌}
use mathlib.Core.Path.{◌≡◌, refl, ap, sym, ◌∙◌}
use mathlib.Core.Bool.{true, false}
use mathlib.Core.List.{List}
use mathlib.Core.Option.{none, some}
use native.Mathlib.Omega.{arith}
use native.Mathlib.Nat.{not-suc-le-zero}
use lib.ListN.{replicate, get_elem?}
use Rattle.ports.specs.declared.Form.{Form}
use Rattle.ports.specs.declared.Form.TheVariants.{Absent, Constant, References, Call}
use Rattle.ports.specs.declared.Ports.{Ports}
use Rattle.ports.specs.Ports.{ports_of, form_of, gives, gives_row, calling}
use Rattle.ports.specs.Kinds.{kind_of}
use Rattle.base.specs.Bytes.{byte, u16}
use Rattle.graph.specs.Graph.{Function}
use Rattle.graph.specs.Look.{find_function}
use Rattle.graph.specs.Types.{gives_of, outputs_of, output_types}
use Rattle.reader.specs.Layout.{kind_at, payload_at, node_at, inputs_at, outputs_at, function_at}
use Rattle.reader.proofs.Passed.{form-is}

pub input-at : (n : ℕ) (s : List ℕ) (at i : ℕ) → i < n → get_elem? (inputs_at n s at) i ≡ some (byte s (at + i))
input-at zero s at i h = absurd (not-suc-le-zero h)
input-at (suc n) s at zero h = let e : at + 0 ≡ at = omega arith in ap (λ (p : ℕ). some (byte s p)) (sym e)
input-at (suc n) s at (suc i) h =
    let e : at + 1 + i ≡ at + suc i = omega arith in
    input-at n s (at + 1) i (omega arith) ∙ ap (λ (p : ℕ). some (byte s p)) e

pub input_none : (n : ℕ) (s : List ℕ) (at i : ℕ) → n ≤ i → get_elem? (inputs_at n s at) i ≡ none
input_none zero s at i h = refl
input_none (suc n) s at zero h = absurd (not-suc-le-zero h)
input_none (suc n) s at (suc i) h = input_none n s (at + 1) i (omega arith)

pub output-at : (n : ℕ) (s : List ℕ) (at i : ℕ) → i < n → get_elem? (output_types (outputs_at n s at)) i ≡ some (byte s (at + 4 * i))
output-at zero s at i h = absurd (not-suc-le-zero h)
output-at (suc n) s at zero h = let e : at + 4 * 0 ≡ at = omega arith in ap (λ (p : ℕ). some (byte s p)) (sym e)
output-at (suc n) s at (suc i) h =
    let e : at + 4 + 4 * i ≡ at + 4 * suc i = omega arith in
    output-at n s (at + 4) i (omega arith) ∙ ap (λ (p : ℕ). some (byte s p)) e

pub output-none : (n : ℕ) (s : List ℕ) (at i : ℕ) → n ≤ i → get_elem? (output_types (outputs_at n s at)) i ≡ none
output-none zero s at i h = refl
output-none (suc n) s at zero h = absurd (not-suc-le-zero h)
output-none (suc n) s at (suc i) h = output-none n s (at + 4) i (omega arith)

pub same_at : (n x i : ℕ) → i < n → get_elem? (replicate n x) i ≡ some x
same_at zero x i h = absurd (not-suc-le-zero h)
same_at (suc n) x zero h = refl
same_at (suc n) x (suc i) h = same_at n x i (omega arith)

pub same_none : (n x i : ℕ) → n ≤ i → get_elem? (replicate n x) i ≡ none
same_none zero x i h = refl
same_none (suc n) x zero h = absurd (not-suc-le-zero h)
same_none (suc n) x (suc i) h = same_none n x i (omega arith)

-- ---- of a function that was read

module _ (s : List ℕ) (at i : ℕ) where
  pub input-port-at : i < byte s (at + 2) → get_elem? (function_at s at).inputs i ≡ some (byte s (at + 6 + i))
  unfolding function_at
  input-port-at h = input-at (byte s (at + 2)) s (at + 6) i h

  pub input-port-none : byte s (at + 2) ≤ i → get_elem? (function_at s at).inputs i ≡ none
  unfolding function_at
  input-port-none h = input_none (byte s (at + 2)) s (at + 6) i h

  pub output-port-at : i < byte s (at + 3) → get_elem? (output_types (function_at s at).outputs) i ≡ some (byte s (at + 6 + byte s (at + 2) + 4 * i))
  unfolding function_at
  output-port-at h = output-at (byte s (at + 3)) s (at + 6 + byte s (at + 2)) i h

  pub output-port-none : byte s (at + 3) ≤ i → get_elem? (output_types (function_at s at).outputs) i ≡ none
  unfolding function_at
  output-port-none h = output-none (byte s (at + 3)) s (at + 6 + byte s (at + 2)) i h

-- ---- of a node

is_call : (h : Form) → calling h ≡ true → h ≡ Call
is_call Absent e = let z : ◌≡◌ {A = ℕ} 0 1 = cc in absurd (omega arith)
is_call Constant e = let z : ◌≡◌ {A = ℕ} 0 1 = cc in absurd (omega arith)
is_call References e = let z : ◌≡◌ {A = ℕ} 0 1 = cc in absurd (omega arith)
is_call Call e = refl

-- a row of a call
pub is-calling : (s : List ℕ) (at : ℕ) (row : Ports) → row ≡ ports_of (kind_at s at) → calling row.form ≡ true → form_of (kind_at s at) ≡ Call
is-calling s at row q e = form-is s at row q Call (is_call row.form e)

module _ (s : List ℕ) (at : ℕ) (early : List Function) where
  abbrev given : List ℕ
  given = gives_of early (node_at s at) (node_at s at).payload

  of-form : (h : Form) → form_of (kind_at s at) ≡ h → given ≡ gives_of early (node_at s at) (payload_at h (kind_at s at) s (at + 4))
  unfolding node_at
  of-form h e = ap (λ (x : Form). gives_of early (node_at s at) (payload_at x (kind_at s at) s (at + 4))) e

  -- what a node gives that is no call
  row_gives :
      (h : Form) → calling h ≡ false
      → gives_of early (node_at s at) (payload_at h (kind_at s at) s (at + 4)) ≡ gives (kind_of (node_at s at).kind) (node_at s at).type
  row_gives Absent e = refl
  row_gives Constant e = refl
  row_gives References e = refl
  row_gives Call e = let z : ◌≡◌ {A = ℕ} 0 1 = cc in absurd (omega arith)

  pub plain_gives :
      (row : Ports) → row ≡ ports_of (kind_at s at) → calling row.form ≡ false → gives_of early (node_at s at) (node_at s at).payload ≡ gives_row row (byte s (at + 3))
  unfolding node_at
  plain_gives row q e =
      of-form row.form (form-is s at row q row.form refl)
      ∙ row_gives row.form e
      ∙ ap (λ (r : Ports). gives_row r (byte s (at + 3))) (sym q)

  pub call-gives : form_of (kind_at s at) ≡ Call → gives_of early (node_at s at) (node_at s at).payload ≡ outputs_of (find_function (u16 s (at + 4)) early)
  call-gives e = of-form Call e
