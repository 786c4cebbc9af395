-- The words of a function's inputs and outputs, type by type.
use Prim.Native.Nat.{ℕ, zero, suc, ◌+◌, ◌-◌, ◌*◌, ◌≤◌, ◌<◌}
use mathlib.Core.Path.{◌≡◌, refl, ap, ◌∙◌}
use mathlib.Core.List.{List, ◌∷◌}
use native.Mathlib.Omega.{arith}
use Rattle.base.specs.Limits.{port_word_limit, value_limit}
use Rattle.ports.specs.Ports.{width, widths}
use Rattle.base.specs.Bytes.{byte}
use Rattle.graph.specs.Types.{output_types}
use Rattle.reader.specs.Layout.{inputs_at, outputs_at, input_count, output_count, outputs_place, function_at}
use Rattle.sums.specs.Answers.{types_by, PortWordsAt}

-- ---- the types at their places

pub inputs_are : (n : ℕ) (s : List ℕ) (at : ℕ) → types_by 1 n s at ≡ inputs_at n s at
inputs_are zero s at = refl
inputs_are (suc n) s at = ap (λ (ts : List ℕ). byte s at ∷ ts) (inputs_are n s (at + 1))

pub outputs-are : (n : ℕ) (s : List ℕ) (at : ℕ) → types_by 4 n s at ≡ output_types (outputs_at n s at)
outputs-are zero s at = refl
outputs-are (suc n) s at = ap (λ (ts : List ℕ). byte s at ∷ ts) (outputs-are n s (at + 4))

-- of the function at p
module _ (s : List ℕ) (p : ℕ) where
  pub input-widths : widths (types_by 1 (input_count s p) s (p + 6)) ≡ widths (function_at s p).inputs
  unfolding function_at
  input-widths = ap widths (inputs_are (input_count s p) s (p + 6))

  pub output-widths : widths (types_by 4 (output_count s p) s (outputs_place s p)) ≡ widths (output_types (function_at s p).outputs)
  unfolding function_at
  output-widths = ap widths (outputs-are (output_count s p) s (outputs_place s p))

-- as they are counted
pub port-words : (s : List ℕ) (p i n wi wo : ℕ) → i ≡ input_count s p → n ≡ output_count s p → wi ≡ widths (types_by 1 i s (p + 6)) → wo ≡ widths (types_by 4 n s (p + 6 + i))
    → wi ≤ port_word_limit → wo ≤ port_word_limit → PortWordsAt s p (record { inputs = wi; outputs = wo })
port-words s p i n wi wo ei en ew eo li lo =
    record {
      inputs = ew ∙ ap (λ (m : ℕ). widths (types_by 1 m s (p + 6))) ei ∙ input-widths s p;
      outputs =
          eo ∙ ap (λ (m : ℕ). widths (types_by 4 m s (p + 6 + i))) en ∙ ap (λ (m : ℕ). widths (types_by 4 (output_count s p) s (p + 6 + m))) ei
          ∙ output-widths s p;
      few = (li, lo);
    }

-- ---- one after another

module _ (s : List ℕ) (p step n : ℕ) where
  -- w has the words of the first i types
  pub record Adding (w i : ℕ) : Type 0 where
    pub few : w ≤ value_limit * i
    pub total : w + widths (types_by step (n - i) s (p + i * step)) ≡ widths (types_by step n s p)

  pub add_start : Adding 0 0
  add_start = let z : n - 0 ≡ n = omega arith in let y : p + 0 * step ≡ p = omega arith in record { few = omega arith; total = rw (z, y) (omega arith) }

  pub add_step : (w i x : ℕ) → Adding w i → i < n → x ≡ width (byte s (p + i * step)) → x ≤ value_limit → Adding (w + x) (i + 1)
  add_step w i x h l e m =
      let z : n - i ≡ suc (n - (i + 1)) = omega arith in
      let y : p + i * step + step ≡ p + (i + 1) * step = omega arith in
      let t = h.total in
      let u : w + (width (byte s (p + i * step)) + widths (types_by step (n - (i + 1)) s (p + i * step + step))) ≡ widths (types_by step n s p) = rw z at t in
      let v : w + (width (byte s (p + i * step)) + widths (types_by step (n - (i + 1)) s (p + (i + 1) * step))) ≡ widths (types_by step n s p) = rw y at u in
      let few = h.few in
      record { few = omega arith; total = omega arith }

  pub add_done : (w : ℕ) → Adding w n → w ≡ widths (types_by step n s p)
  add_done w h =
      let z : n - n ≡ 0 = omega arith in
      let t = h.total in
      let u : w + 0 ≡ widths (types_by step n s p) = rw z at t in
      omega arith
