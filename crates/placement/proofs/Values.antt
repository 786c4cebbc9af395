-- The values of a list by their numbers, and the history by steps.
use Prim.Native.Nat.{ℕ, zero, suc, ◌+◌, ◌-◌, ◌≤◌, ◌<◌}
use mathlib.Core.Path.{◌≡◌, refl, ap, ap₂, sym, ◌∙◌, subst}
use mathlib.Core.List.{List, [], ◌∷◌, ◌++◌, map, map-append}
use native.Mathlib.Omega.{arith}
use native.Mathlib.Nat.{add-zero, add-suc}
use lib.ListN.{length, get_or, take, drop, length-append, length-map, get_or-append}
use lib.Seq.{take-suc, take-length, get_or-append-add}
use Rattle.ports.specs.Ports.{width, widths}
use Rattle.bytecode.specs.Run.{Instruction, BoardList}
use Rattle.bytecode.specs.Ranges.{Range, result_value}
use Rattle.placement.specs.Live.{input_values}
use Rattle.placement.specs.Place.{Placed, top, stay, inputs_of, placed, place_all, places_of}
use Rattle.placement.specs.Balance.{blank, instruction_at, history_at, history_of}
use Rattle.placement.specs.Arrays.{nothing, values_of, value_at}

-- ---- inputs

inputs-length : (ts : List ℕ) (at : ℕ) → length (input_values at ts) ≡ length ts
inputs-length [] at = refl
inputs-length (t ∷ ts) at = ap suc (inputs-length ts (at + width t))

input-at : (ts : List ℕ) (at v : ℕ) → v < length ts → get_or (input_values at ts) v nothing ≡ record { first = at + widths (take v ts); width = width (get_or ts v 0) }
input-at [] at v l = absurd (omega arith)
input-at (t ∷ ts) at zero l = ap (λ (a : ℕ). record { first = a; width = width t }) (sym (add-zero at))
input-at (t ∷ ts) at (suc v) l =
    input-at ts (at + width t) v (omega arith)
    ∙ ap (λ (a : ℕ). record { first = a; width = width (get_or ts v 0) }) (omega arith)

pub value-input : (inputs : List ℕ) (b : BoardList) (v : ℕ) → v < length inputs
    → value_at inputs b v ≡ record { first = widths (take v inputs); width = width (get_or inputs v 0) }
value-input inputs b v l =
    get_or-append (input_values 0 inputs) (map result_value b.instructions) nothing v (omega (arith, inputs-length inputs 0))
    ∙ input-at inputs 0 v l
    ∙ ap (λ (a : ℕ). record { first = a; width = width (get_or inputs v 0) }) (omega arith)

inputs-snoc : (ts : List ℕ) (t at : ℕ) → input_values at (ts ++ t ∷ []) ≡ input_values at ts ++ record { first = at + widths ts; width = width t } ∷ []
inputs-snoc [] t at = ap (λ (a : ℕ). record { first = a; width = width t } ∷ []) (sym (add-zero at))
inputs-snoc (s ∷ ts) t at =
    ap (λ (rs : List Range). record { first = at; width = width s } ∷ rs)
    (inputs-snoc ts t (at + width s)
    ∙ ap (λ (a : ℕ). input_values (at + width s) ts ++ record { first = a; width = width t } ∷ []) (omega arith))

-- the history of the first inputs
abbrev pub first_inputs : List ℕ → ℕ → List Placed
first_inputs inputs v = inputs_of (take v inputs)

pub inputs-next : (inputs : List ℕ) (b : BoardList) (v : ℕ) → v < length inputs
    → first_inputs inputs (suc v) ≡ first_inputs inputs v ++ record { value = value_at inputs b v; place = widths (take v inputs) } ∷ []
inputs-next inputs b v l =
    ap inputs_of (take-suc inputs v 0 l)
    ∙ ap (λ (rs : List Range). map stay rs) (inputs-snoc (take v inputs) (get_or inputs v 0) 0)
    ∙ map-append stay (input_values 0 (take v inputs)) _
    ∙ ap (λ (a : ℕ). first_inputs inputs v ++ record { value = record { first = a; width = width (get_or inputs v 0) }; place = a } ∷ []) (omega arith)
    ∙ ap (λ (r : Range). first_inputs inputs v ++ record { value = r; place = widths (take v inputs) } ∷ []) (sym (value-input inputs b v l))

pub inputs-all : (inputs : List ℕ) (b : BoardList) → first_inputs inputs (length inputs) ≡ history_of inputs b 0
inputs-all inputs b = ap inputs_of (take-length inputs)

-- ---- results

module _ {A B : Type 0} (f : A → B) (d : B) (e : A) where
  get-map : (xs : List A) (k : ℕ) → k < length xs → get_or (map f xs) k d ≡ f (get_or xs k e)
  get-map [] k l = absurd (omega arith)
  get-map (x ∷ xs) zero l = refl
  get-map (x ∷ xs) (suc k) l = get-map xs k (omega arith)

pub value-result : (inputs : List ℕ) (b : BoardList) (k : ℕ) → k < length b.instructions → value_at inputs b (length inputs + k) ≡ result_value (instruction_at b k)
value-result inputs b k l =
    ap (λ (n : ℕ). get_or (values_of inputs b) (n + k) nothing) (sym (inputs-length inputs 0))
    ∙ get_or-append-add (input_values 0 inputs) (map result_value b.instructions) k nothing
    ∙ get-map result_value nothing blank b.instructions k l

pub values_length : (inputs : List ℕ) (b : BoardList) → length (values_of inputs b) ≡ length inputs + length b.instructions
values_length inputs b =
    length-append (input_values 0 inputs) (map result_value b.instructions)
    ∙ ap₂ (λ (x y : ℕ). x + y) (inputs-length inputs 0) (length-map b.instructions result_value)

-- ---- the history

history-step : (outputs : List ℕ) (is : List Instruction) (h : List Placed) (k : ℕ) → k < length is
    → history_at outputs h is (suc k) ≡ placed outputs (history_at outputs h is k) (get_or is k blank) (drop (suc k) is) ∷ history_at outputs h is k
history-step outputs [] h k l = absurd (omega arith)
history-step outputs (i ∷ is) h zero l = refl
history-step outputs (i ∷ is) h (suc k) l = history-step outputs is (placed outputs h i is ∷ h) k (omega arith)

pub history-next : (inputs : List ℕ) (b : BoardList) (k : ℕ) → k < length b.instructions
    → history_of inputs b (suc k) ≡ placed b.outputs (history_of inputs b k) (instruction_at b k) (drop (suc k) b.instructions) ∷ history_of inputs b k
history-next inputs b k l = history-step b.outputs b.instructions (inputs_of inputs) k l

history-end : (outputs : List ℕ) (is : List Instruction) (h : List Placed) → history_at outputs h is (length is) ≡ place_all outputs h is
history-end outputs [] h = refl
history-end outputs (i ∷ is) h = history-end outputs is (placed outputs h i is ∷ h)

pub history-all : (inputs : List ℕ) (b : BoardList) → history_of inputs b (length b.instructions) ≡ places_of inputs b
history-all inputs b = history-end b.outputs b.instructions (inputs_of inputs)

history-one : (inputs : List ℕ) (b : BoardList) (k : ℕ) → top (history_of inputs b k) ≤ top (history_of inputs b (suc k))
history-one inputs b k = go b.outputs b.instructions (inputs_of inputs) k
  where
    go : (outputs : List ℕ) (is : List Instruction) (h : List Placed) (k : ℕ) → top (history_at outputs h is k) ≤ top (history_at outputs h is (suc k))
    go outputs [] h zero = omega arith
    go outputs [] h (suc k) = omega arith
    go outputs (i ∷ is) h zero = omega arith
    go outputs (i ∷ is) h (suc k) = go outputs is (placed outputs h i is ∷ h) k

-- the highest word never falls
pub history-up : (inputs : List ℕ) (b : BoardList) (j k : ℕ) → j ≤ k → top (history_of inputs b j) ≤ top (history_of inputs b k)
history-up inputs b j k l =
    let e : j + (k - j) ≡ k = omega arith in
    subst (λ (n : ℕ). top (history_of inputs b j) ≤ top (history_of inputs b n)) e (go (k - j))
  where
    go : (d : ℕ) → top (history_of inputs b j) ≤ top (history_of inputs b (j + d))
    go zero = subst (λ (n : ℕ). top (history_of inputs b j) ≤ top (history_of inputs b n)) (sym (add-zero j)) (omega arith)
    go (suc d) =
        subst (λ (n : ℕ). top (history_of inputs b j) ≤ top (history_of inputs b n)) (sym (add-suc j d))
        (omega (arith, go d, history-one inputs b (j + d)))
