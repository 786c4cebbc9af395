-- What the code of an operator reads and stores is what the definition does.
use Prim.Native.Nat.{ℕ, zero, suc, ◌+◌, ◌*◌, ◌≤◌, ◌<◌}
use mathlib.Core.Path.{◌≡◌, refl, ap, sym, ◌∙◌, subst}
use mathlib.Core.List.{List, [], ◌∷◌, append-nil}
use native.Mathlib.Omega.{arith}
use lib.ListN.{length, replicate}
use lib.Seq.{sets}
use Rattle.ports.specs.Kinds.{kind_of}
use Rattle.ports.specs.Ports.{width, takes, arity, constant_words}
use Rattle.value.specs.declared.Value.{Value}
use Rattle.value.specs.declared.Value.TheVariants.{Scalar}
use Rattle.value.specs.declared.Operator.{Operator}
use Rattle.value.specs.declared.Operator.TheVariants.{Add, Subtract, Multiply, Divide, Minimum, Maximum, Absolute, Remainder, Select, Clamp}
use Rattle.value.specs.Values.{words_of, all_words, value_at}
use Rattle.value.specs.Steps.{zero64, operands_of}
use Rattle.value.specs.Results.{operand, componentwise, results}
use Rattle.base.specs.Bytes.{u16, constants}
use Rattle.bytecode.specs.Run.{values_at, execute}
use Rattle.bytecode.specs.Code.{addresses}
use Rattle.executor.specs.Execution.{instruction_at, end_of, code_bytes, words_given, kind_for, Loadable, AllLoadable, Ready, Operands, operands_given}

-- ---- equal operands, equal results

module _ {A B : Type 0} (f : A → A → A → B) where
  pub three : {a b c p q r : A} → a ≡ p → b ≡ q → c ≡ r → f a b c ≡ f p q r
  three {a} {b} {c} {p} {q} {r} e g h = ap (λ (x : A). f x b c) e ∙ ap (λ (x : A). f p x c) g ∙ ap (λ (x : A). f p q x) h

module _ {A B : Type 0} (f : A → A → A → A → B) where
  pub four : {a b c d p q r s : A} → a ≡ p → b ≡ q → c ≡ r → d ≡ s → f a b c d ≡ f p q r s
  four {a} {b} {c} {d} {p} {q} {r} {s} e g h i =
      ap (λ (x : A). f x b c d) e ∙ ap (λ (x : A). f p x c d) g ∙ ap (λ (x : A). f p q x d) h ∙ ap (λ (x : A). f p q r x) i

-- ---- operators

-- the kind of the operator o is o, on operands of one type
pub record Carried (o : Operator) : Type 0 where
  pub count : arity (kind_of (kind_for o)) ≡ operands_of o
  pub constants : constant_words (kind_of (kind_for o)) ≡ 0
  pub takes : (t : ℕ) → takes (kind_of (kind_for o)) t ≡ replicate (operands_of o) t
  pub gives : (t : ℕ) → words_given (kind_for o) t ≡ width t + 0
  pub results : (cs : List ℕ) (vs : List Value) → results (kind_of (kind_for o)) cs vs ≡ componentwise o vs ∷ []

pub carried : (o : Operator) → Carried o
unfolding results
carried Add = record { count = refl; constants = refl; takes = λ t. refl; gives = λ t. refl; results = λ cs vs. refl }
carried Subtract = record { count = refl; constants = refl; takes = λ t. refl; gives = λ t. refl; results = λ cs vs. refl }
carried Multiply = record { count = refl; constants = refl; takes = λ t. refl; gives = λ t. refl; results = λ cs vs. refl }
carried Divide = record { count = refl; constants = refl; takes = λ t. refl; gives = λ t. refl; results = λ cs vs. refl }
carried Minimum = record { count = refl; constants = refl; takes = λ t. refl; gives = λ t. refl; results = λ cs vs. refl }
carried Maximum = record { count = refl; constants = refl; takes = λ t. refl; gives = λ t. refl; results = λ cs vs. refl }
carried Absolute = record { count = refl; constants = refl; takes = λ t. refl; gives = λ t. refl; results = λ cs vs. refl }
carried Remainder = record { count = refl; constants = refl; takes = λ t. refl; gives = λ t. refl; results = λ cs vs. refl }
carried Select = record { count = refl; constants = refl; takes = λ t. refl; gives = λ t. refl; results = λ cs vs. refl }
carried Clamp = record { count = refl; constants = refl; takes = λ t. refl; gives = λ t. refl; results = λ cs vs. refl }

module _ (o : Operator) {t : ℕ} {s : List ℕ} {at result : ℕ} {m : List ℕ} where
  -- what is asked of the operator's kind is asked of its operands
  pub operands-of : Ready (kind_for o) t s at result m → Operands o t s at m
  operands-of h =
      let c = carried o in
      let f : end_of (kind_for o) at ≤ length s = h.fits in
      record {
        fits = omega (arith, c.count, c.constants);
        operands = subst (λ (i : ℕ). AllLoadable m (replicate (operands_of o) t) (addresses i s at)) c.count
            (subst (λ (ts : List ℕ). AllLoadable m ts (addresses (arity (kind_of (kind_for o))) s at)) (c.takes t) h.operands);
      }

  pub room-of : Ready (kind_for o) t s at result m → result + width t ≤ length m
  room-of h =
      let r : result + words_given (kind_for o) t ≤ length m = h.room in
      let g : words_given (kind_for o) t ≡ width t + 0 = (carried o).gives t in
      omega arith

-- the words of what the operator gives of its operands, stored at the result
pub operated : (o : Operator) (t : ℕ) (s : List ℕ) (at result : ℕ) (m : List ℕ) {v : Value} → v ≡ componentwise o (operands_given o t s at m) → {after : List ℕ} → after ≡ sets m result (words_of v)
    → after ≡ execute (instruction_at (kind_for o) t s at result) m
unfolding execute
operated o t s at result m {v} e p =
    let c = carried o in
    let k = kind_of (kind_for o) in
    let cs = constants (constant_words k) s (at + 2 * arity k) in
    let vs = values_at m (takes k t) (addresses (arity k) s at) in
    let q : operands_given o t s at m ≡ vs = rw (c.takes t, c.count) refl in
    p ∙ ap (λ (u : Value). sets m result (words_of u)) (e ∙ ap (componentwise o) q)
    ∙ ap (sets m result) (sym (append-nil (words_of (componentwise o vs))))
    ∙ ap (λ (us : List Value). sets m result (all_words us)) (sym (c.results cs vs))

-- how much code and memory it takes
pub extent-of : (o : Operator) (t : ℕ) {n w : ℕ} → n ≡ operands_of o → w ≡ width t → (2 * n ≡ code_bytes (kind_for o)) × (w ≡ words_given (kind_for o) t)
extent-of o t e f =
    let c = carried o in
    let g : words_given (kind_for o) t ≡ width t + 0 = c.gives t in
    (omega (arith, c.count, c.constants), omega arith)

pub some-operand : (o : Operator) → 0 < operands_of o
some-operand Add = omega arith
some-operand Subtract = omega arith
some-operand Multiply = omega arith
some-operand Divide = omega arith
some-operand Minimum = omega arith
some-operand Maximum = omega arith
some-operand Absolute = omega arith
some-operand Remainder = omega arith
some-operand Select = omega arith
some-operand Clamp = omega arith

-- ---- operands of one type

module _ (m s : List ℕ) (t : ℕ) where
  pub given-at : (n at i : ℕ) → i < n → operand (values_at m (replicate n t) (addresses n s at)) i ≡ value_at m t (u16 s (at + 2 * i))
  given-at zero at i h = absurd (omega arith)
  given-at (suc n) at zero h = ap (λ (a : ℕ). value_at m t (u16 s a)) (omega arith)
  given-at (suc n) at (suc i) h = given-at n (at + 2) i (omega arith) ∙ ap (λ (a : ℕ). value_at m t (u16 s a)) (omega arith)

  pub none-at : (n at i : ℕ) → n ≤ i → operand (values_at m (replicate n t) (addresses n s at)) i ≡ Scalar zero64
  none-at zero at i h = refl
  none-at (suc n) at zero h = absurd (omega arith)
  none-at (suc n) at (suc i) h = none-at n (at + 2) i (omega arith)

  pub loadable-at : (n at i : ℕ) → AllLoadable m (replicate n t) (addresses n s at) → i < n → Loadable m (u16 s (at + 2 * i)) (width t)
  loadable-at zero at i l h = absurd (omega arith)
  loadable-at (suc n) at zero l h = subst (λ (a : ℕ). Loadable m (u16 s a) (width t)) (omega arith) l.0
  loadable-at (suc n) at (suc i) l h = subst (λ (a : ℕ). Loadable m (u16 s a) (width t)) (omega arith) (loadable-at n (at + 2) i l.1 (omega arith))
