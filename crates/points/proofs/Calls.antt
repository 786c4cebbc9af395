-- Calls of the runner one by one. Whatever each call gives at its point, and whatever it keeps of the work buffer, all of them give and
-- keep; so once all is judged none refuses.
use Prim.Native.Nat.{ℕ, zero, suc, ◌+◌, ◌-◌, ◌*◌, ◌≤◌, ◌<◌}
use mathlib.Core.Path.{◌≡◌, refl, ap, sym, ◌∙◌, subst}
use mathlib.Core.Bool.{true}
use mathlib.Core.List.{List, ◌++◌}
use native.Mathlib.Nat.{zero-mul, suc-mul}
use native.Mathlib.Omega.{arith}
use lib.ListN.{length, take, drop, length-append, length-drop}
use lib.Seq.{length-take-le, take_at, drop_at, drop-drop, get_or-append-add, get_or-drop}
use Rattle.base.specs.Lists.{word_at, every, Each}
use Rattle.base.specs.Outcome.{Outcome, ok}
use Rattle.base.proofs.Lists.{each_take, each-drop, each-every, every-each}
use Rattle.base.proofs.Outcomes.{takes}
use Rattle.value.specs.Values.{argument_word}
use Rattle.bytecode.specs.Code.{decode}
use Rattle.bytecode.specs.Answers.{Buffers, ran}
use Rattle.runner.specs.declared.Counts.{Counts}
use Rattle.runner.specs.Runs.{memory_of, outputs_of}
use Rattle.runner.proofs.Decoding.{Decoded, ran-ok, memory-length, outputs-length}
use Rattle.points.specs.Points.{one_by_one}
use Rattle.points.specs.Demand3.{part}

-- ---- the words of a point

pub part-first : (size : ℕ) (xs : List ℕ) → part size 0 xs ≡ take size xs
part-first size xs = ap (λ (k : ℕ). take size (drop k xs)) (zero-mul size)

pub part-next : (size i : ℕ) (xs : List ℕ) → part size (suc i) xs ≡ part size i (drop size xs)
part-next size i xs =
    let e : suc i * size ≡ i * size + size = suc-mul i size in
    let z : suc i * size ≡ size + i * size = omega arith in
    ap (λ (k : ℕ). take size (drop k xs)) z ∙ ap (take size) (sym (drop-drop (i * size) size xs))

-- ---- one call, and all

pub record Called (Good Kept : List ℕ → List ℕ → Type 0) (m : ℕ) (g : Outcome Buffers) (arguments work : List ℕ) : Type 0 where
  pub after : Buffers
  pub is : g ≡ ok after
  pub count : after.count ≡ m
  pub size : length after.out ≡ m
  pub good : Good arguments after.out
  pub kept : Kept work after.work

pub record AllCalled (Good Kept : List ℕ → List ℕ → Type 0) (n m points : ℕ) (g : Outcome Buffers) (arguments work out : List ℕ) : Type 0 where
  pub after : Buffers
  pub is : g ≡ ok after
  pub count : after.count ≡ points * m
  pub good : (i : ℕ) → i < points → Good (part n i arguments) (part m i after.out)
  pub kept : Kept work after.work
  pub out-same : length after.out ≡ length out
  pub out-rest : (i : ℕ) → points * m ≤ i → word_at after.out i ≡ word_at out i

-- what is kept is a length at least, and from call to call
pub record Keeping (Kept : List ℕ → List ℕ → Type 0) : Type 0 where
  pub none : (l : List ℕ) → Kept l l
  pub both : (l m n : List ℕ) → Kept l m → Kept m n → Kept l n
  pub size : (l m : List ℕ) → Kept l m → length m ≡ length l

-- one more call in front
module _ (Good Kept : List ℕ → List ℕ → Type 0) (keeping : Keeping Kept) (n m points : ℕ) (arguments work out : List ℕ) {g h : Outcome Buffers}
    (fits : m ≤ length out) (a : Called Good Kept m g (take n arguments) work)
    (b : AllCalled Good Kept n m points h (drop n arguments) a.after.work (drop m out)) where
  abbrev ahead : List ℕ
  ahead = a.after.out

  abbrev behind : List ℕ
  behind = b.after.out

  good-all : (i : ℕ) → i < suc points → Good (part n i arguments) (part m i (ahead ++ behind))
  good-all zero l =
      subst (λ (ys : List ℕ). Good (part n 0 arguments) ys) (sym (part-first m (ahead ++ behind) ∙ take_at ahead behind m a.size))
      (subst (λ (xs : List ℕ). Good xs ahead) (sym (part-first n arguments)) a.good)
  good-all (suc i) l =
      subst (λ (ys : List ℕ). Good (part n (suc i) arguments) ys) (sym (part-next m i (ahead ++ behind) ∙ ap (part m i) (drop_at ahead behind m a.size)))
      (subst (λ (xs : List ℕ). Good xs (part m i behind)) (sym (part-next n i arguments)) (b.good i (omega arith)))

  rest_all : (i : ℕ) → suc points * m ≤ i → word_at (ahead ++ behind) i ≡ word_at out i
  rest_all i l =
      let e : suc points * m ≡ points * m + m = suc-mul points m in
      let size = a.size in
      let j : length ahead + (i - m) ≡ i = omega arith in
      let k : m + (i - m) ≡ i = omega arith in
      ap (word_at (ahead ++ behind)) (sym j) ∙ get_or-append-add ahead behind (i - m) 0 ∙ b.out-rest (i - m) (omega arith) ∙ get_or-drop m out (i - m) 0
      ∙ ap (word_at out) k

  pub one_more : {whole : Outcome Buffers} → whole ≡ ok (record { count = a.after.count + b.after.count; work = b.after.work; out = ahead ++ behind })
      → AllCalled Good Kept n m (suc points) whole arguments work out
  one_more e =
      record {
        after = record { count = a.after.count + b.after.count; work = b.after.work; out = ahead ++ behind };
        is = e;
        count = let x = a.count in let y = b.count in let z : suc points * m ≡ points * m + m = suc-mul points m in omega arith;
        good = good-all;
        kept = keeping.both work a.after.work b.after.work a.kept b.kept;
        out-same =
            let x = a.size in
            let y = b.out-same in
            let z = length-drop m out in
            length-append ahead behind ∙ omega arith;
        out-rest = rest_all;
      }

module _ (s : List ℕ) (n m words : ℕ) (Good Kept : List ℕ → List ℕ → Type 0) (Allowed : ℕ → Type 0) (keeping : Keeping Kept)
    (call : (arguments work out : List ℕ) → length arguments ≡ n → Each Allowed arguments → words ≤ length work → length out ≡ m
    → Called Good Kept m (ran s arguments work out) arguments work) where
  pub all-called : (points : ℕ) (arguments work out : List ℕ) → length arguments ≡ points * n → Each Allowed arguments → words ≤ length work
      → points * m ≤ length out → AllCalled Good Kept n m points (one_by_one s n m points arguments work out) arguments work out
  unfolding one_by_one
  all-called zero arguments work out l f w o =
      record {
        after = record { count = 0; work = work; out = out };
        is = refl;
        count = sym (zero-mul m);
        good = λ i h. absurd (omega arith);
        kept = keeping.none work;
        out-same = refl;
        out-rest = λ i h. refl;
      }
  all-called (suc points) arguments work out l f w o =
      let sn : suc points * n ≡ points * n + n = suc-mul points n in
      let sm : suc points * m ≡ points * m + m = suc-mul points m in
      let a =
      call (take n arguments) work (take m out) (length-take-le n arguments (omega arith)) (each_take Allowed n arguments f) w
      (length-take-le m out (omega arith)) in
      let lo = length-drop m out in
      let lw = keeping.size work a.after.work a.kept in
      let b =
      all-called points (drop n arguments) a.after.work (drop m out) (length-drop n arguments ∙ omega arith) (each-drop Allowed n arguments f)
      (omega arith) (omega arith) in
      one_more Good Kept keeping n m points arguments work out (omega arith) a b
      (takes (ran s (take n arguments) work (take m out)) _ a.after a.is
      ∙ takes (one_by_one s n m points (drop n arguments) a.after.work (drop m out)) _ b.after b.is)

-- ---- a code that is well formed

-- 20 lets it pass
abbrev pub Passes : ℕ → Type 0
Passes w = argument_word w ≡ true

module _ {s : List ℕ} {c : Counts} (d : Decoded s c) where
  -- once all is judged, none of the calls refuses
  pub none-refused : (points : ℕ) (arguments work out : List ℕ) → length arguments ≡ points * c.arguments → every argument_word arguments ≡ true
      → c.words ≤ length work → points * c.outputs ≤ length out
      → AllCalled (λ xs ys. Unit {0}) (λ l m. length m ≡ length l) c.arguments c.outputs points
      (one_by_one s c.arguments c.outputs points arguments work out) arguments work out
  none-refused points arguments work out l f =
      all-called s c.arguments c.outputs c.words (λ xs ys. Unit {0}) (λ l m. length m ≡ length l) Passes
      (record { none = λ l. refl; both = λ l m n p q. q ∙ p; size = λ l m p. p })
      (λ arguments work out l f w o.
      record {
        after = record { count = c.outputs; work = memory_of (decode s) arguments work; out = outputs_of (decode s) arguments work out };
        is = ran-ok s arguments work out d l (each-every argument_word arguments f) w (omega arith);
        count = refl;
        size = outputs-length (decode s) arguments work out ∙ o;
        good = tt;
        kept = memory-length (decode s) arguments work;
      })
      points arguments work out l (every-each argument_word arguments f)
