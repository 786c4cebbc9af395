-- The loop over the points: the calls that are left, on the buffers as they are, end where all end.
use Prim.Native.Nat.{ℕ, zero, suc, ◌+◌, ◌-◌, ◌*◌, ◌≤◌, ◌<◌}
use mathlib.Core.Path.{◌≡◌, refl, ap, sym, ◌∙◌}
use mathlib.Core.List.{List, ◌++◌, append_assoc}
use native.Mathlib.Nat.{zero-mul, suc-mul, zero-add}
use native.Mathlib.Numerals.{sub-one}
use native.Mathlib.Omega.{arith}
use lib.ListN.{length, take, drop, length-append, length-drop, take-append-drop}
use lib.Seq.{length-take-le, take_at, drop_at, drop-drop}
use Rattle.base.specs.Lists.{every}
use Rattle.base.specs.Outcome.{ok}
use Rattle.base.proofs.Lists.{each_take, each-drop, each-every, every-each}
use Rattle.base.proofs.Outcomes.{takes}
use Rattle.value.specs.Values.{argument_word}
use Rattle.bytecode.specs.Code.{decode}
use Rattle.bytecode.specs.Answers.{Buffers, ran}
use Rattle.runner.specs.declared.Counts.{Counts}
use Rattle.runner.specs.Runs.{Runnable, memory_of, outputs_of}
use Rattle.runner.proofs.Decoding.{decoded, ran-ok, memory-length, outputs-length}
use Rattle.points.specs.Points.{one_by_one}
use Rattle.points.specs.Runs.{RunnablePoints, AllRan}
use Rattle.points.proofs.Calls.{Passes}

-- ---- a part of a slice, from a start for so many words

pub part-is : (from n : ℕ) (xs : List ℕ) → take (from + n - from) (drop from xs) ≡ take n (drop from xs)
part-is from n xs = let e : from + n - from ≡ n = omega arith in ap (λ (k : ℕ). take k (drop from xs)) e

pub part-size : (from n : ℕ) (xs : List ℕ) → from + n ≤ length xs → length (take (from + n - from) (drop from xs)) ≡ n
part-size from n xs l = let d = length-drop from xs in ap length (part-is from n xs) ∙ length-take-le n (drop from xs) (omega arith)

-- put back, with other words
pub part-back : (from n : ℕ) (xs ys : List ℕ) → take from xs ++ (ys ++ drop (from + n - from) (drop from xs)) ≡ take from xs ++ ys ++ drop (from + n) xs
part-back from n xs ys =
    let e : from + n - from ≡ n = omega arith in
    ap (λ (k : ℕ). take from xs ++ (ys ++ drop k (drop from xs))) e ∙ ap (λ (zs : List ℕ). take from xs ++ (ys ++ zs)) (drop-drop n from xs)
    ∙ sym (append_assoc (take from xs) ys (drop (from + n) xs))

-- ---- the loop

pub record Going (s : List ℕ) (c : Counts) (points : ℕ) (arguments work₀ out₀ : List ℕ) (from to left : ℕ) (work out : List ℕ) : Type 0 where
  pub arguments-left : from + left * c.arguments ≡ length arguments
  pub outputs-left : to + left * c.outputs ≡ points * c.outputs
  pub work-same : length work ≡ length work₀
  pub out-same : length out ≡ length out₀
  pub rest : (r : Buffers) → one_by_one s c.arguments c.outputs left (drop from arguments) work (drop to out) ≡ ok r
      → one_by_one s c.arguments c.outputs points arguments work₀ out₀ ≡ ok (record { count = to + r.count; work = r.work; out = take to out ++ r.out })

module _ (s : List ℕ) (c : Counts) (points : ℕ) (arguments work₀ out₀ : List ℕ) (h : RunnablePoints s c points arguments (length work₀) (length out₀)) where
  pub start : Going s c points arguments work₀ out₀ 0 0 points work₀ out₀
  start =
      let l = h.arguments-all in
      record {
        arguments-left = omega arith;
        outputs-left = omega arith;
        work-same = refl;
        out-same = refl;
        rest = λ r e. rw (zero-add r.count) e;
      }

  module _ {from to left : ℕ} {work out : List ℕ} (g : Going s c points arguments work₀ out₀ from to left work out) where
    -- a point that is left has its words
    pub next_fits : 0 < left → (from + c.arguments ≤ length arguments) × (to + c.outputs ≤ length out)
    next_fits = go left g.arguments-left g.outputs-left
      where
        go : (k : ℕ) → from + k * c.arguments ≡ length arguments → to + k * c.outputs ≡ points * c.outputs → 0 < k
            → (from + c.arguments ≤ length arguments) × (to + c.outputs ≤ length out)
        go zero a o l = absurd (omega arith)
        go (suc k) a o l =
            let sa = suc-mul k c.arguments in
            let so = suc-mul k c.outputs in
            let r = h.out-room in
            let q = g.out-same in
            (omega arith, omega arith)

    pub runnable : {ws : List ℕ} {room : ℕ} → 0 < left → ws ≡ take c.arguments (drop from arguments) → room ≡ c.outputs → Runnable s c ws (length work) room
    runnable l e o =
        let (a, b) = next_fits l in
        let w = h.work-room in
        let q = g.work-same in
        let d = length-drop from arguments in
        record {
          formed = h.formed;
          arguments-all = ap length e ∙ length-take-le c.arguments (drop from arguments) (omega arith);
          allowed = ap (every argument_word) e ∙ each-every argument_word (take c.arguments (drop from arguments))
              (each_take Passes c.arguments (drop from arguments) (each-drop Passes from arguments (every-each argument_word arguments h.allowed)));
          work-room = omega arith;
          out-room = omega arith;
        }

    -- a turn: the call at the next point, its buffers handed on
    module _ {ws ys work' ys' out' : List ℕ} (more : 0 < left) (ew : ws ≡ take c.arguments (drop from arguments)) (ey : ys ≡ take c.outputs (drop to out))
        (em : work' ≡ memory_of (decode s) ws work) (eo : ys' ≡ outputs_of (decode s) ws work ys) (et : out' ≡ take to out ++ ys' ++ drop (to + c.outputs) out) where
      size : length ys ≡ c.outputs
      size = let (a, b) = next_fits more in let d = length-drop to out in ap length ey ∙ length-take-le c.outputs (drop to out) (omega arith)

      one : ran s (take c.arguments (drop from arguments)) work (take c.outputs (drop to out)) ≡ ok (record { count = c.outputs; work = work'; out = ys' })
      one =
          let r = runnable more ew size in
          rw (sym ew, sym ey, em, eo) (ran-ok s ws work ys (decoded s c h.formed) r.arguments-all r.allowed r.work-room r.out-room)

      front : length (take to out ++ ys') ≡ to + c.outputs
      front =
          let (a, b) = next_fits more in
          let x = length-append (take to out) ys' in
          let y = length-take-le to out (omega arith) in
          let z : length ys' ≡ length ys = ap length eo ∙ outputs-length (decode s) ws work ys in
          let k = size in
          omega arith

      written : take (to + c.outputs) out' ≡ take to out ++ ys'
      written = ap (take (to + c.outputs)) et ∙ take_at (take to out ++ ys') (drop (to + c.outputs) out) (to + c.outputs) front

      behind : drop (to + c.outputs) out' ≡ drop c.outputs (drop to out)
      behind =
          ap (drop (to + c.outputs)) et ∙ drop_at (take to out ++ ys') (drop (to + c.outputs) out) (to + c.outputs) front
          ∙ sym (drop-drop c.outputs to out)

      pub next : Going s c points arguments work₀ out₀ (from + c.arguments) (to + c.outputs) (left - 1) work' out'
      unfolding one_by_one
      next = go left more g.arguments-left g.outputs-left g.rest
        where
          go : (k : ℕ) → 0 < k → from + k * c.arguments ≡ length arguments → to + k * c.outputs ≡ points * c.outputs
              → ((r : Buffers) → one_by_one s c.arguments c.outputs k (drop from arguments) work (drop to out) ≡ ok r
              → one_by_one s c.arguments c.outputs points arguments work₀ out₀ ≡ ok (record { count = to + r.count; work = r.work; out = take to out ++ r.out }))
              → Going s c points arguments work₀ out₀ (from + c.arguments) (to + c.outputs) (k - 1) work' out'
          go zero l a o f = absurd (omega arith)
          go (suc k) l a o f =
              let sa = suc-mul k c.arguments in
              let so = suc-mul k c.outputs in
              let fits = (next_fits more).1 in
              let x = length-append (take to out ++ ys') (drop (to + c.outputs) out) in
              let y = length-drop (to + c.outputs) out in
              let z = front in
              rw sub-one
              (record {
                arguments-left = omega arith;
                outputs-left = omega arith;
                work-same = ap length em ∙ memory-length (decode s) ws work ∙ g.work-same;
                out-same = ap length et ∙ omega arith ∙ g.out-same;
                rest = λ r e.
                    let count : to + (c.outputs + r.count) ≡ to + c.outputs + r.count = omega arith in
                    let outputs : take to out ++ (ys' ++ r.out) ≡ take (to + c.outputs) out' ++ r.out =
                    sym (append_assoc (take to out) ys' r.out) ∙ ap (λ (xs : List ℕ). xs ++ r.out) (sym written) in
                    f (record { count = c.outputs + r.count; work = r.work; out = ys' ++ r.out })
                    (takes (ran s (take c.arguments (drop from arguments)) work (take c.outputs (drop to out))) _ _ one
                    ∙ takes (one_by_one s c.arguments c.outputs k (drop c.arguments (drop from arguments)) work' (drop c.outputs (drop to out))) _ r
                    (rw (drop-drop c.arguments from arguments, sym behind) e))
                    ∙ rw (count, outputs) refl;
              })

    pub finished : left ≡ 0 → AllRan s c points arguments work₀ out₀ work out
    unfolding one_by_one
    finished = go left g.outputs-left g.rest
      where
        go : (k : ℕ) → to + k * c.outputs ≡ points * c.outputs
            → ((r : Buffers) → one_by_one s c.arguments c.outputs k (drop from arguments) work (drop to out) ≡ ok r
            → one_by_one s c.arguments c.outputs points arguments work₀ out₀ ≡ ok (record { count = to + r.count; work = r.work; out = take to out ++ r.out }))
            → k ≡ 0 → AllRan s c points arguments work₀ out₀ work out
        go zero o f z =
            let m = zero-mul c.outputs in
            let n : to + 0 ≡ points * c.outputs = omega arith in
            f (record { count = 0; work = work; out = drop to out }) refl ∙ rw (n, take-append-drop to out) refl
        go (suc k) o f z = absurd (omega arith)
