-- An array whose first entries are a function's values.
use Prim.Native.Nat.{ℕ, zero, suc, ◌+◌, ◌≤◌, ◌<◌}
use mathlib.Core.Path.{◌≡◌, refl, sym, ap, ◌∙◌, subst}
use mathlib.Core.Bool.{true}
use mathlib.Core.List.{List, [], ◌∷◌, ◌++◌}
use mathlib.Core.Logic.{⊎_elim}
use native.Mathlib.Nat.{add-zero}
use native.Mathlib.Omega.{arith}
use borrow.Rule.Slice.PartMut.{put_mid}
use Rattle.std.proofs.lemmas.Slice.{put_mid-paste}
use Rattle.base.proofs.Stores.{front, copied}
use lib.ListN.{length, get_or, set, take, drop, length-append}
use lib.Seq.{sets, sets-eq, take_all, length-take-le, length-sets, get_or-set_same, get_or-set_other}
use Rattle.base.proofs.Numbers.{lt-or-eq}
use Rattle.base.specs.Limits.{node_limit}
use Rattle.base.specs.Outcome.{Outcome, Part, ok, fault}
use Rattle.graph.specs.Graph.{Function}
use Rattle.graph.specs.Read.{function}
use Rattle.graph.specs.Format.{format_of}
use Rattle.reader.specs.Layout.{known}
use Rattle.reader.specs.Find.{ReadsFunction, ReadsStarts}
use Rattle.reader.proofs.Passed.{known-earlier}
use Rattle.sums.specs.Position.{tabulate, place_of, before, AllRead, Started, passes, was_read}
use Rattle.sums.specs.declared.Sums.{Sums}
use Rattle.sums.specs.Capped.{no_sums, capped_sums, capped_words, capped_instructions, sums_at, SumsHeld}

-- one store behind a run of them
sets-push : {A : Type 0} (xs l : List A) (i : ℕ) (v : A) → sets l i (xs ++ v ∷ []) ≡ set (sets l i xs) (i + length xs) v
sets-push [] l i v = rw add-zero
sets-push (a ∷ xs) l i v =
    let e : suc i + length xs ≡ i + suc (length xs) = omega arith in
    sets-push xs (set l i a) (suc i) v ∙ ap (λ (k : ℕ). set (sets (set l i a) (suc i) xs) k v) e

module _ {A : Type 0} (f : ℕ → A) where
  pub tabulate-length : (n : ℕ) → length (tabulate f n) ≡ n
  unfolding tabulate
  tabulate-length zero = refl
  tabulate-length (suc n) = length-append (tabulate f n) (f n ∷ []) ∙ (let e : length (tabulate f n) ≡ n = tabulate-length n in omega arith)

  -- one store more
  pub tabulate-more : (xs : List A) (n : ℕ) → sets xs 0 (tabulate f (n + 1)) ≡ set (sets xs 0 (tabulate f n)) n (f n)
  unfolding tabulate
  tabulate-more xs n =
      let z : n + 1 ≡ suc n = omega arith in
      let l : length (tabulate f n) ≡ n = tabulate-length n in
      let e : 0 + length (tabulate f n) ≡ n = omega arith in
      rw z (sets-push (tabulate f n) xs 0 (f n) ∙ ap (λ (i : ℕ). set (sets xs 0 (tabulate f n)) i (f n)) e)

  pub tabulate-none : (xs : List A) → sets xs 0 (tabulate f 0) ≡ xs
  unfolding tabulate
  tabulate-none xs = refl

  -- what stands there
  pub tabulated : (d : A) (xs : List A) (n : ℕ) → n ≤ length xs → (j : ℕ) → j < n → get_or (sets xs 0 (tabulate f n)) j d ≡ f j
  tabulated d xs zero l j jl = absurd (omega arith)
  tabulated d xs (suc n) l j jl =
      let z : n + 1 ≡ suc n = omega arith in
      let ys = sets xs 0 (tabulate f n) in
      let m : length ys ≡ length xs = length-sets xs 0 (tabulate f n) in
      subst (λ (m : ℕ). get_or (sets xs 0 (tabulate f m)) j d ≡ f j) z
      (ap (λ (zs : List A). get_or zs j d) (tabulate-more xs n)
      ∙ ⊎_elim (λ b. get_or-set_other ys n j (f n) d (λ q. omega arith) ∙ tabulated d xs n (omega arith) j b)
      (λ q. rw q (get_or-set_same ys n (f n) d (omega arith))) (lt-or-eq j n jl))

  -- the same of an array that is known to hold them
  pub tabulated-in : (d : A) (xs ys : List A) (n : ℕ) → ys ≡ sets xs 0 (tabulate f n) → n ≤ length xs → (j : ℕ) → j < n → get_or ys j d ≡ f j
  tabulated-in d xs ys n e l j jl = ap (λ (zs : List A). get_or zs j d) e ∙ tabulated d xs n l j jl

-- the places of the functions
pub starts-in : (s xs ys : List ℕ) (n : ℕ) → ys ≡ sets xs 0 (tabulate (place_of s) n) → n ≤ length xs → AllRead s n → Started s ys n
starts-in s xs ys n e l reads = record { places = tabulated-in (place_of s) 0 xs ys n e l; reads = reads }

pub all-stored : (s xs : List ℕ) (n : ℕ) {ys : List ℕ} → n ≤ length xs → ys ≡ sets (take n xs) 0 (tabulate (place_of s) n) → put_mid 0 n xs ys ≡ sets xs 0 (tabulate (place_of s) n)
all-stored s xs n {ys} l e =
    let places = tabulate (place_of s) n in
    let a : length places ≡ n = tabulate-length (place_of s) n in
    let b : length (take n xs) ≡ n = length-take-le n xs l in
    let c : length (sets (take n xs) 0 places) ≡ length (take n xs) = length-sets (take n xs) 0 places in
    copied xs places 0 (e ∙ sym (take_all (length places) (sets (take n xs) 0 places) (omega arith)) ∙ front (take n xs) places (omega arith)) (sym a) (omega arith)

-- the first of them
pub fewer-starts : (s starts : List ℕ) (k j : ℕ) → Started s starts k → j ≤ k → Started s starts j
fewer-starts s starts k j h l = record { places = λ i b. h.places i (omega arith); reads = λ i b. h.reads i (omega arith) }

-- the functions that are found by them are the table's
module _ {s starts : List ℕ} {k : ℕ} (h : Started s starts k) where
  pub starts-read : ReadsStarts s starts k
  starts-read j l = subst (ReadsFunction s) (sym (h.places j l)) (h.reads j l)

  pub starts-known : known s starts k ≡ before s k
  starts-known = known-earlier (format_of s).header s starts k h.places

-- ---- the sums of the functions

-- the array holds those of the functions before k, and behind them what it held
pub sums-in : (s : List ℕ) (xs ys : List Sums) (k : ℕ) → ys ≡ sets xs 0 (tabulate (capped_sums s) k) → k ≤ length xs → SumsHeld s ys k
sums-in s xs ys k e l = tabulated-in (capped_sums s) no_sums xs ys k e l

-- their words, and their instructions
module _ (s : List ℕ) (xs : List Sums) (k : ℕ) (h : SumsHeld s xs k) where
  pub words-held : (g : ℕ) → g < k → (sums_at xs g).words ≡ capped_words s g
  words-held g l = ap (λ (x : Sums). x.words) (h g l)

  pub instructions-held : (g : ℕ) → g < k → (sums_at xs g).instructions ≡ capped_instructions s g
  instructions-held g l = ap (λ (x : Sums). x.instructions) (h g l)

-- ---- what was read

-- by a test, and as the reader says it
pub read-true : (s : List ℕ) (at : ℕ) → ReadsFunction s at → was_read s at ≡ true
read-true s at (x, e) = ap passes e

pub true-read : (s : List ℕ) (at : ℕ) → was_read s at ≡ true → ReadsFunction s at
true-read s at e = by_outcome (function node_limit s at) e
  where
    by_outcome : (o : Outcome (Part Function)) → passes o ≡ true → (x : Part Function) × (o ≡ ok x)
    by_outcome (ok x) q = (x, refl)
    by_outcome (fault n p) q = let z : ◌≡◌ {A = ℕ} 0 1 = cc in absurd (omega arith)
