-- What is said of the function of an id is said of the function at its position.
use Prim.Native.Nat.{ℕ, zero, suc, ◌≤◌, ◌<◌}
use mathlib.Core.Path.{◌≡◌, refl, sym, ap, ◌∙◌, subst}
use mathlib.Core.Bool.{Bool, true, false, cond}
use mathlib.Core.List.{List, [], ◌∷◌}
use mathlib.Core.Logic.{◌⊎◌, inl, inr, ⊎_elim}
use native.Mathlib.Omega.{arith}
use lib.Dec.{eqb}
use lib.ListN.{length}
use Rattle.base.specs.Limits.{function_limit}
use Rattle.base.specs.Bytes.{u16}
use Rattle.graph.specs.Graph.{Function}
use Rattle.graph.specs.Sums.{operations_of, result_words_of}
use Rattle.graph.specs.Format.{format_of}
use Rattle.reader.specs.Layout.{function_at, earlier}
use Rattle.std.specs.Prelude.{Option, Some, None, MatchOption}
use Rattle.std.specs.Option.{option_map}
use Rattle.reader.specs.Find.{found_at as found_record, function_found}
use Rattle.reader.specs.declared.Found.{Found}
use Rattle.reader.proofs.Passed.{length-earlier}
use Rattle.sums.specs.declared.Sums.{Sums}
use Rattle.sums.specs.CodeSums.{instructions_of, bytes_of_function}
use Rattle.sums.specs.Position.{place_of, before, found_at, position_of}
use Rattle.sums.specs.Capped.{operations_at, result_words_at, instructions_at, bytes_at, own_sums, no_sums}

-- ---- the search

-- one function more
position-more : (s : List ℕ) (m c : ℕ) → position_of s (suc m) c ≡ cond (eqb (u16 s (place_of s m)) c) m (position_of s m c)
unfolding position_of earlier function_at
position-more s m c = pick_one (eqb (u16 s (place_of s m)) c)
  where
    pick_one : (b : Bool) → found_at (cond b (found_record (length (before s m)) (place_of s m)) (function_found c (before s m))) ≡ cond b m (found_at (function_found c (before s m)))
    pick_one true = length-earlier (format_of s).header s m
    pick_one false = refl

position-range : (s : List ℕ) (k c : ℕ) → (position_of s k c < k) ⊎ (position_of s k c ≡ function_limit)
unfolding earlier position_of
position-range s zero c = inr refl
position-range s (suc m) c = rw (position-more s m c) (pick_one (eqb (u16 s (place_of s m)) c) (position-range s m c))
  where
    pick_one : (b : Bool) → (position_of s m c < m) ⊎ (position_of s m c ≡ function_limit) → (cond b m (position_of s m c) < suc m) ⊎ (cond b m (position_of s m c) ≡ function_limit)
    pick_one true h = inl (omega arith)
    pick_one false h = ⊎_elim (λ l. inl (omega arith)) (λ e. inr e) h

-- what a search says that ends at a place, and one that ends at none
found-below : (c : ℕ) (fs : List Function) {x : Found} → Some x ≡ function_found c fs → x.index < length fs
found-below c [] e = cc
found-below c (f ∷ fs) {x} e = pick_one (eqb f.id c) (found-below c fs) e
  where
    pick_one : (b : Bool) → (Some x ≡ function_found c fs → x.index < length fs) → Some x ≡ cond b (found_record (length fs) f.place) (function_found c fs) → x.index < suc (length fs)
    pick_one true ih q = let l : x.index ≡ length fs = ap found_at q in omega arith
    pick_one false ih q = let l : x.index < length fs = ih q in omega arith

-- its index is the function's position
pub position-found : (s : List ℕ) (k c : ℕ) {o : Option Found} {r : Option ℕ} → k ≤ function_limit → o ≡ function_found c (before s k) → r ≡ option_map (λ (x : Found). x.index) o
    → MatchOption r ((position_of s k c ≡ function_limit) × (k ≤ position_of s k c)) (λ g. (g ≡ position_of s k c) × (g < k))
unfolding position_of
position-found s k c {o} {r} few e er = subst (λ (r : Option ℕ). MatchOption r ((position_of s k c ≡ function_limit) × (k ≤ position_of s k c)) (λ g. (g ≡ position_of s k c) × (g < k))) (sym er) (by_answer o e)
  where
    by_answer : (o : Option Found) → o ≡ function_found c (before s k) → MatchOption (option_map (λ (x : Found). x.index) o) ((position_of s k c ≡ function_limit) × (k ≤ position_of s k c)) (λ g. (g ≡ position_of s k c) × (g < k))
    by_answer (Some x) q = (ap found_at q, let l = found-below c (before s k) q in let n = length-earlier (format_of s).header s k in omega arith)
    by_answer None q = let same : function_limit ≡ position_of s k c = ap found_at q in (sym same, omega arith)

-- ---- of the function of an id, and of the function at its position

module _ {A : Type 0} (s : List ℕ) (of : List Function → ℕ → A) (own : ℕ → A) (nil : A) (none : (c : ℕ) → of [] c ≡ nil)
    (one : (m c : ℕ) → of (before s (suc m)) c ≡ cond (eqb (u16 s (place_of s m)) c) (own m) (of (before s m) c)) where
  pub at_position : (k c : ℕ) → k ≤ function_limit → position_of s k c < k → of (before s k) c ≡ own (position_of s k c)
  at_position zero c b h = absurd (omega arith)
  at_position (suc m) c b h =
      one m c
      ∙ pick_one (eqb (u16 s (place_of s m)) c) (λ l. at_position m c (omega arith) l) (subst (λ (q : ℕ). q < suc m) (position-more s m c) h)
      ∙ ap own (sym (position-more s m c))
    where
      pick_one : (b : Bool) → (position_of s m c < m → of (before s m) c ≡ own (position_of s m c)) → cond b m (position_of s m c) < suc m
          → cond b (own m) (of (before s m) c) ≡ own (cond b m (position_of s m c))
      pick_one true ih h = refl
      pick_one false ih h = ih (⊎_elim (λ l. l) (λ e. absurd (omega arith)) (position-range s m c))

  pub no-position : (k c : ℕ) → k ≤ position_of s k c → of (before s k) c ≡ nil
  unfolding earlier
  no-position zero c h = none c
  no-position (suc m) c h = one m c ∙ pick_one (eqb (u16 s (place_of s m)) c) (λ l. no-position m c l) (subst (λ (q : ℕ). suc m ≤ q) (position-more s m c) h)
    where
      pick_one : (b : Bool) → (m ≤ position_of s m c → of (before s m) c ≡ nil) → suc m ≤ cond b m (position_of s m c) → cond b (own m) (of (before s m) c) ≡ nil
      pick_one true ih h = absurd (omega arith)
      pick_one false ih h = ih (omega arith)

-- ---- sums

-- of the function of an id
abbrev pub sums_of : List Function → ℕ → Sums
sums_of fs c = record { operations = operations_of fs c; words = result_words_of fs c; instructions = instructions_of fs c; bytes = bytes_of_function fs c }

no-sums : (c : ℕ) → sums_of [] c ≡ no_sums
unfolding operations_of result_words_of instructions_of bytes_of_function
no-sums c = refl

one-sums : (s : List ℕ) (m c : ℕ) → sums_of (before s (suc m)) c ≡ cond (eqb (u16 s (place_of s m)) c) (own_sums s m) (sums_of (before s m) c)
unfolding operations_of result_words_of instructions_of bytes_of_function operations_at result_words_at instructions_at bytes_at earlier function_at
one-sums s m c = pick_one (eqb (u16 s (place_of s m)) c) (own_sums s m) (sums_of (before s m) c)
  where
    pick_one : (b : Bool) (x y : Sums)
        → record {
          operations = cond b x.operations y.operations;
          words = cond b x.words y.words;
          instructions = cond b x.instructions y.instructions;
          bytes = cond b x.bytes y.bytes;
        }
        ≡ cond b x y
    pick_one true x y = refl
    pick_one false x y = refl

module _ (s : List ℕ) (k c g : ℕ) (eg : g ≡ position_of s k c) where
  module _ (b : k ≤ function_limit) (h : g < k) where
    pub sums-at : sums_of (before s k) c ≡ own_sums s g
    sums-at = at_position s sums_of (own_sums s) no_sums no-sums (one-sums s) k c b (subst (λ (q : ℕ). q < k) eg h) ∙ ap (own_sums s) (sym eg)

    pub words-at : result_words_of (before s k) c ≡ result_words_at s g
    words-at = ap (λ (x : Sums). x.words) sums-at

  module _ (h : k ≤ g) where
    pub sums_none : sums_of (before s k) c ≡ no_sums
    sums_none = no-position s sums_of (own_sums s) no_sums no-sums (one-sums s) k c (subst (λ (q : ℕ). k ≤ q) eg h)

    pub words-none : result_words_of (before s k) c ≡ 0
    words-none = ap (λ (x : Sums). x.words) sums_none
