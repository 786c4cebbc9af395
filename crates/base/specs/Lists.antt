-- Lists: what holds of their elements, and the words at addresses.
use Rattle.std.specs.Prelude.{ℕ, zero, suc, ◌^◌, ◌<◌, ◌≡◌, Bool, true, false, ◌&&◌, cond, List, [], ◌∷◌, map, ◌⊎◌, eqb, get_or}

-- ---- elements

-- P holds of each
abbrev pub Each : {A : Type 0} → (A → Type 0) → List A → Type 0
Each P [] = Unit {0}
Each P (x ∷ xs) = P x × Each P xs

-- it is one of them
abbrev pub Is : {A : Type 0} → A → List A → Type 0
Is n [] = ⊥
Is n (x ∷ xs) = (n ≡ x) ⊎ Is n xs

abbrev pub every : (ℕ → Bool) → List ℕ → Bool
every ok [] = true
every ok (w ∷ ws) = ok w && every ok ws

abbrev pub member : ℕ → List ℕ → Bool
member i [] = false
member i (x ∷ xs) = let r = member i xs in cond (eqb x i) true r

-- no number stands twice
abbrev pub Distinct : List ℕ → Type 0
Distinct [] = Unit {0}
Distinct (x ∷ xs) = (member x xs ≡ false) × Distinct xs

-- ---- words

abbrev pub Word : ℕ → Type 0
Word w = w < 2 ^ 64

abbrev pub word_at : List ℕ → ℕ → ℕ
word_at m a = get_or m a 0

-- n addresses from `at` on, and the words there
abbrev pub span : ℕ → ℕ → List ℕ
span at zero = []
span at (suc n) = at ∷ span (suc at) n

abbrev pub words_at : List ℕ → ℕ → ℕ → List ℕ
words_at m at n = map (word_at m) (span at n)
