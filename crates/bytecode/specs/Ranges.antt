-- Words that stand together.
use Rattle.std.specs.Prelude.{ℕ, ◌+◌, max, Bool, false, ◌&&◌, ◌||◌, List, [], ◌∷◌, leb, ltb}
use Rattle.bytecode.specs.Run.{Instruction}
use Rattle.bytecode.specs.Origin.{result_width}

abbrev pub any : {A : Type 0} → (A → Bool) → List A → Bool
any p [] = false
any p (x ∷ xs) = p x || any p xs

-- the first of them, and how many
pub record Range : Type 0 where
  pub first : ℕ
  pub width : ℕ

-- the word behind them
abbrev pub end : Range → ℕ
end r = r.first + r.width

-- a is one of them
abbrev pub inside : Range → ℕ → Bool
inside r a = leb r.first a && ltb a (end r)

-- the word behind the highest
abbrev pub behind : List Range → ℕ
behind [] = 0
behind (r ∷ rs) = max (end r) (behind rs)

-- the words of an instruction's result
abbrev pub result_value : Instruction → Range
result_value i = record { first = i.result; width = result_width i }
