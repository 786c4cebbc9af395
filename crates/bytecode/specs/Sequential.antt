-- A list whose results follow one another: each takes the next words, and its operands stand before them.
use Rattle.std.specs.Prelude.{ℕ, ◌+◌, ◌≤◌, ◌≡◌, true, List, [], ◌∷◌, length}
use Rattle.ports.specs.Kinds.{kind_of}
use Rattle.ports.specs.Ports.{width, widths, takes, gives, constant_words, legal_instruction}
use Rattle.base.specs.Lists.{every, Word, Each}
use Rattle.value.specs.Values.{constant_word}
use Rattle.bytecode.specs.Run.{Instruction}

-- the word behind an instruction's results
abbrev pub next_word : ℕ → Instruction → ℕ
next_word next i = next + widths (gives (kind_of i.kind) i.type)

-- addresses of values of these types, whose words stand before `next`
abbrev pub Below : ℕ → List ℕ → List ℕ → Type 0
Below next [] [] = Unit {0}
Below next [] (a ∷ xs) = ⊥
Below next (t ∷ ts) [] = ⊥
Below next (t ∷ ts) (a ∷ xs) = (a + width t ≤ next) × Below next ts xs

pub record Fit (next : ℕ) (i : Instruction) : Type 0 where
  pub legal : legal_instruction (kind_of i.kind) i.type ≡ true
  pub operands : Below next (takes (kind_of i.kind) i.type) i.operands
  pub count : length i.constants ≡ constant_words (kind_of i.kind)
  pub words : Each Word i.constants
  pub constants : every constant_word i.constants ≡ true
  pub result : i.result ≡ next

abbrev pub AllFit : ℕ → List Instruction → ℕ → Type 0
AllFit next [] end = next ≡ end
AllFit next (i ∷ is) end = Fit next i × AllFit (next_word next i) is end
