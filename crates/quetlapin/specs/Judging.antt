-- What the judge of a router's list asks and answers, of a function that was found.
use Rattle.std.specs.Prelude.{ℕ, ◌≡◌, Bool, ◌&&◌, List, eqb}
use Rattle.base.specs.Outcome.{Outcome, ◌>>=◌, or_else}
use Rattle.bytecode.specs.declared.Version.TheVariants.{V2}
use Rattle.bytecode.specs.Run.{BoardList}
use Rattle.bytecode.specs.WellFormed.{Codes}
use Rattle.runner.specs.declared.Counts.{Counts}
use Rattle.sums.specs.declared.Sizes.{Sizes}
use Rattle.compiler.specs.Whole.{source_at}
use Rattle.validator.specs.Judge.{judged}
use Rattle.validator.specs.Accepts.{Counted}
use Rattle.acceptance.specs.Answers.{proposed}
use Rattle.quetlapin.specs.declared.lookup.Found.{Found}
use Rattle.quetlapin.specs.Measures.{ReadyAt}

-- a function within version 1's limits, found by some id
abbrev pub Ready : List ℕ → Found → Type 0
Ready s f = (c : ℕ) × ReadyAt s c f

-- 18, 33, 29 against the list of version 1 of the function at position k
unfoldable pub judged_at : List ℕ → ℕ → List ℕ → List ℕ → Outcome ℕ
judged_at s k code numbers = or_else (proposed code) 18 0 >>= λ b. judged (source_at s k) b numbers

-- the tests of 33
abbrev pub counts_alike : Counts → Sizes → ℕ → Bool
counts_alike c m numbers =
    eqb c.arguments m.arguments && eqb c.outputs m.outputs && eqb c.instructions m.instructions && eqb numbers m.instructions

-- a proposed list with the counts of version 1's, and so many words
pub record Comparable (s : List ℕ) (k : ℕ) (code numbers : List ℕ) (words : ℕ) : Type 0 where
  pub list : BoardList
  pub codes : Codes V2 code list
  pub counted : Counted (source_at s k) list numbers
  pub words_are : words ≡ list.words
