-- What is promised of the judge: a list is accepted exactly when nothing is at fault, an accepted list gives the same outputs as ours, and our own
-- list and those of request 10 are accepted.
use Rattle.std.specs.Prelude.{ℕ, ◌≡◌, List, ◌↔◌, length}
use Rattle.base.specs.Lists.{span}
use Rattle.base.specs.Outcome.{ok, fault}
use Rattle.graph.specs.Graph.{Function}
use Rattle.graph.specs.Table.{Chosen}
use Rattle.bytecode.specs.declared.Version.TheVariants.{V1, V2}
use Rattle.bytecode.specs.Run.{BoardList}
use Rattle.bytecode.specs.Code.{encode}
use Rattle.bytecode.specs.WellFormed.{Codes}
use Rattle.bytecode.specs.Answers.{Buffers, ran}
use Rattle.lowering.specs.Answers.{list_of, code_of, compilable}
use Rattle.lowering.specs.Demand3.{Within}
use Rattle.reordering.specs.Reorder.{Routing, Respects}
use Rattle.reordering.specs.AnyOrder.{list_by, LentFor, SameWords}
use Rattle.validator.specs.Accepts.{Accepts, Counted, FaultAt}

-- ---- the answer, by what is asked of the list and not by a judge

-- for a function within version 1's limits; `Accepted n` and `Refused n p` say what the answer is, in the form in which it is given
pub record Decides (Accepted : ℕ → Type 0) (Refused : ℕ → ℕ → Type 0) (code numbers : List ℕ) (x : Chosen) : Type 0 where
  pub accepted : (n : ℕ) → Accepted n ↔ ((b : BoardList) × Codes V2 code b × Accepts (list_of V1 x) b numbers × (n ≡ length (list_of V1 x).instructions))
  pub refused-18 : Refused 18 0 ↔ ((b : BoardList) → Codes V2 code b → ⊥)
  pub refused-33 : Refused 33 0 ↔ ((b : BoardList) × Codes V2 code b × (Counted (list_of V1 x) b numbers → ⊥))
  pub refused-29 : (p : ℕ) → Refused 29 p ↔ ((b : BoardList) × Codes V2 code b × FaultAt (list_of V1 x) b numbers p)

-- ---- an accepted list, run in place of ours

-- the bytes are the code of a version 2 list for a function of an accepted table within version 1's limits; on any finite arguments of the right
-- count, in buffers long enough, the runner takes it, and its output words are those of version 1's code and what the graph means
pub record RunsAlike (s : List ℕ) (c : ℕ) (code : List ℕ) : Type 0 where
  pub functions : List Function
  pub chosen : Chosen
  pub list : BoardList
  pub within : Within s c 1 functions V1 chosen
  pub codes : Codes V2 code list
  pub runs : (arguments work out : List ℕ) → LentFor chosen list arguments work out
      → (after : Buffers) × (ran code arguments work out ≡ ok after)
      × SameWords (λ n. after.count ≡ n) functions c chosen list arguments work out after.work after.out

-- ---- all of it, of one answer

pub record Promise (Accepted : ℕ → Type 0) (Refused : ℕ → ℕ → Type 0) (s : List ℕ) (c : ℕ) (code numbers : List ℕ) : Type 0 where
  -- the table's refusals come first, then 14 to 16 with version 1's counts
  pub first : (n p : ℕ) → compilable s c 1 ≡ fault n p → Refused n p
  -- both directions, for every function within version 1's limits
  pub exactly : (functions : List Function) (x : Chosen) → Within s c 1 functions V1 x → Decides Accepted Refused code numbers x
  -- an accepted list gives the same outputs
  pub alike : (n : ℕ) → Accepted n → RunsAlike s c code
  -- our own version 2 list with its numbers is accepted wherever version 1's limits hold
  pub own : (functions : List Function) (x : Chosen) → Within s c 1 functions V1 x → code ≡ code_of V2 x → numbers ≡ span 0 (length (list_of V1 x).instructions)
      → Accepted (length (list_of V1 x).instructions)
  -- and so is every list of request 10, with its order
  pub orders : (functions : List Function) (x : Chosen) (r : Routing) → Within s c 1 functions V1 x → Respects x.function.inputs (list_of V1 x) r
      → code ≡ encode V2 (list_by x r) → numbers ≡ r.order → Accepted (length (list_of V1 x).instructions)
