-- What a result says, as an outcome: a value, or the number of a fault and its place.
use Rattle.std.specs.Prelude.{ℕ, Result, Ok, Err}
use Rattle.base.specs.Outcome.{Outcome, ok, fault}
use Rattle.base.specs.declared.refusal.Refusal.{Refusal}
use Rattle.base.specs.declared.refusal.Fault.{Fault}
use Rattle.base.specs.declared.refusal.Fault.TheVariants.{TableShort, Mark, TableVersion, Length, Truncated, Field, Constant, Leftover, Repeated, Callee, NoPort, WrongType, Loop, NoFunction, Operations, Words, CodeRoom, Malformed, ArgumentCount, Argument, Room, PointCount, Placement, ListVersion, Counts}

-- the number that other programs are told
abbrev pub number : Fault → ℕ
number TableShort = 1
number Mark = 2
number TableVersion = 3
number Length = 4
number Truncated = 5
number Field = 6
number Constant = 7
number Leftover = 8
number Repeated = 9
number Callee = 10
number NoPort = 11
number WrongType = 12
number Loop = 13
number NoFunction = 14
number Operations = 15
number Words = 16
number CodeRoom = 17
number Malformed = 18
number ArgumentCount = 19
number Argument = 20
number Room = 21
number PointCount = 22
number Placement = 29
number ListVersion = 31
number Counts = 33

abbrev pub refusal : Fault → ℕ → Refusal
refusal f p = record { fault = f; place = p }

-- what a result says
abbrev pub outcome : {A : Type 0} → Result A Refusal → Outcome A
outcome (Ok a) = ok a
outcome (Err e) = fault (number e.fault) e.place

-- what was done with a value; a fault stays as it is
abbrev pub mapped : {A B : Type 0} → (A → B) → Outcome A → Outcome B
mapped f (ok a) = ok (f a)
mapped f (fault n p) = fault n p
