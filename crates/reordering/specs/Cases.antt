-- A list in two orders, and lists that are not as asked. Not of 01: a function whose first two nodes do not read each other.
use Rattle.std.specs.Prelude.{ℕ, ◌≡◌, refl, List, [], ◌∷◌, replicate}
use Rattle.std.specs.Float.Ieee as Ieee
use Rattle.base.specs.Lists.{Each}
use Rattle.base.specs.Outcome.{Outcome, ok, fault, ◌>>=◌, ◌>>◌, need}
use Rattle.value.specs.Results.{results}
use Rattle.graph.specs.Format.{format_of}
use Rattle.graph.specs.Graph.{refs, Function}
use Rattle.graph.specs.Judge.{table, verdict}
use Rattle.graph.specs.Loops.{via}
use Rattle.graph.specs.Meaning.{node_means, meaning_of}
use Rattle.graph.specs.Schedule.{schedule}
use Rattle.graph.specs.Sums.{operations_of, result_words_of}
use Rattle.graph.specs.Table.{Chosen}
use Rattle.bytecode.specs.declared.Version.TheVariants.{V2}
use Rattle.bytecode.specs.Run.{execute}
use Rattle.bytecode.specs.Code.{encode, decode, guard, then}
use Rattle.bytecode.specs.Answers.{Buffers, ran}
use Rattle.lowering.specs.Compile.{inlined}
use Rattle.lowering.specs.Cases as lowering
use Rattle.lowering.specs.Cases.{three, half}
use Rattle.reordering.specs.Reorder.{Routing}
use Rattle.reordering.specs.AnyOrder.{list_by}

-- ---- twice x less the square of y

abbrev pub table_fork : List ℕ
table_fork = 0x49 ∷ 0x46 ∷ 0x47 ∷ 0x01 ∷ 0x00 ∷ 0x01 ∷ 0x32 ∷ 0x00 ∷ 0x01 ∷ 0x00 ∷ 0x02 ∷ 0x01 ∷ 0x03 ∷ 0x00 ∷ 0x01 ∷ 0x01 ∷ 0x01 ∷ 0x03 ∷ 0x00 ∷ 0x00 ∷ 0x01 ∷ 0x00 ∷ 0x01 ∷ 0x01 ∷ 0x00 ∷ 0x00 ∷ 0x00 ∷ 0x00 ∷ 0x00 ∷ 0x00 ∷ 0x02 ∷ 0x00 ∷ 0x03 ∷ 0x01 ∷ 0x00 ∷ 0x00 ∷ 0x01 ∷ 0x00 ∷ 0x00 ∷ 0x01 ∷ 0x03 ∷ 0x00 ∷ 0x02 ∷ 0x01 ∷ 0x01 ∷ 0x00 ∷ 0x00 ∷ 0x02 ∷ 0x00 ∷ 0x00 ∷ []

abbrev pub function_fork : Function
function_fork =
    record {
      id = 1;
      place = 8;
      inputs = 1 ∷ 1 ∷ [];
      outputs = record { type = 1; ref = record { node = 3; port = 0; place = 17 } } ∷ [];
      nodes =
          record { id = 1; place = 20; kind = 1; type = 1; payload = refs (record { node = 0; port = 0; place = 24 } ∷ record { node = 0; port = 0; place = 27 } ∷ []) }
          ∷ record { id = 2; place = 30; kind = 3; type = 1; payload = refs (record { node = 0; port = 1; place = 34 } ∷ record { node = 0; port = 1; place = 37 } ∷ []) }
          ∷ record { id = 3; place = 40; kind = 2; type = 1; payload = refs (record { node = 1; port = 0; place = 44 } ∷ record { node = 2; port = 0; place = 47 } ∷ []) }
          ∷ [];
    }

abbrev pub chosen_fork : Chosen
chosen_fork = record { function = function_fork; early = [] }

-- in version 1: the double, the square, the difference
abbrev pub code_fork : List ℕ
code_fork = 0x49 ∷ 0x46 ∷ 0x52 ∷ 0x01 ∷ 0x00 ∷ 0x02 ∷ 0x01 ∷ 0x00 ∷ 0x03 ∷ 0x00 ∷ 0x05 ∷ 0x00 ∷ 0x01 ∷ 0x01 ∷ 0x00 ∷ 0x00 ∷ 0x00 ∷ 0x00 ∷ 0x03 ∷ 0x01 ∷ 0x01 ∷ 0x00 ∷ 0x01 ∷ 0x00 ∷ 0x02 ∷ 0x01 ∷ 0x02 ∷ 0x00 ∷ 0x03 ∷ 0x00 ∷ 0x04 ∷ 0x00 ∷ []

-- the square first, on word 3, then the double on word 6, and the difference on word 2
abbrev pub routing_fork : Routing
routing_fork = record { order = 1 ∷ 0 ∷ 2 ∷ []; addresses = 6 ∷ 3 ∷ 2 ∷ [] }

abbrev pub code_routed : List ℕ
code_routed = 0x49 ∷ 0x46 ∷ 0x52 ∷ 0x02 ∷ 0x00 ∷ 0x02 ∷ 0x01 ∷ 0x00 ∷ 0x03 ∷ 0x00 ∷ 0x07 ∷ 0x00 ∷ 0x03 ∷ 0x01 ∷ 0x03 ∷ 0x00 ∷ 0x01 ∷ 0x00 ∷ 0x01 ∷ 0x00 ∷ 0x01 ∷ 0x01 ∷ 0x06 ∷ 0x00 ∷ 0x00 ∷ 0x00 ∷ 0x00 ∷ 0x00 ∷ 0x02 ∷ 0x01 ∷ 0x02 ∷ 0x00 ∷ 0x06 ∷ 0x00 ∷ 0x03 ∷ 0x00 ∷ 0x02 ∷ 0x00 ∷ []

-- 0.25, 5.75 and 6
abbrev quarter : ℕ
quarter = 0x3FD0_0000_0000_0000

abbrev pub difference : ℕ
difference = 0x4017_0000_0000_0000

abbrev six : ℕ
six = 0x4018_0000_0000_0000

-- its table, its list in version 1, and what that gives on 3 and 0.5
pub settled-fork : Each lowering.Holds
    (lowering.compiles table_fork 1 1 1 3 5 code_fork ∷ lowering.gives table_fork 1 code_fork (three ∷ half ∷ []) (difference ∷ []) ∷ [])
unfolding verdict table format_of need ◌>>=◌ ◌>>◌ via node_means meaning_of results operations_of result_words_of schedule inlined encode decode guard then execute ran Ieee.add Ieee.sub Ieee.mul Ieee.of_bits Ieee.to_bits
settled-fork = ((refl, refl), ((refl, refl), tt))

-- ---- lists so written, run on 3 and 0.5 where both buffers held nothing but 7

pub record Case : Type 0 where
  pub routing : Routing
  pub answer : Outcome Buffers

abbrev pub routed : List ℕ → List ℕ → Outcome Buffers → Case
routed order addresses answer = record { routing = record { order = order; addresses = addresses }; answer = answer }

abbrev pub left : List ℕ → ℕ → Outcome Buffers
left work output = ok (record { count = 1; work = work; out = output ∷ 7 ∷ [] })

abbrev pub Holds : Case → Type 0
Holds x = ran (encode V2 (list_by chosen_fork x.routing)) (three ∷ half ∷ []) (replicate 8 7) (replicate 2 7) ≡ x.answer

abbrev pub cases : List Case
cases =
    -- version 1's order and words
    routed (0 ∷ 1 ∷ 2 ∷ []) (2 ∷ 3 ∷ 4 ∷ []) (left (three ∷ half ∷ six ∷ quarter ∷ difference ∷ 7 ∷ 7 ∷ 7 ∷ []) difference)
    -- another order, with words between that nothing writes
    ∷ routed (1 ∷ 0 ∷ 2 ∷ []) (6 ∷ 3 ∷ 2 ∷ []) (left (three ∷ half ∷ difference ∷ quarter ∷ 7 ∷ 7 ∷ six ∷ 7 ∷ []) difference)
    -- the last word that there is: taken, and only this work buffer is too short
    ∷ routed (1 ∷ 0 ∷ 2 ∷ []) (8191 ∷ 3 ∷ 2 ∷ []) (fault 21 0)
    -- not as asked, and refused: a word at 8,192; the difference before what it reads; no difference
    ∷ routed (1 ∷ 0 ∷ 2 ∷ []) (8192 ∷ 3 ∷ 2 ∷ []) (fault 18 0)
    ∷ routed (1 ∷ 2 ∷ 0 ∷ []) (6 ∷ 3 ∷ 2 ∷ []) (fault 18 0)
    ∷ routed (1 ∷ 0 ∷ []) (6 ∷ 3 ∷ 2 ∷ []) (fault 18 0)
    -- not as asked, and taken, but other words come out: the double and the square on one word; the square on the word of x
    ∷ routed (1 ∷ 0 ∷ 2 ∷ []) (3 ∷ 3 ∷ 2 ∷ []) (left (three ∷ half ∷ 0 ∷ six ∷ 7 ∷ 7 ∷ 7 ∷ 7 ∷ []) 0)
    ∷ routed (1 ∷ 0 ∷ 2 ∷ []) (6 ∷ 0 ∷ 2 ∷ []) (left (quarter ∷ half ∷ quarter ∷ 7 ∷ 7 ∷ 7 ∷ half ∷ 7 ∷ []) quarter)
    ∷ []

pub settled : Each Holds cases
unfolding need ◌>>=◌ ◌>>◌ results schedule inlined encode decode guard then execute ran Ieee.add Ieee.sub Ieee.mul Ieee.of_bits Ieee.to_bits
settled = (refl, (refl, (refl, (refl, (refl, (refl, (refl, (refl, tt))))))))

-- the bytes of the second
pub settled-code : encode V2 (list_by chosen_fork routing_fork) ≡ code_routed
unfolding encode schedule inlined
settled-code = refl
