-- The settled examples that are proved: a table of 01's, and one of the versions of the list.
use Rattle.std.specs.Prelude.{ℕ, ◌≡◌, refl, List, [], ◌∷◌, ◌++◌, set, take, length, replicate}
use Rattle.std.proofs.Math.Option.{Option, none, some}
use Rattle.std.specs.Float.Ieee as Ieee
use Rattle.base.specs.Lists.{Each}
use Rattle.value.specs.Results.{results}
use Rattle.base.specs.Outcome.{Outcome, ok, fault, ◌>>=◌, ◌>>◌, need}
use Rattle.graph.specs.Loops.{via}
use Rattle.graph.specs.Format.{format_of}
use Rattle.graph.specs.Judge.{table, verdict}
use Rattle.graph.specs.Graph.{refs, Function}
use Rattle.graph.specs.Written.{flat}
use Rattle.graph.specs.Sums.{function_operations, operations_of, result_words_of}
use Rattle.graph.specs.Schedule.{schedule}
use Rattle.graph.specs.Meaning.{node_means, meaning_of, graph_means}
use Rattle.graph.specs.Table.{Chosen}
use Rattle.bytecode.specs.Run.{execute}
use Rattle.lowering.specs.Compile.{inlined}
use Rattle.bytecode.specs.Code.{encode, decode, guard, then}
use Rattle.bytecode.specs.Answers.{Buffers, ran}
use Rattle.lowering.specs.Answers.{words_of, code_of, Job, compilable, compiled}
use Rattle.lowering.specs.Listing.{decimal, function_line, listing}

-- ---- tables and codes

abbrev pub table_a : List ℕ
table_a = 0x49 ∷ 0x46 ∷ 0x47 ∷ 0x01 ∷ 0x00 ∷ 0x01 ∷ 0x1E ∷ 0x00 ∷ 0x01 ∷ 0x00 ∷ 0x02 ∷ 0x01 ∷ 0x01 ∷ 0x00 ∷ 0x01 ∷ 0x01 ∷ 0x01 ∷ 0x01 ∷ 0x00 ∷ 0x00 ∷ 0x01 ∷ 0x00 ∷ 0x03 ∷ 0x01 ∷ 0x00 ∷ 0x00 ∷ 0x00 ∷ 0x00 ∷ 0x00 ∷ 0x01 ∷ []

abbrev pub code_a : List ℕ
code_a = 0x49 ∷ 0x46 ∷ 0x52 ∷ 0x01 ∷ 0x00 ∷ 0x02 ∷ 0x01 ∷ 0x00 ∷ 0x01 ∷ 0x00 ∷ 0x03 ∷ 0x00 ∷ 0x03 ∷ 0x01 ∷ 0x00 ∷ 0x00 ∷ 0x01 ∷ 0x00 ∷ 0x02 ∷ 0x00 ∷ []

-- in version 2 the result's address stands in front of the operands
abbrev pub code_a2 : List ℕ
code_a2 = 0x49 ∷ 0x46 ∷ 0x52 ∷ 0x02 ∷ 0x00 ∷ 0x02 ∷ 0x01 ∷ 0x00 ∷ 0x01 ∷ 0x00 ∷ 0x03 ∷ 0x00 ∷ 0x03 ∷ 0x01 ∷ 0x02 ∷ 0x00 ∷ 0x00 ∷ 0x00 ∷ 0x01 ∷ 0x00 ∷ 0x02 ∷ 0x00 ∷ []

-- A as data: the product of the two inputs
abbrev pub function_a : Function
function_a =
    record {
      id = 1;
      place = 8;
      inputs = 1 ∷ 1 ∷ [];
      outputs = record { type = 1; ref = record { node = 1; port = 0; place = 17 } } ∷ [];
      nodes =
          record {
            id = 1;
            place = 20;
            kind = 3;
            type = 1;
            payload = refs (record { node = 0; port = 0; place = 24 } ∷ record { node = 0; port = 1; place = 27 } ∷ []);
          }
          ∷ [];
    }

abbrev pub chosen_a : Chosen
chosen_a = record { function = function_a; early = [] }

-- the lister's two lines for A
abbrev pub text_a : List ℕ
text_a = 0x61 ∷ 0x63 ∷ 0x63 ∷ 0x65 ∷ 0x70 ∷ 0x74 ∷ 0x65 ∷ 0x64 ∷ 0x20 ∷ 0x31 ∷ 0x0A ∷ 0x66 ∷ 0x75 ∷ 0x6E ∷ 0x63 ∷ 0x74 ∷ 0x69 ∷ 0x6F ∷ 0x6E ∷ 0x20 ∷ 0x31 ∷ 0x20 ∷ 0x69 ∷ 0x6E ∷ 0x70 ∷ 0x75 ∷ 0x74 ∷ 0x73 ∷ 0x20 ∷ 0x32 ∷ 0x20 ∷ 0x6F ∷ 0x75 ∷ 0x74 ∷ 0x70 ∷ 0x75 ∷ 0x74 ∷ 0x73 ∷ 0x20 ∷ 0x31 ∷ 0x20 ∷ 0x6E ∷ 0x6F ∷ 0x64 ∷ 0x65 ∷ 0x73 ∷ 0x20 ∷ 0x31 ∷ 0x20 ∷ 0x6F ∷ 0x70 ∷ 0x65 ∷ 0x72 ∷ 0x61 ∷ 0x74 ∷ 0x69 ∷ 0x6F ∷ 0x6E ∷ 0x73 ∷ 0x20 ∷ 0x31 ∷ 0x20 ∷ 0x77 ∷ 0x6F ∷ 0x72 ∷ 0x64 ∷ 0x73 ∷ 0x20 ∷ 0x33 ∷ 0x20 ∷ 0x63 ∷ 0x6F ∷ 0x64 ∷ 0x65 ∷ 0x20 ∷ 0x32 ∷ 0x30 ∷ 0x0A ∷ []

-- one scalar input, which is the output, and no node
abbrev pub table_k : List ℕ
table_k = 0x49 ∷ 0x46 ∷ 0x47 ∷ 0x01 ∷ 0x00 ∷ 0x01 ∷ 0x13 ∷ 0x00 ∷ 0x01 ∷ 0x00 ∷ 0x01 ∷ 0x01 ∷ 0x00 ∷ 0x00 ∷ 0x01 ∷ 0x01 ∷ 0x00 ∷ 0x00 ∷ 0x00 ∷ []

abbrev pub code_k : List ℕ
code_k = 0x49 ∷ 0x46 ∷ 0x52 ∷ 0x01 ∷ 0x00 ∷ 0x01 ∷ 0x01 ∷ 0x00 ∷ 0x00 ∷ 0x00 ∷ 0x01 ∷ 0x00 ∷ 0x00 ∷ 0x00 ∷ []

-- not of 01: function 1 doubles x; function 2 multiplies the double of x by the double of that, and its product stands first in the table
abbrev pub table_calls : List ℕ
table_calls = 0x49 ∷ 0x46 ∷ 0x47 ∷ 0x01 ∷ 0x00 ∷ 0x02 ∷ 0x46 ∷ 0x00 ∷ 0x01 ∷ 0x00 ∷ 0x01 ∷ 0x01 ∷ 0x01 ∷ 0x00 ∷ 0x01 ∷ 0x01 ∷ 0x01 ∷ 0x00 ∷ 0x00 ∷ 0x01 ∷ 0x00 ∷ 0x01 ∷ 0x01 ∷ 0x00 ∷ 0x00 ∷ 0x00 ∷ 0x00 ∷ 0x00 ∷ 0x00 ∷ 0x02 ∷ 0x00 ∷ 0x01 ∷ 0x01 ∷ 0x03 ∷ 0x00 ∷ 0x01 ∷ 0x01 ∷ 0x05 ∷ 0x00 ∷ 0x00 ∷ 0x05 ∷ 0x00 ∷ 0x03 ∷ 0x01 ∷ 0x07 ∷ 0x00 ∷ 0x00 ∷ 0x09 ∷ 0x00 ∷ 0x00 ∷ 0x07 ∷ 0x00 ∷ 0x18 ∷ 0x00 ∷ 0x01 ∷ 0x00 ∷ 0x01 ∷ 0x00 ∷ 0x00 ∷ 0x00 ∷ 0x09 ∷ 0x00 ∷ 0x18 ∷ 0x00 ∷ 0x01 ∷ 0x00 ∷ 0x01 ∷ 0x07 ∷ 0x00 ∷ 0x00 ∷ []

abbrev pub code_calls : List ℕ
code_calls = 0x49 ∷ 0x46 ∷ 0x52 ∷ 0x01 ∷ 0x00 ∷ 0x01 ∷ 0x01 ∷ 0x00 ∷ 0x03 ∷ 0x00 ∷ 0x04 ∷ 0x00 ∷ 0x01 ∷ 0x01 ∷ 0x00 ∷ 0x00 ∷ 0x00 ∷ 0x00 ∷ 0x01 ∷ 0x01 ∷ 0x01 ∷ 0x00 ∷ 0x01 ∷ 0x00 ∷ 0x03 ∷ 0x01 ∷ 0x01 ∷ 0x00 ∷ 0x02 ∷ 0x00 ∷ 0x03 ∷ 0x00 ∷ []

-- in version 2 the second double takes the word of x, and the product the next
abbrev pub code_calls2 : List ℕ
code_calls2 = 0x49 ∷ 0x46 ∷ 0x52 ∷ 0x02 ∷ 0x00 ∷ 0x01 ∷ 0x01 ∷ 0x00 ∷ 0x03 ∷ 0x00 ∷ 0x03 ∷ 0x00 ∷ 0x01 ∷ 0x01 ∷ 0x01 ∷ 0x00 ∷ 0x00 ∷ 0x00 ∷ 0x00 ∷ 0x00 ∷ 0x01 ∷ 0x01 ∷ 0x00 ∷ 0x00 ∷ 0x01 ∷ 0x00 ∷ 0x01 ∷ 0x00 ∷ 0x03 ∷ 0x01 ∷ 0x02 ∷ 0x00 ∷ 0x01 ∷ 0x00 ∷ 0x00 ∷ 0x00 ∷ 0x02 ∷ 0x00 ∷ []

-- version 2, not the compiler's: the double of x stands three words behind x, and nothing between them
abbrev pub code_apart : List ℕ
code_apart = 0x49 ∷ 0x46 ∷ 0x52 ∷ 0x02 ∷ 0x00 ∷ 0x01 ∷ 0x01 ∷ 0x00 ∷ 0x01 ∷ 0x00 ∷ 0x04 ∷ 0x00 ∷ 0x01 ∷ 0x01 ∷ 0x03 ∷ 0x00 ∷ 0x00 ∷ 0x00 ∷ 0x00 ∷ 0x00 ∷ 0x03 ∷ 0x00 ∷ []

-- version 2, not the compiler's: the double of a vector stands one word behind it, over its last two words
abbrev pub code_over : List ℕ
code_over = 0x49 ∷ 0x46 ∷ 0x52 ∷ 0x02 ∷ 0x00 ∷ 0x03 ∷ 0x03 ∷ 0x00 ∷ 0x01 ∷ 0x00 ∷ 0x04 ∷ 0x00 ∷ 0x01 ∷ 0x02 ∷ 0x01 ∷ 0x00 ∷ 0x00 ∷ 0x00 ∷ 0x00 ∷ 0x00 ∷ 0x01 ∷ 0x00 ∷ 0x02 ∷ 0x00 ∷ 0x03 ∷ 0x00 ∷ []

-- K with one node, numbered 1, which nothing reads: its kind and its payload, and the length of the whole in two bytes
abbrev with_node : ℕ → List ℕ → ℕ → ℕ → List ℕ
with_node kind payload low high = set (set (set table_k 12 0x01) 6 low) 7 high ++ 0x01 ∷ 0x00 ∷ kind ∷ 0x00 ∷ payload

-- the constant infinity
abbrev table_infinite : List ℕ
table_infinite = with_node 0x05 (0x00 ∷ 0x00 ∷ 0x00 ∷ 0x00 ∷ 0x00 ∷ 0x00 ∷ 0xF0 ∷ 0x7F ∷ []) 0x1F 0x00

-- a node that calls a function on the first input
abbrev call_node : ℕ → ℕ → List ℕ
call_node callee id = id ∷ 0x00 ∷ 0x18 ∷ 0x00 ∷ callee ∷ 0x00 ∷ 0x01 ∷ 0x00 ∷ 0x00 ∷ 0x00 ∷ []

-- a function with one scalar input, which is the output, and eight such nodes
abbrev eight_calls : ℕ → ℕ → List ℕ
eight_calls id callee =
    id ∷ 0x00 ∷ 0x01 ∷ 0x01 ∷ 0x08 ∷ 0x00 ∷ 0x01 ∷ 0x01 ∷ 0x00 ∷ 0x00 ∷ 0x00
    ∷ flat (call_node callee) (1 ∷ 2 ∷ 3 ∷ 4 ∷ 5 ∷ 6 ∷ 7 ∷ 8 ∷ [])

-- K, and four functions with eight calls of the one before: 8, 72, 584 and 4,680 operations
abbrev pub table_operations : List ℕ
table_operations = set (set (set table_k 5 0x05) 6 0x7F) 7 0x01 ++ eight_calls 2 1 ++ eight_calls 3 2 ++ eight_calls 4 3 ++ eight_calls 5 4

-- K with a constmat, and three functions with eight calls of the one before: 129, 1,025 and 8,193 words
abbrev pub table_words : List ℕ
table_words = set (with_node 0x07 (replicate 128 0x00) 0xA8 0x01) 5 0x04 ++ eight_calls 2 1 ++ eight_calls 3 2 ++ eight_calls 4 3

-- 3, 0.5, 1.5, 1, 6, 12, 72 and infinity
abbrev pub three : ℕ
three = 0x4008_0000_0000_0000

abbrev pub half : ℕ
half = 0x3FE0_0000_0000_0000

abbrev pub three_halves : ℕ
three_halves = 0x3FF8_0000_0000_0000

abbrev pub one : ℕ
one = 0x3FF0_0000_0000_0000

abbrev six : ℕ
six = 0x4018_0000_0000_0000

abbrev twelve : ℕ
twelve = 0x4028_0000_0000_0000

abbrev pub seventy_two : ℕ
seventy_two = 0x4052_0000_0000_0000

abbrev infinite : ℕ
infinite = 0x7FF0_0000_0000_0000

-- ---- rows

pub data Case : Type 0 where
  -- a table, refused with a number at a place
  refused : List ℕ → ℕ → ℕ → Case
  -- a table with so many functions, accepted; of one function of it, in a version, the operations, the words and the code
  compiles : List ℕ → ℕ → ℕ → ℕ → ℕ → ℕ → List ℕ → Case
  -- a table and the lister's text
  prints : List ℕ → List ℕ → Case
  -- a table, a function, a version and a code buffer, refused by the compiler
  uncompiled : List ℕ → ℕ → ℕ → List ℕ → ℕ → ℕ → Case
  -- a code, arguments and the two buffers, refused by the runner
  unrun : List ℕ → List ℕ → List ℕ → List ℕ → ℕ → ℕ → Case
  -- a code and arguments: what the work buffer then holds, where it held nothing but 7
  leaves : List ℕ → List ℕ → List ℕ → Case
  -- a table, a function, its code, and arguments: what the code gives, and what the graph means
  gives : List ℕ → ℕ → List ℕ → List ℕ → List ℕ → Case

-- operations, words and code
pub record Sizes : Type 0 where
  pub operations : ℕ
  pub words : ℕ
  pub code : List ℕ

abbrev sizes_of : Outcome Job → Outcome Sizes
sizes_of (fault n p) = fault n p
sizes_of (ok j) =
    let x = j.chosen in
    ok (record { operations = function_operations (operations_of x.early) x.function; words = words_of j.version x; code = code_of j.version x })

abbrev output_of : Outcome Buffers → List ℕ
output_of (fault n p) = []
output_of (ok b) = b.out

abbrev work_of : Outcome Buffers → List ℕ
work_of (fault n p) = []
work_of (ok b) = b.work

abbrev meaning_in : Outcome (List Function) → ℕ → List ℕ → Option (List ℕ)
meaning_in (fault n p) c arguments = none
meaning_in (ok fs) c arguments = graph_means fs c arguments

abbrev pub Holds : Case → Type 0
Holds (refused s n p) = verdict s ≡ fault n p
Holds (compiles s count c n operations words code) =
    (verdict s ≡ ok count) × (sizes_of (compilable s c n) ≡ ok (record { operations = operations; words = words; code = code }))
Holds (prints s text) = listing s ≡ text
Holds (uncompiled s c v buffer n p) = compiled s c v buffer ≡ fault n p
Holds (unrun code arguments work out n p) = ran code arguments work out ≡ fault n p
Holds (leaves code arguments work) = work_of (ran code arguments (replicate (length work) 7) (replicate 3 7)) ≡ work
Holds (gives s c code arguments out) =
    (output_of (ran code arguments (replicate 5 7) (replicate (length out) 7)) ≡ out) × (meaning_in (table s) c arguments ≡ some out)

abbrev pub cases : List Case
cases =
    -- A
    compiles table_a 1 1 1 1 3 code_a
    ∷ prints table_a text_a
    -- B to I
    ∷ refused [] 1 0
    ∷ refused (set table_a 6 0x1F) 4 6
    ∷ refused (set table_a 3 0x02) 3 3
    ∷ refused (set table_a 10 0x09) 6 8
    ∷ refused (set table_a 22 0x3F) 6 20
    ∷ refused (set table_a 16 0x02) 12 17
    ∷ refused (set table_a 29 0x02) 11 27
    ∷ refused (set table_a 24 0x01) 13 20
    -- J
    ∷ gives table_a 1 code_a (three ∷ half ∷ []) (three_halves ∷ [])
    -- K
    ∷ compiles table_k 1 1 1 0 1 code_k
    -- the calls
    ∷ compiles table_calls 2 2 1 5 4 code_calls
    ∷ gives table_calls 2 code_calls (three ∷ []) (seventy_two ∷ [])
    -- not of 01: the refusals of a table that B to I lack
    ∷ refused (set table_a 0 0x48) 2 0
    -- 5: a second node's head; the payload of a select
    ∷ refused (set table_a 12 0x02) 5 30
    ∷ refused (set table_a 22 0x16) 5 24
    -- 6: no function; 17 functions; an input byte; an output entry; a call's payload, with nine arguments
    ∷ refused (set table_a 5 0x00) 6 5
    ∷ refused (set table_a 5 0x11) 6 5
    ∷ refused (set table_a 15 0x04) 6 15
    ∷ refused (set table_a 16 0x04) 6 16
    ∷ refused (set table_calls 56 0x09) 6 54
    ∷ refused table_infinite 7 23
    -- 8: one byte more
    ∷ refused (set table_a 6 0x1F ++ 0x00 ∷ []) 8 30
    -- 9: the second function has the first one's id; the third node the second one's
    ∷ refused (set table_calls 29 0x01) 9 29
    ∷ refused (set table_calls 60 0x07) 9 60
    -- 10: a function calls itself; the last call has no argument
    ∷ refused (set table_calls 54 0x02) 10 50
    ∷ refused (take 67 (set (set table_calls 66 0x00) 6 0x43)) 10 60
    -- not of 01: the compiler's refusals
    ∷ uncompiled table_a 2 1 (replicate 20 7) 14 0
    ∷ uncompiled table_operations 5 1 (replicate 20 7) 15 0
    ∷ uncompiled table_words 4 1 (replicate 20 7) 16 0
    ∷ uncompiled table_a 1 1 (replicate 19 7) 17 0
    -- not of 01: the runner's refusals
    ∷ unrun (set code_a 10 0x04) (three ∷ half ∷ []) (replicate 3 7) (replicate 1 7) 18 0
    ∷ unrun code_a (three ∷ []) (replicate 3 7) (replicate 1 7) 19 0
    ∷ unrun code_a (three ∷ infinite ∷ []) (replicate 3 7) (replicate 1 7) 20 0
    ∷ unrun code_a (three ∷ half ∷ []) (replicate 2 7) (replicate 1 7) 21 0
    ∷ unrun code_a (three ∷ half ∷ []) (replicate 3 7) [] 21 0
    ∷ []

pub settled : Each Holds cases
unfolding verdict table format_of need ◌>>=◌ ◌>>◌ via node_means meaning_of results operations_of result_words_of schedule inlined encode decode guard then execute compiled ran decimal function_line listing Ieee.add Ieee.mul Ieee.of_bits Ieee.to_bits
settled = ((refl, refl), (refl, (refl, (refl, (refl, (refl, (refl, (refl, (refl, (refl, ((refl, refl), ((refl, refl), ((refl, refl), ((refl, refl), (refl, (refl, (refl, (refl, (refl, (refl, (refl, (refl, (refl, (refl, (refl, (refl, (refl, (refl, (refl, (refl, (refl, (refl, (refl, (refl, (refl, (refl, (refl, tt)))))))))))))))))))))))))))))))))))))

-- ---- 02, request 9

abbrev pub version_cases : List Case
version_cases =
    -- A, K and the calls in version 2
    compiles table_a 1 1 2 1 3 code_a2
    ∷ compiles table_k 1 1 2 0 1 (set code_k 3 0x02)
    ∷ compiles table_calls 2 2 2 5 3 code_calls2
    ∷ gives table_a 1 code_a2 (three ∷ half ∷ []) (three_halves ∷ [])
    ∷ gives table_calls 2 code_calls2 (three ∷ []) (seventy_two ∷ [])
    -- what the work buffer then holds: in version 2 the word of x is used again
    ∷ leaves code_calls (three ∷ []) (three ∷ six ∷ twelve ∷ seventy_two ∷ 7 ∷ [])
    ∷ leaves code_calls2 (three ∷ []) (twelve ∷ six ∷ seventy_two ∷ 7 ∷ [])
    -- a word never written stays; all operands are read before the result is written
    ∷ leaves code_apart (three ∷ []) (three ∷ 7 ∷ 7 ∷ six ∷ [])
    ∷ leaves code_over (three ∷ half ∷ three ∷ []) (three ∷ six ∷ one ∷ six ∷ [])
    -- 31: neither 1 nor 2; after 14, before 15 and 16; then 15 and 17 as in version 1
    ∷ uncompiled table_a 1 0 (replicate 22 7) 31 0
    ∷ uncompiled table_a 1 3 (replicate 22 7) 31 0
    ∷ uncompiled table_a 2 3 (replicate 22 7) 14 0
    ∷ uncompiled table_operations 5 3 (replicate 22 7) 31 0
    ∷ uncompiled table_words 4 3 (replicate 22 7) 31 0
    ∷ uncompiled table_operations 5 2 (replicate 22 7) 15 0
    ∷ uncompiled table_a 1 2 (replicate 21 7) 17 0
    -- 18 in version 1: an operand at its own result
    ∷ unrun (set code_a 14 0x02) (three ∷ half ∷ []) (replicate 3 7) (replicate 1 7) 18 0
    -- 18: no such version; in version 2 a word count too high, and too low; an operand not yet written, and never; an output never written
    ∷ unrun (set code_a2 3 0x03) (three ∷ half ∷ []) (replicate 3 7) (replicate 1 7) 18 0
    ∷ unrun (set code_calls2 10 0x04) (three ∷ []) (replicate 4 7) (replicate 1 7) 18 0
    ∷ unrun (set code_calls2 10 0x02) (three ∷ []) (replicate 4 7) (replicate 1 7) 18 0
    ∷ unrun (set code_calls2 16 0x02) (three ∷ []) (replicate 4 7) (replicate 1 7) 18 0
    ∷ unrun (set code_apart 16 0x01) (three ∷ []) (replicate 4 7) (replicate 1 7) 18 0
    ∷ unrun (set code_apart 20 0x02) (three ∷ []) (replicate 4 7) (replicate 1 7) 18 0
    ∷ []

pub settled-versions : Each Holds version_cases
unfolding verdict table format_of need ◌>>=◌ ◌>>◌ via node_means meaning_of results operations_of result_words_of schedule inlined encode decode guard then execute compiled ran Ieee.add Ieee.mul Ieee.of_bits Ieee.to_bits
settled-versions = ((refl, refl), ((refl, refl), ((refl, refl), ((refl, refl), ((refl, refl), (refl, (refl, (refl, (refl, (refl, (refl, (refl, (refl, (refl, (refl, (refl, (refl, (refl, (refl, (refl, (refl, (refl, (refl, tt)))))))))))))))))))))))
