-- Lists that a router may propose, judged: as one table, with the lists of two functions. Not of 01: a function with a constant and two outputs.
use Rattle.std.specs.Prelude.{ℕ, ◌≡◌, refl, List, [], ◌∷◌, ◌++◌, set, take, drop}
use Rattle.base.specs.Lists.{Each}
use Rattle.base.specs.Outcome.{Outcome, ok, fault, ◌>>=◌, ◌>>◌, need}
use Rattle.graph.specs.Format.{format_of}
use Rattle.graph.specs.Judge.{table, verdict}
use Rattle.graph.specs.Loops.{via}
use Rattle.graph.specs.Schedule.{schedule}
use Rattle.graph.specs.Sums.{operations_of, result_words_of}
use Rattle.bytecode.specs.Code.{encode, decode, guard, then}
use Rattle.lowering.specs.Compile.{inlined}
use Rattle.lowering.specs.Cases as lowering
use Rattle.lowering.specs.Cases.{table_operations, table_words}
use Rattle.reordering.specs.Cases.{table_fork, code_fork, code_routed}
use Rattle.acceptance.specs.Answers.{judged_placement}

-- ---- request 10's function: twice x less the square of y

-- in version 2: the double on word 2, the square on that of x, the difference on that of y
abbrev pub code_fork2 : List ℕ
code_fork2 = 0x49 ∷ 0x46 ∷ 0x52 ∷ 0x02 ∷ 0x00 ∷ 0x02 ∷ 0x01 ∷ 0x00 ∷ 0x03 ∷ 0x00 ∷ 0x03 ∷ 0x00 ∷ 0x01 ∷ 0x01 ∷ 0x02 ∷ 0x00 ∷ 0x00 ∷ 0x00 ∷ 0x00 ∷ 0x00 ∷ 0x03 ∷ 0x01 ∷ 0x00 ∷ 0x00 ∷ 0x01 ∷ 0x00 ∷ 0x01 ∷ 0x00 ∷ 0x02 ∷ 0x01 ∷ 0x01 ∷ 0x00 ∷ 0x02 ∷ 0x00 ∷ 0x00 ∷ 0x00 ∷ 0x01 ∷ 0x00 ∷ []

-- a router's: the square first, on word 2, then the double on the word of y, and the difference on that of x
abbrev pub code_other : List ℕ
code_other = 0x49 ∷ 0x46 ∷ 0x52 ∷ 0x02 ∷ 0x00 ∷ 0x02 ∷ 0x01 ∷ 0x00 ∷ 0x03 ∷ 0x00 ∷ 0x03 ∷ 0x00 ∷ 0x03 ∷ 0x01 ∷ 0x02 ∷ 0x00 ∷ 0x01 ∷ 0x00 ∷ 0x01 ∷ 0x00 ∷ 0x01 ∷ 0x01 ∷ 0x01 ∷ 0x00 ∷ 0x00 ∷ 0x00 ∷ 0x00 ∷ 0x00 ∷ 0x02 ∷ 0x01 ∷ 0x00 ∷ 0x00 ∷ 0x01 ∷ 0x00 ∷ 0x02 ∷ 0x00 ∷ 0x00 ∷ 0x00 ∷ []

-- ---- a function with a constant and two outputs: the half of x, and x less its half

abbrev pub table_half : List ℕ
table_half = 0x49 ∷ 0x46 ∷ 0x47 ∷ 0x01 ∷ 0x00 ∷ 0x01 ∷ 0x37 ∷ 0x00 ∷ 0x01 ∷ 0x00 ∷ 0x01 ∷ 0x02 ∷ 0x03 ∷ 0x00 ∷ 0x01 ∷ 0x01 ∷ 0x02 ∷ 0x00 ∷ 0x00 ∷ 0x01 ∷ 0x03 ∷ 0x00 ∷ 0x00 ∷ 0x01 ∷ 0x00 ∷ 0x05 ∷ 0x00 ∷ 0x00 ∷ 0x00 ∷ 0x00 ∷ 0x00 ∷ 0x00 ∷ 0x00 ∷ 0xE0 ∷ 0x3F ∷ 0x02 ∷ 0x00 ∷ 0x03 ∷ 0x01 ∷ 0x00 ∷ 0x00 ∷ 0x00 ∷ 0x01 ∷ 0x00 ∷ 0x00 ∷ 0x03 ∷ 0x00 ∷ 0x02 ∷ 0x01 ∷ 0x00 ∷ 0x00 ∷ 0x00 ∷ 0x02 ∷ 0x00 ∷ 0x00 ∷ []

-- in version 2: the constant on word 1, the half on word 2, the difference on the constant's word
abbrev pub code_half2 : List ℕ
code_half2 = 0x49 ∷ 0x46 ∷ 0x52 ∷ 0x02 ∷ 0x00 ∷ 0x01 ∷ 0x02 ∷ 0x00 ∷ 0x03 ∷ 0x00 ∷ 0x03 ∷ 0x00 ∷ 0x05 ∷ 0x00 ∷ 0x01 ∷ 0x00 ∷ 0x00 ∷ 0x00 ∷ 0x00 ∷ 0x00 ∷ 0x00 ∷ 0x00 ∷ 0xE0 ∷ 0x3F ∷ 0x03 ∷ 0x01 ∷ 0x02 ∷ 0x00 ∷ 0x00 ∷ 0x00 ∷ 0x01 ∷ 0x00 ∷ 0x02 ∷ 0x01 ∷ 0x01 ∷ 0x00 ∷ 0x00 ∷ 0x00 ∷ 0x02 ∷ 0x00 ∷ 0x02 ∷ 0x00 ∷ 0x01 ∷ 0x00 ∷ []

-- both tables are accepted, and these are their lists of version 2
pub settled-lists : Each lowering.Holds (lowering.compiles table_fork 1 1 2 3 3 code_fork2 ∷ lowering.compiles table_half 1 1 2 3 3 code_half2 ∷ [])
unfolding verdict table format_of need ◌>>=◌ ◌>>◌ via operations_of result_words_of schedule inlined encode
settled-lists = ((refl, refl), ((refl, refl), tt))

-- ---- rows

pub record Case : Type 0 where
  pub bytes : List ℕ
  pub id : ℕ
  pub code : List ℕ
  pub numbers : List ℕ
  pub answer : Outcome ℕ

abbrev pub judges : List ℕ → ℕ → List ℕ → List ℕ → Outcome ℕ → Case
judges bytes id code numbers answer = record { bytes = bytes; id = id; code = code; numbers = numbers; answer = answer }

-- lists for the two functions
abbrev pub fork : List ℕ → List ℕ → Outcome ℕ → Case
fork = judges table_fork 1

abbrev pub halved : List ℕ → List ℕ → Outcome ℕ → Case
halved = judges table_half 1

abbrev pub Holds : Case → Type 0
Holds x = judged_placement x.bytes x.id x.code x.numbers ≡ x.answer

abbrev pub cases : List Case
cases =
    -- our own lists
    fork code_fork2 (0 ∷ 1 ∷ 2 ∷ []) (ok 3)
    ∷ halved code_half2 (0 ∷ 1 ∷ 2 ∷ []) (ok 3)
    -- request 10's, with words of its own for each value
    ∷ fork code_routed (1 ∷ 0 ∷ 2 ∷ []) (ok 3)
    -- neither: another order, with other words used again
    ∷ fork code_other (1 ∷ 0 ∷ 2 ∷ []) (ok 3)
    -- the table's refusal stands before 14 and 18; then 14, 15 and 16 before 18, with version 1's counts
    ∷ judges (set table_fork 3 0x02) 2 [] [] (fault 3 3)
    ∷ judges table_fork 2 [] [] (fault 14 0)
    ∷ judges table_operations 5 [] [] (fault 15 0)
    ∷ judges table_words 4 [] [] (fault 16 0)
    -- 18 before 33: no code; an operand that nothing has written; version 1's own list, and it with another version byte
    ∷ fork [] [] (fault 18 0)
    ∷ fork (set code_fork2 16 0x02) (0 ∷ []) (fault 18 0)
    ∷ fork code_fork (0 ∷ 1 ∷ 2 ∷ []) (fault 18 0)
    ∷ fork (set code_fork 3 0x02) (0 ∷ 1 ∷ 2 ∷ []) (fault 18 0)
    -- 33 before 29: a number too few, and the second at fault too; one too many; an argument word more; an output word more
    ∷ fork code_fork2 (0 ∷ 0 ∷ []) (fault 33 0)
    ∷ fork code_fork2 (0 ∷ 1 ∷ 2 ∷ 3 ∷ []) (fault 33 0)
    ∷ fork (set code_fork2 5 0x03) (0 ∷ 1 ∷ 2 ∷ []) (fault 33 0)
    ∷ fork (set code_fork2 6 0x02 ++ 0x00 ∷ 0x00 ∷ []) (0 ∷ 1 ∷ 2 ∷ []) (fault 33 0)
    -- no difference, with its number and without
    ∷ fork (set (take 28 code_fork2 ++ drop 36 code_fork2) 8 0x02) (0 ∷ 1 ∷ 2 ∷ []) (fault 33 0)
    ∷ fork (set (take 28 code_fork2 ++ drop 36 code_fork2) 8 0x02) (0 ∷ 1 ∷ []) (fault 33 0)
    -- 29: the double in the square's place too, each time with its number: at the later
    ∷ fork (set (set (set code_fork2 20 0x01) 24 0x00) 26 0x00) (0 ∷ 0 ∷ 2 ∷ []) (fault 29 1)
    -- a number that version 1 does not have
    ∷ fork code_fork2 (0 ∷ 1 ∷ 3 ∷ []) (fault 29 2)
    -- another kind; another type byte, with three words for the double; another constant
    ∷ fork (set code_fork2 12 0x03) (0 ∷ 1 ∷ 2 ∷ []) (fault 29 0)
    ∷ fork (set (set code_other 10 0x04) 21 0x02) (1 ∷ 0 ∷ 2 ∷ []) (fault 29 1)
    ∷ halved (set code_half2 22 0xD0) (0 ∷ 1 ∷ 2 ∷ []) (fault 29 0)
    -- an operand of another origin: x times y for the square of y
    ∷ fork (set code_fork2 24 0x00) (0 ∷ 1 ∷ 2 ∷ []) (fault 29 1)
    -- the double on the word of y, which the square reads only then, at the address that y had
    ∷ fork (set (set (set code_fork2 10 0x02) 14 0x01) 32 0x01) (0 ∷ 1 ∷ 2 ∷ []) (fault 29 1)
    -- the half on the word of x, since it has read x, though the difference reads x too, at the address that x had
    ∷ halved (set (set (set (set code_half2 10 0x02) 26 0x00) 38 0x00) 40 0x00) (0 ∷ 1 ∷ 2 ∷ []) (fault 29 2)
    -- two other kinds: at the first
    ∷ fork (set (set code_fork2 20 0x01) 28 0x01) (0 ∷ 1 ∷ 2 ∷ []) (fault 29 1)
    -- only an output: the square for the difference; the outputs exchanged; the difference on the word of the half, which is an output
    ∷ fork (set code_fork2 36 0x00) (0 ∷ 1 ∷ 2 ∷ []) (fault 29 3)
    ∷ halved (set (set code_half2 40 0x01) 42 0x02) (0 ∷ 1 ∷ 2 ∷ []) (fault 29 3)
    ∷ halved (set (set code_half2 34 0x02) 42 0x02) (0 ∷ 1 ∷ 2 ∷ []) (fault 29 3)
    ∷ []

pub settled : Each Holds cases
unfolding judged_placement table format_of need ◌>>=◌ ◌>>◌ via operations_of result_words_of schedule inlined decode guard then
settled = (refl, (refl, (refl, (refl, (refl, (refl, (refl, (refl, (refl, (refl, (refl, (refl, (refl, (refl, (refl, (refl, (refl, (refl, (refl, (refl, (refl, (refl, (refl, (refl, (refl, (refl, (refl, (refl, (refl, (refl, tt))))))))))))))))))))))))))))))
