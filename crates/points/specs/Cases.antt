-- Points of 01's code A and of version 2 codes, as one table.
use Rattle.std.specs.Prelude.{ℕ, ◌≡◌, refl, List, [], ◌∷◌, set, replicate}
use Rattle.std.specs.Float.Ieee as Ieee
use Rattle.base.specs.Lists.{Each}
use Rattle.base.specs.Outcome.{Outcome, ok, fault, ◌>>=◌, ◌>>◌, need}
use Rattle.value.specs.Results.{results}
use Rattle.bytecode.specs.Run.{execute}
use Rattle.bytecode.specs.Code.{decode, guard, then}
use Rattle.bytecode.specs.Answers.{Buffers, ran}
use Rattle.lowering.specs.Cases.{code_a, code_a2, code_calls2, three, half, three_halves, one, seventy_two}
use Rattle.points.specs.Points.{one_by_one, ran_points}

abbrev pub quarter : ℕ
quarter = 0x3FD0_0000_0000_0000

abbrev two : ℕ
two = 0x4000_0000_0000_0000

abbrev infinite : ℕ
infinite = 0x7FF0_0000_0000_0000

pub record Case : Type 0 where
  pub code : List ℕ
  pub points : ℕ
  pub arguments : List ℕ
  pub work : List ℕ
  pub out : List ℕ
  pub answer : Outcome Buffers

-- where both buffers held nothing but 7
abbrev pub given : List ℕ → ℕ → List ℕ → ℕ → ℕ → Outcome Buffers → Case
given code points arguments work out answer =
    record { code = code; points = points; arguments = arguments; work = replicate work 7; out = replicate out 7; answer = answer }

abbrev pub Holds : Case → Type 0
Holds x = ran_points x.code x.points x.arguments x.work x.out ≡ x.answer

abbrev pub cases : List Case
cases =
    -- 3 times 0.5, then 0.5 times 0.5; the work buffer is as the last point left it
    given code_a 2 (three ∷ half ∷ half ∷ half ∷ []) 4 3
    (ok (record { count = 2; work = half ∷ half ∷ quarter ∷ 7 ∷ []; out = three_halves ∷ quarter ∷ 7 ∷ [] }))
    -- in version 2 too
    ∷ given code_a2 2 (three ∷ half ∷ half ∷ half ∷ []) 4 3
    (ok (record { count = 2; work = half ∷ half ∷ quarter ∷ 7 ∷ []; out = three_halves ∷ quarter ∷ 7 ∷ [] }))
    -- where words are used again
    ∷ given code_calls2 2 (three ∷ half ∷ []) 4 3 (ok (record { count = 2; work = two ∷ one ∷ two ∷ 7 ∷ []; out = seventy_two ∷ two ∷ 7 ∷ [] }))
    -- no points write nothing, and need no output word
    ∷ given code_a 0 [] 3 0 (ok (record { count = 0; work = replicate 3 7; out = [] }))
    -- 18 stays first, then 22, 19, 20
    ∷ given (set code_a 10 0x04) 1025 [] 0 0 (fault 18 0)
    ∷ given (set code_calls2 16 0x02) 1025 [] 0 0 (fault 18 0)
    ∷ given code_a 1025 [] 0 0 (fault 22 0)
    ∷ given code_a 2 (three ∷ half ∷ infinite ∷ []) 0 0 (fault 19 0)
    ∷ given code_a 2 (three ∷ half ∷ half ∷ infinite ∷ []) 0 0 (fault 20 0)
    -- 21 for the work buffer, for no points too, and for the output buffer
    ∷ given code_a 0 [] 2 0 (fault 21 0)
    ∷ given code_a 2 (three ∷ half ∷ half ∷ half ∷ []) 3 1 (fault 21 0)
    ∷ []

pub settled : Each Holds cases
unfolding one_by_one ran_points need ◌>>=◌ ◌>>◌ results decode guard then execute ran Ieee.add Ieee.mul Ieee.of_bits Ieee.to_bits
settled = (refl, (refl, (refl, (refl, (refl, (refl, (refl, (refl, (refl, (refl, (refl, tt)))))))))))
