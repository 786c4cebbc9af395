use mathlib.Core.Path.{◌≡◌, refl, ap, subst}
use native.Mathlib.Omega.{arith}
use Rattle.base.specs.Lists.{Each}
use Rattle.value.specs.declared.Value.{Value}
use Rattle.value.specs.Values.{words_of}
use Rattle.value.specs.Typed.{Finite}
use Rattle.value.proofs.Laws.{size}
use Rattle.compiler.proofs.constants.put_constant.Goals as goal

-- ---- needs
-- the words of a value of this variant are finite
variant-finite : {v w : Value} → v ≡ w → Each Finite (words_of v) → Each Finite (words_of w)
variant-finite e h = subst (λ (v : Value). Each Finite (words_of v)) e h

pub put_matrix-requires : goal.put_matrix-requires
put_matrix-requires c =
    let (room, finite) = c.requires in
    (omega (arith, ap size c.in-Matrix.is), variant-finite c.in-Matrix.is finite)

pub returns-in-Vector : goal.returns-in-Vector
returns-in-Vector c =
    rw c.in-Vector.is (c.put_vector.ensures, refl)

pub returns-in-Matrix : goal.returns-in-Matrix
returns-in-Matrix c =
    rw c.in-Matrix.is (c.put_matrix.ensures, refl)
