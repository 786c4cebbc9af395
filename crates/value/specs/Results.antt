-- What each kind gives at its ports, of its constant's words and its operands.
use Rattle.std.specs.Prelude.{ℕ, List, [], ◌∷◌, get_or, Float}
use Rattle.ports.specs.Kinds.{Kind, unknown, addition, subtraction, multiplication, division, constant, constvec, constmat, composevector, vectorfromscalar, decomposevector, composematrix, matrixfromcolumns, matrixfromrows, dot, cross, matvecmultiplication, transpose, min, max, abs, fmod, select, clamp, call}
use Rattle.value.specs.declared.Vec3.{Vec3}
use Rattle.value.specs.declared.Row.{Row}
use Rattle.value.specs.declared.Mat4.{Mat4}
use Rattle.value.specs.declared.Value.{Value}
use Rattle.value.specs.declared.Value.TheVariants.{Scalar, Vector, Matrix}
use Rattle.value.specs.declared.Operator.{Operator}
use Rattle.value.specs.declared.Operator.TheVariants.{Add, Subtract, Multiply, Divide, Minimum, Maximum, Absolute, Remainder, Select, Clamp}
use Rattle.value.specs.Values.{vec, row, mat, value_of}
use Rattle.value.specs.Steps.{zero64, scalar, vector, matrix, step_of, components, dot_product, cross_product, matrix_times, from_columns, from_rows, transposed}

abbrev pub operand : List Value → ℕ → Value
operand vs i = get_or vs i (Scalar zero64)

abbrev pub scalar_of : List Value → ℕ → Float
scalar_of vs i = scalar (operand vs i)

abbrev pub vector_of : List Value → ℕ → Vec3
vector_of vs i = vector (operand vs i)

abbrev pub matrix_of : List Value → ℕ → Mat4
matrix_of vs i = matrix (operand vs i)

abbrev pub scalar_row : List Value → ℕ → ℕ → ℕ → ℕ → Row
scalar_row vs i j k l = row (scalar_of vs i) (scalar_of vs j) (scalar_of vs k) (scalar_of vs l)

-- m00 to m33, row by row
abbrev pub composed : List Value → Mat4
composed vs = mat (scalar_row vs 0 1 2 3) (scalar_row vs 4 5 6 7) (scalar_row vs 8 9 10 11) (scalar_row vs 12 13 14 15)

-- component by component
abbrev pub componentwise : Operator → List Value → Value
componentwise o vs = components (step_of o) (operand vs 0) (operand vs 1) (operand vs 2) (operand vs 3)

unfoldable pub results : Kind → List ℕ → List Value → List Value
results unknown ws vs = []
results addition ws vs = componentwise Add vs ∷ []
results subtraction ws vs = componentwise Subtract vs ∷ []
results multiplication ws vs = componentwise Multiply vs ∷ []
results division ws vs = componentwise Divide vs ∷ []
results constant ws vs = value_of 1 ws ∷ []
results constvec ws vs = value_of 2 ws ∷ []
results constmat ws vs = value_of 3 ws ∷ []
results composevector ws vs = Vector (vec (scalar_of vs 0) (scalar_of vs 1) (scalar_of vs 2)) ∷ []
results vectorfromscalar ws vs = Vector (vec (scalar_of vs 0) (scalar_of vs 0) (scalar_of vs 0)) ∷ []
results decomposevector ws vs = Scalar (vector_of vs 0).x ∷ Scalar (vector_of vs 0).y ∷ Scalar (vector_of vs 0).z ∷ []
results composematrix ws vs = Matrix (composed vs) ∷ []
results matrixfromcolumns ws vs = Matrix (from_columns (vector_of vs 0) (vector_of vs 1) (vector_of vs 2) (vector_of vs 3)) ∷ []
results matrixfromrows ws vs = Matrix (from_rows (vector_of vs 0) (vector_of vs 1) (vector_of vs 2) (vector_of vs 3)) ∷ []
results dot ws vs = Scalar (dot_product (vector_of vs 0) (vector_of vs 1)) ∷ []
results cross ws vs = Vector (cross_product (vector_of vs 0) (vector_of vs 1)) ∷ []
results matvecmultiplication ws vs = Vector (matrix_times (matrix_of vs 0) (vector_of vs 1)) ∷ []
results transpose ws vs = Matrix (transposed (matrix_of vs 0)) ∷ []
results min ws vs = componentwise Minimum vs ∷ []
results max ws vs = componentwise Maximum vs ∷ []
results abs ws vs = componentwise Absolute vs ∷ []
results fmod ws vs = componentwise Remainder vs ∷ []
results select ws vs = componentwise Select vs ∷ []
results clamp ws vs = componentwise Clamp vs ∷ []
results call ws vs = []
