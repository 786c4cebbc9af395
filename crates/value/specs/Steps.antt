-- The arithmetic: steps on floats, each rounded once, and what is made of them in the order written.
use Rattle.std.specs.Prelude.{ℕ, false, cond, pos, Float}
use Rattle.std.specs.Float.Ieee as Ieee
use Rattle.std.specs.Float.{nan, inf, fin, binary64}
use Rattle.value.specs.declared.Vec3.{Vec3}
use Rattle.value.specs.declared.Row.{Row}
use Rattle.value.specs.declared.Mat4.{Mat4}
use Rattle.value.specs.declared.Value.{Value}
use Rattle.value.specs.declared.Value.TheVariants.{Scalar, Vector, Matrix}
use Rattle.value.specs.declared.Operator.{Operator}
use Rattle.value.specs.declared.Operator.TheVariants.{Add, Subtract, Multiply, Divide, Minimum, Maximum, Absolute, Remainder, Select, Clamp}
use Rattle.value.specs.Values.{vec, row, mat}

-- ---- component steps, one for each kind with T

abbrev pub add : Float → Float → Float
add = Ieee.add binary64

abbrev pub subtract : Float → Float → Float
subtract = Ieee.sub binary64

abbrev pub multiply : Float → Float → Float
multiply = Ieee.mul binary64

abbrev pub divide : Float → Float → Float
divide = Ieee.div binary64

-- C's fmod
abbrev pub remainder : Float → Float → Float
remainder = Ieee.rem binary64

-- the sign is cleared
unfoldable pub absolute : Float → Float
absolute nan = nan
absolute (inf s) = inf false
absolute (fin s m e) = fin false m e

-- a if a < b, otherwise b
abbrev pub minimum : Float → Float → Float
minimum a b = cond (Ieee.lt a b) a b

-- a if a > b, otherwise b
abbrev pub maximum : Float → Float → Float
maximum a b = cond (Ieee.lt b a) a b

-- c if a < b, otherwise d
abbrev pub selected : Float → Float → Float → Float → Float
selected a b c d = cond (Ieee.lt a b) c d

-- lo if a < lo; otherwise hi if hi < a; otherwise a
abbrev pub clamped : Float → Float → Float → Float
clamped a lo hi = cond (Ieee.lt a lo) lo (cond (Ieee.lt hi a) hi a)

-- a step on up to four operands
abbrev pub Step : Type 0
Step = Float → Float → Float → Float → Float

abbrev pub step_of : Operator → Step
step_of Add a b c d = add a b
step_of Subtract a b c d = subtract a b
step_of Multiply a b c d = multiply a b
step_of Divide a b c d = divide a b
step_of Minimum a b c d = minimum a b
step_of Maximum a b c d = maximum a b
step_of Absolute a b c d = absolute a
step_of Remainder a b c d = remainder a b
step_of Select a b c d = selected a b c d
step_of Clamp a b c d = clamped a b c

-- the operands that it reads
abbrev pub operands_of : Operator → ℕ
operands_of Add = 2
operands_of Subtract = 2
operands_of Multiply = 2
operands_of Divide = 2
operands_of Minimum = 2
operands_of Maximum = 2
operands_of Absolute = 1
operands_of Remainder = 2
operands_of Select = 4
operands_of Clamp = 3

-- ---- a value as a scalar, a vector, a matrix; zeros where it is of another type, which is never asked of an accepted table

abbrev pub zero64 : Float
zero64 = fin false 0 (pos 0)

abbrev pub one64 : Float
one64 = fin false 1 (pos 0)

abbrev pub zero_vec : Vec3
zero_vec = vec zero64 zero64 zero64

abbrev pub zero_row : Row
zero_row = row zero64 zero64 zero64 zero64

abbrev pub zero_mat : Mat4
zero_mat = mat zero_row zero_row zero_row zero_row

abbrev pub scalar : Value → Float
scalar (Scalar a) = a
scalar (Vector v) = zero64
scalar (Matrix m) = zero64

abbrev pub vector : Value → Vec3
vector (Scalar a) = zero_vec
vector (Vector v) = v
vector (Matrix m) = zero_vec

abbrev pub matrix : Value → Mat4
matrix (Scalar a) = zero_mat
matrix (Vector v) = zero_mat
matrix (Matrix m) = m

-- ---- component by component, on up to four values of one type

abbrev pub each_float : Step → Float → Float → Float → Float → Float
each_float g a b c d = g a b c d

abbrev pub each_vec : Step → Vec3 → Vec3 → Vec3 → Vec3 → Vec3
each_vec g a b c d = vec (g a.x b.x c.x d.x) (g a.y b.y c.y d.y) (g a.z b.z c.z d.z)

abbrev pub each_row : Step → Row → Row → Row → Row → Row
each_row g p q r s =
    row (g p.c0 q.c0 r.c0 s.c0) (g p.c1 q.c1 r.c1 s.c1) (g p.c2 q.c2 r.c2 s.c2)
    (g p.c3 q.c3 r.c3 s.c3)

abbrev pub each_mat : Step → Mat4 → Mat4 → Mat4 → Mat4 → Mat4
each_mat g p q r s =
    mat (each_row g p.r0 q.r0 r.r0 s.r0) (each_row g p.r1 q.r1 r.r1 s.r1) (each_row g p.r2 q.r2 r.r2 s.r2)
    (each_row g p.r3 q.r3 r.r3 s.r3)

-- of the first operand's type
abbrev pub components : Step → Value → Value → Value → Value → Value
components g (Scalar a) b c d = Scalar (g a (scalar b) (scalar c) (scalar d))
components g (Vector a) b c d = Vector (each_vec g a (vector b) (vector c) (vector d))
components g (Matrix a) b c d = Matrix (each_mat g a (matrix b) (matrix c) (matrix d))

-- ---- products

-- (ax bx + ay by) + az bz
abbrev pub dot_product : Vec3 → Vec3 → Float
dot_product a b = add (add (multiply a.x b.x) (multiply a.y b.y)) (multiply a.z b.z)

-- p q - r s
abbrev pub minor : Float → Float → Float → Float → Float
minor p q r s = subtract (multiply p q) (multiply r s)

-- ay bz - az by, az bx - ax bz, ax by - ay bx
abbrev pub cross_product : Vec3 → Vec3 → Vec3
cross_product a b = vec (minor a.y b.z a.z b.y) (minor a.z b.x a.x b.z) (minor a.x b.y a.y b.x)

-- ((m0 x + m1 y) + m2 z) + m3
abbrev pub row_times : Row → Vec3 → Float
row_times r v = add (add (add (multiply r.c0 v.x) (multiply r.c1 v.y)) (multiply r.c2 v.z)) r.c3

-- the rows 0, 1 and 2
abbrev pub matrix_times : Mat4 → Vec3 → Vec3
matrix_times m v = vec (row_times m.r0 v) (row_times m.r1 v) (row_times m.r2 v)

-- ---- matrices of parts

-- a to d are the columns, and the fourth row is 0, 0, 0, 1
abbrev pub from_columns : Vec3 → Vec3 → Vec3 → Vec3 → Mat4
from_columns a b c d =
    mat (row a.x b.x c.x d.x) (row a.y b.y c.y d.y) (row a.z b.z c.z d.z) (row zero64 zero64 zero64 one64)

-- a to d are the rows, and the fourth column is 0, 0, 0, 1
abbrev pub from_rows : Vec3 → Vec3 → Vec3 → Vec3 → Mat4
from_rows a b c d =
    mat (row a.x a.y a.z zero64) (row b.x b.y b.z zero64) (row c.x c.y c.z zero64) (row d.x d.y d.z one64)

abbrev pub transposed : Mat4 → Mat4
transposed m =
    mat (row m.r0.c0 m.r1.c0 m.r2.c0 m.r3.c0) (row m.r0.c1 m.r1.c1 m.r2.c1 m.r3.c1)
    (row m.r0.c2 m.r1.c2 m.r2.c2 m.r3.c2) (row m.r0.c3 m.r1.c3 m.r2.c3 m.r3.c3)
