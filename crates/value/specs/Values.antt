-- Values, their words, and the value that words stand for.
use Rattle.std.specs.Prelude.{ℕ, ◌+◌, ◌*◌, ◌^◌, ◌%◌, Bool, cond, List, [], ◌∷◌, ◌++◌, eqb, ltb, take, drop, Float}
use Rattle.std.specs.Float.Ieee as Ieee
use Rattle.std.specs.Float.{binary64}
use Rattle.ports.specs.Ports.{width}
use Rattle.value.specs.declared.Vec3.{Vec3}
use Rattle.value.specs.declared.Row.{Row}
use Rattle.value.specs.declared.Mat4.{Mat4}
use Rattle.value.specs.declared.Value.{Value}
use Rattle.value.specs.declared.Value.TheVariants.{Scalar, Vector, Matrix}
use Rattle.base.specs.Lists.{word_at}

abbrev pub vec : Float → Float → Float → Vec3
vec a b c = record { x = a; y = b; z = c }

abbrev pub row : Float → Float → Float → Float → Row
row a b c d = record { c0 = a; c1 = b; c2 = c; c3 = d }

abbrev pub mat : Row → Row → Row → Row → Mat4
mat a b c d = record { r0 = a; r1 = b; r2 = c; r3 = d }

-- the type of a value: 1 scalar, 2 vector, 3 matrix
abbrev pub type_of : Value → ℕ
type_of (Scalar a) = 1
type_of (Vector v) = 2
type_of (Matrix m) = 3

-- ---- the words of a value

-- the bits of binary64; a NaN has the bits 7FF8000000000000 hex
abbrev pub word : Float → ℕ
word x = Ieee.to_bits binary64 x

abbrev pub vec_words : Vec3 → List ℕ
vec_words v = word v.x ∷ word v.y ∷ word v.z ∷ []

abbrev pub row_words : Row → List ℕ
row_words r = word r.c0 ∷ word r.c1 ∷ word r.c2 ∷ word r.c3 ∷ []

-- row by row
abbrev pub mat_words : Mat4 → List ℕ
mat_words m = row_words m.r0 ++ row_words m.r1 ++ row_words m.r2 ++ row_words m.r3

abbrev pub words_of : Value → List ℕ
words_of (Scalar a) = word a ∷ []
words_of (Vector v) = vec_words v
words_of (Matrix m) = mat_words m

-- the words of values, one after another
abbrev pub all_words : List Value → List ℕ
all_words [] = []
all_words (v ∷ vs) = words_of v ++ all_words vs

-- ---- the value of a type that stands at an address of a memory of words

abbrev pub float_at : List ℕ → ℕ → Float
float_at m a = Ieee.of_bits binary64 (word_at m a)

abbrev pub vec_at : List ℕ → ℕ → Vec3
vec_at m a = vec (float_at m a) (float_at m (a + 1)) (float_at m (a + 2))

abbrev pub row_at : List ℕ → ℕ → Row
row_at m a = row (float_at m a) (float_at m (a + 1)) (float_at m (a + 2)) (float_at m (a + 3))

abbrev pub mat_at : List ℕ → ℕ → Mat4
mat_at m a = mat (row_at m a) (row_at m (a + 4)) (row_at m (a + 8)) (row_at m (a + 12))

abbrev pub value_at : List ℕ → ℕ → ℕ → Value
value_at m t a = cond (eqb t 1) (Scalar (float_at m a)) (cond (eqb t 2) (Vector (vec_at m a)) (Matrix (mat_at m a)))

-- the value that these words stand for
abbrev pub value_of : ℕ → List ℕ → Value
value_of t ws = value_at ws t 0

-- the values of these types that words stand for, one after another
abbrev pub values_of : List ℕ → List ℕ → List Value
values_of [] ws = []
values_of (t ∷ ts) ws = value_of t (take (width t) ws) ∷ values_of ts (drop (width t) ws)

-- ---- which words may be constants and arguments

-- binary64's bits of a finite value: the exponent's field is not all ones
abbrev pub finite : ℕ → Bool
finite w = ltb (w % 2 ^ 63) (2047 * 2 ^ 52)

abbrev pub constant_word : ℕ → Bool
constant_word = finite

abbrev pub argument_word : ℕ → Bool
argument_word = finite
