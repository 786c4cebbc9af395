-- Operands, and the steps on them, are floats that binary64 holds.
use Prim.Native.Nat.{ℕ, zero, suc}
use mathlib.Core.Path.{◌≡◌, refl, ◌∙◌}
use mathlib.Core.List.{List, [], ◌∷◌}
use lib.Ieee as Ieee
use lib.Ieee.{Float, nan, inf, fin, binary64}
use lib.Ieee.Fits.{cond-fits, add-fits, sub-fits, mul-fits, div-fits, rem-fits}
use Rattle.value.specs.declared.Vec3.{Vec3}
use Rattle.value.specs.declared.Row.{Row}
use Rattle.value.specs.declared.Mat4.{Mat4}
use Rattle.value.specs.declared.Value.{Value}
use Rattle.value.specs.declared.Value.TheVariants.{Scalar, Vector, Matrix}
use Rattle.value.specs.declared.Operator.{Operator}
use Rattle.value.specs.declared.Operator.TheVariants.{Add, Subtract, Multiply, Divide, Minimum, Maximum, Absolute, Remainder, Select, Clamp}
use Rattle.value.specs.Values.{vec, row, type_of}
use Rattle.value.specs.Steps.{zero64, one64, scalar, vector, matrix, Step, step_of, components, absolute}
use Rattle.value.specs.Results.{operand, componentwise}
use Rattle.value.specs.Typed.{Held, RowHeld, VecHeld, MatHeld, ValueHeld, Typed}

pub zero_held : Held zero64
unfolding Ieee.fits
zero_held = tt

pub one-held : Held one64
unfolding Ieee.fits
one-held = tt

absolute-held : (x : Float) → Held x → Held (absolute x)
unfolding Ieee.fits absolute
absolute-held nan h = h
absolute-held (inf s) h = h
absolute-held (fin s m e) h = h

pub scalar-held : (v : Value) → ValueHeld v → Held (scalar v)
scalar-held (Scalar a) h = h
scalar-held (Vector v) h = zero_held
scalar-held (Matrix m) h = zero_held

pub vector-held : (v : Value) → ValueHeld v → VecHeld (vector v)
vector-held (Scalar a) h = (zero_held, zero_held, zero_held)
vector-held (Vector v) h = h
vector-held (Matrix m) h = (zero_held, zero_held, zero_held)

zeros : RowHeld (row zero64 zero64 zero64 zero64)
zeros = (zero_held, zero_held, zero_held, zero_held)

pub matrix-held : (v : Value) → ValueHeld v → MatHeld (matrix v)
matrix-held (Scalar a) h = (zeros, zeros, zeros, zeros)
matrix-held (Vector v) h = (zeros, zeros, zeros, zeros)
matrix-held (Matrix m) h = h

-- ---- operands

pub operand-held : (ts : List ℕ) (vs : List Value) → Typed ts vs → (i : ℕ) → ValueHeld (operand vs i)
operand-held [] [] h i = zero_held
operand-held [] (v ∷ vs) h i = absurd h
operand-held (t ∷ ts) [] h i = absurd h
operand-held (t ∷ ts) (v ∷ vs) (o, h) zero = o.held
operand-held (t ∷ ts) (v ∷ vs) (o, h) (suc i) = operand-held ts vs h i

first-type : (t : ℕ) (ts : List ℕ) (vs : List Value) → Typed (t ∷ ts) vs → type_of (operand vs 0) ≡ t
first-type t ts [] h = absurd h
first-type t ts (v ∷ vs) (o, h) = o.type

-- a step that gives what binary64 holds
abbrev Keeps : Step → Type 0
Keeps g = (a b c d : Float) → Held a → Held b → Held c → Held d → Held (g a b c d)

components-type : (g : Step) (p q r s : Value) → type_of (components g p q r s) ≡ type_of p
components-type g (Scalar a) q r s = refl
components-type g (Vector a) q r s = refl
components-type g (Matrix a) q r s = refl

module _ (g : Step) (k : Keeps g) where
  vec-keeps : (a b c d : Vec3) → VecHeld a → VecHeld b → VecHeld c → VecHeld d
      → VecHeld (vec (g a.x b.x c.x d.x) (g a.y b.y c.y d.y) (g a.z b.z c.z d.z))
  vec-keeps a b c d (p, q, r) (p1, q1, r1) (p2, q2, r2) (p3, q3, r3) =
      (k _ _ _ _ p p1 p2 p3, k _ _ _ _ q q1 q2 q3, k _ _ _ _ r r1 r2 r3)

  row_keeps : (a b c d : Row) → RowHeld a → RowHeld b → RowHeld c → RowHeld d
      → RowHeld (row (g a.c0 b.c0 c.c0 d.c0) (g a.c1 b.c1 c.c1 d.c1) (g a.c2 b.c2 c.c2 d.c2) (g a.c3 b.c3 c.c3 d.c3))
  row_keeps a b c d (p, q, r, s) (p1, q1, r1, s1) (p2, q2, r2, s2) (p3, q3, r3, s3) =
      (k _ _ _ _ p p1 p2 p3, k _ _ _ _ q q1 q2 q3, k _ _ _ _ r r1 r2 r3, k _ _ _ _ s s1 s2 s3)

  mat-keeps : (v : Mat4) (b c d : Value) → MatHeld v → ValueHeld b → ValueHeld c → ValueHeld d → ValueHeld (components g (Matrix v) b c d)
  mat-keeps v b c d (p, q, r, s) hb hc hd =
      let (p1, q1, r1, s1) = matrix-held b hb in
      let (p2, q2, r2, s2) = matrix-held c hc in
      let (p3, q3, r3, s3) = matrix-held d hd in
      (row_keeps _ _ _ _ p p1 p2 p3, row_keeps _ _ _ _ q q1 q2 q3, row_keeps _ _ _ _ r r1 r2 r3, row_keeps _ _ _ _ s s1 s2 s3)

  components-held : (a b c d : Value) → ValueHeld a → ValueHeld b → ValueHeld c → ValueHeld d → ValueHeld (components g a b c d)
  components-held (Scalar a) b c d ha hb hc hd = k _ _ _ _ ha (scalar-held b hb) (scalar-held c hc) (scalar-held d hd)
  components-held (Vector a) b c d ha hb hc hd = vec-keeps _ _ _ _ ha (vector-held b hb) (vector-held c hc) (vector-held d hd)
  components-held (Matrix a) b c d ha hb hc hd = mat-keeps a b c d ha hb hc hd

-- each step gives what binary64 holds
keeps : (o : Operator) → Keeps (step_of o)
keeps Add a b c d ha hb hc hd = add-fits binary64 a b
keeps Subtract a b c d ha hb hc hd = sub-fits binary64 a b
keeps Multiply a b c d ha hb hc hd = mul-fits binary64 a b
keeps Divide a b c d ha hb hc hd = div-fits binary64 a b
keeps Minimum a b c d ha hb hc hd = cond-fits binary64 (Ieee.lt a b) a b ha hb
keeps Maximum a b c d ha hb hc hd = cond-fits binary64 (Ieee.lt b a) a b ha hb
keeps Absolute a b c d ha hb hc hd = absolute-held a ha
keeps Remainder a b c d ha hb hc hd = rem-fits binary64 a b ha
keeps Select a b c d ha hb hc hd = cond-fits binary64 (Ieee.lt a b) c d hc hd
keeps Clamp a lo hi d ha hl hh hd = cond-fits binary64 (Ieee.lt a lo) lo _ hl (cond-fits binary64 (Ieee.lt hi a) hi a hh ha)

pub each_typed : (o : Operator) (t : ℕ) (ts : List ℕ) (vs : List Value) → Typed (t ∷ ts) vs → Typed (t ∷ []) (componentwise o vs ∷ [])
each_typed o t ts vs h =
    let at = operand-held (t ∷ ts) vs h in
    (record { type = components-type (step_of o) (operand vs 0) (operand vs 1) (operand vs 2) (operand vs 3) ∙ first-type t ts vs h; held = components-held (step_of o) (keeps o) (operand vs 0) (operand vs 1) (operand vs 2) (operand vs 3) (at 0) (at 1) (at 2) (at 3) }, tt)
