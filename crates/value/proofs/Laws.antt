-- Values are of their types, and their words stand for them.
use Prim.Native.Nat.{ℕ, suc, ◌*◌, ◌^◌, ◌%◌, ◌<◌}
use mathlib.Core.Path.{◌≡◌, refl, ap, ap₂, sym, ◌∙◌, subst}
use mathlib.Core.Logic.{◌⊎◌, inl, inr}
use mathlib.Core.Bool.{Bool, true, false, not}
use mathlib.Core.List.{List, [], ◌∷◌, ◌++◌, map}
use native.Mathlib.Omega.{arith}
use lib.Dec.{T, eqb}
use lib.ListN.{length, take, drop, length-append, length-drop, take-append-drop}
use lib.Seq.{length-take-le}
use borrow.Author.Tests.{ltb-true, le-ltb, eqb-true, eqb-false, ne_eqb}
use lib.Ieee as Ieee
use lib.Ieee.{Float, binary64}
use lib.Ieee.Bits.{of_bits-to_bits, of_bits-fits, to_bits-of_bits, nan_bits_is, nan_bits_above}
use lib.Ieee.Fits.{add-fits, sub-fits}
use Rattle.ports.specs.Kinds.{Kind, unknown, addition, subtraction, multiplication, division, constant, constvec, constmat, composevector, vectorfromscalar, decomposevector, composematrix, matrixfromcolumns, matrixfromrows, dot, cross, matvecmultiplication, transpose, min, max, abs, fmod, select, clamp, call}
use Rattle.ports.specs.Ports.{width, widths, takes, gives}
use Rattle.value.specs.declared.Row.{Row}
use Rattle.value.specs.declared.Mat4.{Mat4}
use Rattle.value.specs.declared.Value.{Value}
use Rattle.value.specs.declared.Value.TheVariants.{Scalar, Vector, Matrix}
use Rattle.value.specs.declared.Operator.TheVariants.{Add, Subtract, Multiply, Divide, Minimum, Maximum, Absolute, Remainder, Select, Clamp}
use Rattle.value.specs.Values.{vec, row, mat, type_of, word, words_of, all_words, float_at, mat_at, value_at, value_of, values_of, finite}
use Rattle.base.proofs.Bools.{and-inv, and_both}
use Rattle.base.specs.Lists.{words_at, Each, every, Word}
use Rattle.value.specs.Steps.{scalar, matrix}
use Rattle.value.specs.Results.{operand, vector_of, results}
use Rattle.value.proofs.Held.{zero_held, one-held, scalar-held, vector-held, matrix-held, operand-held, each_typed}
use Rattle.value.specs.Typed.{TypeCode, Finite, Held, RowHeld, VecHeld, MatHeld, ValueHeld, Of, Typed}
use Rattle.base.proofs.Lists.{whole, each_take, each-drop}

-- ---- words

pub there : (x : Float) → Held x → Ieee.of_bits binary64 (word x) ≡ x
there x h = of_bits-to_bits binary64 x h

pub row-cong : {a b c d a' b' c' d' : Float} → a ≡ a' → b ≡ b' → c ≡ c' → d ≡ d' → row a b c d ≡ row a' b' c' d'
row-cong p q r s = cc

row_back : (r : Row) → RowHeld r
    → row (Ieee.of_bits binary64 (word r.c0)) (Ieee.of_bits binary64 (word r.c1)) (Ieee.of_bits binary64 (word r.c2)) (Ieee.of_bits binary64 (word r.c3)) ≡ r
row_back r (p, q, s, t) = row-cong (there r.c0 p) (there r.c1 q) (there r.c2 s) (there r.c3 t)

pub vec-cong : {a b c a' b' c' : Float} → a ≡ a' → b ≡ b' → c ≡ c' → vec a b c ≡ vec a' b' c'
vec-cong p q r = cc

pub mat-cong : {a b c d a' b' c' d' : Row} → a ≡ a' → b ≡ b' → c ≡ c' → d ≡ d' → mat a b c d ≡ mat a' b' c' d'
mat-cong p q r s = cc

-- a value's words stand for it
pub back : (v : Value) → ValueHeld v → value_of (type_of v) (words_of v) ≡ v
back (Scalar a) h = ap Scalar (there a h)
back (Vector v) (p, q, r) = ap Vector (vec-cong (there v.x p) (there v.y q) (there v.z r))
back (Matrix m) (p, q, r, s) = ap Matrix (mat-cong (row_back m.r0 p) (row_back m.r1 q) (row_back m.r2 r) (row_back m.r3 s))

pub back-of : (t : ℕ) (v : Value) → Of t v → value_of t (words_of v) ≡ v
back-of t v o = subst (λ (u : ℕ). value_of u (words_of v) ≡ v) o.type (back v o.held)

words-width : (v : Value) → length (words_of v) ≡ width (type_of v)
words-width (Scalar a) = refl
words-width (Vector v) = refl
words-width (Matrix m) = refl

pub of_width : (t : ℕ) (v : Value) → Of t v → length (words_of v) ≡ width t
of_width t v o = words-width v ∙ ap width o.type

pub typed-widths : (ts : List ℕ) (vs : List Value) → Typed ts vs → length (all_words vs) ≡ widths ts
typed-widths [] [] h = refl
typed-widths [] (v ∷ vs) h = absurd h
typed-widths (t ∷ ts) [] h = absurd h
typed-widths (t ∷ ts) (v ∷ vs) (o, h) =
    let a : length (words_of v) ≡ width t = of_width t v o in
    let b : length (all_words vs) ≡ widths ts = typed-widths ts vs h in
    length-append (words_of v) (all_words vs) ∙ cc

pub typed-length : (ts : List ℕ) (vs : List Value) → Typed ts vs → length vs ≡ length ts
typed-length [] [] h = refl
typed-length [] (v ∷ vs) h = absurd h
typed-length (t ∷ ts) [] h = absurd h
typed-length (t ∷ ts) (v ∷ vs) (o, h) = ap suc (typed-length ts vs h)

-- ---- values read from words

scalar-of : (ws : List ℕ) → Of 1 (value_of 1 ws)
scalar-of ws = record { type = refl; held = of_bits-fits binary64 _ }

vector-of : (ws : List ℕ) → Of 2 (value_of 2 ws)
vector-of ws = record { type = refl; held = (of_bits-fits binary64 _, of_bits-fits binary64 _, of_bits-fits binary64 _) }

row_of : (a b c d : ℕ) → RowHeld (row (Ieee.of_bits binary64 a) (Ieee.of_bits binary64 b) (Ieee.of_bits binary64 c) (Ieee.of_bits binary64 d))
row_of a b c d = (of_bits-fits binary64 a, of_bits-fits binary64 b, of_bits-fits binary64 c, of_bits-fits binary64 d)

matrix-of : (ws : List ℕ) → Of 3 (value_of 3 ws)
matrix-of ws = record { type = refl; held = (row_of _ _ _ _, row_of _ _ _ _, row_of _ _ _ _, row_of _ _ _ _) }

-- ---- what a kind gives is of the types that its ports say

scalar-at : (ts : List ℕ) (vs : List Value) → Typed ts vs → (i : ℕ) → Held (scalar (operand vs i))
scalar-at ts vs h i = scalar-held (operand vs i) (operand-held ts vs h i)

vector-at : (ts : List ℕ) (vs : List Value) → Typed ts vs → (i : ℕ) → VecHeld (vector_of vs i)
vector-at ts vs h i = vector-held (operand vs i) (operand-held ts vs h i)

matrix-at : (ts : List ℕ) (vs : List Value) → Typed ts vs → (i : ℕ) → MatHeld (matrix (operand vs i))
matrix-at ts vs h i = matrix-held (operand vs i) (operand-held ts vs h i)

abbrev Results : Kind → Type 0
Results k = (t : ℕ) (ws : List ℕ) (vs : List Value) → Typed (takes k t) vs → Typed (gives k t) (results k ws vs)

of-vector : (a b c : Float) → Held a → Held b → Held c → Typed (2 ∷ []) (Vector (vec a b c) ∷ [])
of-vector a b c ha hb hc = (record { type = refl; held = (ha, hb, hc) }, tt)

of-scalar : (a : Float) → Held a → Of 1 (Scalar a)
of-scalar a h = record { type = refl; held = h }

of-matrix : (m : Mat4) → MatHeld m → Typed (3 ∷ []) (Matrix m ∷ [])
of-matrix m h = (record { type = refl; held = h }, tt)

pub results-typed : (k : Kind) → Results k
unfolding results
results-typed unknown t ws vs h = tt
results-typed addition t ws vs h = each_typed Add t (t ∷ []) vs h
results-typed subtraction t ws vs h = each_typed Subtract t (t ∷ []) vs h
results-typed multiplication t ws vs h = each_typed Multiply t (t ∷ []) vs h
results-typed division t ws vs h = each_typed Divide t (t ∷ []) vs h
results-typed constant t ws vs h = (scalar-of ws, tt)
results-typed constvec t ws vs h = (vector-of ws, tt)
results-typed constmat t ws vs h = (matrix-of ws, tt)
results-typed composevector t ws vs h =
    let at = scalar-at (1 ∷ 1 ∷ 1 ∷ []) vs h in
    of-vector _ _ _ (at 0) (at 1) (at 2)
results-typed vectorfromscalar t ws vs h =
    let a = scalar-at (1 ∷ []) vs h 0 in
    of-vector _ _ _ a a a
results-typed decomposevector t ws vs h =
    let (a, b, c) = vector-at (2 ∷ []) vs h 0 in
    (of-scalar _ a, (of-scalar _ b, (of-scalar _ c, tt)))
results-typed composematrix t ws vs h =
    let at = scalar-at (takes composematrix t) vs h in
    of-matrix _
    ((at 0, at 1, at 2, at 3), (at 4, at 5, at 6, at 7), (at 8, at 9, at 10, at 11), (at 12, at 13, at 14, at 15))
results-typed matrixfromcolumns t ws vs h =
    let at = vector-at (2 ∷ 2 ∷ 2 ∷ 2 ∷ []) vs h in
    of-matrix _ (
      ((at 0).0, (at 1).0, (at 2).0, (at 3).0),
      ((at 0).1, (at 1).1, (at 2).1, (at 3).1),
      ((at 0).2, (at 1).2, (at 2).2, (at 3).2),
      (zero_held, zero_held, zero_held, one-held),
    )
results-typed matrixfromrows t ws vs h =
    let at = vector-at (2 ∷ 2 ∷ 2 ∷ 2 ∷ []) vs h in
    of-matrix _ (
      ((at 0).0, (at 0).1, (at 0).2, zero_held),
      ((at 1).0, (at 1).1, (at 1).2, zero_held),
      ((at 2).0, (at 2).1, (at 2).2, zero_held),
      ((at 3).0, (at 3).1, (at 3).2, one-held),
    )
results-typed dot t ws vs h = (of-scalar _ (add-fits binary64 _ _), tt)
results-typed cross t ws vs h = of-vector _ _ _ (sub-fits binary64 _ _) (sub-fits binary64 _ _) (sub-fits binary64 _ _)
results-typed matvecmultiplication t ws vs h = of-vector _ _ _ (add-fits binary64 _ _) (add-fits binary64 _ _) (add-fits binary64 _ _)
results-typed transpose t ws vs h =
    let (a, b, c, d) = matrix-at (3 ∷ []) vs h 0 in
    of-matrix _ ((a.0, b.0, c.0, d.0), (a.1, b.1, c.1, d.1), (a.2, b.2, c.2, d.2), (a.3, b.3, c.3, d.3))
results-typed min t ws vs h = each_typed Minimum t (t ∷ []) vs h
results-typed max t ws vs h = each_typed Maximum t (t ∷ []) vs h
results-typed abs t ws vs h = each_typed Absolute t [] vs h
results-typed fmod t ws vs h = each_typed Remainder t (t ∷ []) vs h
results-typed select t ws vs h = each_typed Select t (t ∷ t ∷ t ∷ []) vs h
results-typed clamp t ws vs h = each_typed Clamp t (t ∷ t ∷ []) vs h
results-typed call t ws vs h = tt

-- ---- finite words

pub same_word : (w : ℕ) → Finite w → word (Ieee.of_bits binary64 w) ≡ w
same_word w (l, f) =
    let h : w % 2 ^ 63 < 2047 * 2 ^ 52 = ltb-true _ _ f in
    let n : Ieee.nan_bits binary64 w ≡ false = nan_bits_above binary64 w ∙ le-ltb (2047 * 2 ^ 52) (w % 2 ^ 63) (omega arith) in
    to_bits-of_bits binary64 w l (subst (λ (b : Bool). T (not b)) (sym n ∙ nan_bits_is binary64 w) tt)

abbrev again : ℕ → ℕ
again w = word (Ieee.of_bits binary64 w)

pub same-words : (ws : List ℕ) → Each Finite ws → map again ws ≡ ws
same-words [] h = refl
same-words (w ∷ ws) (f, h) =
    let a : again w ≡ w = same_word w f in
    let b : map again ws ≡ ws = same-words ws h in
    cc

pub type-cases : (t : ℕ) → TypeCode t → (t ≡ 1) ⊎ ((t ≡ 2) ⊎ (t ≡ 3))
type-cases t (a, b) = pick_one (eqb t 1) (eqb t 2) refl refl
  where
    pick_one : (x y : Bool) → eqb t 1 ≡ x → eqb t 2 ≡ y → (t ≡ 1) ⊎ ((t ≡ 2) ⊎ (t ≡ 3))
    pick_one true y p q = inl (eqb-true t 1 p)
    pick_one false true p q = inr (inl (eqb-true t 2 q))
    pick_one false false p q =
        let u : t ≡ 1 → ⊥ = eqb-false t 1 p in
        let v : t ≡ 2 → ⊥ = eqb-false t 2 q in
        inr (inr (omega arith))

-- by type: on 1, on 2, and on every other number
pub by-type : (P : ℕ → Type 0) → P 1 → P 2 → ((t : ℕ) → eqb t 1 ≡ false → eqb t 2 ≡ false → P t) → (t : ℕ) → P t
by-type P one two more t = pick (eqb t 1) (eqb t 2) refl refl
  where
    pick : (x y : Bool) → eqb t 1 ≡ x → eqb t 2 ≡ y → P t
    pick true y p q = subst P (sym (eqb-true t 1 p)) one
    pick false true p q = subst P (sym (eqb-true t 2 q)) two
    pick false false p q = more t p q

read-words : (t : ℕ) (ws : List ℕ) → words_of (value_of t ws) ≡ map again (words_at ws 0 (width t))
read-words t ws = by-type (λ t. words_of (value_of t ws) ≡ map again (words_at ws 0 (width t))) refl refl (λ t p q. rw (p, q)) t

-- finite words are those of the value that they stand for
pub words-of-value : (t : ℕ) (ws : List ℕ) → Each Finite ws → length ws ≡ width t → words_of (value_of t ws) ≡ ws
words-of-value t ws f l = read-words t ws ∙ ap (λ (n : ℕ). map again (words_at ws 0 n)) (sym l) ∙ ap (map again) (whole ws) ∙ same-words ws f

pub value-of : (t : ℕ) (ws : List ℕ) → TypeCode t → Of t (value_of t ws)
value-of t ws h = pick_one (type-cases t h)
  where
    pick_one : (t ≡ 1) ⊎ ((t ≡ 2) ⊎ (t ≡ 3)) → Of t (value_of t ws)
    pick_one (inl e) = rw e (scalar-of ws)
    pick_one (inr (inl e)) = rw e (vector-of ws)
    pick_one (inr (inr e)) = rw e (matrix-of ws)

pub values-typed : (ts ws : List ℕ) → Each TypeCode ts → Typed ts (values_of ts ws)
values-typed [] ws h = tt
values-typed (t ∷ ts) ws (c, h) = (value-of t (take (width t) ws) c, values-typed ts (drop (width t) ws) h)

pub words-of-values : (ts ws : List ℕ) → Each Finite ws → length ws ≡ widths ts → all_words (values_of ts ws) ≡ ws
words-of-values [] [] f l = refl
words-of-values [] (w ∷ ws) f l = absurd (omega arith)
words-of-values (t ∷ ts) ws f l =
    let front = take (width t) ws in
    let size : length front ≡ width t = length-take-le (width t) ws (omega arith) in
    let a : words_of (value_of t front) ≡ front = words-of-value t front (each_take Finite (width t) ws f) size in
    let b : all_words (values_of ts (drop (width t) ws)) ≡ drop (width t) ws =
    words-of-values ts (drop (width t) ws) (each-drop Finite (width t) ws f) (simp length-drop (omega arith)) in
    ap₂ (λ (x y : List ℕ). x ++ y) a b ∙ take-append-drop (width t) ws

-- ---- values at an address

scalar-at-address : (m : List ℕ) (a : ℕ) → value_at m 1 a ≡ value_of 1 (words_at m a 1)
scalar-at-address m a = refl

vector-at-address : (m : List ℕ) (a : ℕ) → value_at m 2 a ≡ value_of 2 (words_at m a 3)
vector-at-address m a = ap Vector (vec-cong refl (ap (float_at m) (omega arith)) (ap (float_at m) (omega arith)))

matrix-at-address : (m : List ℕ) (a : ℕ) → value_at m 3 a ≡ value_of 3 (words_at m a 16)
matrix-at-address m a =
    ap Matrix
    (mat-cong (row-cong refl (ap (float_at m) (omega arith)) (ap (float_at m) (omega arith)) (ap (float_at m) (omega arith)))
    (row-cong (ap (float_at m) (omega arith)) (ap (float_at m) (omega arith)) (ap (float_at m) (omega arith)) (ap (float_at m) (omega arith)))
    (row-cong (ap (float_at m) (omega arith)) (ap (float_at m) (omega arith)) (ap (float_at m) (omega arith)) (ap (float_at m) (omega arith)))
    (row-cong (ap (float_at m) (omega arith)) (ap (float_at m) (omega arith)) (ap (float_at m) (omega arith)) (ap (float_at m) (omega arith))))

pub value-at : (m : List ℕ) (t a : ℕ) → value_at m t a ≡ value_of t (words_at m a (width t))
value-at m t a = by-type (λ t. value_at m t a ≡ value_of t (words_at m a (width t))) (scalar-at-address m a) (vector-at-address m a) (λ t p q. rw (p, q) (matrix-at-address m a)) t

-- a number that is no scalar's and no vector's type is read as a matrix's
pub value-else : (m : List ℕ) (t a : ℕ) → (t ≡ 1 → ⊥) → (t ≡ 2 → ⊥) → value_at m t a ≡ Matrix (mat_at m a)
value-else m t a p q = simp (ne_eqb t 1 p, ne_eqb t 2 q)

pub width-else : (t : ℕ) → (t ≡ 1 → ⊥) → (t ≡ 2 → ⊥) → width t ≡ 16
width-else t p q = simp (ne_eqb t 1 p, ne_eqb t 2 q)

-- the words of a value
abbrev pub size : Value → ℕ
size v = length (words_of v)

-- ---- finite words, as a test and as a statement

pub each-finite : (ws : List ℕ) → every finite ws ≡ true → Each Word ws → Each Finite ws
each-finite [] e h = tt
each-finite (w ∷ ws) e (p, h) = let (a, b) = and-inv (finite w) (every finite ws) e in ((p, a), each-finite ws b h)

pub all-finite : (xs : List ℕ) → Each Finite xs → every finite xs ≡ true
all-finite [] h = refl
all-finite (x ∷ xs) (p, h) = and_both (finite x) (every finite xs) p.1 (all-finite xs h)
