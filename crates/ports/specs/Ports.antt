-- 01's port list: a row for each kind, and what is read from a row.
use Rattle.std.specs.Prelude.{ℕ, zero, suc, ◌+◌, ◌*◌, Bool, true, false, ◌&&◌, cond, List, [], ◌∷◌, map, leb, eqb, get_or, replicate}
use Rattle.ports.specs.declared.Form.{Form}
use Rattle.ports.specs.declared.Form.TheVariants.{Absent, Constant, References, Call}
use Rattle.ports.specs.declared.Ports.{Ports}
use Rattle.ports.specs.Kinds.{Kind, unknown, addition, subtraction, multiplication, division, constant, constvec, constmat, composevector, vectorfromscalar, decomposevector, composematrix, matrixfromcolumns, matrixfromrows, dot, cross, matvecmultiplication, transpose, min, max, abs, fmod, select, clamp, call, kinds}

-- ---- types: 1 scalar, 2 vector, 3 matrix; their words

abbrev pub type_s : ℕ
type_s = 1

abbrev pub type_v : ℕ
type_v = 2

abbrev pub type_m : ℕ
type_m = 3

abbrev pub width : ℕ → ℕ
width t = cond (eqb t type_s) 1 (cond (eqb t type_v) 3 16)

-- the words of several
abbrev pub widths : List ℕ → ℕ
widths [] = 0
widths (t ∷ ts) = width t + widths ts

abbrev pub is_type : ℕ → Bool
is_type t = leb type_s t && leb t type_m

-- ---- rows: .bytes are those behind a node's head, for a call those before its references

-- no such kind
abbrev pub absent : Ports
absent = record { form = Absent; bytes = 0; operands = 0; first = 0; rest = 0; results = 0; result = 0; words = 0 }

-- T, .., T to T
abbrev pub typed : ℕ → Ports
typed n = record { form = References; bytes = 3 * n; operands = n; first = 0; rest = 0; results = 1; result = 0; words = 0 }

-- n operands, the first of the type a and the others of the type b, to one result of the type r
abbrev pub plain : ℕ → ℕ → ℕ → ℕ → Ports
plain n a b r = record { form = References; bytes = 3 * n; operands = n; first = a; rest = b; results = 1; result = r; words = width r }

abbrev pub constant_of : ℕ → Ports
constant_of r = record { form = Constant; bytes = 8 * width r; operands = 0; first = 0; rest = 0; results = 1; result = r; words = width r }

abbrev pub ports_of : Kind → Ports
ports_of unknown = absent
ports_of addition = typed 2
ports_of subtraction = typed 2
ports_of multiplication = typed 2
ports_of division = typed 2
ports_of constant = constant_of type_s
ports_of constvec = constant_of type_v
ports_of constmat = constant_of type_m
ports_of composevector = plain 3 type_s type_s type_v
ports_of vectorfromscalar = plain 1 type_s type_s type_v
ports_of decomposevector = record { form = References; bytes = 3; operands = 1; first = type_v; rest = type_v; results = 3; result = type_s; words = 3 }
ports_of composematrix = plain 16 type_s type_s type_m
ports_of matrixfromcolumns = plain 4 type_v type_v type_m
ports_of matrixfromrows = plain 4 type_v type_v type_m
ports_of dot = plain 2 type_v type_v type_s
ports_of cross = plain 2 type_v type_v type_v
ports_of matvecmultiplication = plain 2 type_m type_v type_v
ports_of transpose = plain 1 type_m type_m type_m
ports_of min = typed 2
ports_of max = typed 2
ports_of abs = typed 1
ports_of fmod = typed 2
ports_of select = typed 4
ports_of clamp = typed 3
ports_of call = record { form = Call; bytes = 3; operands = 0; first = 0; rest = 0; results = 0; result = 0; words = 0 }

-- the same list by the kinds' numbers
abbrev pub rows : List Ports
rows = map ports_of kinds

abbrev pub ports_at : ℕ → Ports
ports_at k = get_or rows k absent

-- ---- what a kind's ports are, with the type byte t

-- T's place is taken by the type byte
abbrev pub own : ℕ → ℕ → ℕ
own t p = cond (eqb p 0) t p

-- the first of the type a, the others of the type b
abbrev pub types : ℕ → ℕ → ℕ → List ℕ
types zero a b = []
types (suc n) a b = a ∷ replicate n b

-- the types that a kind's references want
abbrev pub takes_row : Ports → ℕ → List ℕ
takes_row r t = types r.operands (own t r.first) (own t r.rest)

abbrev pub takes : Kind → ℕ → List ℕ
takes k t = takes_row (ports_of k) t

-- the types at the ports that a kind gives
abbrev pub gives_row : Ports → ℕ → List ℕ
gives_row r t = replicate r.results (own t r.result)

abbrev pub gives : Kind → ℕ → List ℕ
gives k t = gives_row (ports_of k) t

-- how many references a kind has
abbrev pub arity : Kind → ℕ
arity k = (ports_of k).operands

-- whether a kind has T: it reads, but the words of its results are left to the type byte
abbrev pub has_type : Ports → Bool
has_type r = eqb r.words 0 && leb 1 r.operands

-- the words of all results
abbrev pub result_words : Ports → ℕ → ℕ
result_words r t = cond (has_type r) (width t) r.words

abbrev pub form_of : Kind → Form
form_of k = (ports_of k).form

-- how many words its constant has
abbrev pub constant_in : Form → ℕ → ℕ
constant_in Absent n = 0
constant_in Constant n = n
constant_in References n = 0
constant_in Call n = 0

abbrev pub constant_words : Kind → ℕ
constant_words k = constant_in (form_of k) (ports_of k).words

-- a kind there is
abbrev pub exists : Form → Bool
exists Absent = false
exists Constant = true
exists References = true
exists Call = true

-- a call
abbrev pub calling : Form → Bool
calling Absent = false
calling Constant = false
calling References = false
calling Call = true

-- a kind that an instruction may have: not a call
abbrev pub executable : Form → Bool
executable Absent = false
executable Constant = true
executable References = true
executable Call = false

-- a type byte that the kind may have
abbrev pub type_fits : Ports → ℕ → Bool
type_fits r t = cond (has_type r) (is_type t) (eqb t 0)

-- a kind, with a type byte that it may have
abbrev pub legal : Kind → ℕ → Bool
legal k t = exists (form_of k) && type_fits (ports_of k) t

-- the same of an instruction
abbrev pub legal_instruction : Kind → ℕ → Bool
legal_instruction k t = executable (form_of k) && type_fits (ports_of k) t
