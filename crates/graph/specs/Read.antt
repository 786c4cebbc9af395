-- The reading of a table, front to back: the functions as read, or the first of the faults 1 to 8.
use Rattle.std.specs.Prelude.{ℕ, zero, suc, ◌+◌, ◌*◌, Bool, ◌&&◌, List, [], ◌∷◌, leb, eqb, length}
use Rattle.ports.specs.declared.Form.{Form}
use Rattle.ports.specs.declared.Form.TheVariants.{Absent, Constant, References, Call}
use Rattle.ports.specs.Kinds.{Kind, kind_of}
use Rattle.ports.specs.Ports.{is_type, arity, constant_words, form_of, legal}
use Rattle.value.specs.Values.{constant_word}
use Rattle.base.specs.Lists.{every}
use Rattle.base.specs.Outcome.{Outcome, ok, fault, ◌>>=◌, ◌>>◌, need, Part}
use Rattle.base.specs.Bytes.{byte, u16, constants}
use Rattle.graph.specs.Graph.{Ref, Payload, consts, refs, calls, Node, Output, Function}
use Rattle.graph.specs.Format.{Format}
use Rattle.base.specs.Limits.{port_limit, function_limit}

-- a record of n bytes fits, or fault 5 at its first byte
abbrev pub fits : List ℕ → ℕ → ℕ → Outcome (Unit {0})
fits s at n = need (leb (at + n) (length s)) 5 at

-- ---- inputs and outputs

abbrev pub inputs : ℕ → List ℕ → ℕ → Outcome (List ℕ)
inputs zero s at = ok []
inputs (suc n) s at = do
  fits s at 1
  need (is_type (byte s at)) 6 at
  rest ← inputs n s (at + 1)
  ok (byte s at ∷ rest)

abbrev pub reference : List ℕ → ℕ → Ref
reference s at = record { node = u16 s at; port = byte s (at + 2); place = at }

abbrev pub references : ℕ → List ℕ → ℕ → List Ref
references zero s at = []
references (suc n) s at = reference s at ∷ references n s (at + 3)

abbrev pub outputs : ℕ → List ℕ → ℕ → Outcome (List Output)
outputs zero s at = ok []
outputs (suc n) s at = do
  fits s at 4
  need (is_type (byte s at)) 6 at
  rest ← outputs n s (at + 4)
  ok (record { type = byte s at; ref = reference s (at + 1) } ∷ rest)

-- ---- nodes

-- no node of an absent kind comes this far
abbrev pub payload : Form → Kind → List ℕ → ℕ → Outcome (Part Payload)
payload Absent k s at = fault 6 at
payload Constant k s at =
    let n = constant_words k in
    do
      fits s at (8 * n)
      need (every constant_word (constants n s at)) 7 at
      ok (record { it = consts (constants n s at); next = at + 8 * n })
payload References k s at =
    let n = arity k in
    do
      fits s at (3 * n)
      ok (record { it = refs (references n s at); next = at + 3 * n })
payload Call k s at =
    let n = byte s (at + 2) in
    do
      fits s at 3
      need (leb n port_limit) 6 at
      fits s (at + 3) (3 * n)
      ok (record { it = calls (u16 s at) (references n s (at + 3)); next = at + 3 + 3 * n })

abbrev pub node : List ℕ → ℕ → Outcome (Part Node)
node s at =
    let k = kind_of (byte s (at + 2)) in
    do
      fits s at 4
      need (leb 1 (u16 s at) && legal k (byte s (at + 3))) 6 at
      p ← payload (form_of k) k s (at + 4)
      ok (record { it = record { id = u16 s at; place = at; kind = byte s (at + 2); type = byte s (at + 3); payload = p.it }; next = p.next })

abbrev pub nodes : ℕ → List ℕ → ℕ → Outcome (Part (List Node))
nodes zero s at = ok (record { it = []; next = at })
nodes (suc n) s at = do
  first ← node s at
  rest ← nodes n s first.next
  ok (record { it = first.it ∷ rest.it; next = rest.next })

-- ---- functions

-- the fields of a function's head: id, input count, output count, node count
abbrev pub in_range : ℕ → ℕ → ℕ → ℕ → ℕ → Bool
in_range limit id input_count output_count count = leb 1 id && leb input_count port_limit && (leb 1 output_count && leb output_count port_limit) && leb count limit

abbrev pub function : ℕ → List ℕ → ℕ → Outcome (Part Function)
function limit s at =
    let input_count = byte s (at + 2) in
    let output_count = byte s (at + 3) in
    let count = u16 s (at + 4) in
    do
      fits s at 6
      need (in_range limit (u16 s at) input_count output_count count) 6 at
      ins ← inputs input_count s (at + 6)
      outs ← outputs output_count s (at + 6 + input_count)
      ns ← nodes count s (at + 6 + input_count + 4 * output_count)
      ok (record { it = record { id = u16 s at; place = at; inputs = ins; outputs = outs; nodes = ns.it }; next = ns.next })

abbrev pub functions : ℕ → ℕ → List ℕ → ℕ → Outcome (Part (List Function))
functions limit zero s at = ok (record { it = []; next = at })
functions limit (suc n) s at = do
  first ← function limit s at
  rest ← functions limit n s first.next
  ok (record { it = first.it ∷ rest.it; next = rest.next })

-- ---- the table

abbrev pub table_marked : List ℕ → Bool
table_marked s = eqb (byte s 0) 0x49 && eqb (byte s 1) 0x46 && eqb (byte s 2) 0x47

abbrev pub parse : Format → List ℕ → Outcome (List Function)
parse format s = do
  need (leb 8 (length s)) 1 0
  need (table_marked s) 2 0
  need (eqb (u16 s 3) format.version) 3 3
  need (eqb (format.size s) (length s)) 4 6
  need (leb 1 (byte s 5) && leb (byte s 5) function_limit) 6 5
  fs ← functions format.node_limit (byte s 5) s format.header
  need (eqb fs.next (length s)) 8 fs.next
  ok fs.it
