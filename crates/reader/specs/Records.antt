-- What the readers answer, by the graph's own reading.
use Rattle.std.specs.Prelude.{ℕ, zero, suc, ◌+◌, ◌*◌, ◌≤◌, ◌<◌, cond, List, leb, length, Option, Some, None, Float}
use Rattle.std.specs.Float.Ieee as Ieee
use Rattle.std.specs.Float.{binary64}
use Rattle.ports.specs.Kinds.{Kind, kind_of}
use Rattle.ports.specs.declared.Ports.{Ports}
use Rattle.ports.specs.Ports.{is_type, ports_of, calling}
use Rattle.value.specs.declared.Vec3.{Vec3}
use Rattle.value.specs.declared.Row.{Row}
use Rattle.value.specs.declared.Mat4.{Mat4}
use Rattle.value.specs.Values.{vec, row, mat, value_of}
use Rattle.value.specs.Typed.{Finite}
use Rattle.base.specs.Outcome.{Outcome, ok, ◌>>◌, need, Part}
use Rattle.base.specs.Refusals.{mapped}
use Rattle.graph.specs.Graph as Graph
use Rattle.graph.specs.Graph.{consts, refs, calls}
use Rattle.graph.specs.Read.{fits}
use Rattle.base.specs.Bytes.{byte, u64}
use Rattle.reader.specs.declared.Node.{Node}
use Rattle.reader.specs.declared.Payload.{Payload}
use Rattle.reader.specs.declared.Payload.TheVariants.{Constant, Call, References}
use Rattle.reader.specs.declared.Reads.{Reads}

-- ---- answers

module _ {A : Type 0} where
  -- all was read, or the first fault
  abbrev pub seen : Outcome A → Outcome (Unit {0})
  seen = mapped (λ a. tt)

  -- the place behind what was read, or the first fault
  abbrev pub next : Outcome (Part A) → Outcome ℕ
  next = mapped (λ p. p.next)

  -- the same of a reading that does not say the place
  abbrev pub behind : ℕ → Outcome A → Outcome ℕ
  behind end = mapped (λ a. end)

-- where a record of n bytes ends that fits
abbrev pub record_at : List ℕ → ℕ → ℕ → Option ℕ
record_at s at n = cond (leb (at + n) (length s)) (Some (at + n)) None

-- n entries of `size` bytes, a type byte in front of each
abbrev pub entries : ℕ → ℕ → List ℕ → ℕ → Outcome (Unit {0})
entries size zero s at = ok tt
entries size (suc n) s at = do
  fits s at size
  need (is_type (byte s at)) 6 at
  entries size n s (at + size)

-- ---- constants

-- n words of eight bytes at a place, all of them finite
pub record FiniteWords (s : List ℕ) (at n : ℕ) : Type 0 where
  pub fits : at + 8 * n ≤ length s
  pub finite : (i : ℕ) → i < n → Finite (u64 s (at + 8 * i))

abbrev pub float_constant : List ℕ → ℕ → Float
float_constant s at = Ieee.of_bits binary64 (u64 s at)

abbrev pub row_at : List ℕ → ℕ → Row
row_at s at = row (float_constant s at) (float_constant s (at + 8)) (float_constant s (at + 16)) (float_constant s (at + 24))

abbrev pub matrix_at : List ℕ → ℕ → Mat4
matrix_at s at = mat (row_at s at) (row_at s (at + 32)) (row_at s (at + 64)) (row_at s (at + 96))

abbrev pub vector_at : List ℕ → ℕ → Vec3
vector_at s at = vec (float_constant s at) (float_constant s (at + 8)) (float_constant s (at + 16))

-- ---- payloads and nodes

-- references are read where they are needed: a node keeps where they begin, and how many there are
abbrev pub payload_of : Kind → ℕ → Graph.Payload → Payload
payload_of k at (consts ws) = Constant (value_of (ports_of k).result ws)
payload_of k at (calls c rs) = Call c (record { first = at + 3; count = length rs })
payload_of k at (refs rs) = References (record { first = at; count = length rs })

-- the arguments of the call at a place
abbrev pub arguments_at : List ℕ → ℕ → Reads
arguments_at s at = record { first = at + 4 + 3; count = byte s (at + 4 + 2) }

-- n references behind the head of the node at a place
abbrev pub operands_at : ℕ → ℕ → Reads
operands_at at n = record { first = at + 4; count = n }

-- what the node at a place reads, whose kind has this row: a call its arguments, another its operands
abbrev pub reads_by : Ports → List ℕ → ℕ → Reads
reads_by row s at = cond (calling row.form) (arguments_at s at) (operands_at at row.operands)

-- a payload as read, and the place behind it
abbrev pub payload_read : Kind → ℕ → Outcome (Part Graph.Payload) → Outcome (Payload × ℕ)
payload_read k at = mapped (λ p. (payload_of k at p.it, p.next))

abbrev pub node_of : Graph.Node → Node
node_of n = record { id = n.id; place = n.place; kind = n.kind; ty = n.type; payload = payload_of (kind_of n.kind) (n.place + 4) n.payload }

-- a node as read, and the place behind it
abbrev pub node_read : Outcome (Part Graph.Node) → Outcome (Node × ℕ)
node_read = mapped (λ p. (node_of p.it, p.next))
