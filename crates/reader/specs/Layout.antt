-- What the bytes at a place say, taken as well formed: the reading without its refusals.
use Rattle.std.specs.Prelude.{ℕ, zero, suc, ◌+◌, ◌*◌, List, [], ◌∷◌, get_or}
use Rattle.ports.specs.declared.Form.{Form}
use Rattle.ports.specs.declared.Form.TheVariants.{Absent, Constant, References, Call}
use Rattle.ports.specs.Kinds.{Kind, kind_of}
use Rattle.ports.specs.Ports.{arity, constant_words, form_of}
use Rattle.base.specs.Bytes.{byte, u16, constants}
use Rattle.graph.specs.Graph.{Payload, consts, refs, calls, Node, Output, Function}
use Rattle.graph.specs.Read.{reference, references}

-- ---- nodes

abbrev pub kind_at : List ℕ → ℕ → Kind
kind_at s at = kind_of (byte s (at + 2))

abbrev pub payload_at : Form → Kind → List ℕ → ℕ → Payload
payload_at Absent k s at = refs []
payload_at Constant k s at = consts (constants (constant_words k) s at)
payload_at References k s at = refs (references (arity k) s at)
payload_at Call k s at = calls (u16 s at) (references (byte s (at + 2)) s (at + 3))

-- the place behind a payload
abbrev pub payload_end : Form → Kind → List ℕ → ℕ → ℕ
payload_end Absent k s at = at
payload_end Constant k s at = at + 8 * constant_words k
payload_end References k s at = at + 3 * arity k
payload_end Call k s at = at + 3 + 3 * byte s (at + 2)

unfoldable pub node_at : List ℕ → ℕ → Node
node_at s at =
    record {
      id = u16 s at;
      place = at;
      kind = byte s (at + 2);
      type = byte s (at + 3);
      payload = payload_at (form_of (kind_at s at)) (kind_at s at) s (at + 4);
    }

unfoldable pub node_end : List ℕ → ℕ → ℕ
node_end s at = payload_end (form_of (kind_at s at)) (kind_at s at) s (at + 4)

unfoldable pub nodes_at : ℕ → List ℕ → ℕ → List Node
nodes_at zero s at = []
nodes_at (suc n) s at = node_at s at ∷ nodes_at n s (node_end s at)

-- where the i-th node from a place on stands
unfoldable pub node_place : List ℕ → ℕ → ℕ → ℕ
node_place s at zero = at
node_place s at (suc i) = node_place s (node_end s at) i

-- ---- functions

abbrev pub inputs_at : ℕ → List ℕ → ℕ → List ℕ
inputs_at zero s at = []
inputs_at (suc n) s at = byte s at ∷ inputs_at n s (at + 1)

abbrev pub outputs_at : ℕ → List ℕ → ℕ → List Output
outputs_at zero s at = []
outputs_at (suc n) s at = record { type = byte s at; ref = reference s (at + 1) } ∷ outputs_at n s (at + 4)

-- the counts in the head at a place, and where its outputs and nodes begin
abbrev pub input_count : List ℕ → ℕ → ℕ
input_count s at = byte s (at + 2)

abbrev pub output_count : List ℕ → ℕ → ℕ
output_count s at = byte s (at + 3)

abbrev pub node_count : List ℕ → ℕ → ℕ
node_count s at = u16 s (at + 4)

abbrev pub outputs_place : List ℕ → ℕ → ℕ
outputs_place s at = at + 6 + input_count s at

abbrev pub nodes_place : List ℕ → ℕ → ℕ
nodes_place s at = at + 6 + input_count s at + 4 * output_count s at

unfoldable pub function_at : List ℕ → ℕ → Function
function_at s at =
    record {
      id = u16 s at;
      place = at;
      inputs = inputs_at (input_count s at) s (at + 6);
      outputs = outputs_at (output_count s at) s (outputs_place s at);
      nodes = nodes_at (node_count s at) s (nodes_place s at);
    }

unfoldable pub function_end : List ℕ → ℕ → ℕ
function_end s at = node_place s (nodes_place s at) (node_count s at)

unfoldable pub functions_at : ℕ → List ℕ → ℕ → List Function
functions_at zero s at = []
functions_at (suc n) s at = function_at s at ∷ functions_at n s (function_end s at)

-- ---- the functions of a table by their position, the first at the place `begin`

unfoldable pub function_place : ℕ → List ℕ → ℕ → ℕ
function_place begin s zero = begin
function_place begin s (suc k) = function_end s (function_place begin s k)

abbrev pub function_of : ℕ → List ℕ → ℕ → Function
function_of begin s k = function_at s (function_place begin s k)

-- those before the position k, the last first
unfoldable pub earlier : ℕ → List ℕ → ℕ → List Function
earlier begin s zero = []
earlier begin s (suc k) = function_of begin s k ∷ earlier begin s k

-- ---- the functions whose places an array has

-- those at its first k places, the last first
unfoldable pub known : List ℕ → List ℕ → ℕ → List Function
known s starts zero = []
known s starts (suc k) = function_at s (get_or starts k 0) ∷ known s starts k
