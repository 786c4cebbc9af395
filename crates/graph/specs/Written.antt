-- A graph table written out: 01's layout from front to back, the place of each part of it, and the fields of two bytes.
use Rattle.std.specs.Prelude.{ℕ, ◌+◌, ◌-◌, ◌*◌, ◌^◌, ◌≤◌, ◌<◌, ◌≡◌, List, [], ◌∷◌, ◌++◌, length}
use Rattle.base.specs.Lists.{Each}
use Rattle.base.specs.Bytes.{bytes_of, all_bytes}
use Rattle.graph.specs.Graph.{Ref, Payload, consts, refs, calls, Node, Output, Function}
use Rattle.graph.specs.Format.{Format}
use Rattle.graph.specs.Formed.{AllFormed, AllWithin}
use Rattle.base.specs.Limits.{function_limit}

-- ---- the bytes

-- one after another
abbrev pub flat : {A : Type 0} → (A → List ℕ) → List A → List ℕ
flat g [] = []
flat g (x ∷ xs) = g x ++ flat g xs

-- node id u16 and port u8
abbrev pub ref_bytes : Ref → List ℕ
ref_bytes r = bytes_of 2 r.node ++ r.port ∷ []

-- type, reference
abbrev pub output_bytes : Output → List ℕ
output_bytes o = o.type ∷ ref_bytes o.ref

-- binary64s; references; or function id u16, argument count u8 and that many references
abbrev pub payload_bytes : Payload → List ℕ
payload_bytes (consts ws) = all_bytes 8 ws
payload_bytes (refs rs) = flat ref_bytes rs
payload_bytes (calls c rs) = bytes_of 2 c ++ length rs ∷ flat ref_bytes rs

-- head: id u16, kind u8, type u8; then the payload
abbrev pub node_bytes : Node → List ℕ
node_bytes n = bytes_of 2 n.id ++ n.kind ∷ n.type ∷ payload_bytes n.payload

-- head: id u16, input count u8, output count u8, node count u16; a type byte for each input; outputs; nodes
abbrev pub function_bytes : Function → List ℕ
function_bytes f =
    bytes_of 2 f.id ++ length f.inputs ∷ length f.outputs ∷ bytes_of 2 (length f.nodes)
    ++ f.inputs
    ++ flat output_bytes f.outputs
    ++ flat node_bytes f.nodes

-- the letters IFG; version u16; function count u8; length of the whole table, in the header's other bytes
abbrev pub header_bytes : Format → ℕ → ℕ → List ℕ
header_bytes format count size = 0x49 ∷ 0x46 ∷ 0x47 ∷ bytes_of 2 format.version ++ count ∷ bytes_of (format.header - 6) size

abbrev pub table_bytes : Format → List Function → List ℕ
table_bytes format fs =
    let body = flat function_bytes fs in
    header_bytes format (length fs) (format.header + length body) ++ body

-- ---- each part's place is where it stands

abbrev pub RefsAt : ℕ → List Ref → Type 0
RefsAt at [] = Unit {0}
RefsAt at (r ∷ rs) = (r.place ≡ at) × RefsAt (at + 3) rs

abbrev pub PayloadAt : ℕ → Payload → Type 0
PayloadAt at (consts ws) = Unit {0}
PayloadAt at (refs rs) = RefsAt at rs
PayloadAt at (calls c rs) = RefsAt (at + 3) rs

abbrev pub OutputsAt : ℕ → List Output → Type 0
OutputsAt at [] = Unit {0}
OutputsAt at (o ∷ os) = (o.ref.place ≡ at + 1) × OutputsAt (at + 4) os

abbrev pub NodesAt : ℕ → List Node → Type 0
NodesAt at [] = Unit {0}
NodesAt at (n ∷ ns) = (n.place ≡ at) × PayloadAt (at + 4) n.payload × NodesAt (at + length (node_bytes n)) ns

pub record FunctionAt (at : ℕ) (f : Function) : Type 0 where
  pub head : f.place ≡ at
  pub outputs : OutputsAt (at + 6 + length f.inputs) f.outputs
  pub nodes : NodesAt (at + 6 + length f.inputs + 4 * length f.outputs) f.nodes

abbrev pub FunctionsAt : ℕ → List Function → Type 0
FunctionsAt at [] = Unit {0}
FunctionsAt at (f ∷ fs) = FunctionAt at f × FunctionsAt (at + length (function_bytes f)) fs

-- ---- fields of two bytes: ids

abbrev pub Short : ℕ → Type 0
Short x = x < 65536

abbrev pub ShortRefs : List Ref → Type 0
ShortRefs = Each (λ r. Short r.node)

abbrev pub ShortPayload : Payload → Type 0
ShortPayload (consts ws) = Unit {0}
ShortPayload (refs rs) = ShortRefs rs
ShortPayload (calls c rs) = Short c × ShortRefs rs

abbrev pub ShortNode : Node → Type 0
ShortNode n = Short n.id × ShortPayload n.payload

pub record ShortIds (f : Function) : Type 0 where
  pub id : Short f.id
  pub outputs : Each (λ o. Short o.ref.node) f.outputs
  pub nodes : Each ShortNode f.nodes

-- ---- the whole: what 1 to 8 ask of a table

pub record Written (format : Format) (s : List ℕ) (fs : List Function) : Type 0 where
  pub bytes : s ≡ table_bytes format fs
  pub size : length s < 256 ^ (format.header - 6)
  pub some-function : 1 ≤ length fs
  pub count : length fs ≤ function_limit
  -- ranges of counts, ids and type bytes, kinds and their payloads, and finite constants
  pub formed : AllFormed fs
  pub nodes : AllWithin format.node_limit fs
  pub ids : Each ShortIds fs
  pub places : FunctionsAt format.header fs
