-- The board list of a function: each result takes the next words, and a call is inlined where it stands.
use Rattle.std.specs.Prelude.{ℕ, ◌+◌, cond, List, [], ◌∷◌, ◌++◌, map, eqb, get_or}
use Rattle.ports.specs.Kinds.{kind_of}
use Rattle.ports.specs.Ports.{widths, gives}
use Rattle.graph.specs.Graph.{Ref, Payload, consts, refs, calls, Node, Function}
use Rattle.graph.specs.Types.{output_types}
use Rattle.graph.specs.Look.{output_refs}
use Rattle.bytecode.specs.Run.{Instruction, BoardList, places, spans}
use Rattle.graph.specs.Schedule.{schedule}

-- ---- addresses

-- a node that is written, and where its ports stand
pub record Written : Type 0 where
  pub id : ℕ
  pub ports : List ℕ

abbrev pub ports_at : ℕ → List Written → List ℕ
ports_at i [] = []
ports_at i (w ∷ ws) = cond (eqb w.id i) w.ports (ports_at i ws)

abbrev pub address : List ℕ → List Written → Ref → ℕ
address ins written r = get_or (cond (eqb r.node 0) ins (ports_at r.node written)) r.port 0

-- ---- instructions

-- the instructions, the first word behind them, and where the results stand
pub record Inlined : Type 0 where
  pub code : List Instruction
  pub next : ℕ
  pub ports : List ℕ

-- the function of an id, with the addresses of its arguments, from a word on
abbrev pub Inline : Type 0
Inline = ℕ → List ℕ → ℕ → Inlined

pub record Body : Type 0 where
  pub code : List Instruction
  pub next : ℕ
  pub written : List Written

abbrev pub also : Node → Inlined → List Written → List Written
also n o written = record { id = n.id; ports = o.ports } ∷ written

abbrev pub behind : Inlined → Body → Body
behind o b = record { code = o.code ++ b.code; next = b.next; written = b.written }

-- results of these types take `size` addresses: in the list itself, one for each word
module _ (size : List ℕ → ℕ) where
  abbrev pub single : ℕ → ℕ → List ℕ → List ℕ → ℕ → Inlined
  single kind type operands constants next =
      let out = gives (kind_of kind) type in
      record {
        code = record { kind = kind; type = type; operands = operands; constants = constants; result = next } ∷ [];
        next = next + size out;
        ports = places next out;
      }

  -- a node, by the addresses of what it reads
  abbrev pub inline_node : Inline → (Ref → ℕ) → ℕ → Node → Payload → Inlined
  inline_node go from next n (consts ws) = single n.kind n.type [] ws next
  inline_node go from next n (refs rs) = single n.kind n.type (map from rs) [] next
  inline_node go from next n (calls c rs) = go c (map from rs) next

  abbrev pub inline_nodes : Inline → List ℕ → List Node → List Written → ℕ → Body
  inline_nodes go ins [] written next = record { code = []; next = next; written = written }
  inline_nodes go ins (n ∷ ns) written next =
      let o = inline_node go (address ins written) next n n.payload in
      behind o (inline_nodes go ins ns (also n o written) o.next)

  abbrev pub inline_function : Inline → Function → List ℕ → ℕ → Inlined
  inline_function go f ins next =
      let b = inline_nodes go ins (schedule f.nodes) [] next in
      record { code = b.code; next = b.next; ports = map (address ins b.written) (output_refs f.outputs) }

  -- the functions stand the last first, so that a callee stands behind its caller
  unfoldable pub inlined : List Function → Inline
  inlined [] c ins next = record { code = []; next = next; ports = [] }
  inlined (f ∷ early) c ins next =
      let r = inlined early c ins next in
      cond (eqb f.id c) (inline_function (inlined early) f ins next) r

-- ---- the whole

abbrev pub board_list_of : List Function → Function → BoardList
board_list_of early f =
    let o = inline_function widths (inlined widths early) f (places 0 f.inputs) (widths f.inputs) in
    record { arguments = widths f.inputs; instructions = o.code; words = o.next; outputs = spans (output_types f.outputs) o.ports }
