-- What the checks answer, by the graph's own judging.
use Rattle.std.specs.Prelude.{ℕ, ◌+◌, ◌≤◌, cond, List, eqb, length, Some, None}
use Rattle.std.specs.Prelude.{Option as Answer}
use Rattle.std.proofs.Math.Option.{Option, none, some}
use Rattle.ports.specs.Ports.{types}
use Rattle.base.specs.Bytes.{byte}
use Rattle.base.specs.Outcome.{Outcome, each}
use Rattle.graph.specs.Graph.{Ref, Node, Output, Function}
use Rattle.graph.specs.Look.{reads}
use Rattle.graph.specs.Format.{format_of}
use Rattle.graph.specs.Read.{reference}
use Rattle.graph.specs.Rules.{Gives}
use Rattle.graph.specs.Judge.{call_ok, ref_ok, refs_ok}
use Rattle.graph.specs.Types.{ref_type, wants_of}
use Rattle.reader.specs.Layout.{inputs_at, function_at}
use Rattle.checker.specs.declared.types.Want.{Want}
use Rattle.checker.specs.declared.types.Want.TheVariants.{Types, Inputs}

-- the verdict by the rules' words alone, with neither the reading nor the judging that compute it
abbrev pub Judged : List ℕ → Outcome ℕ → Type 0
Judged s o = Gives (format_of s) s o

-- ---- references

abbrev pub port_of : Option ℕ → Answer ℕ
port_of none = None
port_of (some t) = Some t

-- the type of the reference at `at` in the function at f, with those before it
abbrev pub type_at : List ℕ → List Function → ℕ → ℕ → Answer ℕ
type_at s early f at = port_of (ref_type early (function_at s f) (reference s at))

-- what n references want
abbrev pub wants_list : List ℕ → ℕ → Want → List ℕ
wants_list s n (Types a b) = types n a b
wants_list s n (Inputs p) = inputs_at n s (p + 6)

-- the j-th of them
abbrev pub wanted : List ℕ → Want → ℕ → ℕ
wanted s (Types a b) j = cond (eqb j 0) a b
wanted s (Inputs p) j = byte s (p + 6 + j)

abbrev pub WantFits : List ℕ → ℕ → Want → Type 0
WantFits s n (Types a b) = Unit {0}
WantFits s n (Inputs p) = p + 6 + n ≤ length s

-- ---- the checks of the function at f, with those before it

abbrev pub outputs_checked : List ℕ → List Function → ℕ → List Output → Outcome (Unit {0})
outputs_checked s early f = each (λ o. ref_ok early (function_at s f) o.type o.ref)

abbrev pub references_checked : List ℕ → List Function → ℕ → List ℕ → List Ref → Outcome (Unit {0})
references_checked s early f = refs_ok early (function_at s f)

abbrev pub node_checked : List ℕ → List Function → ℕ → Node → Outcome (Unit {0})
node_checked s early f n = refs_ok early (function_at s f) (wants_of early n n.payload) (reads n)

abbrev pub call_checked : List Function → Node → Outcome (Unit {0})
call_checked early n = call_ok early n.place n.payload

abbrev pub calls_checked : List Function → Function → Outcome (Unit {0})
calls_checked early f = each (call_checked early) f.nodes
