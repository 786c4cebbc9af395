-- The checks 9 to 13, function by function, and the verdict.
use Rattle.std.specs.Prelude.{ℕ, not, ◌&&◌, List, [], ◌∷◌, reverse, eqb, length}
use Rattle.std.proofs.Math.Option.{Option, none, some}
use Rattle.base.specs.Outcome.{Outcome, ok, fault, ◌>>=◌, ◌>>◌, need, each}
use Rattle.graph.specs.Graph.{Ref, Payload, consts, refs, calls, Node, Function}
use Rattle.graph.specs.Format.{format_of}
use Rattle.graph.specs.Read.{parse}
use Rattle.graph.specs.Look.{find_node, find_function, found, reads}
use Rattle.graph.specs.Loops.{loops}
use Rattle.graph.specs.Types.{inputs_of, wants_of, ref_type}

-- ---- 9, 10, 11, 12

abbrev pub fresh : List Node → List Node → Outcome (Unit {0})
fresh before [] = ok tt
fresh before (n ∷ ns) = do
  need (not (found (find_node n.id before))) 9 n.place
  fresh (n ∷ before) ns

abbrev pub call_ok : List Function → ℕ → Payload → Outcome (Unit {0})
call_ok early at (consts ws) = ok tt
call_ok early at (refs rs) = ok tt
call_ok early at (calls c rs) =
    need (found (find_function c early) && eqb (length rs) (length (inputs_of (find_function c early)))) 10 at

-- there is such a node and port, and its type is the one wanted
abbrev pub type_is : ℕ → ℕ → Option ℕ → Outcome (Unit {0})
type_is want at none = fault 11 at
type_is want at (some t) = need (eqb t want) 12 at

abbrev pub ref_ok : List Function → Function → ℕ → Ref → Outcome (Unit {0})
ref_ok early f want r = type_is want r.place (ref_type early f r)

abbrev pub refs_ok : List Function → Function → List ℕ → List Ref → Outcome (Unit {0})
refs_ok early f [] rs = ok tt
refs_ok early f (w ∷ ws) [] = ok tt
refs_ok early f (w ∷ ws) (r ∷ rs) = do
  ref_ok early f w r
  refs_ok early f ws rs

-- ---- the verdict

-- 13: a node on a loop
abbrev pub loop_free : Function → Outcome (Unit {0})
loop_free f = each (λ n. need (not (loops f.nodes n.id)) 13 n.place) f.nodes

-- function by function: its id, its node ids, its calls, its references, its loops
abbrev pub judge : List Function → Function → Outcome (Unit {0})
judge early f = do
  need (not (found (find_function f.id early))) 9 f.place
  fresh [] f.nodes
  each (λ n. call_ok early n.place n.payload) f.nodes
  each (λ o. ref_ok early f o.type o.ref) f.outputs
  each (λ n. refs_ok early f (wants_of early n n.payload) (reads n)) f.nodes
  loop_free f

-- the functions one after another; `early` has those before, the last first
abbrev pub judge_all : List Function → List Function → Outcome (Unit {0})
judge_all early [] = ok tt
judge_all early (f ∷ fs) = do
  judge early f
  judge_all (f ∷ early) fs

-- the functions of an accepted table, the last first, or the first fault
unfoldable pub table : List ℕ → Outcome (List Function)
table s = do
  fs ← parse (format_of s) s
  judge_all [] fs
  ok (reverse fs)

-- accepted with the function count, or refused
unfoldable pub verdict : List ℕ → Outcome ℕ
verdict s = do
  fs ← table s
  ok (length fs)
