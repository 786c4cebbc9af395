-- What a walk over the instructions leaves, by what its arrays hold.
use Rattle.std.specs.Prelude.{ℕ, zero, suc, ◌+◌, ◌-◌, ◌*◌, ◌/◌, ◌%◌, ◌≤◌, ◌<◌, ◌≡◌, cond, List, [], ◌∷◌, map, ltb, length, get_or, set}
use Rattle.std.proofs.lemmas.List.Edits.{sets}
use Rattle.base.specs.Limits.{node_limit, port_limit, reference_limit, address_limit}
use Rattle.graph.specs.Graph.{Ref, Payload, consts, refs, calls, Node}
use Rattle.graph.specs.Look.{reads}
use Rattle.graph.specs.Schedule.{schedule}
use Rattle.reader.specs.Layout.{node_at, node_count}
use Rattle.reader.specs.Find.{ReadsNode}
use Rattle.lowering.specs.Compile.{Inlined, Inline, single, inline_function, inlined}
use Rattle.lowering.specs.Naming.{name_step, sizing}
use Rattle.bytecode.specs.declared.Version.{Version}
use Rattle.bytecode.specs.declared.Version.TheVariants.{V1, V2}
use Rattle.bytecode.specs.Run.{Instruction}
use Rattle.bytecode.specs.Origin.{result_width}
use Rattle.bytecode.specs.Code.{instructions_code}
use Rattle.compiler.specs.declared.Pass.{Pass}
use Rattle.compiler.specs.declared.Pass.TheVariants.{Survey, Sequential, Addressed}
use Rattle.compiler.specs.Units.{unit_limit, end_limit, unit_bound}
use Rattle.compiler.specs.declared.Reached.{Reached}
use Rattle.compiler.specs.declared.Layout.{Layout}
use Rattle.compiler.specs.Static.{Location, nowhere, input, offset, location_of, Summary, function_summary, summary, allocate, Agrees}
use Rattle.sums.specs.Position.{place_of, function_in, before}

-- ---- locations as numbers: below the port limit an input, from it on an offset

abbrev pub Stands : ℕ → Location → Type 0
Stands e nowhere = ⊥
Stands e (input i) = (e ≡ i) × (i < port_limit)
Stands e (offset d) = (e ≡ port_limit + d) × (d ≤ unit_bound)

-- the address of a location, where the inputs have these addresses and the results begin at `first`
abbrev pub address_of : List ℕ → ℕ → ℕ → ℕ
address_of ins first e = cond (ltb e port_limit) (get_or ins e 0) ((first + (e - port_limit)) % address_limit)

-- of the n locations from c on
unfoldable pub addresses_in : List ℕ → List ℕ → ℕ → ℕ → ℕ → List ℕ
addresses_in locations ins first c zero = []
addresses_in locations ins first c (suc n) = address_of ins first (get_or locations c 0) ∷ addresses_in locations ins first (c + 1) n

-- ---- what is walked over

module _ (v : Version) where
  -- a node whose references have these addresses
  abbrev pub inline_with : Inline → List ℕ → ℕ → Node → Payload → Inlined
  inline_with go xs next n (consts ws) = single (sizing v) n.kind n.type [] ws next
  inline_with go xs next n (refs rs) = single (sizing v) n.kind n.type xs [] next
  inline_with go xs next n (calls c rs) = go c xs next

  -- the node at p of the function at position k, whose locations stand from c on
  unfoldable pub node_inlined : List ℕ → List ℕ → ℕ → ℕ → ℕ → List ℕ → ℕ → ℕ → Inlined
  node_inlined s locations k p c ins first next =
      let n = node_at s p in
      inline_with (inlined (sizing v) (before s k)) (addresses_in locations ins first c (length (reads n))) next n n.payload

  -- the function at position k
  unfoldable pub function_inlined : List ℕ → ℕ → List ℕ → ℕ → Inlined
  function_inlined s k ins next = inline_function (sizing v) (inlined (sizing v) (before s k)) (function_in s k) ins next

-- ---- what a pass does with each instruction

-- version 1 goes by words; a survey, and version 2 after it, by names
abbrev pub naming_of : Pass → Version
naming_of Survey = V2
naming_of Sequential = V1
naming_of Addressed = V2

-- the word of a name, where `place` has the first word of each value
abbrev pub relocate : List ℕ → ℕ → ℕ
relocate place a = (get_or place (a / name_step) 0 + a % name_step) % address_limit

abbrev pub relocated : List ℕ → Instruction → Instruction
relocated place i =
    record { kind = i.kind; type = i.type; operands = map (relocate place) i.operands; constants = i.constants; result = relocate place i.result }

-- the bytes that are written
abbrev pub bytes_by : Pass → List ℕ → List Instruction → List ℕ
bytes_by Survey place is = []
bytes_by Sequential place is = instructions_code V1 is
bytes_by Addressed place is = instructions_code V2 (map (relocated place) is)

-- x for the values of these names
abbrev pub noted : List ℕ → ℕ → List ℕ → List ℕ
noted last x [] = last
noted last x (a ∷ names) = noted (set last (a / name_step) x) x names

-- the instruction behind the last that reads each value, where m inputs come first
abbrev pub notes : ℕ → List ℕ → List Instruction → List ℕ
notes m last [] = last
notes m last (i ∷ is) = notes m (noted last (suc (i.result / name_step) - m) i.operands) is

abbrev pub notes_by : Pass → ℕ → List ℕ → List Instruction → List ℕ
notes_by Survey m place is = notes m place is
notes_by Sequential m place is = place
notes_by Addressed m place is = place

-- the words of each result
abbrev pub measures : List ℕ → List Instruction → List ℕ
measures wide [] = wide
measures wide (i ∷ is) = measures (set wide (i.result / name_step) (result_width i)) is

abbrev pub measures_by : Pass → List ℕ → List Instruction → List ℕ
measures_by Survey wide is = measures wide is
measures_by Sequential wide is = wide
measures_by Addressed wide is = wide

-- there is room for the bytes, and for the addresses that are taken from `next` on
pub record CodeRoom (pass : Pass) (code place : List ℕ) (at next : ℕ) (o : Inlined) : Type 0 where
  pub room : at + length (bytes_by pass place o.code) ≤ length code
  pub end : o.next ≤ end_limit (naming_of pass)
  pub own : o.next ≤ next + unit_limit (naming_of pass)

-- what the pass does with each instruction is done, and nothing else
pub record Walks (pass : Pass) (m : ℕ) (code place wide code' place' wide' : List ℕ) (at : ℕ) (o : Inlined) (r : Reached) : Type 0 where
  pub written : code' ≡ sets code at (bytes_by pass place o.code)
  pub noted : place' ≡ notes_by pass m place o.code
  pub measured : wide' ≡ measures_by pass wide o.code
  pub end : r.at ≡ at + length (bytes_by pass place o.code)
  pub next : r.next ≡ o.next

-- ---- what the walk is lent

-- the locations of the references of the function at position j
abbrev pub location_table : Version → List ℕ → ℕ → Ref → Location
location_table v s j = location_of (allocate v (summary v (before s j)) (schedule (function_in s j).nodes) [] 0).located

-- the locations of these references stand from c on
abbrev pub Coded : List ℕ → (Ref → Location) → ℕ → List Ref → Type 0
Coded locations table c [] = c ≤ reference_limit
Coded locations table c (r ∷ rs) = Stands (get_or locations c 0) (table r) × Coded locations table (c + 1) rs

-- these nodes have their places in `order` from b on, and their locations from c on
abbrev pub Placed : List ℕ → List ℕ → List ℕ → (Ref → Location) → ℕ → ℕ → List Node → Type 0
Placed s order locations table b c [] = Unit {0}
Placed s order locations table b c (n ∷ ns) =
    ((node_at s (get_or order b 0) ≡ n) × ReadsNode s (get_or order b 0) × Coded locations table c (reads n))
    × Placed s order locations table (b + 1) (c + length (reads n)) ns

-- what the results of the function at position j take
abbrev pub summary_at : Version → List ℕ → ℕ → Summary
summary_at v s j = function_summary v (summary v (before s j)) (function_in s j)

pub record Allocated (v : Version) (s : List ℕ) (l : Layout) (j : ℕ) : Type 0 where
  pub count : node_count s (place_of s j) ≤ node_limit
  pub size : length (schedule (function_in s j).nodes) ≡ node_count s (place_of s j)
  pub nodes : Placed s l.order l.locations (location_table v s j) (node_limit * j) (get_or l.begins j 0) (schedule (function_in s j).nodes)
  pub agrees : Agrees v (summary v (before s j)) (location_table v s j) (schedule (function_in s j).nodes) [] 0

-- all functions before k that are within the limit
abbrev pub AllAllocated : Version → List ℕ → Layout → ℕ → Type 0
AllAllocated v s l k = (j : ℕ) → j < k → (summary_at v s j).words ≤ unit_limit v → Allocated v s l j
