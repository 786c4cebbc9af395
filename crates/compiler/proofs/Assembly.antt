-- Header, instructions and output words make the whole code. The inputs' addresses in `ins`, padded with zeros, are the
-- same at every port as those of the definition, and each output's location stands for the address that it has there.
use Prim.Native.Nat.{ℕ, zero, suc, ◌+◌, ◌*◌, ◌≤◌, ◌<◌}
use mathlib.Core.Path.{◌≡◌, refl, sym, ap, ◌∙◌, subst}
use mathlib.Core.List.{List, [], ◌∷◌, ◌++◌, map}
use native.Mathlib.Omega.{arith}
use lib.ListN.{length, get_or, length-append, length-map}
use lib.Seq.{sets, length-sets}
use Rattle.base.specs.Limits.{port_limit}
use Rattle.base.specs.Bytes.{all_bytes}
use Rattle.base.specs.Lists.{Each, span}
use Rattle.base.proofs.Lists.{span-length}
use Rattle.base.proofs.Stands.{all-length}
use Rattle.base.proofs.Stores.{sets-append}
use Rattle.ports.specs.Ports.{width, widths}
use Rattle.graph.specs.Graph.{Function}
use Rattle.graph.specs.Types.{output_types}
use Rattle.graph.specs.Look.{output_refs}
use Rattle.graph.specs.Sound.{AllSound}
use Rattle.reader.specs.Layout.{input_count, inputs_at, output_count, outputs_place, function_at, earlier}
use Rattle.bytecode.specs.declared.Version.{Version}
use Rattle.bytecode.specs.declared.Version.TheVariants.{V1, V2}
use Rattle.bytecode.specs.Version.{number}
use Rattle.bytecode.specs.Run.{Instruction, places, spans}
use Rattle.bytecode.specs.Code.{header_code}
use Rattle.lowering.specs.Compile.{Inlined, inlined}
use Rattle.lowering.specs.Naming.{sizing, names}
use Rattle.sums.specs.Position.{place_of, function_in, before, Accepted}
use Rattle.sums.specs.Answers.{types_by}
use Rattle.sums.proofs.Accepted.{sound-below}
use Rattle.sums.proofs.Widths.{outputs-are}
use Rattle.compiler.specs.declared.Pass.{Pass}
use Rattle.compiler.specs.declared.Pass.TheVariants.{Survey, Sequential, Addressed}
use Rattle.compiler.specs.declared.Reached.{Reached}
use Rattle.compiler.specs.declared.Layout.{Layout}
use Rattle.compiler.specs.Static.{Location, nowhere, input, offset, address_at, summary}
use Rattle.compiler.specs.Units.{units_at, unit_bound}
use Rattle.compiler.specs.Emit.{Stands, addresses_in, address_of, naming_of, function_inlined, bytes_by, notes_by, CodeRoom, Walks, summary_at}
use Rattle.compiler.specs.Whole.{inputs_by, first_by, inlined_at, relocate_by, outputs_by, text_of, Measured, Prepared}
use Rattle.compiler.proofs.Bounds.{Within, outputs-within}
use Rattle.compiler.proofs.Locations.{map_same, inlined-follows, function-next, function-ports}
use Rattle.compiler.proofs.Units.{units-at, function-units, limit-bound, end-bound}
use Rattle.compiler.proofs.Inlining.{Same, function-same, padded}
use Rattle.compiler.proofs.Emission.{stands-address}
use Rattle.compiler.proofs.Coding.{summary-size}
use Rattle.compiler.proofs.Allocating.{each-wider, strong}

-- ---- addresses

places-length : (w : ℕ) (ts : List ℕ) → length (places w ts) ≡ length ts
places-length w [] = refl
places-length w (t ∷ ts) = ap suc (places-length (w + width t) ts)

names-length : (j n : ℕ) → length (names j n) ≡ n
names-length j zero = refl
names-length j (suc n) = ap suc (names-length (suc j) n)

inputs-length : (v : Version) (ts : List ℕ) → length (inputs_by v ts) ≡ length ts
inputs-length V1 ts = places-length 0 ts
inputs-length V2 ts = names-length 0 (length ts)

spans-length : (ts at : List ℕ) → length at ≡ length ts → length (spans ts at) ≡ widths ts
spans-length [] [] e = refl
spans-length [] (a ∷ at) e = absurd (omega arith)
spans-length (t ∷ ts) [] e = absurd (omega arith)
spans-length (t ∷ ts) (a ∷ at) e =
    let x : length (span a (width t)) ≡ width t = span-length a (width t) in
    let y : length (spans ts at) ≡ widths ts = spans-length ts at (omega arith) in
    length-append (span a (width t)) (spans ts at) ∙ omega arith

location-same : (xs ys : List ℕ) (next : ℕ) (x : Location) → Same xs ys → address_at ys next x ≡ address_at xs next x
location-same xs ys next nowhere h = refl
location-same xs ys next (input i) h = sym (h i)
location-same xs ys next (offset d) h = refl

stood : (outs xs ys : List ℕ) (first b : ℕ) (os : List Location) → first ≤ unit_bound → Same xs ys → ((q : ℕ) → q < length os → Stands (get_or outs (b + q) 0) (get_or os q nowhere))
    → addresses_in outs ys first b (length os) ≡ map (address_at xs first) os
unfolding addresses_in
stood outs xs ys first b [] l h g = refl
stood outs xs ys first b (o ∷ os) l h g =
    let z : b + 0 ≡ b = omega arith in
    let e : address_of ys first (get_or outs b 0) ≡ address_at xs first o =
    stands-address ys first (get_or outs b 0) o l (subst (λ (q : ℕ). Stands (get_or outs q 0) o) z (g 0 (omega arith))) ∙ location-same xs ys first o h in
    ap (λ (a : ℕ). a ∷ addresses_in outs ys first (b + 1) (length os)) e
    ∙ ap (λ (ys : List ℕ). address_at xs first o ∷ ys)
    (stood outs xs ys first (b + 1) os l h (λ q ql. let y : b + suc q ≡ b + 1 + q = omega arith in subst (λ (m : ℕ). Stands (get_or outs m 0) (get_or os q nowhere)) y (g (suc q) (omega arith))))

each_at : (P : Location → Type 0) (xs : List Location) → Each P xs → (q : ℕ) → q < length xs → P (get_or xs q nowhere)
each_at P [] h q l = absurd (omega arith)
each_at P (x ∷ xs) (h, hs) zero l = h
each_at P (x ∷ xs) (h, hs) (suc q) l = each_at P xs hs q (omega arith)

-- what a pass notes changes no address that it writes
relocate-steady : (pass : Pass) (m : ℕ) (place : List ℕ) (is : List Instruction) (a : ℕ) → relocate_by pass (notes_by pass m place is) a ≡ relocate_by pass place a
relocate-steady Survey m place is a = refl
relocate-steady Sequential m place is a = refl
relocate-steady Addressed m place is a = refl

types-length : (n : ℕ) (s : List ℕ) (at : ℕ) → length (inputs_at n s at) ≡ n
types-length zero s at = refl
types-length (suc n) s at = ap suc (types-length n s (at + 1))

-- the inputs of the function at position k
pub inputs-counted : (s : List ℕ) (k : ℕ) → length (function_in s k).inputs ≡ input_count s (place_of s k)
unfolding function_at
inputs-counted s k = types-length (input_count s (place_of s k)) s (place_of s k + 6)

-- ---- the whole

module _ (pass : Pass) {s : List ℕ} {k : ℕ} (acc : Accepted s (suc k)) {count inputs outputs : ℕ} (ms : Measured (naming_of pass) s k count inputs outputs)
    {lay : Layout} (pr : Prepared (naming_of pass) s k lay) where
  abbrev outs : List ℕ
  outs = lay.outs

  abbrev ins : List ℕ
  ins = lay.ins

  abbrev ver : Version
  ver = naming_of pass

  abbrev f : Function
  f = function_in s k

  abbrev list : Inlined
  list = inlined_at ver s k

  abbrev first : ℕ
  first = first_by ver f.inputs

  sound : AllSound (f ∷ before s k)
  unfolding earlier
  sound = sound-below s (suc k) acc k (omega arith)

  same : Same (inputs_by ver f.inputs) ins
  same =
      let l = sound.0.resolved.formed.inputs in
      let e : length (inputs_by ver f.inputs) ≡ length f.inputs = inputs-length ver f.inputs in
      subst (Same (inputs_by ver f.inputs)) (sym pr.inputs) (padded port_limit (inputs_by ver f.inputs) (omega arith))

  pub inlined-is : function_inlined ver s k ins first ≡ list
  unfolding function_inlined inlined_at
  inlined-is = sym (function-same ver (inputs_by ver f.inputs) ins same (inlined (sizing ver) (before s k)) f first)

  units-are : (summary_at ver s k).words ≡ units_at ver s k
  units-are = function-units ver (before s k) f sound ∙ units-at ver s k

  next-is : list.next ≡ first + units_at ver s k
  unfolding inlined_at
  next-is =
      function-next ver (inlined (sizing ver) (before s k)) (summary ver (before s k)) (inlined-follows ver (before s k)) f (inputs_by ver f.inputs) first
      ∙ ap (λ (n : ℕ). first + n) units-are

  ports-length : length list.ports ≡ length (output_types f.outputs)
  unfolding inlined_at
  ports-length =
      length-map (output_refs f.outputs) _ ∙ length-map f.outputs (λ o. o.ref) ∙ sym (length-map f.outputs (λ o. o.type))

  outputs-length : (place : List ℕ) → length (outputs_by pass place s k) ≡ widths (output_types f.outputs)
  outputs-length place =
      spans-length (output_types f.outputs) (map (relocate_by pass place) list.ports) (length-map list.ports (relocate_by pass place) ∙ ports-length)

  pub room_for : {code place : List ℕ} {at : ℕ} → at + length (bytes_by pass place list.code) ≤ length code → CodeRoom pass code place at first (function_inlined ver s k ins first)
  room_for {code} {place} {at} l =
      subst (λ (o : Inlined). CodeRoom pass code place at first o) (sym inlined-is)
      (record { room = l; end = let a = next-is in let b = ms.end in omega arith; own = let a = next-is in let b = ms.own in omega arith })

  module _ (place : List ℕ) (words : ℕ) where
    pub text-length : length (text_of pass place s k words) ≡ 12 + length (bytes_by pass place list.code) + 2 * outputs
    unfolding text_of
    text-length =
        let h = header_code (number ver) (widths f.inputs) (widths (output_types f.outputs)) (length list.code) words in
        let i = bytes_by pass place list.code in
        let o = all_bytes 2 (outputs_by pass place s k) in
        let a : length (h ++ (i ++ o)) ≡ length h + length (i ++ o) = length-append h (i ++ o) in
        let b : length (i ++ o) ≡ length i + length o = length-append i o in
        let d : length o ≡ 2 * length (outputs_by pass place s k) = all-length 2 (outputs_by pass place s k) in
        let e : length (outputs_by pass place s k) ≡ widths (output_types f.outputs) = outputs-length place in
        let r = ms.results in
        omega arith

    pub walk-room : {code : List ℕ} → length (text_of pass place s k words) ≤ length code → CodeRoom pass code place 12 first (function_inlined ver s k ins first)
    walk-room {code} l = room_for (let a = text-length in omega arith)

  pub first-low : first ≤ unit_bound
  first-low = let a = ms.end in let b = end-bound ver in omega arith

  -- ---- the output words

  stands : (q : ℕ) → q < length (summary_at ver s k).outputs → Stands (get_or outs (8 * k + q) 0) (get_or (summary_at ver s k).outputs q nowhere)
  stands q l =
      let w = units-are in
      let b = ms.own in
      let t = limit-bound ver in
      let a = sound.0.resolved.formed.inputs in
      let ports = pr.ports k (omega arith) ms.own in
      let few = ports.few in
      strong (length f.inputs) (get_or outs (8 * k + q) 0) (get_or (summary_at ver s k).outputs q nowhere) a (ports.coded q (omega arith))
      (each_at (Within (length f.inputs) unit_bound) (summary_at ver s k).outputs
      (each-wider (length f.inputs) unit_bound (summary_at ver s k).words (summary_at ver s k).outputs (omega arith) (outputs-within ver (before s k) f sound)) q l)

  pub ports-are : addresses_in outs ins first (8 * k) (output_count s (place_of s k)) ≡ list.ports
  unfolding inlined_at
  ports-are =
      ap (λ (m : ℕ). addresses_in outs ins first (8 * k) m) (sym (summary-size ver s k))
      ∙ stood outs (inputs_by ver f.inputs) ins first (8 * k) (summary_at ver s k).outputs first-low same stands
      ∙ sym (function-ports ver (inlined (sizing ver) (before s k)) (summary ver (before s k)) (inlined-follows ver (before s k)) f (inputs_by ver f.inputs) first)

  types_are : types_by 4 (output_count s (place_of s k)) s (outputs_place s (place_of s k)) ≡ output_types f.outputs
  unfolding function_at
  types_are = outputs-are (output_count s (place_of s k)) s (outputs_place s (place_of s k))

  -- the n outputs have their entries at q; the header and the instructions are written
  module _ (code place wide : List ℕ) (words : ℕ) {n q m : ℕ} {code₁ code₂ place₂ wide₂ : List ℕ} {r : Reached} (en : n ≡ output_count s (place_of s k)) (eq : q ≡ outputs_place s (place_of s k))
      (e₁ : code₁ ≡ sets code 0 (header_code (number ver) inputs outputs count words)) (e₂ : Walks pass m code₁ place wide code₂ place₂ wide₂ 12 (function_inlined ver s k ins first) r) where
    end_is : r.at ≡ 12 + length (bytes_by pass place list.code)
    end_is = e₂.end ∙ ap (λ (o : Inlined). 12 + length (bytes_by pass place o.code)) inlined-is

    pub out-room : length (text_of pass place s k words) ≤ length code → r.at + 2 * widths (types_by 4 n s q) ≤ length code₂
    out-room l =
        let a = text-length place words in
        let b = end_is in
        let c : length code₂ ≡ length code =
        ap length e₂.written ∙ length-sets code₁ 12 (bytes_by pass place (function_inlined ver s k ins first).code) ∙ ap length e₁ ∙ length-sets code 0 (header_code (number ver) inputs outputs count words) in
        let w : widths (types_by 4 (output_count s (place_of s k)) s (outputs_place s (place_of s k))) ≡ outputs = ap widths types_are ∙ sym ms.results in
        rw (en, eq) (omega arith)

    spans-are : spans (types_by 4 n s q) (map (relocate_by pass place₂) (addresses_in outs ins first (8 * k) n)) ≡ outputs_by pass place s k
    spans-are =
        (rw (en, eq))
        ∙ ap (λ (ts : List ℕ). spans ts (map (relocate_by pass place₂) (addresses_in outs ins first (8 * k) (output_count s (place_of s k))))) types_are
        ∙ ap (λ (xs : List ℕ). spans (output_types f.outputs) (map (relocate_by pass place₂) xs)) ports-are
        ∙ ap (spans (output_types f.outputs))
        (map_same (relocate_by pass place₂) (relocate_by pass place)
        (λ a. ap (λ (ps : List ℕ). relocate_by pass ps a) e₂.noted ∙ relocate-steady pass m place (function_inlined ver s k ins first).code a) list.ports)

    pub assembled : {xs : List ℕ} {c : ℕ} {code₃ : List ℕ} → xs ≡ addresses_in outs ins first (8 * k) n → c ≡ n → code₃ ≡ sets code₂ r.at (all_bytes 2 (spans (types_by 4 c s q) (map (relocate_by pass place₂) xs)))
        → code₃ ≡ sets code 0 (text_of pass place s k words)
    unfolding text_of
    assembled {xs} ex en e₃ =
        let h = header_code (number ver) (widths f.inputs) (widths (output_types f.outputs)) (length list.code) words in
        let i = bytes_by pass place list.code in
        let o = all_bytes 2 (outputs_by pass place s k) in
        let eh : header_code (number ver) inputs outputs count words ≡ h =
        ap (λ (x : ℕ). header_code (number ver) x outputs count words) ms.arguments
        ∙ ap (λ (x : ℕ). header_code (number ver) (widths f.inputs) x count words) ms.results
        ∙ ap (λ (x : ℕ). header_code (number ver) (widths f.inputs) (widths (output_types f.outputs)) x words) ms.instructions in
        let ec : code₁ ≡ sets code 0 h = e₁ ∙ ap (sets code 0) eh in
        let ed : code₂ ≡ sets code₁ 12 i = e₂.written ∙ ap (λ (x : Inlined). sets code₁ 12 (bytes_by pass place x.code)) inlined-is in
        e₃
        ∙ ap (λ (m : ℕ). sets code₂ r.at (all_bytes 2 (spans (types_by 4 m s q) (map (relocate_by pass place₂) xs)))) en
        ∙ ap (λ (ys : List ℕ). sets code₂ r.at (all_bytes 2 (spans (types_by 4 n s q) (map (relocate_by pass place₂) ys)))) ex
        ∙ ap (λ (ws : List ℕ). sets code₂ r.at (all_bytes 2 ws)) spans-are
        ∙ ap (λ (m : ℕ). sets code₂ m o) end_is
        ∙ ap (λ (l : List ℕ). sets l (12 + length i) o) ed
        ∙ sym (sets-append i o code₁ 12)
        ∙ ap (λ (l : List ℕ). sets l 12 (i ++ o)) ec
        ∙ sym (sets-append h (i ++ o) code 0)

-- a survey asks for no room
pub survey-room : {s : List ℕ} {k : ℕ} → Accepted s (suc k) → {count inputs outputs : ℕ} → Measured V2 s k count inputs outputs → {lay : Layout}
    → Prepared V2 s k lay → {code place : List ℕ} → CodeRoom Survey code place 0 (first_by V2 (function_in s k).inputs) (function_inlined V2 s k lay.ins (first_by V2 (function_in s k).inputs))
survey-room acc ms pr = room_for Survey acc ms pr (omega arith)
