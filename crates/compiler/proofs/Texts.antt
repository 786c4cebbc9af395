-- What is written is the code of the list: in version 1 the addresses are its words; in version 2 the names' places are its words.
use Prim.Native.Nat.{ℕ, zero, suc, ◌+◌, ◌*◌, ◌≤◌, ◌<◌}
use mathlib.Core.Path.{◌≡◌, refl, sym, ap, ap₂, ◌∙◌, subst}
use mathlib.Core.Bool.{Bool, true, false, cond}
use mathlib.Core.List.{List, [], ◌∷◌, ◌++◌, map, append-nil}
use native.Mathlib.Omega.{arith}
use lib.Dec.{leb}
use lib.ListN.{length, get_or, replicate, length-map, length-replicate}
use lib.Seq.{sets, length-sets}
use borrow.Author.Tests.{leb-true}
use Rattle.base.specs.Bytes.{all_bytes}
use Rattle.base.specs.Limits.{placed_limit, word_limit}
use Rattle.base.proofs.Stores.{sets-in}
use Rattle.ports.specs.Ports.{width, widths}
use Rattle.graph.specs.Graph.{Function}
use Rattle.graph.specs.Types.{output_types}
use Rattle.graph.specs.Sound.{AllSound}
use Rattle.reader.specs.Layout.{output_count, earlier}
use Rattle.bytecode.specs.declared.Version.TheVariants.{V1, V2}
use Rattle.bytecode.specs.Run.{Instruction, BoardList, places, spans}
use Rattle.bytecode.specs.Ranges.{Range}
use Rattle.bytecode.specs.Code.{header_code, instructions_code, encode}
use Rattle.std.specs.Prelude.{Option, Some, None}
use Rattle.placement.specs.Live.{input_values}
use Rattle.placement.specs.Place.{places_of, rename, renamed}
use Rattle.placement.specs.OneValue.{Placeable}
use Rattle.placement.specs.Arrays.{nothing, values_of, Wide, Widths, Lasting}
use Rattle.placement.specs.Record.{Placement, extent_of}
use Rattle.placement.proofs.Words.{all-wide, extent-is}
use Rattle.lowering.specs.Compile.{Inlined, inline_function, inlined}
use Rattle.lowering.specs.Naming.{named_of, AllRename}
use Rattle.lowering.proofs.Limits.{output-words}
use Rattle.lowering.proofs.Lawful.{placeable}
use Rattle.lowering.proofs.Naming.{naming, instructions-count, inputs-length}
use Rattle.sums.specs.Position.{place_of, function_in, before, Accepted}
use Rattle.sums.proofs.Accepted.{sound-below}
use Rattle.compiler.specs.declared.Pass.TheVariants.{Survey, Sequential, Addressed}
use Rattle.compiler.specs.declared.Reached.{Reached}
use Rattle.compiler.specs.declared.Layout.{Layout}
use Rattle.compiler.specs.Emit.{addresses_in, relocate, relocated, function_inlined, noted, notes, measures, Walks}
use Rattle.compiler.specs.Whole.{code_at, first_by, inlined_at, text_of, Measured, Prepared, source_at, reused_at, Surveyed, Places}
use Rattle.compiler.proofs.Assembly.{inlined-is, ports-are}
use Rattle.compiler.proofs.Placing.{Wides, notes-length, noted-length, widths-surveyed, lasting-surveyed, spans-relocated, all-relocated-code}

map-self : (xs : List ℕ) → map (λ a. a) xs ≡ xs
map-self [] = refl
map-self (x ∷ xs) = ap (λ (ys : List ℕ). x ∷ ys) (map-self xs)

input-wides : (at : ℕ) (ts : List ℕ) (v : ℕ) → v < length ts → (get_or (input_values at ts) v nothing).width ≡ get_or (map width ts) v 0
input-wides at [] v l = absurd (omega arith)
input-wides at (t ∷ ts) zero l = refl
input-wides at (t ∷ ts) (suc v) l = input-wides (at + width t) ts v (omega arith)

-- an extent that is a number
pub extent-words : (n w : ℕ) → Some n ≡ extent_of w → (n ≡ w) × (w ≤ word_limit)
extent-words n w e = pick (leb w word_limit) refl e
  where
    number : Option ℕ → ℕ
    number (Some m) = m
    number None = 0

    is-words : Option ℕ → ℕ
    is-words (Some m) = 0
    is-words None = 1

    pick : (c : Bool) → leb w word_limit ≡ c → Some n ≡ cond c (Some w) None → (n ≡ w) × (w ≤ word_limit)
    pick true q e = (ap number e, leb-true w word_limit q)
    pick false q e = absurd (let z : ◌≡◌ {A = ℕ} 0 1 = ap is-words e in omega arith)

module _ {s : List ℕ} {k : ℕ} (acc : Accepted s (suc k)) where
  abbrev f : Function
  f = function_in s k

  abbrev b : BoardList
  b = source_at s k

  sound : AllSound (f ∷ before s k)
  unfolding earlier
  sound = sound-below s (suc k) acc k (omega arith)

  -- ---- version 1

  pub text-sequential : (place : List ℕ) → text_of Sequential place s k b.words ≡ code_at s k
  unfolding text_of encode inlined_at
  text-sequential place =
      let o = inline_function widths (inlined widths (before s k)) f (places 0 f.inputs) (widths f.inputs) in
      let head : ℕ → List ℕ = λ n. header_code 1 (widths f.inputs) n (length o.code) b.words in
      let rest : List ℕ → List ℕ = λ xs. instructions_code V1 o.code ++ all_bytes 2 (spans (output_types f.outputs) xs) in
      ap₂ (λ (n : ℕ) (xs : List ℕ). head n ++ rest xs) (sym (output-words (before s k) f sound)) (map-self o.ports)

  -- ---- version 2

  own-placeable : Placeable f.inputs b
  own-placeable = placeable (before s k) f sound

  named-is : inlined_at V2 s k ≡ named_of (before s k) f
  unfolding inlined_at
  named-is = refl

  module _ {count inputs outputs : ℕ} (ms : Measured V2 s k count inputs outputs) where
    pub count-is : count ≡ length b.instructions
    count-is = ms.instructions ∙ ap (λ (o : Inlined). length o.code) named-is ∙ instructions-count (before s k) f

    few-values : length f.inputs + length b.instructions ≤ placed_limit
    few-values = let l = sound.0.resolved.formed.inputs in let c = count-is in let n = ms.few in omega arith

    module _ {lay : Layout} (pr : Prepared V2 s k lay) where
      pub surveyed :
          {m n first x at : ℕ} {code code' place₀ wide₁ place₁ wide₂ place₂ : List ℕ} {r : Reached} → place₀ ≡ replicate placed_limit 0 → m ≡ length f.inputs → first ≡ first_by V2 f.inputs
          → wide₁ ≡ sets (replicate placed_limit 0) 0 (map width f.inputs)
          → Walks Survey m code place₀ wide₁ code' place₁ wide₂ at (function_inlined V2 s k lay.ins first) r → n ≡ output_count s (place_of s k) → x ≡ count + 1
          → {xs : List ℕ} → xs ≡ addresses_in lay.outs lay.ins first (8 * k) n → place₂ ≡ noted place₁ x xs → Surveyed s k place₂ wide₂
      surveyed {m} {n} {first} {x} {wide₁ = wide₁} {place₁} {wide₂} {place₂} e₀ em ef ew w en ex {xs} el ep =
          let zeros : List ℕ = replicate placed_limit 0 in
          let code = (named_of (before s k) f).code in
          let ports = (named_of (before s k) f).ports in
          let h = naming (before s k) f sound in
          let l = sound.0.resolved.formed.inputs in
          let walked : function_inlined V2 s k lay.ins first ≡ named_of (before s k) f =
          ap (function_inlined V2 s k lay.ins) ef ∙ inlined-is Survey acc ms pr ∙ named-is in
          let stood : xs ≡ ports =
          el ∙ ap₂ (λ (q c : ℕ). addresses_in lay.outs lay.ins q (8 * k) c) ef en ∙ ports-are Survey acc ms pr ∙ ap (λ (o : Inlined). o.ports) named-is in
          let last : place₁ ≡ notes (length f.inputs) zeros code =
          w.noted ∙ ap (λ (l : List ℕ). notes m l (function_inlined V2 s k lay.ins first).code) e₀ ∙ ap₂ (λ (o : Inlined) (i : ℕ). notes i zeros o.code) walked em in
          let place : place₂ ≡ noted (notes (length f.inputs) zeros code) x ports = ep ∙ ap₂ (λ (l ps : List ℕ). noted l x ps) last stood in
          let wide : wide₂ ≡ measures wide₁ code = w.measured ∙ ap (λ (o : Inlined). measures wide₁ o.code) walked in
          let size : length wide₁ ≡ placed_limit = ap length ew ∙ length-sets zeros 0 (map width f.inputs) ∙ length-replicate {A = ℕ} placed_limit 0 in
          let c = inputs-length 0 f.inputs in
          let ml : length (map width f.inputs) ≡ length f.inputs = length-map f.inputs width in
          let zl : length zeros ≡ placed_limit = length-replicate {A = ℕ} placed_limit 0 in
          let wides : Wides wide₁ (input_values 0 f.inputs) =
          λ v lv.
          let z : v ≡ 0 + v = omega arith in
          input-wides 0 f.inputs v (omega arith)
          ∙ sym (ap (λ (ws : List ℕ). get_or ws v 0) ew ∙ ap (λ (q : ℕ). get_or (sets zeros 0 (map width f.inputs)) q 0) z ∙ sets-in (map width f.inputs) zeros 0 v (omega arith) (omega arith)) in
          let number : x ≡ length b.instructions + 1 = let q = count-is in omega arith in
          record {
            widths = subst (λ (ws : List ℕ). Widths ws (length f.inputs) f.inputs b) (sym wide) (widths-surveyed f.inputs b own-placeable few-values code h.code wide₁ size wides);
            lasting =
                subst (λ (ls : List ℕ). Lasting ls (length f.inputs) f.inputs b) (sym place)
                (lasting-surveyed f.inputs b own-placeable few-values code h.code (output_types f.outputs) ports _ refl h.ports number);
            size = ap length place ∙ noted-length (notes (length f.inputs) zeros code) x ports ∙ notes-length (length f.inputs) zeros code ∙ zl;
          }

    pub wide_enough : {last wide : List ℕ} {m : ℕ} → Surveyed s k last wide → m ≡ length f.inputs → Wide wide (m + count)
    wide_enough {wide = wide} {m} su em =
        subst (Wide wide) (ap₂ (λ (x y : ℕ). x + y) (sym em) (sym count-is)) (all-wide wide (length f.inputs) f.inputs b own-placeable su.widths)

    pub placed-texts :
        {last wide place until : List ℕ} {m : ℕ} {r : Option ℕ} → Surveyed s k last wide → m ≡ length f.inputs
        → ((inputs : List ℕ) (b : BoardList) → count ≤ length b.instructions → Widths wide m inputs b → Lasting last m inputs b → Placement m count place until r inputs b)
        → Places s k place r
    unfolding text_of encode inlined_at
    placed-texts {last} {wide} {place} {until} {m} {r} su em all = record { extent = extent-is f.inputs b (length f.inputs) (length b.instructions) place until r refl p; text = text }
      where
        p : Placement (length f.inputs) (length b.instructions) place until r f.inputs b
        p =
            subst (λ (n : ℕ). Placement (length f.inputs) n place until r f.inputs b) count-is
            (subst (λ (i : ℕ). Placement i count place until r f.inputs b) em
            (all f.inputs b (let q = count-is in omega arith) (subst (λ (i : ℕ). Widths wide i f.inputs b) (sym em) su.widths)
            (subst (λ (i : ℕ). Lasting last i f.inputs b) (sym em) su.lasting)))

        text : (reused_at s k).words ≤ word_limit → text_of Addressed place s k (reused_at s k).words ≡ encode V2 (reused_at s k)
        text fits =
            let n = named_of (before s k) f in
            let h = naming (before s k) f sound in
            let ps = places_of f.inputs b in
            let ts = output_types f.outputs in
            let values = input_values 0 f.inputs in
            let code : map (relocated place) n.code ≡ map (renamed ps) b.instructions =
            all-relocated-code f.inputs b own-placeable few-values place until wide r su.widths p fits n.code b.instructions []
            (subst (λ (vs : List Range). AllRename vs n.code b.instructions) (sym (append-nil values)) h.code) refl in
            let outs : spans ts (map (relocate place) n.ports) ≡ map (rename ps) b.outputs =
            spans-relocated f.inputs b own-placeable few-values place until wide r su.widths p fits (values_of f.inputs b) [] (sym (append-nil (values_of f.inputs b))) ts n.ports _ h.ports in
            let count-out : widths ts ≡ length (map (rename ps) b.outputs) = sym (length-map b.outputs (rename ps) ∙ output-words (before s k) f sound) in
            let count_code : length n.code ≡ length (map (renamed ps) b.instructions) = instructions-count (before s k) f ∙ sym (length-map b.instructions (renamed ps)) in
            let head : ℕ → ℕ → List ℕ = λ o c. header_code 2 (widths f.inputs) o c (reused_at s k).words in
            ap₂ (λ (o c : ℕ). head o c ++ (instructions_code V2 (map (relocated place) n.code) ++ all_bytes 2 (spans ts (map (relocate place) n.ports)))) count-out count_code
            ∙ ap₂ (λ (is : List Instruction) (xs : List ℕ). head (length (map (rename ps) b.outputs)) (length (map (renamed ps) b.instructions)) ++ (instructions_code V2 is ++ all_bytes 2 xs)) code outs

-- with the word count as the placement answers it
pub words_placed : {s : List ℕ} {k : ℕ} {place : List ℕ} {n : ℕ} → Places s k place (Some n) → n ≤ word_limit → text_of Addressed place s k n ≡ encode V2 (reused_at s k)
words_placed {s} {k} {place} {n} p l = ap (text_of Addressed place s k) (words_are p.extent).0 ∙ p.text (words_are p.extent).1
  where
    words_are : Some n ≡ extent_of (reused_at s k).words → (n ≡ (reused_at s k).words) × ((reused_at s k).words ≤ word_limit)
    words_are e = extent-words n (reused_at s k).words e
