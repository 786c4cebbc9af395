-- The placed list is well formed in version 2. The words of all values placed so far are written, since a value's words are its result's; an
-- operand's words are words of one such value, and an output's too. The highest word written is the highest word held.
use Prim.Native.Nat.{ℕ, ◌+◌, ◌-◌, ◌≤◌, ◌<◌}
use mathlib.Core.Path.{◌≡◌, refl, ap, sym, ◌∙◌, subst}
use mathlib.Core.Bool.{true}
use mathlib.Core.List.{List, [], ◌∷◌, map}
use mathlib.Core.Logic.{inl, inr}
use native.Mathlib.Omega.{arith}
use lib.ListN.{length, length-map}
use Rattle.ports.specs.Kinds.{kind_of}
use Rattle.ports.specs.Ports.{widths, takes}
use Rattle.base.specs.Limits.{operation_limit, word_limit, port_word_limit, address_limit}
use Rattle.base.specs.Lists.{Is}
use Rattle.base.proofs.Bools.{or_left, or_right}
use Rattle.base.proofs.Lists.{each_in, each-less, each_map}
use Rattle.bytecode.specs.declared.Version.TheVariants.{V2}
use Rattle.bytecode.specs.Run.{Instruction, BoardList}
use Rattle.bytecode.specs.Code.{readable, argument_words}
use Rattle.bytecode.specs.Origin.{result_width}
use Rattle.bytecode.specs.Ranges.{Range, end, inside, behind, result_value}
use Rattle.bytecode.specs.Sequential.{next_word, AllFit}
use Rattle.bytecode.specs.WellFormed.{written_by, AllFormed, FormedList}
use Rattle.bytecode.proofs.Sequential.{below_length}
use Rattle.bytecode.proofs.Readable.{inside-inv, is-inside}
use Rattle.placement.specs.Live.{input_values}
use Rattle.placement.specs.Place.{Placed, words, top, inputs_of, placed, place_all, places_of, rename, renamed, reusing}
use Rattle.placement.specs.OneValue.{AllInOne, Placeable}
use Rattle.placement.proofs.Carried.{legal-wide, Along, along-next, place-top, place_is, place-along, place-result}
use Rattle.placement.proofs.Following.{inputs-along, stays, values-stay, top-inputs}
use Rattle.placement.proofs.Words.{all-along, word-place, word_below, operands-below, operands-each}

-- every word of a placed value is written
abbrev pub Written : List Range → Placed → Type 0
Written written p = (j : ℕ) → j < p.value.width → readable V2 written (p.place + j) ≡ true

abbrev Covers : List Range → List Placed → Type 0
Covers written h = (p : Placed) → Is p h → Written written p

covers-next : (written : List Range) (h : List Placed) (p : Placed) (r : Range) → r.first ≡ p.place → r.width ≡ p.value.width → Covers written h
    → Covers (r ∷ written) (p ∷ h)
covers-next written h p r e w c q (inl s) j l =
    or_left _ _ (is-inside r (q.place + j) (omega (arith, ap (λ (x : Placed). x.place) s)) (omega (arith, ap (λ (x : Placed). x.place) s, ap (λ (x : Placed). x.value.width) s)))
covers-next written h p r e w c q (inr i) j l = or_right (inside r (q.place + j)) _ (c q i j l)

record Fitted (written : List Range) (is : List Instruction) (H : List Placed) : Type 0 where
  formed : AllFormed V2 written is
  covers : Covers (written_by written is) H
  highest : behind (written_by written is) ≡ top H

fitted :
    (outputs : List ℕ) (stop : ℕ) (is : List Instruction) (next : ℕ) (h : List Placed) (written : List Range) → AllFit next is stop
    → AllInOne (map (λ p. p.value) h) is → Along next h → top (place_all outputs h is) ≤ word_limit → Covers written h → behind written ≡ top h
    → Fitted written (map (renamed (place_all outputs h is)) is) (place_all outputs h is)
fitted outputs stop [] next h written f w r l c b = record { formed = tt; covers = c; highest = b }
fitted outputs stop (i ∷ is) next h written (x, f) (whole, w) r l c b =
    let p = placed outputs h i is in
    let H = place_all outputs (p ∷ h) is in
    let n = result_width i in
    let along : Along (next_word next i) (p ∷ h) = along-next next n h p x.result refl r in
    let all = place-along outputs is (next_word next i) stop (p ∷ h) f along in
    let place : rename H i.result ≡ p.place = place-result outputs i is next stop h (x, f) in
    let one : 1 ≤ n = legal-wide i x.legal in
    let high : end (words p) ≤ top H = let t = place-top outputs is (p ∷ h) in omega arith in
    let i' = renamed H i in
    let ts = takes (kind_of i.kind) i.type in
    let among : (q : Placed) → Is q h → Is q H = λ q z. place_is outputs is (p ∷ h) q (inr z) in
    let rest = fitted outputs stop is (next_word next i) (p ∷ h) (result_value i' ∷ written) f w along l (covers-next written h p (result_value i') place refl c) (omega arith) in
    record {
      formed = (
        record {
          legal = x.legal;
          arity = length-map i.operands (rename H) ∙ below_length next ts i.operands x.operands;
          small = each-less (map (rename H) i.operands) (top H) address_limit (omega arith) (operands-below H all.distinct h ts i.operands among whole);
          reads = operands-each H all.distinct (λ a. readable V2 written a ≡ true) h ts i.operands among whole (λ q z y. c q z);
          count = x.count;
          words = x.words;
          constants = x.constants;
          result = omega arith;
        },
        rest.formed,
      );
      covers = rest.covers;
      highest = rest.highest;
    }

module _ (inputs : List ℕ) (b : BoardList) (t : Placeable inputs b) where
  -- arguments are written before the first instruction
  pub arguments-written : Covers (argument_words b.arguments) (inputs_of inputs)
  arguments-written p i j l =
      let n = b.arguments in
      let e = t.arguments in
      let below : end p.value ≤ widths inputs = each_in (λ q. end q.value ≤ widths inputs) (inputs_of inputs) (inputs-along inputs).below p i in
      let same : p.place ≡ p.value.first = stays (input_values 0 inputs) p i in
      or_left _ _ (is-inside (record { first = 0; width = n }) (p.place + j) (omega arith) (omega arith))

  -- instructions that are well formed and write all values, with the list's outputs at their values' places, within the limits
  pub placed-formed :
      (H : List Placed) → Along b.words H → (is : List Instruction) → AllFormed V2 (argument_words b.arguments) is
      → Covers (written_by (argument_words b.arguments) is) H → behind (written_by (argument_words b.arguments) is) ≡ top H → b.arguments ≤ port_word_limit
      → 1 ≤ length b.outputs → length b.outputs ≤ port_word_limit → length is ≤ operation_limit → top H ≤ word_limit
      → FormedList V2 (record { arguments = b.arguments; instructions = is; words = top H; outputs = map (rename H) b.outputs })
  placed-formed H all is formed covers highest la lo ho lc lw =
      let outs = b.outputs in
      let size : length (map (rename H) outs) ≡ length outs = length-map outs (rename H) in
      let holder : (a : ℕ) → Is a outs → (p : Placed) × Is p H × (p.value.first ≤ a) × (a < end p.value) =
      λ a i.
      let (p, j, s) = all.covers a (each_in (λ x. x < b.words) outs t.below a i) in
      let (u, v) = inside-inv p.value a s in
      (p, j, u, v) in
      record {
        arguments = la;
        some-output = omega arith;
        outputs = omega arith;
        count = lc;
        words = lw;
        instructions = formed;
        highest = highest;
        small = each_map (λ a. a < address_limit) (rename H) outs
            (λ a i.
            let (p, j, u, v) = holder a i in
            let k = word_below H p a all.distinct j u v in
            omega arith);
        reads = each_map (λ a. readable V2 (written_by (argument_words b.arguments) is) a ≡ true) (rename H) outs
            (λ a i.
            let (p, j, u, v) = holder a i in
            subst (λ (x : ℕ). readable V2 (written_by (argument_words b.arguments) is) x ≡ true) (sym (word-place H p a all.distinct j u v))
            (covers p j (a - p.value.first) (omega arith)));
      }

-- within the limits
pub reusing-formed : (inputs : List ℕ) (b : BoardList) → Placeable inputs b → b.arguments ≤ port_word_limit → 1 ≤ length b.outputs
    → length b.outputs ≤ port_word_limit → length b.instructions ≤ operation_limit → (reusing inputs b).words ≤ word_limit → FormedList V2 (reusing inputs b)
reusing-formed inputs b t la lo ho lc lw =
    let n = b.arguments in
    let is = b.instructions in
    let ins = inputs_of inputs in
    let H = places_of inputs b in
    let e : n ≡ widths inputs = t.arguments in
    let along : Along n ins = subst (λ (m : ℕ). Along m ins) (sym e) (inputs-along inputs) in
    let whole : AllInOne (map (λ p. p.value) ins) is = subst (λ (rs : List Range). AllInOne rs is) (sym (values-stay (input_values 0 inputs))) t.whole in
    let tin = top-inputs inputs in
    let r = fitted b.outputs b.words is n ins (argument_words n) t.fit whole along lw (arguments-written inputs b t) (omega arith) in
    let size : length (map (renamed H) is) ≡ length is = length-map is (renamed H) in
    placed-formed inputs b t H (all-along inputs b t) (map (renamed H) is) r.formed r.covers r.highest la lo ho (omega arith) lw
