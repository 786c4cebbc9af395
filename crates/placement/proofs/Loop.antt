-- What the loops over inputs and over results keep: the arrays' lengths, the notes of the values that are still to come, and for every
-- list that the arrays describe the values placed so far.
use Prim.Native.Nat.{ℕ, suc, ◌+◌, ◌*◌, ◌≤◌, ◌<◌, max}
use mathlib.Core.Path.{◌≡◌, refl, ap, sym, ◌∙◌, subst}
use mathlib.Core.List.{List}
use native.Mathlib.Omega.{arith}
use native.Mathlib.Nat.{add-zero}
use lib.ListN.{length, get_or, set, replicate, length-replicate, length-set}
use lib.Seq.{sets, length-sets}
use Rattle.base.specs.Limits.{port_limit, word_limit, placed_limit}
use Rattle.base.proofs.Stores.{stored-above}
use Rattle.bytecode.specs.Run.{BoardList}
use Rattle.std.specs.Prelude.{Some, None}
use Rattle.placement.specs.Place.{Placed}
use Rattle.placement.specs.Balance.{history_of, Balanced}
use Rattle.placement.specs.Arrays.{Wide, Widths, Lasting}
use Rattle.placement.specs.Record.{Bounds, Placing, Rest, Kept, Begun, Placement, bound_limit}
use Rattle.placement.proofs.Ranges.{all-zero}
use Rattle.placement.proofs.Values.{first_inputs, inputs-all}
use Rattle.placement.proofs.Scan.{bounds-start}
use Rattle.placement.proofs.Steps.{rest-next, inputs-start, inputs-step, result-step, result-balanced, result-over, results_end}

-- ---- the inputs

pub record Entering (widths last : List ℕ) (m : ℕ) (until place : List ℕ) (at v : ℕ) : Type 0 where
  pub turns : v ≤ m
  pub room : at ≤ 255 * v
  pub fresh : (a : ℕ) → at ≤ a → get_or until a 0 ≡ 0
  pub size : length until ≡ word_limit
  pub values : length place ≡ placed_limit
  pub rest : Rest last place v
  pub state : (inputs : List ℕ) (b : BoardList) → Widths widths m inputs b → Lasting last m inputs b → Kept until place at v 0 (first_inputs inputs v) inputs b

pub entering : (widths last : List ℕ) (m : ℕ) (until : List ℕ) → until ≡ replicate word_limit 0 → length last ≡ placed_limit → Entering widths last m until last 0 0
entering widths last m until e values = record {
  turns = omega arith;
  room = omega arith;
  fresh = λ a l. ap (λ (u : List ℕ). get_or u a 0) e ∙ all-zero a word_limit;
  size = ap length e ∙ length-replicate {A = ℕ} word_limit 0;
  values = values;
  rest = λ v l. refl;
  state = λ inputs b w h. subst (λ (u : List ℕ). Kept u last 0 0 0 (first_inputs inputs 0) inputs b) (sym e) (inputs-start inputs b last);
}

module _ (widths last : List ℕ) (m : ℕ) (until place : List ℕ) (at v : ℕ) (g : Entering widths last m until place at v) where
  pub entering-next : (w : ℕ) (exit : List ℕ) → m ≤ port_limit → v < m → w ≡ get_or widths v 0 → w < 256 → exit ≡ sets until at (replicate w (get_or place v 0))
      → Entering widths last m exit (set place v at) (at + w) (v + 1)
  entering-next w exit few more e small stored =
      let room = g.room in
      let size = g.size in
      let values = g.values in
      let own = stored ∙ ap (λ (y : ℕ). sets until at (replicate w y)) (g.rest v (omega arith)) in
      record {
        turns = omega arith;
        room = omega arith;
        fresh = λ a l.
            ap (λ (u : List ℕ). get_or u a 0) own
            ∙ stored-above 0 (replicate w (get_or last v 0)) until at a (omega (arith, length-replicate w (get_or last v 0)))
            ∙ g.fresh a (omega arith);
        size = ap length own ∙ length-sets until at (replicate w (get_or last v 0)) ∙ g.size;
        values = length-set place v at ∙ g.values;
        rest = rest-next last place v at g.rest;
        state = λ inputs b ws h.
            subst (λ (u : List ℕ). Kept u (set place v at) (at + w) (v + 1) 0 (first_inputs inputs (v + 1)) inputs b) (sym own)
            (inputs-step widths last m inputs b ws h until place at v w (g.state inputs b ws h) more e (omega arith) (omega arith));
      }

  pub entered : m ≤ port_limit → m ≤ v → Begun widths last m until place at
  entered few done =
      let turns = g.turns in
      let room = g.room in
      let all : v ≡ m = omega arith in
      record {
        room = omega arith;
        fresh = g.fresh;
        words = g.size;
        values = g.values;
        rest = subst (λ (x : ℕ). Rest last place x) all g.rest;
        state = λ inputs b ws h.
            let e : first_inputs inputs m ≡ history_of inputs b 0 = ap (first_inputs inputs) (sym ws.before) ∙ inputs-all inputs b in
            subst (λ (ps : List Placed). Kept until place at m 0 ps inputs b) e
            (subst (λ (x : ℕ). Kept until place at x 0 (first_inputs inputs x) inputs b) all (g.state inputs b ws h));
      }

-- ---- the results; the loop knows what the notes were only through what stands before it

pub record Going (widths : List ℕ) (m n : ℕ) (until₀ place₀ : List ℕ) (high₀ : ℕ) (until place low : List ℕ) (high k : ℕ) : Type 0 where
  pub turns : k ≤ n
  pub room : high ≤ word_limit
  pub bounds : Bounds until low high
  pub size : length until ≡ word_limit
  pub values : length place ≡ placed_limit
  pub rest : Rest place₀ place (m + k)
  pub state : (last inputs : List ℕ) (b : BoardList) → n ≤ length b.instructions → Rest last place₀ m → Widths widths m inputs b → Lasting last m inputs b
      → Kept until₀ place₀ high₀ m 0 (history_of inputs b 0) inputs b
      → Kept until place high (m + k) k (history_of inputs b k) inputs b × ((j : ℕ) → k ≡ suc j → Balanced inputs b j until)

pub going : (widths last : List ℕ) (m n : ℕ) (until place : List ℕ) (high : ℕ) → Begun widths last m until place high
    → Going widths m n until place high until place (replicate bound_limit 0) high 0
going widths last m n until place high g =
    let room = g.room in
    record {
      turns = omega arith;
      room = omega arith;
      bounds = bounds-start until high g.fresh;
      size = g.words;
      values = g.values;
      rest = λ v l. refl;
      state = λ last inputs b many r ws h s. (
        subst (λ (x : ℕ). Kept until place high x 0 (history_of inputs b 0) inputs b) (sym (add-zero m)) s,
        λ j e. absurd (omega arith),
      );
    }

module _ (widths last : List ℕ) (m n : ℕ) (until₀ place₀ : List ℕ) (high₀ : ℕ) (until place low : List ℕ) (high k : ℕ)
    (g : Going widths m n until₀ place₀ high₀ until place low high k) where
  module _ (exit low' : List ℕ) (w at : ℕ) (more : k < n) (wide : Wide widths (m + n)) (e : w ≡ get_or widths (m + k) 0)
      (p : Placing until exit low' k w (get_or place (m + k) 0) high at) where
    one : 1 ≤ w
    one = let h = (wide (m + k) (omega arith)).0 in omega arith

    pub going_next : (high' : ℕ) → m + n ≤ placed_limit → at + w ≤ word_limit → high' ≡ max high (at + w)
        → Going widths m n until₀ place₀ high₀ exit (set place (m + k) at) low' high' (k + 1)
    going_next high' few fits hi =
        let room = g.room in
        let size = g.size in
        let values = g.values in
        let stored = p.stored fits in
        record {
          turns = omega arith;
          room = omega arith;
          bounds = subst (λ (y : ℕ). Bounds exit low' y) (sym hi) (p.bounds fits);
          size = ap length stored ∙ length-sets until at (replicate w (max (get_or place (m + k) 0) (k + 1))) ∙ size;
          values = length-set place (m + k) at ∙ values;
          rest = λ v l. rest-next place₀ place (m + k) at g.rest v (omega arith);
          state = λ last inputs b many same ws h s0.
              let note : get_or place (m + k) 0 ≡ get_or last (m + k) 0 = g.rest (m + k) (omega arith) ∙ same (m + k) (omega arith) in
              let stop = max (get_or last (m + k) 0) (k + 1) in
              let own : exit ≡ sets until at (replicate w stop) = stored ∙ ap (λ (y : ℕ). sets until at (replicate w (max y (k + 1)))) note in
              let before = (g.state last inputs b many same ws h s0).0 in
              let there : k < length b.instructions = omega arith in (
                subst (λ (y : ℕ). Kept exit (set place (m + k) at) y (m + (k + 1)) (k + 1) (history_of inputs b (k + 1)) inputs b) (sym hi)
                    (subst (λ (u : List ℕ). Kept u (set place (m + k) at) (max high (at + w)) (m + (k + 1)) (k + 1) (history_of inputs b (k + 1)) inputs b) (sym own)
                    (result-step widths last m inputs b ws h until place high k w at before there e one p.gap (omega arith) (omega arith))),
                λ j next.
                    let this : k ≡ j = omega arith in
                    subst (λ (i : ℕ). Balanced inputs b i exit) this
                    (subst (λ (u : List ℕ). Balanced inputs b k u) (sym own)
                    (result-balanced widths last m inputs b ws h until place high k w at before there e one p.gap stop (omega arith) (omega arith))),
              );
        }

    pub going-over : (place' until' : List ℕ) → Begun widths last m until₀ place₀ high₀ → word_limit < at + w → (inputs : List ℕ) (b : BoardList)
        → n ≤ length b.instructions → Widths widths m inputs b → Lasting last m inputs b → Placement m n place' until' None inputs b
    going-over place' until' s over inputs b many ws h =
        result-over widths last m inputs b ws h until place high k w at (g.state last inputs b many s.rest ws h (s.state inputs b ws h)).0 (omega arith) e one
        p.gap n place' until' more over

  pub going_end : Begun widths last m until₀ place₀ high₀ → n ≤ k → (inputs : List ℕ) (b : BoardList) → n ≤ length b.instructions → Widths widths m inputs b
      → Lasting last m inputs b → Placement m n place until (Some high) inputs b
  going_end s done inputs b many ws h =
      let (kept, balanced) = g.state last inputs b many s.rest ws h (s.state inputs b ws h) in
      let turns = g.turns in
      results_end widths last m inputs b ws h until place high k n kept balanced (omega arith) g.room
