-- Memory: what stands in it, and what an overwriting leaves.
use Prim.Native.Nat.{ℕ, zero, suc, ◌+◌, ◌≤◌, ◌<◌}
use mathlib.Core.Path.{◌≡◌, refl, ap, sym, ◌∙◌, subst}
use mathlib.Core.List.{List, [], ◌∷◌, ◌++◌}
use mathlib.Core.Logic.{◌⊎◌, inl, inr}
use native.Mathlib.Omega.{arith}
use lib.ListN.{length}
use lib.Seq.{sets, length-sets}
use Rattle.value.specs.declared.Value.{Value}
use Rattle.ports.specs.Ports.{width, widths}
use Rattle.value.specs.Values.{words_of, all_words, value_at, value_of}
use Rattle.base.specs.Lists.{word_at, words_at}
use Rattle.value.specs.Typed.{Of, Typed}
use Rattle.value.proofs.Laws.{back-of, of_width}
use Rattle.value.proofs.Laws as Laws
use Rattle.base.proofs.Stands.{cons, split}
use Rattle.bytecode.specs.Run.{Instruction, values_at, execute, execute_all, places}
use Rattle.base.proofs.Stores.{sets_below, sets-above}

-- ---- overwriting

-- ---- what is left unchanged

-- n is m but for the words from lo up to hi
pub record Keeps (lo hi : ℕ) (m n : List ℕ) : Type 0 where
  pub size : length n ≡ length m
  pub same : (i : ℕ) → (i < lo) ⊎ (hi ≤ i) → word_at n i ≡ word_at m i

pub keeps-none : (lo hi : ℕ) (m : List ℕ) → Keeps lo hi m m
keeps-none lo hi m = record { size = refl; same = λ i h. refl }

pub keeps-sets : (m : List ℕ) (at hi : ℕ) (ws : List ℕ) → at + length ws ≡ hi → Keeps at hi m (sets m at ws)
keeps-sets m at hi ws e = record { size = length-sets m at ws; same = same }
  where
    same : (i : ℕ) → (i < at) ⊎ (hi ≤ i) → word_at (sets m at ws) i ≡ word_at m i
    same i (inl h) = sets_below ws m at i h
    same i (inr h) = sets-above ws m at i (omega arith)

pub keeps_then : {a b c : ℕ} {l m n : List ℕ} → a ≤ b → b ≤ c → Keeps a b l m → Keeps b c m n → Keeps a c l n
keeps_then {a} {b} {c} {l} {m} {n} p q k k' = record { size = k'.size ∙ k.size; same = same }
  where
    same : (i : ℕ) → (i < a) ⊎ (c ≤ i) → word_at n i ≡ word_at l i
    same i (inl h) = k'.same i (inl (omega arith)) ∙ k.same i (inl h)
    same i (inr h) = k'.same i (inr h) ∙ k.same i (inr (omega arith))

pub words_same : (n : ℕ) (m m' : List ℕ) (at hi : ℕ) → at + n ≤ hi → ((i : ℕ) → i < hi → word_at m' i ≡ word_at m i) → words_at m' at n ≡ words_at m at n
words_same zero m m' at hi h s = refl
words_same (suc n) m m' at hi h s = cons (s at (omega arith)) (words_same n m m' (suc at) hi (omega arith) s)

-- ---- values that stand in memory

-- the words of v stand at a, all below hi
pub record StandsAt (m : List ℕ) (hi a : ℕ) (v : Value) : Type 0 where
  pub below : a + length (words_of v) ≤ hi
  pub words : words_at m a (length (words_of v)) ≡ words_of v

abbrev pub Stand : List ℕ → ℕ → List ℕ → List Value → Type 0
Stand m hi [] [] = Unit {0}
Stand m hi [] (v ∷ vs) = ⊥
Stand m hi (a ∷ at) [] = ⊥
Stand m hi (a ∷ at) (v ∷ vs) = StandsAt m hi a v × Stand m hi at vs

-- they stay where the words below hi stay
module _ {lo hi : ℕ} {m n : List ℕ} (k : Keeps lo hi m n) where
  stays_at : (hi' a : ℕ) (v : Value) → lo ≤ hi' → StandsAt m lo a v → StandsAt n hi' a v
  stays_at hi' a v h s = record {
    below = let b = s.below in omega arith;
    words = words_same (length (words_of v)) m n a lo s.below (λ i l. k.same i (inl l)) ∙ s.words;
  }

  pub stays : (hi' : ℕ) (at : List ℕ) (vs : List Value) → lo ≤ hi' → Stand m lo at vs → Stand n hi' at vs
  stays hi' [] [] h s = tt
  stays hi' [] (v ∷ vs) h s = absurd s
  stays hi' (a ∷ at) [] h s = absurd s
  stays hi' (a ∷ at) (v ∷ vs) h (p, q) = (stays_at hi' a v h p, stays hi' at vs h q)

-- ---- reading them

pub value-at : (m : List ℕ) (hi t a : ℕ) (v : Value) → Of t v → StandsAt m hi a v → value_at m t a ≡ v
value-at m hi t a v o s =
    Laws.value-at m t a ∙ ap (λ (n : ℕ). value_of t (words_at m a n)) (sym (of_width t v o)) ∙ ap (value_of t) s.words ∙ back-of t v o

pub values-at : (m : List ℕ) (hi : ℕ) (ts at : List ℕ) (vs : List Value) → Typed ts vs → Stand m hi at vs → values_at m ts at ≡ vs
values-at m hi [] at [] h s = refl
values-at m hi [] at (v ∷ vs) h s = absurd h
values-at m hi (t ∷ ts) [] [] h s = absurd h
values-at m hi (t ∷ ts) (a ∷ at) [] h s = absurd s
values-at m hi (t ∷ ts) [] (v ∷ vs) h s = absurd s
values-at m hi (t ∷ ts) (a ∷ at) (v ∷ vs) (o, h) (p, s) =
    let x : value_at m t a ≡ v = value-at m hi t a v o p in
    let y : values_at m ts at ≡ vs = values-at m hi ts at vs h s in
    cc

-- ---- writing them

pub stand-placed : (m : List ℕ) (hi : ℕ) (ts : List ℕ) (vs : List Value) (a : ℕ) → Typed ts vs → a + widths ts ≤ hi
    → words_at m a (length (all_words vs)) ≡ all_words vs → Stand m hi (places a ts) vs
stand-placed m hi [] [] a h l e = tt
stand-placed m hi [] (v ∷ vs) a h l e = absurd h
stand-placed m hi (t ∷ ts) [] a h l e = absurd h
stand-placed m hi (t ∷ ts) (v ∷ vs) a (o, h) l e =
    let (p, q) = split m (words_of v) (all_words vs) a e in
    let w : length (words_of v) ≡ width t = of_width t v o in
    let q' : words_at m (a + width t) (length (all_words vs)) ≡ all_words vs = subst (λ (n : ℕ). words_at m (a + n) (length (all_words vs)) ≡ all_words vs) w q in
    (record { below = omega arith; words = p }, stand-placed m hi ts vs (a + width t) h (omega arith) q')

-- ---- one run after another

pub execute-append : (is js : List Instruction) (m : List ℕ) → execute_all (is ++ js) m ≡ execute_all js (execute_all is m)
execute-append [] js m = refl
execute-append (i ∷ is) js m = execute-append is js (execute i m)
