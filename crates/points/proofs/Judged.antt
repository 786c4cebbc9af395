-- What a call for many points answers: each refusal in its turn, or what all calls leave.
use Rattle.std.specs.Prelude.{None}
use Prim.Native.Nat.{ℕ, ◌*◌, ◌≤◌, ◌<◌}
use mathlib.Core.Path.{◌≡◌, refl, ap, sym, ◌∙◌, subst}
use mathlib.Core.Bool.{Bool, true, false, ◌&&◌}
use mathlib.Core.List.{List}
use mathlib.Core.Option.{Option, none, some}
use mathlib.Core.Logic.{◌⊎◌, inl, inr}
use native.Mathlib.Omega.{arith}
use native.Mathlib.Nat.{mul-le-mul}
use borrow.Author.Tests.{le-leb, lt-leb, eq-eqb, ne_eqb, eqb-true, leb-true}
use lib.Dec.{leb, eqb}
use lib.ListN.{length}
use Rattle.base.specs.Limits.{point_limit, port_word_limit}
use Rattle.base.specs.Lists.{every}
use Rattle.base.specs.Outcome.{Outcome, ok, fault, ◌>>=◌, ◌>>◌, need}
use Rattle.base.specs.Bytes.{Bytes}
use Rattle.base.proofs.Bools.{and-inv, and-false}
use Rattle.base.proofs.Outcomes.{no-fault, passed, ok-is}
use Rattle.value.specs.Values.{argument_word}
use Rattle.bytecode.specs.Run.{BoardList}
use Rattle.bytecode.specs.Code.{decode}
use Rattle.bytecode.specs.Answers.{Buffers}
use Rattle.bytecode.specs.declared.Version.{Version}
use Rattle.bytecode.specs.WellFormed.{Codes}
use Rattle.bytecode.proofs.Decoded.{well-formed, not-well-formed}
use Rattle.runner.specs.declared.Counts.{Counts}
use Rattle.runner.specs.Checks.{counts_of, checked_of}
use Rattle.runner.specs.Runs.{answer_of, work_after, out_after, Answered, Refused18}
use Rattle.runner.proofs.Decoding.{Decoded, decoded, is-malformed, refused}
use Rattle.runner.proofs.Exact.{is-fault}
use Rattle.points.specs.Points.{one_by_one, ran_points}
use Rattle.points.specs.Runs.{AllRan}
use Rattle.points.proofs.Calls.{none-refused}

-- ---- forwards: from what the code tests

module _ (s : List ℕ) (points : ℕ) (arguments work out : List ℕ) where
  abbrev Answers : List ℕ → List ℕ → Outcome ℕ → Type 0
  Answers = Answered (ran_points s points arguments work out) work out

  unread : decode s ≡ none → ran_points s points arguments work out ≡ fault 18 0
  unfolding ran_points ◌>>=◌
  unread e = rw e refl

  pub refused-18 : checked_of (decode s) ≡ None → Answers work out (fault 18 0)
  refused-18 e = refused (ran_points s points arguments work out) 18 0 work out (unread (is-malformed (decode s) e))

  module _ {c : Counts} (d : Decoded s c) where
    pub refused-22 : point_limit < points → Answers work out (fault 22 0)
    unfolding ran_points ◌>>=◌ ◌>>◌ need
    refused-22 l = refused (ran_points s points arguments work out) 22 0 work out (rw (d.is, lt-leb points point_limit l))

    module _ (few : points ≤ point_limit) where
      pub refused-19 : (length arguments ≡ points * c.arguments → ⊥) → Answers work out (fault 19 0)
      unfolding ran_points ◌>>=◌ ◌>>◌ need
      refused-19 n =
          refused (ran_points s points arguments work out) 19 0 work out
          (rw (d.is, le-leb points point_limit few, ne_eqb (length arguments) (points * d.list.arguments) (λ q. n (q ∙ ap (λ (k : ℕ). points * k) (sym d.arguments)))))

      module _ (count : length arguments ≡ points * c.arguments) where
        all_there : eqb (length arguments) (points * d.list.arguments) ≡ true
        all_there = eq-eqb (length arguments) (points * d.list.arguments) (count ∙ ap (λ (k : ℕ). points * k) d.arguments)

        pub refused-20 : every argument_word arguments ≡ false → Answers work out (fault 20 0)
        unfolding ran_points ◌>>=◌ ◌>>◌ need
        refused-20 f = refused (ran_points s points arguments work out) 20 0 work out (rw (d.is, le-leb points point_limit few, all_there, f))

        module _ (f : every argument_word arguments ≡ true) where
          short : (leb d.list.words (length work) && leb (points * length d.list.outputs) (length out)) ≡ false → Answers work out (fault 21 0)
          unfolding ran_points ◌>>=◌ ◌>>◌ need
          short h = refused (ran_points s points arguments work out) 21 0 work out (rw (d.is, le-leb points point_limit few, all_there, f, h))

          pub refused-work : length work < c.words → Answers work out (fault 21 0)
          refused-work l =
              let w = d.words in
              short (ap (λ (b : Bool). b && leb (points * length d.list.outputs) (length out)) (lt-leb d.list.words (length work) (omega arith)))

          outputs-are : points * c.outputs ≡ points * length d.list.outputs
          outputs-are = ap (λ (k : ℕ). points * k) d.outputs

          pub refused-out : length out < points * c.outputs → Answers work out (fault 21 0)
          refused-out l =
              let o = outputs-are in
              short
              (ap (λ (b : Bool). leb d.list.words (length work) && b) (lt-leb (points * length d.list.outputs) (length out) (omega arith))
              ∙ and-false (leb d.list.words (length work)))

          pub completed : c.words ≤ length work → points * c.outputs ≤ length out → {work' out' : List ℕ} → AllRan s c points arguments work out work' out'
              → Answers work' out' (ok (points * c.outputs))
          unfolding work_after out_after ran_points ◌>>=◌ ◌>>◌ need
          completed w o {work'} {out'} e =
              let dw = d.words in
              let do' = outputs-are in
              let h1 = le-leb d.list.words (length work) (omega arith) in
              let h2 = le-leb (points * length d.list.outputs) (length out) (omega arith) in
              let g : ran_points s points arguments work out ≡ ok (record { count = points * c.outputs; work = work'; out = out' }) =
              rw (d.is, le-leb points point_limit few, all_there, f, h1, h2, sym d.arguments, sym d.outputs) e in
              record { answer = rw g refl; work-after = rw g refl; out-after = rw g refl }

-- ---- products that fit

pub few_words : {points n : ℕ} → points ≤ point_limit → n ≤ port_word_limit → points * n ≤ point_limit * port_word_limit
few_words = mul-le-mul

pub few-arguments : (s : List ℕ) → Bytes s → {c : Counts} → Decoded s c → c.arguments ≤ port_word_limit
few-arguments s small d = let (v, k) = (well-formed s small d.list).0 d.is in let f = k.formed.arguments in let e = d.arguments in omega arith

-- ---- backwards: from the answer

abbrev pub Late : ℕ → ℕ → Type 0
Late n p = (19 ≤ n) × (n ≤ 22) × (p ≡ 0)

late : (t : Bool) (m : ℕ) (g : Outcome Buffers) → (19 ≤ m) × (m ≤ 22) → (t ≡ true → (n p : ℕ) → g ≡ fault n p → Late n p) → (n p : ℕ) → (need t m 0 >> g) ≡ fault n p → Late n p
unfolding need ◌>>◌
late true m g b k n p e = k refl n p e
late false m g (b, d) k n p e = let x : m ≡ n = cc in let y : 0 ≡ p = cc in (omega arith, omega arith, sym y)

-- what was judged, where a list has this code
module _ (s : List ℕ) (points : ℕ) (arguments work out : List ℕ) (b : BoardList) where
  abbrev calls : Outcome Buffers
  calls = one_by_one s b.arguments (length b.outputs) points arguments work out

  abbrev roomy : Bool
  roomy = leb b.words (length work) && leb (points * length b.outputs) (length out)

  abbrev judging : Outcome Buffers
  judging = do
    need (leb points point_limit) 22 0
    need (eqb (length arguments) (points * b.arguments)) 19 0
    need (every argument_word arguments) 20 0
    need roomy 21 0
    calls

  module _ (e : decode s ≡ some b) where
    is-judging : ran_points s points arguments work out ≡ judging
    unfolding ran_points ◌>>=◌
    is-judging = rw e refl

    counts : Decoded s (counts_of b)
    unfolding checked_of
    counts = decoded s (counts_of b) (ap checked_of e)

    -- past 22 to 21 all calls pass
    all_pass : eqb (length arguments) (points * b.arguments) ≡ true → every argument_word arguments ≡ true → roomy ≡ true
        → (r : Buffers) × (calls ≡ ok r) × (r.count ≡ points * length b.outputs)
    all_pass l f w =
        let (x, y) = and-inv (leb b.words (length work)) (leb (points * length b.outputs) (length out)) w in
        let a = none-refused counts points arguments work out (eqb-true _ _ l) f (leb-true _ _ x) (leb-true _ _ y) in
        (a.after, a.is, a.count)

    later-fault : (n p : ℕ) → judging ≡ fault n p → Late n p
    later-fault =
        late (leb points point_limit) 22 _ (omega arith, omega arith)
        (λ few. late (eqb (length arguments) (points * b.arguments)) 19 _ (omega arith, omega arith)
        (λ l. late (every argument_word arguments) 20 _ (omega arith, omega arith)
        (λ f. late roomy 21 calls (omega arith, omega arith) (λ w n p q. let (r, i, k) = all_pass l f w in absurd (no-fault r n p (sym i ∙ q))))))

    done-count : (r : Buffers) → judging ≡ ok r → (r.count ≡ points * length b.outputs) × (points ≤ point_limit)
    done-count r e =
        let (few, e1) = passed (leb points point_limit) 22 0 _ r e in
        let (l, e2) = passed (eqb (length arguments) (points * b.arguments)) 19 0 _ r e1 in
        let (f, e3) = passed (every argument_word arguments) 20 0 _ r e2 in
        let (w, e4) = passed roomy 21 0 calls r e3 in
        let (q, i, k) = all_pass l f w in
        (ap (λ (x : Buffers). x.count) (ok-is (sym e4 ∙ i)) ∙ k, leb-true points point_limit few)

module _ (s : List ℕ) (points : ℕ) (arguments work out : List ℕ) where
  -- a refusal is 18, where no list has this code, or one of 19 to 22; its place is 0
  pub points-fault : (n p : ℕ) → ran_points s points arguments work out ≡ fault n p → ((decode s ≡ none) × (n ≡ 18) × (p ≡ 0)) ⊎ Late n p
  points-fault n p e = go (decode s) refl
    where
      go : (o : Option BoardList) → decode s ≡ o → ((decode s ≡ none) × (n ≡ 18) × (p ≡ 0)) ⊎ Late n p
      go none q = let z = sym e ∙ unread s points arguments work out q in let a : n ≡ 18 = cc in let b : p ≡ 0 = cc in inl (q, a, b)
      go (some b) q = inr (later-fault s points arguments work out b q n p (sym (is-judging s points arguments work out b q) ∙ e))

  -- a success counts at most 1,024 times 128 words
  pub points-count : (r : Buffers) → ran_points s points arguments work out ≡ ok r → r.count ≤ point_limit * port_word_limit
  points-count r e = go (decode s) refl
    where
      go : (o : Option BoardList) → decode s ≡ o → r.count ≤ point_limit * port_word_limit
      go none q = absurd (no-fault r 18 0 (sym e ∙ unread s points arguments work out q))
      go (some b) q =
          let (k, few) = done-count s points arguments work out b q r (sym (is-judging s points arguments work out b q) ∙ e) in
          let small = (counts s points arguments work out b q).small in
          subst (λ (x : ℕ). x ≤ point_limit * port_word_limit) (sym k) (few_words few small)

  -- so 18 is exactly for the code of no list
  pub points-exact : Bytes s → {work' out' : List ℕ} {r : Outcome ℕ} → Answered (ran_points s points arguments work out) work out work' out' r → Refused18 s r
  points-exact small h = (λ e. there refl (points-fault 18 0 (is-fault _ 18 0 (sym h.answer ∙ e))), λ k. h.answer ∙ ap answer_of (unread s points arguments work out ((not-well-formed s small).1 (λ b (v, q). k v b q))))
    where
      there : {n p : ℕ} → n ≡ 18 → ((decode s ≡ none) × (n ≡ 18) × (p ≡ 0)) ⊎ Late n p → (v : Version) (b : BoardList) → Codes v s b → ⊥
      there z (inl (q, x, y)) v b k = (not-well-formed s small).0 q b (v, k)
      there z (inr (x, y, u)) v b k = omega arith
