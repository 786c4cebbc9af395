-- The reading gives the first fault from front to back.
use Prim.Native.Nat.{ℕ, zero, suc, ◌+◌, ◌*◌, ◌≤◌, ◌<◌}
use mathlib.Core.Path.{◌≡◌, refl, sym, ◌∙◌, subst}
use mathlib.Core.Bool.{Bool, true, false, ◌&&◌}
use mathlib.Core.List.{List, [], ◌∷◌}
use mathlib.Core.Logic.{◌≢◌, ◌⊎◌, inl, inr, ⊎_elim}
use native.Mathlib.Omega.{arith}
use native.Mathlib.Nat.{add-zero}
use lib.Dec.{leb, eqb}
use lib.ListN.{length}
use borrow.Author.Tests.{leb-true, leb-false, eqb-true, eqb-false}
use Rattle.ports.specs.declared.Form.{Form}
use Rattle.ports.specs.declared.Form.TheVariants.{Absent, Constant, References, Call}
use Rattle.ports.specs.Kinds.{Kind, kind_of}
use Rattle.ports.specs.Ports.{is_type, constant_words, form_of, exists, type_fits, ports_of, legal}
use Rattle.value.specs.Values.{constant_word}
use Rattle.base.specs.Lists.{every}
use Rattle.base.specs.Outcome.{Outcome, ok, fault, ◌>>=◌, ◌>>◌, need, Part}
use Rattle.base.specs.Bytes.{byte, u16, constants}
use Rattle.graph.specs.Graph.{Payload, Node, Output, Function}
use Rattle.graph.specs.Read as Read
use Rattle.graph.specs.Format.{Format}
use Rattle.graph.specs.Read.{reference, in_range}
use Rattle.graph.specs.Checks.{Check, check, All, First, Says}
use Rattle.graph.specs.Reading.{header_checks, Shape, head, input, output, node, payload, arguments, size, times, HeadRight, HeadWrong, fields, record_checks, end_checks, next, Reading, end, stop, on, ReadingOf}
use Rattle.base.proofs.Bools.{and-inv, and-inv-false}
use Rattle.base.proofs.Outcomes.{took, after, passed, takes, stops, needs, took-fault, after-fault, passed-fault, no-fault, then-then}
use Rattle.base.proofs.Numbers.{none_at_all, between, not-between, between-apart}
use Rattle.base.proofs.Lists.{not-every, every-apart}
use Rattle.graph.proofs.Formed.{in-range, marked-bytes}
use Rattle.graph.proofs.First.{Apart, first-all, says-one, says-test, says_then}

module _ {A B C : Type 0} where
  bind-bind : (g : Outcome A) (k : A → Outcome B) (c : B → Outcome C) → (g >>= k >>= c) ≡ (g >>= λ x. k x >>= c)
  unfolding ◌>>=◌
  bind-bind (ok a) k c = refl
  bind-bind (fault n p) k c = refl

  bind_ok : (g : Outcome A) (f : A → B) (c : B → Outcome C) → (g >>= (λ x. ok (f x)) >>= c) ≡ (g >>= λ x. c (f x))
  unfolding ◌>>=◌
  bind_ok (ok a) f c = refl
  bind_ok (fault n p) f c = refl

again : {A : Type 0} {m q n p : ℕ} → ◌≡◌ {A = Outcome (Unit {0})} (fault m q) (fault n p) → ◌≡◌ {A = Outcome A} (fault m q) (fault n p)
again {A} {m} {q} {n} {p} e = let a : m ≡ n = cc in let b : q ≡ p = cc in rw (a, b) refl

need-false : (n p : ℕ) → need false n p ≡ fault n p
unfolding need
need-false n p = refl

module _ (limit : ℕ) (s : List ℕ) where
  abbrev R : List Shape → ℕ → Outcome (Unit {0}) → Type 0
  R = Reading limit s

  -- ---- no record both passes and fails

  head_apart : (id input_count output_count count : ℕ) → HeadRight limit id input_count output_count count → HeadWrong limit id input_count output_count count → ⊥
  head_apart id input_count output_count count (a, b, c, d, e) (inl x) = omega arith
  head_apart id input_count output_count count (a, b, c, d, e) (inr (inl x)) = omega arith
  head_apart id input_count output_count count (a, b, c, d, e) (inr (inr (inl x))) = omega arith
  head_apart id input_count output_count count (a, b, c, d, e) (inr (inr (inr (inl x)))) = omega arith
  head_apart id input_count output_count count (a, b, c, d, e) (inr (inr (inr (inr x)))) = omega arith

  node-apart : (x : ℕ) (b : Bool) → (1 ≤ x) × (b ≡ true) → (x ≡ 0) ⊎ (b ≡ false) → ⊥
  node-apart x b (l, e) (inl z) = omega arith
  node-apart x b (l, e) (inr f) = let z : ◌≡◌ {A = ℕ} 0 1 = cc in omega arith

  fields-apart : (h : Shape) (at : ℕ) → Apart (fields limit s h at)
  fields-apart head at = (head_apart (u16 s at) (byte s (at + 2)) (byte s (at + 3)) (u16 s (at + 4)), tt)
  fields-apart input at = (between-apart (byte s at) 3, tt)
  fields-apart output at = (between-apart (byte s at) 3, tt)
  fields-apart node at = (node-apart (u16 s at) (legal (kind_of (byte s (at + 2))) (byte s (at + 3))), tt)
  fields-apart (payload Absent k) at = tt
  fields-apart (payload Constant k) at = (every-apart constant_word (constants (constant_words k) s at), tt)
  fields-apart (payload References k) at = tt
  fields-apart (payload Call k) at = ((λ a b. omega arith), tt)
  fields-apart (arguments n) at = tt

  record_apart : (h : Shape) (at : ℕ) → Apart (record_checks limit s h at)
  record_apart h at = ((λ a b. omega arith), fields-apart h at)

  end-apart : (at : ℕ) → Apart (end_checks limit s at)
  end-apart at = ((λ a b. b a), tt)

  -- what the reading gives is one thing
  pub reading-one : {hs : List Shape} {at : ℕ} {o o' : Outcome (Unit {0})} → R hs at o → R hs at o' → o ≡ o'
  reading-one (end {at = at} {o = o} a) (end {o = o'} b) = says-one (end_checks limit s at) o o' (end-apart at) a b
  reading-one (stop {h = h} {at = at} {n = n} {p = p} a) (stop {n = m} {p = q} b) = says-one (record_checks limit s h at) (fault n p) (fault m q) (record_apart h at) a b
  reading-one (stop {h = h} {at = at} {n = n} {p = p} a) (on b r) = absurd (first-all (record_checks limit s h at) n p (record_apart h at) a b)
  reading-one (on b r) (stop {h = h} {at = at} {n = n} {p = p} a) = absurd (first-all (record_checks limit s h at) n p (record_apart h at) a b)
  reading-one (on a r) (on b q) = reading-one r q

  -- a record that fits or not, and whose fields pass a test or not
  module _ {A : Type 0} where
    record-step : (h : Shape) (hs : List Shape) (at : ℕ) (t : Bool) (m : ℕ) (g : Outcome A) (c : A → Outcome (Unit {0}))
        → Says (fields limit s h at) (need t m at) → (t ≡ true → R (next limit s h at hs) (at + size h) (g >>= c))
        → R (h ∷ hs) at (need (leb (at + size h) (length s)) 5 at >> (need t m at >> g) >>= c)
    unfolding need ◌>>◌ ◌>>=◌
    record-step h hs at t m g c f r = go (leb (at + size h) (length s)) refl t f r
      where
        go : (b : Bool) → leb (at + size h) (length s) ≡ b → (t : Bool) → Says (fields limit s h at) (need t m at)
            → (t ≡ true → R (next limit s h at hs) (at + size h) (g >>= c)) → R (h ∷ hs) at (need b 5 at >> (need t m at >> g) >>= c)
        go false e t f r = stop (inl (leb-false (at + size h) (length s) e, refl, refl))
        go true e true f r = on (leb-true _ _ e, f) (r refl)
        go true e false f r = stop (inr (leb-true _ _ e, f))

    -- a record of which nothing more is asked
    plain_step : (h : Shape) (hs : List Shape) (at : ℕ) (g : Outcome A) (c : A → Outcome (Unit {0})) → All (fields limit s h at)
        → R (next limit s h at hs) (at + size h) (g >>= c) → R (h ∷ hs) at (need (leb (at + size h) (length s)) 5 at >> g >>= c)
    unfolding need ◌>>◌ ◌>>=◌
    plain_step h hs at g c f r = go (leb (at + size h) (length s)) refl
      where
        go : (b : Bool) → leb (at + size h) (length s) ≡ b → R (h ∷ hs) at (need b 5 at >> g >>= c)
        go false e = stop (inl (leb-false (at + size h) (length s) e, refl, refl))
        go true e = on (leb-true _ _ e, f) r

  moved : {hs : List Shape} {a b : ℕ} {o : Outcome (Unit {0})} → a ≡ b → R hs a o → R hs b o
  moved {hs} {a} {b} {o} e r = subst (λ (i : ℕ). R hs i o) e r

  same : {hs : List Shape} {at : ℕ} {o o' : Outcome (Unit {0})} → o ≡ o' → R hs at o' → R hs at o
  same {hs} {at} e r = subst (R hs at) (sym e) r

  inputs-step : (n at : ℕ) (hs : List Shape) (c : List ℕ → Outcome (Unit {0})) → ((ts : List ℕ) → R hs (at + n) (c ts))
      → R (times n input hs) at (Read.inputs n s at >>= c)
  unfolding ◌>>=◌
  inputs-step zero at hs c r = moved (add-zero at) (r [])
  inputs-step (suc n) at hs c r =
      record-step input (times n input hs) at (is_type (byte s at)) 6 (Read.inputs n s (at + 1) >>= λ rest. ok (byte s at ∷ rest)) c
      (says-test (is_type (byte s at)) 6 at (between (byte s at) 3) (not-between (byte s at) 3))
      (λ e. same (bind_ok (Read.inputs n s (at + 1)) (λ rest. byte s at ∷ rest) c)
      (inputs-step n (at + 1) hs (λ rest. c (byte s at ∷ rest)) (λ ts. moved (omega arith) (r (byte s at ∷ ts)))))

  outputs-step : (n at : ℕ) (hs : List Shape) (c : List Output → Outcome (Unit {0})) → ((os : List Output) → R hs (at + 4 * n) (c os))
      → R (times n output hs) at (Read.outputs n s at >>= c)
  unfolding ◌>>=◌
  outputs-step zero at hs c r = moved (omega arith) (r [])
  outputs-step (suc n) at hs c r =
      let o : Output = record { type = byte s at; ref = reference s (at + 1) } in
      record-step output (times n output hs) at (is_type (byte s at)) 6 (Read.outputs n s (at + 4) >>= λ rest. ok (o ∷ rest)) c
      (says-test (is_type (byte s at)) 6 at (between (byte s at) 3) (not-between (byte s at) 3))
      (λ e. same (bind_ok (Read.outputs n s (at + 4)) (λ rest. o ∷ rest) c)
      (outputs-step n (at + 4) hs (λ rest. c (o ∷ rest)) (λ os. moved (omega arith) (r (o ∷ os)))))

  payload-step : (h : Form) (k : Kind) (at : ℕ) (hs : List Shape) (c : Part Payload → Outcome (Unit {0})) → exists h ≡ true
      → ((p : Part Payload) → R hs p.next (c p)) → R (payload h k ∷ hs) at (Read.payload h k s at >>= c)
  unfolding ◌>>=◌
  payload-step Absent k at hs c e r = let z : ◌≡◌ {A = ℕ} 0 1 = cc in absurd (omega arith)
  payload-step Constant k at hs c e r =
      record-step (payload Constant k) hs at (every constant_word (constants (constant_words k) s at)) 7 _ c (says-test _ 7 at (λ q. q) (not-every constant_word (constants (constant_words k) s at))) (λ q. r _)
  payload-step References k at hs c e r = plain_step (payload References k) hs at _ c tt (r _)
  payload-step Call k at hs c e r =
      record-step (payload Call k) hs at (leb (byte s (at + 2)) 8) 6 _ c (says-test _ 6 at (leb-true (byte s (at + 2)) 8) (leb-false (byte s (at + 2)) 8))
      (λ q. plain_step (arguments (byte s (at + 2))) hs (at + 3) _ c tt (r _))

  node-step : (at : ℕ) (hs : List Shape) (c : Part Node → Outcome (Unit {0})) → ((p : Part Node) → R hs p.next (c p))
      → R (node ∷ hs) at (Read.node s at >>= c)
  node-step at hs c r =
      let k = kind_of (byte s (at + 2)) in
      let t = byte s (at + 3) in
      let made : Part Payload → Part Node =
      λ p. record { it = record { id = u16 s at; place = at; kind = byte s (at + 2); type = t; payload = p.it }; next = p.next } in
      record-step node hs at (leb 1 (u16 s at) && legal k t) 6 (Read.payload (form_of k) k s (at + 4) >>= λ p. ok (made p)) c
      (says-test _ 6 at (λ e. let (a, b) = and-inv (leb 1 (u16 s at)) (legal k t) e in (leb-true 1 (u16 s at) a, b))
      (λ e. ⊎_elim (λ a. inl (none_at_all (u16 s at) a)) (λ b. inr b) (and-inv-false (leb 1 (u16 s at)) (legal k t) e)))
      (λ e. same (bind_ok (Read.payload (form_of k) k s (at + 4)) made c)
      (payload-step (form_of k) k (at + 4) hs (λ p. c (made p)) (and-inv (exists (form_of k)) (type_fits (ports_of k) t) (and-inv (leb 1 (u16 s at)) (legal k t) e).1).0
      (λ p. r (made p))))

  nodes-step : (n at : ℕ) (hs : List Shape) (c : Part (List Node) → Outcome (Unit {0})) → ((p : Part (List Node)) → R hs p.next (c p))
      → R (times n node hs) at (Read.nodes n s at >>= c)
  unfolding ◌>>=◌
  nodes-step zero at hs c r = r _
  nodes-step (suc n) at hs c r =
      same (bind-bind (Read.node s at) _ c)
      (node-step at (times n node hs) _
      (λ x. same (bind_ok (Read.nodes n s x.next) (λ rest. record { it = x.it ∷ rest.it; next = rest.next }) c)
      (nodes-step n x.next hs _ (λ p. r (record { it = x.it ∷ p.it; next = p.next })))))

  -- the fields of a function's head
  head-says : (at id input_count output_count count : ℕ)
      → Says (check 6 at (HeadRight limit id input_count output_count count) (HeadWrong limit id input_count output_count count) ∷ []) (need (in_range limit id input_count output_count count) 6 at)
  head-says at id input_count output_count count = says-test (in_range limit id input_count output_count count) 6 at (in-range limit id input_count output_count count) back
    where
      back : in_range limit id input_count output_count count ≡ false → HeadWrong limit id input_count output_count count
      back u =
          ⊎_elim
          (λ x. ⊎_elim
          (λ y. ⊎_elim (λ z. inl (none_at_all id z)) (λ z. inr (inl (leb-false input_count 8 z))) (and-inv-false (leb 1 id) (leb input_count 8) y))
          (λ y. ⊎_elim (λ z. inr (inr (inl z))) (λ z. inr (inr (inr (inl z)))) (not-between output_count 8 y))
          (and-inv-false (leb 1 id && leb input_count 8) (leb 1 output_count && leb output_count 8) x))
          (λ x. inr (inr (inr (inr (leb-false count limit x)))))
          (and-inv-false (leb 1 id && leb input_count 8 && (leb 1 output_count && leb output_count 8)) (leb count limit) u)

  function-step : (at : ℕ) (hs : List Shape) (c : Part Function → Outcome (Unit {0})) → ((p : Part Function) → R hs p.next (c p))
      → R (head ∷ hs) at (Read.function limit s at >>= c)
  function-step at hs c r =
      let input_count = byte s (at + 2) in
      let output_count = byte s (at + 3) in
      let count = u16 s (at + 4) in
      let made : List ℕ → List Output → Part (List Node) → Part Function =
      λ ins outs ns. record { it = record { id = u16 s at; place = at; inputs = ins; outputs = outs; nodes = ns.it }; next = ns.next } in
      let third : List ℕ → List Output → Outcome (Part Function) =
      λ ins outs. Read.nodes count s (at + 6 + input_count + 4 * output_count) >>= λ ns. ok (made ins outs ns) in
      let second : List ℕ → Outcome (Part Function) = λ ins. Read.outputs output_count s (at + 6 + input_count) >>= third ins in
      record-step head hs at (in_range limit (u16 s at) input_count output_count count) 6 (Read.inputs input_count s (at + 6) >>= second) c (head-says at (u16 s at) input_count output_count count)
      (λ e. same (bind-bind (Read.inputs input_count s (at + 6)) second c)
      (inputs-step input_count (at + 6) (times output_count output (times count node hs)) (λ ins. second ins >>= c)
      (λ ins. same (bind-bind (Read.outputs output_count s (at + 6 + input_count)) (third ins) c)
      (outputs-step output_count (at + 6 + input_count) (times count node hs) (λ outs. third ins outs >>= c)
      (λ outs. same (bind_ok (Read.nodes count s (at + 6 + input_count + 4 * output_count)) (made ins outs) c)
      (nodes-step count (at + 6 + input_count + 4 * output_count) hs (λ ns. c (made ins outs ns)) (λ ns. r (made ins outs ns))))))))

  functions-step : (n at : ℕ) (hs : List Shape) (c : Part (List Function) → Outcome (Unit {0})) → ((p : Part (List Function)) → R hs p.next (c p))
      → R (times n head hs) at (Read.functions limit n s at >>= c)
  unfolding ◌>>=◌
  functions-step zero at hs c r = r _
  functions-step (suc n) at hs c r =
      same (bind-bind (Read.function limit s at) _ c)
      (function-step at (times n head hs) _
      (λ x. same (bind_ok (Read.functions limit n s x.next) (λ rest. record { it = x.it ∷ rest.it; next = rest.next }) c)
      (functions-step n x.next hs _ (λ p. r (record { it = x.it ∷ p.it; next = p.next })))))

  -- the functions, and nothing behind them
  abbrev pub read_all : ℕ → ℕ → Outcome (Unit {0})
  read_all n at = Read.functions limit n s at >>= λ p. need (eqb p.next (length s)) 8 p.next

  pub reading-says : (n at : ℕ) → R (times n head []) at (read_all n at)
  reading-says n at =
      functions-step n at [] _
      (λ p. end (says-test (eqb p.next (length s)) 8 p.next (eqb-true p.next (length s)) (eqb-false p.next (length s))))

-- ---- the table

module _ (format : Format) (s : List ℕ) where
  abbrev count-right : Bool
  count-right = leb 1 (byte s 5) && leb (byte s 5) 16

  abbrev body : Outcome (List Function)
  body = Read.functions format.node_limit (byte s 5) s format.header >>= λ fs. need (eqb fs.next (length s)) 8 fs.next >> ok fs.it

  abbrev header : Outcome (Unit {0})
  header =
      need (leb 8 (length s)) 1 0
      >> (need (Read.table_marked s) 2 0 >> (need (eqb (u16 s 3) format.version) 3 3 >> (need (eqb (format.size s) (length s)) 4 6 >> need count-right 6 5)))

  abbrev Marked : Type 0
  Marked = (byte s 0 ≡ 0x49) × (byte s 1 ≡ 0x46) × (byte s 2 ≡ 0x47)

  abbrev Unmarked : Type 0
  Unmarked = (byte s 0 ≢ 0x49) ⊎ ((byte s 1 ≢ 0x46) ⊎ (byte s 2 ≢ 0x47))

  abbrev length-check : Check
  length-check = check 1 0 (8 ≤ length s) (length s < 8)

  abbrev mark-check : Check
  mark-check = check 2 0 Marked Unmarked

  abbrev version-check : Check
  version-check = check 3 3 (u16 s 3 ≡ format.version) (u16 s 3 ≢ format.version)

  abbrev size-check : Check
  size-check = check 4 6 (format.size s ≡ length s) (format.size s ≢ length s)

  abbrev count-check : Check
  count-check = check 6 5 ((1 ≤ byte s 5) × (byte s 5 ≤ 16)) ((byte s 5 ≡ 0) ⊎ (16 < byte s 5))

  abbrev from-count : Outcome (Unit {0})
  from-count = need count-right 6 5

  abbrev from-size : Outcome (Unit {0})
  from-size = need (eqb (format.size s) (length s)) 4 6 >> from-count

  abbrev from-version : Outcome (Unit {0})
  from-version = need (eqb (u16 s 3) format.version) 3 3 >> from-size

  abbrev from-mark : Outcome (Unit {0})
  from-mark = need (Read.table_marked s) 2 0 >> from-version

  header-says : Says (header_checks format s) header
  header-says =
      says_then (length-check ∷ []) (mark-check ∷ version-check ∷ size-check ∷ count-check ∷ []) (need (leb 8 (length s)) 1 0) from-mark
      (says-test (leb 8 (length s)) 1 0 (leb-true 8 (length s)) (leb-false 8 (length s)))
      (says_then (mark-check ∷ []) (version-check ∷ size-check ∷ count-check ∷ []) (need (Read.table_marked s) 2 0) from-version
      (says-test (Read.table_marked s) 2 0 (marked-bytes s) others)
      (says_then (version-check ∷ []) (size-check ∷ count-check ∷ []) (need (eqb (u16 s 3) format.version) 3 3) from-size
      (says-test (eqb (u16 s 3) format.version) 3 3 (eqb-true (u16 s 3) format.version) (eqb-false (u16 s 3) format.version))
      (says_then (size-check ∷ []) (count-check ∷ []) (need (eqb (format.size s) (length s)) 4 6) from-count
      (says-test (eqb (format.size s) (length s)) 4 6 (eqb-true (format.size s) (length s)) (eqb-false (format.size s) (length s)))
      (says-test count-right 6 5 (between (byte s 5) 16) (not-between (byte s 5) 16)))))
    where
      others : Read.table_marked s ≡ false → Unmarked
      others e =
          ⊎_elim (λ m. ⊎_elim (λ a. inl (eqb-false _ _ a)) (λ b. inr (inl (eqb-false _ _ b))) (and-inv-false (eqb (byte s 0) 0x49) (eqb (byte s 1) 0x46) m))
          (λ c. inr (inr (eqb-false _ _ c))) (and-inv-false (eqb (byte s 0) 0x49 && eqb (byte s 1) 0x46) (eqb (byte s 2) 0x47) e)

  header-apart : Apart (header_checks format s)
  header-apart = ((λ a b. omega arith), (marks, ((λ a b. b a), ((λ a b. b a), (between-apart (byte s 5) 16, tt)))))
    where
      marks : Marked → Unmarked → ⊥
      marks (a, b, c) (inl x) = x a
      marks (a, b, c) (inr (inl x)) = x b
      marks (a, b, c) (inr (inr x)) = x c

  parse-split : Read.parse format s ≡ (header >> body)
  parse-split = sym (simp then-then)

  read-fault : (n p : ℕ) → body ≡ fault n p → read_all format.node_limit s (byte s 5) format.header ≡ fault n p
  read-fault n p e =
      ⊎_elim (λ q. stops (Read.functions format.node_limit (byte s 5) s format.header) _ n p q)
      (λ (x, q, f).
      takes (Read.functions format.node_limit (byte s 5) s format.header) _ x q
      ∙ ⊎_elim (λ (t, a, b). rw (t, a, b) (need-false n p)) (λ (t, g). absurd (no-fault x.it n p g))
      (passed-fault (eqb x.next (length s)) 8 x.next (ok x.it) n p f))
      (took-fault (Read.functions format.node_limit (byte s 5) s format.header) _ n p e)

  -- 1 to 8: the first fault of the header, or of the reading
  pub parse-fault : (n p : ℕ) → Read.parse format s ≡ fault n p
      → First (header_checks format s) n p ⊎ (All (header_checks format s) × ReadingOf format s (fault n p))
  parse-fault n p e =
      ⊎_elim (λ q. inl (subst (Says (header_checks format s)) q header-says))
      (λ (u, q, f). inr (
        subst (Says (header_checks format s)) q header-says,
        subst (ReadingOf format s) (read-fault n p f) (reading-says format.node_limit s (byte s 5) format.header),
      ))
      (after-fault header body n p (sym parse-split ∙ e))

  pub parse-ok : (fs : List Function) → Read.parse format s ≡ ok fs → All (header_checks format s) × ReadingOf format s (ok tt)
  parse-ok fs e =
      let (u, q, f) = after header body fs (sym parse-split ∙ e) in
      let (x, g, r) = took (Read.functions format.node_limit (byte s 5) s format.header) _ fs f in
      let (t, w) = passed (eqb x.next (length s)) 8 x.next (ok x.it) fs r in (
        subst (Says (header_checks format s)) q header-says,
        subst (ReadingOf format s) (takes (Read.functions format.node_limit (byte s 5) s format.header) _ x g ∙ needs _ 8 x.next t)
            (reading-says format.node_limit s (byte s 5) format.header),
      )

  -- and only that
  pub fault-parse : (n p : ℕ) → First (header_checks format s) n p ⊎ (All (header_checks format s) × ReadingOf format s (fault n p)) → Read.parse format s ≡ fault n p
  fault-parse n p h = go (Read.parse format s) refl h
    where
      go : (o : Outcome (List Function)) → Read.parse format s ≡ o → First (header_checks format s) n p ⊎ (All (header_checks format s) × ReadingOf format s (fault n p)) → o ≡ fault n p
      go (ok fs) e (inl f) = absurd (first-all (header_checks format s) n p header-apart f (parse-ok fs e).0)
      go (ok fs) e (inr (a, r)) = absurd (no-fault tt n p (reading-one format.node_limit s (parse-ok fs e).1 r))
      go (fault m q) e (inl f) = ⊎_elim (λ g. again (says-one (header_checks format s) (fault m q) (fault n p) header-apart g f)) (λ g. absurd (first-all (header_checks format s) n p header-apart f g.0)) (parse-fault m q e)
      go (fault m q) e (inr (a, r)) =
          ⊎_elim (λ g. absurd (first-all (header_checks format s) m q header-apart g a)) (λ g. again (reading-one format.node_limit s g.1 r)) (parse-fault m q e)
