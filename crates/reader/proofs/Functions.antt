-- The reading of inputs, outputs, nodes and functions, one at a time.
use Prim.Native.Nat.{ℕ, zero, suc, ◌+◌, ◌-◌, ◌*◌, ◌≤◌, ◌<◌}
use mathlib.Core.Path.{◌≡◌, refl, ap, sym, ◌∙◌}
use mathlib.Core.Bool.{true, false, ◌&&◌}
use mathlib.Core.List.{List, [], ◌∷◌}
use native.Mathlib.Omega.{arith}
use native.Mathlib.Nat.{not-suc-le-zero, mul-suc}
use native.Mathlib.Numerals.{sub-one}
use lib.Dec.{leb, eqb}
use lib.ListN.{length}
use borrow.Author.Tests.{le-leb, eq-eqb, ne_eqb}
use Rattle.base.specs.Limits.{function_limit}
use Rattle.base.specs.Outcome.{Outcome, ok, fault, ◌>>=◌, ◌>>◌, need, Part}
use Rattle.graph.specs.Graph as Graph
use Rattle.graph.specs.Graph.{Function}
use Rattle.base.specs.Bytes.{byte, u16}
use Rattle.ports.specs.Ports.{is_type}
use Rattle.graph.specs.Format.{Format, format_of}
use Rattle.graph.specs.Read.{fits, reference, inputs, outputs, node, nodes, in_range, function, functions, table_marked, parse}
use Rattle.base.proofs.Outcomes.{takes, stops, passes, fails}
use Rattle.reader.proofs.Extents.{ok-read, cut}
use Rattle.reader.specs.Layout.{outputs_place, nodes_place}
use Rattle.reader.specs.Records.{seen, next, behind, entries, node_read}
use Rattle.reader.specs.declared.Node.{Node}

-- ---- what is kept does not show

module _ {A B : Type 0} where
  behind-kept : (e : ℕ) (g : Outcome A) (k : A → B) → behind e (g >>= λ a. ok (k a)) ≡ behind e g
  unfolding ◌>>=◌
  behind-kept e (ok a) k = refl
  behind-kept e (fault n p) k = refl

  next-kept : (g : Outcome (Part A)) (k : A → B) → next (g >>= λ p. ok (record { it = k p.it; next = p.next })) ≡ next g
  unfolding ◌>>=◌
  next-kept (ok a) k = refl
  next-kept (fault n p) k = refl

-- ---- inputs and outputs

-- a reading of n entries, each `size` bytes with a type byte in front
pub record Entries {A : Type 0} (f : ℕ → List ℕ → ℕ → Outcome (List A)) (size : ℕ) : Type 0 where
  pub one : List ℕ → ℕ → A
  pub none : (s : List ℕ) (p : ℕ) → f 0 s p ≡ ok []
  pub more : (n : ℕ) (s : List ℕ) (p : ℕ) → f (suc n) s p ≡ (fits s p size >> (need (is_type (byte s p)) 6 p >> (f n s (p + size) >>= λ rest. ok (one s p ∷ rest))))

pub input-entries : Entries inputs 1
input-entries = record { one = byte; none = λ s p. refl; more = λ n s p. refl }

pub output-entries : Entries outputs 4
output-entries = record { one = λ s p. record { type = byte s p; ref = reference s (p + 1) }; none = λ s p. refl; more = λ n s p. refl }

-- what is kept of them does not show
module _ {A B : Type 0} (e : ℕ) where
  behind-then : (g : Outcome (Unit {0})) (h : Outcome A) (k : Outcome B) → behind e h ≡ behind e k → behind e (g >> h) ≡ behind e (g >> k)
  unfolding ◌>>◌
  behind-then (ok u) h k q = q
  behind-then (fault n p) h k q = refl

pub entries-same : {A : Type 0} {f : ℕ → List ℕ → ℕ → Outcome (List A)} {size : ℕ} → Entries f size
    → (e n : ℕ) (s : List ℕ) (p : ℕ) → behind e (entries size n s p) ≡ behind e (f n s p)
entries-same es e zero s p = ap (behind e) (sym (es.none s p))
entries-same {size = size} es e (suc n) s p =
    behind-then e (fits s p size) _ _ (behind-then e (need (is_type (byte s p)) 6 p) _ _
    (entries-same es e n s (p + size) ∙ sym (behind-kept e _ (λ rest. es.one s p ∷ rest))))
    ∙ ap (behind e) (sym (es.more n s p))

-- what is left says what the whole says
pub record Left (size : ℕ) (s : List ℕ) (at n p i : ℕ) : Type 0 where
  pub place : p ≡ at + size * i
  pub same : entries size n s at ≡ entries size (n - i) s p

pub left-start : (size : ℕ) (s : List ℕ) (at n : ℕ) → Left size s at n at 0
left-start size s at n =
    let z : n ≡ n - 0 = omega arith in
    record { place = omega arith; same = ap (λ (k : ℕ). entries size k s at) z }

module _ {size : ℕ} {s : List ℕ} {at n p i : ℕ} (l : Left size s at n p i) where
  module _ (h : i < n) where
    next-entry : entries size n s at ≡ (fits s p size >> (need (is_type (byte s p)) 6 p >> entries size (n - (i + 1)) s (p + size)))
    next-entry = let e : n - i ≡ suc (n - (i + 1)) = omega arith in l.same ∙ ap (λ (k : ℕ). entries size k s p) e

    pub left-short : (e : ℕ) → length s < p + size → fault 5 p ≡ behind e (entries size n s at)
    left-short e a = cut s p size _ _ a ∙ ap (behind e) (sym next-entry)

    module _ (a : p + size ≤ length s) where
      pub left-untyped : (e : ℕ) → is_type (byte s p) ≡ false → fault 6 p ≡ behind e (entries size n s at)
      left-untyped e b = sym (ap (behind e) (next-entry ∙ (passes _ 5 p _ (le-leb _ _ a) ∙ fails _ 6 p _ b)))

      pub left-on : is_type (byte s p) ≡ true → (e : ℕ) → e ≡ p + size → Left size s at n e (i + 1)
      left-on b e q =
          let z : at + size * (i + 1) ≡ at + size * i + size = omega (arith, mul-suc size i) in
          record {
            place = q ∙ ap (λ (x : ℕ). x + size) l.place ∙ sym z;
            same = next-entry ∙ (passes _ 5 p _ (le-leb _ _ a) ∙ passes _ 6 p _ b) ∙ ap (λ (x : ℕ). entries size (n - (i + 1)) s x) (sym q);
          }

  pub left-end : i ≡ n → ok p ≡ behind (at + size * n) (entries size n s at)
  left-end z =
      let k : n - i ≡ 0 = omega arith in
      ap ok (l.place ∙ ap (λ (j : ℕ). at + size * j) z) ∙ ap (behind (at + size * n)) (sym (l.same ∙ ap (λ (j : ℕ). entries size j s p) k))

-- ---- nodes and functions

module _ {A : Type 0} (f : ℕ → ℕ → Outcome (Part (List A))) (g : ℕ → Outcome (Part A))
    (go : (n p : ℕ) → f (suc n) p ≡ (g p >>= λ first. f n first.next >>= λ rest. ok (record { it = first.it ∷ rest.it; next = rest.next }))) where
  chain-on : (n p e : ℕ) (q : Part A) → 0 < n → g p ≡ ok q → e ≡ q.next → next (f n p) ≡ next (f (n - 1) e)
  chain-on zero p e q h r k = absurd (not-suc-le-zero h)
  chain-on (suc n) p e q h r k = ap next (go n p ∙ takes _ _ q r) ∙ next-kept (f n q.next) (λ rest. q.it ∷ rest) ∙ rw (k, sub-one)

  chain-fault : (n p m q : ℕ) → 0 < n → g p ≡ fault m q → next (f n p) ≡ fault m q
  chain-fault zero p m q h r = absurd (not-suc-le-zero h)
  chain-fault (suc n) p m q h r = ap next (go n p ∙ stops _ _ m q r)

module _ {A : Type 0} where
  next-at : (x : ℕ) (g : Outcome (Part A)) → ok x ≡ next g → (a : Part A) × (g ≡ ok a) × (x ≡ a.next)
  next-at x (ok a) r = (a, refl, cc)
  next-at x (fault n p) r = let z : ◌≡◌ {A = ℕ} 0 1 = cc in absurd (omega arith)

  next-fault : (n p : ℕ) (g : Outcome (Part A)) → fault n p ≡ next g → g ≡ fault n p
  next-fault n p (ok a) r = let z : ◌≡◌ {A = ℕ} 0 1 = cc in absurd (omega arith)
  next-fault n p (fault m q) r = cc

-- a node that was read, without what is kept of it
node-next : (g : Outcome (Part Graph.Node)) (x : Node) (e : ℕ) → ok (x, e) ≡ node_read g → ok e ≡ next g
node-next (ok q) x e r = ap ok (ok-read r).1
node-next (fault m q) x e r = let z : ◌≡◌ {A = ℕ} 0 1 = cc in absurd (omega arith)

node-refused : (g : Outcome (Part Graph.Node)) (m q : ℕ) → fault m q ≡ node_read g → g ≡ fault m q
node-refused (ok p) m q r = let z : ◌≡◌ {A = ℕ} 0 1 = cc in absurd (omega arith)
node-refused (fault n p) m q r = cc

module _ (s : List ℕ) (p n : ℕ) (h : 0 < n) where
  pub nodes-on : (x : Node) (e : ℕ) → ok (x, e) ≡ node_read (node s p) → next (nodes n s p) ≡ next (nodes (n - 1) s e)
  nodes-on x e r = let (q, w, k) = next-at e _ (node-next (node s p) x e r) in chain-on (λ m. nodes m s) (node s) (λ m p. refl) n p e q h w k

  pub nodes-fault : (m q : ℕ) → fault m q ≡ node_read (node s p) → next (nodes n s p) ≡ fault m q
  nodes-fault m q r = chain-fault (λ m. nodes m s) (node s) (λ m p. refl) n p m q h (node-refused (node s p) m q r)

  module _ (limit : ℕ) where
    pub functions-on : (e : ℕ) → ok e ≡ next (function limit s p) → next (functions limit n s p) ≡ next (functions limit (n - 1) s e)
    functions-on e r = let (q, w, k) = next-at e _ r in chain-on (λ m. functions limit m s) (function limit s) (λ m p. refl) n p e q h w k

    pub functions-fault : (m q : ℕ) → fault m q ≡ next (function limit s p) → next (functions limit n s p) ≡ fault m q
    functions-fault m q r = chain-fault (λ m. functions limit m s) (function limit s) (λ m p. refl) n p m q h (next-fault m q _ r)

-- ---- one function

module _ {A : Type 0} where
  behind-at : (x e : ℕ) (g : Outcome A) → ok x ≡ behind e g → (a : A) × (g ≡ ok a) × (x ≡ e)
  behind-at x e (ok a) r = (a, refl, cc)
  behind-at x e (fault n p) r = let z : ◌≡◌ {A = ℕ} 0 1 = cc in absurd (omega arith)

  behind-fault : (n p e : ℕ) (g : Outcome A) → fault n p ≡ behind e g → g ≡ fault n p
  behind-fault n p e (ok a) r = let z : ◌≡◌ {A = ℕ} 0 1 = cc in absurd (omega arith)
  behind-fault n p e (fault m q) r = cc

-- a head that passes
pub record Head (limit : ℕ) (s : List ℕ) (at : ℕ) : Type 0 where
  pub fits : at + 6 ≤ length s
  pub ranged : in_range limit (u16 s at) (byte s (at + 2)) (byte s (at + 3)) (u16 s (at + 4)) ≡ true

module _ (limit : ℕ) (s : List ℕ) (at : ℕ) where
  pub function-short : length s < at + 6 → fault 5 at ≡ next (function limit s at)
  function-short h = cut s at 6 _ _ h

  pub function-bad :
      at + 6 ≤ length s → in_range limit (u16 s at) (byte s (at + 2)) (byte s (at + 3)) (u16 s (at + 4)) ≡ false → next (function limit s at) ≡ fault 6 at
  function-bad h e = ap next (passes _ 5 at _ (le-leb _ _ h) ∙ fails _ 6 at _ e)

module _ {limit : ℕ} {s : List ℕ} {at : ℕ} (h : Head limit s at) where
  pub inputs-fault : (n p e : ℕ) → fault n p ≡ behind e (inputs (byte s (at + 2)) s (at + 6)) → next (function limit s at) ≡ fault n p
  inputs-fault n p e i = ap next (passes _ 5 at _ (le-leb _ _ h.fits) ∙ (passes _ 6 at _ h.ranged ∙ stops _ _ n p (behind-fault n p e _ i)))

  module _ (x d : ℕ) (i : ok x ≡ behind d (inputs (byte s (at + 2)) s (at + 6))) where
    pub outputs-fault : (n p e : ℕ) → fault n p ≡ behind e (outputs (byte s (at + 3)) s (outputs_place s at)) → next (function limit s at) ≡ fault n p
    outputs-fault n p e o =
        let (ins, ei, q) = behind-at x d _ i in
        ap next (passes _ 5 at _ (le-leb _ _ h.fits) ∙ (passes _ 6 at _ h.ranged ∙ (takes _ _ ins ei ∙ stops _ _ n p (behind-fault n p e _ o))))

    pub function-nodes :
        (y e : ℕ) → ok y ≡ behind e (outputs (byte s (at + 3)) s (outputs_place s at)) → next (function limit s at) ≡ next (nodes (u16 s (at + 4)) s (nodes_place s at))
    function-nodes y e o =
        let (ins, ei, q) = behind-at x d _ i in
        let (outs, eo, w) = behind-at y e _ o in
        ap next (passes _ 5 at _ (le-leb _ _ h.fits) ∙ (passes _ 6 at _ h.ranged ∙ (takes _ _ ins ei ∙ takes _ _ outs eo)))
        ∙ next-kept (nodes (u16 s (at + 4)) s (nodes_place s at)) (λ ns. record { id = u16 s at; place = at; inputs = ins; outputs = outs; nodes = ns })

module _ {A : Type 0} where
  pub behind-place : (x e : ℕ) (g : Outcome A) → ok x ≡ behind e g → x ≡ e
  behind-place x e g r = (behind-at x e g r).2

-- ---- the table

module _ (format : Format) (s : List ℕ) where
  -- what is left of the reading, from each test on
  abbrev pub from-functions : Outcome (List Function)
  from-functions = functions format.node_limit (byte s 5) s format.header >>= λ fs. need (eqb fs.next (length s)) 8 fs.next >> ok fs.it

  abbrev pub from-count : Outcome (List Function)
  from-count = need (leb 1 (byte s 5) && leb (byte s 5) function_limit) 6 5 >> from-functions

  abbrev pub from-size : Outcome (List Function)
  from-size = need (eqb (format.size s) (length s)) 4 6 >> from-count

  abbrev pub from-version : Outcome (List Function)
  from-version = need (eqb (u16 s 3) format.version) 3 3 >> from-size

  pub functions-stop : (n p : ℕ) → fault n p ≡ next (functions format.node_limit (byte s 5) s format.header) → from-functions ≡ fault n p
  functions-stop n p r = stops _ _ n p (next-fault n p _ r)

  pub functions-end : (e : ℕ) → ok e ≡ next (functions format.node_limit (byte s 5) s format.header) → e ≡ length s → seen from-functions ≡ ok tt
  functions-end e r q =
      let (fs, ef, k) = next-at e _ r in
      ap seen (takes _ _ fs ef ∙ passes (eqb fs.next (length s)) 8 fs.next _ (eq-eqb fs.next (length s) (sym k ∙ q)))

  pub functions-over : (e : ℕ) → ok e ≡ next (functions format.node_limit (byte s 5) s format.header) → (e ≡ length s → ⊥) → from-functions ≡ fault 8 e
  functions-over e r q =
      let (fs, ef, k) = next-at e _ r in
      takes _ _ fs ef ∙ (fails (eqb fs.next (length s)) 8 fs.next _ (ne_eqb fs.next (length s) (λ w. q (k ∙ w))) ∙ ap (fault 8) (sym k))

-- ---- a table's header, test by test

module _ (s : List ℕ) (long : 8 ≤ length s) where
  pub header-long : parse (format_of s) s ≡ (need (table_marked s) 2 0 >> from-version (format_of s) s)
  header-long = passes _ 1 0 _ (le-leb _ _ long)

  module _ (first : byte s 0 ≡ 0x49) (second : byte s 1 ≡ 0x46) (third : byte s 2 ≡ 0x47) where
    pub header-marked : parse (format_of s) s ≡ from-version (format_of s) s
    header-marked = header-long ∙ passes _ 2 0 _ (rw (eq-eqb _ _ first, eq-eqb _ _ second, eq-eqb _ _ third))

    module _ (version : u16 s 3 ≡ 1) where
      pub header-version : parse (format_of s) s ≡ from-size (format_of s) s
      unfolding format_of
      header-version = header-marked ∙ passes _ 3 3 _ (eq-eqb _ _ version)

      module _ (size : u16 s 6 ≡ length s) where
        pub header-size : parse (format_of s) s ≡ from-count (format_of s) s
        unfolding format_of
        header-size = header-version ∙ passes _ 4 6 _ (eq-eqb _ _ size)

        module _ (some : 1 ≤ byte s 5) (few : byte s 5 ≤ function_limit) where
          pub header-count : parse (format_of s) s ≡ from-functions (format_of s) s
          header-count = header-size ∙ passes _ 6 5 _ (rw (le-leb _ _ some, le-leb _ _ few))
