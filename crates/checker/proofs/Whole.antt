-- A function's checks together, the functions in turn, and the verdict.
use Prim.Native.Nat.{ℕ, zero, suc, ◌+◌, ◌-◌, ◌<◌, ◌≤◌}
use mathlib.Core.Path.{◌≡◌, refl, ap, sym, ◌∙◌, subst}
use mathlib.Core.Bool.{Bool, true, false, not}
use mathlib.Core.List.{List, [], ◌∷◌, reverse}
use mathlib.Core.Option.{Option, none, some}
use native.Mathlib.Omega.{arith}
use native.Mathlib.Nat.{not-suc-le-zero}
use native.Mathlib.Numerals.{add-one}
use lib.Dec.{leb, eqb}
use lib.ListN.{length, get_or, set, get_elem?}
use lib.Seq.{get_or-set_same, get_or-set_other}
use borrow.Author.Tests.{leb-true, eqb-true, eqb-false}
use Rattle.ports.specs.Kinds.{kind_of}
use Rattle.base.specs.Outcome.{Outcome, ok, fault, ◌>>◌, each, Part}
use Rattle.base.specs.Refusals.{mapped, number, refusal}
use Rattle.base.specs.declared.refusal.Refusal.{Refusal}
use Rattle.base.specs.declared.refusal.Fault.{Fault}
use Rattle.base.specs.Bytes.{byte, u16, Bytes}
use Rattle.graph.specs.Graph.{Payload, consts, refs, calls, Node, Function}
use Rattle.graph.specs.Look.{find_function, found, reads, reads_of}
use Rattle.graph.specs.Format.{format_of}
use Rattle.graph.specs.Read.{functions, parse}
use Rattle.graph.specs.Formed.{FormedPayload, FormedNode, Formed}
use Rattle.graph.specs.Judge.{fresh, call_ok, ref_ok, refs_ok, loop_free, judge, judge_all, table, verdict}
use Rattle.graph.specs.Types.{wants_of}
use Rattle.base.proofs.Bools.{and-inv}
use Rattle.base.proofs.Outcomes.{took, passed, takes, stops, goes, halts, passes, fails, is-each}
use Rattle.graph.proofs.Formats.{plain_of, nodes-held, table-held, functions-within}
use Rattle.graph.proofs.Formed.{function-formed, parse-written}
use Rattle.graph.proofs.Accept.{resolved-by}
use Rattle.graph.proofs.Order.{wired-in}
use Rattle.order.specs.Resolve.{target}
use Rattle.order.proofs.Nodes.{at-below}
use Rattle.reader.specs.Layout.{node_at, node_end, nodes_at, node_place, node_count, nodes_place, function_at, function_end, functions_at, earlier, known}
use Rattle.reader.specs.Find.{ReadsFunction, ReadsFunctions, ReadsStarts, function_found}
use Rattle.reader.specs.declared.Found.{Found}
use Rattle.std.specs.Prelude.{Some, None}
use Rattle.std.specs.Prelude.{Option as Answer}
use Rattle.std.specs.Option.{is_some}
use Rattle.reader.proofs.Rows.{operands-few}
use Rattle.reader.proofs.Standing.{function-read, parse-read, earlier-all}
use Rattle.reader.proofs.Passed.{place-next, function-holds, length-earlier, no-function, found-function}
use Rattle.resolver.proofs.Rows.{length-nodes}
use Rattle.checker.specs.declared.scene.Head.{Head}
use Rattle.checker.specs.Slots.{RowsAre, SlotsReady}
use Rattle.base.specs.Limits.{function_limit, node_limit, operand_limit, table_limit}
use Rattle.base.proofs.Lists.{some_is}

-- ---- the nodes by their indices

pub nodes-count : (s : List ℕ) (f : ℕ) → length (function_at s f).nodes ≡ node_count s f
unfolding function_at
nodes-count s f = length-nodes (node_count s f) s (nodes_place s f)

pub node-at : (n : ℕ) (s : List ℕ) (at i : ℕ) → i < n → get_elem? (nodes_at n s at) i ≡ some (node_at s (node_place s at i))
unfolding nodes_at node_place
node-at zero s at i h = absurd (not-suc-le-zero h)
node-at (suc n) s at zero h = refl
node-at (suc n) s at (suc i) h = node-at n s (node_end s at) i (omega arith)

pub node_of : (s : List ℕ) (f i : ℕ) → i < node_count s f → get_elem? (function_at s f).nodes i ≡ some (node_at s (node_place s (nodes_place s f) i))
unfolding function_at
node_of s f i h = node-at (node_count s f) s (nodes_place s f) i h

at_place : (n : ℕ) (s : List ℕ) (at i : ℕ) (x : Node) → get_elem? (nodes_at n s at) i ≡ some x → x ≡ node_at s (node_place s at i)
unfolding nodes_at node_place
at_place zero s at i x e = let z : ◌≡◌ {A = ℕ} 0 1 = cc in absurd (omega arith)
at_place (suc n) s at zero x e = sym (some_is e)
at_place (suc n) s at (suc i) x e = at_place n s (node_end s at) i x e

pub stands_at : (s : List ℕ) (f i : ℕ) (x : Node) → get_elem? (function_at s f).nodes i ≡ some x → x ≡ node_at s (node_place s (nodes_place s f) i)
unfolding function_at
stands_at s f i x e = at_place (node_count s f) s (nodes_place s f) i x e

pub place_of : (s : List ℕ) (f i : ℕ) (x : Node) → get_elem? (function_at s f).nodes i ≡ some x → node_place s (nodes_place s f) i ≡ x.place
unfolding node_at
place_of s f i x e = ap (λ (n : Node). n.place) (sym (stands_at s f i x e))

-- ---- answers

-- what a refusal tells
pub told : {A : Type 0} {r : Refusal} {f : Fault} {p : ℕ} → r ≡ refusal f p → ◌≡◌ {A = Outcome A} (fault (number r.fault) r.place) (fault (number f) p)
told {A = A} e = ap {B = Outcome A} (λ (r : Refusal). fault (number r.fault) r.place) e

module _ {A : Type 0} where
  -- a reading that gave a fault, or passed
  faulted : (g : Outcome A) (n p : ℕ) → fault n p ≡ mapped (λ a. tt {0}) g → g ≡ fault n p
  faulted (ok a) n p e = let z : ◌≡◌ {A = ℕ} 0 1 = cc in absurd (omega arith)
  faulted (fault m q) n p e = cc

  gave : (g : Outcome A) → ok tt ≡ mapped (λ a. tt {0}) g → (a : A) × (g ≡ ok a)
  gave (ok a) e = (a, refl)
  gave (fault n p) e = let z : ◌≡◌ {A = ℕ} 0 1 = cc in absurd (omega arith)

-- ---- a function

-- all that is asked of a function before its loops
pub record Checked (early : List Function) (f : Function) : Type 0 where
  pub new : find_function f.id early ≡ none
  pub distinct : fresh [] f.nodes ≡ ok tt
  pub calls : each (λ n. call_ok early n.place n.payload) f.nodes ≡ ok tt
  pub outputs : each (λ o. ref_ok early f o.type o.ref) f.outputs ≡ ok tt
  pub nodes : each (λ n. refs_ok early f (wants_of early n n.payload) (reads n)) f.nodes ≡ ok tt

module _ (early : List Function) (f : Function) where
  pub judged-twice : (g : Function) → find_function f.id early ≡ some g → judge early f ≡ fault 9 f.place
  judged-twice g e = fails _ 9 f.place _ (ap (λ (o : Option Function). not (found o)) e)

  module _ (new : find_function f.id early ≡ none) where
    begun : judge early f
        ≡ (fresh [] f.nodes >> (each (λ n. call_ok early n.place n.payload) f.nodes
        >> (each (λ o. ref_ok early f o.type o.ref) f.outputs >> (each (λ n. refs_ok early f (wants_of early n n.payload) (reads n)) f.nodes >> loop_free f))))
    begun = passes _ 9 f.place _ (ap (λ (o : Option Function). not (found o)) new)

    pub judged-fresh : {n p : ℕ} → fresh [] f.nodes ≡ fault n p → judge early f ≡ fault n p
    judged-fresh e = begun ∙ halts _ _ _ _ e

    module _ (a : fresh [] f.nodes ≡ ok tt) where
      pub judged-calls : {n p : ℕ} → each (λ n. call_ok early n.place n.payload) f.nodes ≡ fault n p → judge early f ≡ fault n p
      judged-calls e = begun ∙ (goes _ _ tt a ∙ halts _ _ _ _ e)

      module _ (b : each (λ n. call_ok early n.place n.payload) f.nodes ≡ ok tt) where
        pub judged-outputs : {n p : ℕ} → each (λ o. ref_ok early f o.type o.ref) f.outputs ≡ fault n p → judge early f ≡ fault n p
        judged-outputs e = begun ∙ (goes _ _ tt a ∙ (goes _ _ tt b ∙ halts _ _ _ _ e))

        pub judged-nodes :
            {n p : ℕ} → each (λ o. ref_ok early f o.type o.ref) f.outputs ≡ ok tt
            → each (λ n. refs_ok early f (wants_of early n n.payload) (reads n)) f.nodes ≡ fault n p → judge early f ≡ fault n p
        judged-nodes c e = begun ∙ (goes _ _ tt a ∙ (goes _ _ tt b ∙ (goes _ _ tt c ∙ halts _ _ _ _ e)))

  pub judged-loops : Checked early f → judge early f ≡ loop_free f
  judged-loops h = begun h.new ∙ (goes _ _ tt h.distinct ∙ (goes _ _ tt h.calls ∙ (goes _ _ tt h.outputs ∙ goes _ _ tt h.nodes)))

-- whether its id was found among those before it
module _ (s starts : List ℕ) (k at id : ℕ) (e : id ≡ u16 s at) where
  pub is_new :
      (r : Answer Found) → r ≡ function_found id (known s starts k) → false ≡ is_some r → find_function (function_at s at).id (known s starts k) ≡ none
  unfolding function_at
  is_new None q b = ap (λ (i : ℕ). find_function i (known s starts k)) (sym e) ∙ no-function s starts id k (sym q)
  is_new (Some x) q b = let z : ◌≡◌ {A = ℕ} 0 1 = cc in absurd (omega arith)

  pub was_there :
      (r : Answer Found) → r ≡ function_found id (known s starts k) → true ≡ is_some r → judge (known s starts k) (function_at s at) ≡ fault 9 at
  unfolding function_at
  was_there None q b = let z : ◌≡◌ {A = ℕ} 0 1 = cc in absurd (omega arith)
  was_there (Some x) q b =
      let (l, p, f) = found-function s starts id k x.index x.place (sym q) in
      judged-twice (known s starts k) (function_at s at) (function_at s x.place)
      (ap (λ (i : ℕ). find_function i (known s starts k)) (sym e) ∙ f)

-- ---- all is known but the loops

formed : (s : List ℕ) → Bytes s → (at : ℕ) → ReadsFunction s at → Formed (function_at s at)
formed s small at (x, e) =
    subst Formed (ap (λ (y : Part Function). y.it) (function-read node_limit s at x e)) (function-formed s small node_limit at x e).0

payload-narrow : (k : ℕ) (p : Payload) → FormedPayload (kind_of k) p → length (reads_of p) ≤ operand_limit
payload-narrow k (consts ws) h = omega arith
payload-narrow k (refs rs) (a, l) = let b = operands-few k in omega (arith, l, b)
payload-narrow k (calls c rs) (a, l) = omega (arith, l)

module _ (s : List ℕ) (small : Bytes s) (early : List Function) (f : Head) (ts : List ℕ) where
  abbrev fn : Function
  fn = function_at s f.place

  pub ready :
      ReadsFunction s f.place → f.first ≡ nodes_place s f.place → f.count ≡ node_count s f.place
      → Checked early (function_at s f.place) → RowsAre s f.place f.count ts → SlotsReady s f ts
  ready r first count c rows =
      let fm = formed s small f.place r in
      let rs = resolved-by early fn fm c.new tt tt tt tt c.distinct c.calls c.outputs c.nodes in
      let h = (function-holds s f.place r).few in
      let e = nodes-count s f.place in
      record {
        reads = r;
        first = first;
        count = count;
        resolves = record {
          few = omega (arith, h, e);
          size = rows.size;
          named = λ n i. (is-each FormedNode fn.nodes fm.nodes n i).id;
          narrow = λ n i. payload-narrow n.kind n.payload (is-each FormedNode fn.nodes fm.nodes n i).payload;
          closed = λ n j i m. wired-in early fn (wants_of early n n.payload) (reads n) (rs.wired n i) j m;
          slots = λ i j n q l.
              let b : i < length fn.nodes = at-below fn.nodes i n q in
              rows.slots i j (omega (arith, b, e, count)) l
              ∙ ap (λ (x : Node). target fn.nodes (get_elem? (reads x) j)) (sym (stands_at s f.place i n q));
        };
        own = rs.own;
      }

-- ---- where a function ends

module _ (s : List ℕ) (at : ℕ) where
  pub end_none : node_count s at ≡ 0 → nodes_place s at ≡ function_end s at
  unfolding function_end node_place
  end_none e = sym (ap (node_place s (nodes_place s at)) e)

  pub end-last : 0 < node_count s at → node_end s (node_place s (nodes_place s at) (node_count s at - 1)) ≡ function_end s at
  unfolding function_end
  end-last l =
      let m : node_count s at - 1 + 1 ≡ node_count s at = omega arith in
      sym (place-next s (node_count s at - 1) (nodes_place s at)) ∙ ap (node_place s (nodes_place s at)) m

-- ---- the functions in turn

module _ (s : List ℕ) where
  pub first_function : (n at : ℕ) → 0 < n → ReadsFunctions n s at → ReadsFunction s at
  first_function zero at l r = absurd (not-suc-le-zero l)
  first_function (suc n) at l (p, e) = let (x, ex, e1) = took _ _ _ e in (x, ex)

  pub rest-functions : (n at : ℕ) → 0 < n → ReadsFunctions n s at → ReadsFunctions (n - 1) s (function_end s at)
  rest-functions zero at l r = absurd (not-suc-le-zero l)
  rest-functions (suc n) at l (p, e) =
      let (x, ex, e1) = took _ _ _ e in
      let (r, er, e2) = took _ _ _ e1 in
      let m : suc n - 1 ≡ n = omega arith in
      let w : x.next ≡ function_end s at = ap (λ (y : Part Function). y.next) (function-read node_limit s at x ex) in
      (r, ap (λ (k : ℕ). functions node_limit k s (function_end s at)) m ∙ (ap (functions node_limit n s) (sym w) ∙ er))

  pub all-fault : (early : List Function) (n at a p : ℕ) → 0 < n → judge early (function_at s at) ≡ fault a p → judge_all early (functions_at n s at) ≡ fault a p
  unfolding functions_at
  all-fault early zero at a p l e = absurd (not-suc-le-zero l)
  all-fault early (suc n) at a p l e = halts _ _ a p e

  pub all-on :
      (early : List Function) (n at : ℕ) → 0 < n → judge early (function_at s at) ≡ ok tt
      → judge_all early (functions_at n s at) ≡ judge_all (function_at s at ∷ early) (functions_at (n - 1) s (function_end s at))
  unfolding functions_at
  all-on early zero at l e = absurd (not-suc-le-zero l)
  all-on early (suc n) at l e =
      let m : suc n - 1 ≡ n = omega arith in
      goes _ _ tt e ∙ ap (λ (i : ℕ). judge_all (function_at s at ∷ early) (functions_at i s (function_end s at))) (sym m)

  -- one place more
  module _ (starts : List ℕ) (k at : ℕ) (l : k < length starts) where
    pub start-more : ReadsStarts s starts k → ReadsFunction s at → ReadsStarts s (set starts k at) (k + 1)
    start-more h r j b = pick_one (eqb j k) refl
      where
        pick_one : (b : Bool) → eqb j k ≡ b → ReadsFunction s (get_or (set starts k at) j 0)
        pick_one true w = subst (λ (i : ℕ). ReadsFunction s (get_or (set starts k at) i 0)) (sym (eqb-true j k w)) (subst (ReadsFunction s) (sym (get_or-set_same starts k at 0 l)) r)
        pick_one false w = let d : j ≡ k → ⊥ = eqb-false j k w in subst (ReadsFunction s) (sym (get_or-set_other starts k j at 0 d)) (h j (omega arith))

    pub known_more : function_at s at ∷ known s starts k ≡ known s (set starts k at) (k + 1)
    unfolding known
    known_more =
        rw (add-one k)
        (ap (λ (x : ℕ). function_at s x ∷ known s starts k) (sym (get_or-set_same starts k at 0 l))
        ∙ ap (λ (fs : List Function). function_at s (get_or (set starts k at) k 0) ∷ fs) (below k (omega arith)))
      where
        below : (j : ℕ) → j ≤ k → known s starts j ≡ known s (set starts k at) j
        below zero h = refl
        below (suc j) h =
            ap (λ (x : ℕ). function_at s x ∷ known s starts j) (sym (get_or-set_other starts k j at 0 (λ e. omega arith)))
            ∙ ap (λ (fs : List Function). function_at s (get_or (set starts k at) j 0) ∷ fs) (below j (omega arith))

-- ---- the verdict

module _ (s : List ℕ) where
  pub unread : (n p : ℕ) → fault n p ≡ mapped (λ a. tt {0}) (parse (format_of s) s) → verdict s ≡ fault n p
  unfolding verdict table
  unread n p e = stops _ _ n p (stops _ _ n p (faulted (parse (format_of s) s) n p e))

  -- a table that was read
  pub record Whole : Type 0 where
    pub size : 8 ≤ length s
    pub few : byte s 5 ≤ function_limit
    pub short : length s < table_limit
    pub reads : ReadsFunctions (byte s 5) s (format_of s).header

  pub whole : Bytes s → ok tt ≡ mapped (λ a. tt {0}) (parse (format_of s) s) → Whole
  whole small e =
      let (fs, q) = gave (parse (format_of s) s) e in
      let (t1, e1) = passed _ _ _ _ _ q in
      let (t2, e2) = passed _ _ _ _ _ e1 in
      let (t3, e3) = passed _ _ _ _ _ e2 in
      let (t4, e4) = passed _ _ _ _ _ e3 in
      let (t5, e5) = passed _ _ _ _ _ e4 in
      let (p, ep, e6) = took _ _ _ e5 in
      record {
        size = leb-true _ _ t1;
        few = leb-true _ _ (and-inv (leb 1 (byte s 5)) (leb (byte s 5) function_limit) t5).1;
        short = table-held s fs (parse-written (format_of s) (plain_of s) s small fs q);
        reads = (p, functions-within (format_of s).node_limit node_limit (nodes-held s) s (byte s 5) (format_of s).header p ep);
      }

  module _ (e : ok tt ≡ mapped (λ a. tt {0}) (parse (format_of s) s)) where
    opened : table s ≡ (judge_all [] (functions_at (byte s 5) s (format_of s).header) >> ok (earlier (format_of s).header s (byte s 5)))
    unfolding table
    opened =
        let (fs, q) = gave (parse (format_of s) s) e in
        takes (parse (format_of s) s) (λ gs. judge_all [] gs >> ok (reverse gs)) fs q
        ∙ (ap (λ (gs : List Function). judge_all [] gs >> ok (reverse gs)) (parse-read (format_of s) s fs q)
        ∙ ap (λ (gs : List Function). judge_all [] (functions_at (byte s 5) s (format_of s).header) >> ok gs) (earlier-all (format_of s).header s (byte s 5)))

    pub refused : (n p : ℕ) → judge_all [] (functions_at (byte s 5) s (format_of s).header) ≡ fault n p → verdict s ≡ fault n p
    unfolding verdict
    refused n p j = stops _ _ n p (opened ∙ halts _ _ n p j)

    pub accepted : judge_all [] (functions_at (byte s 5) s (format_of s).header) ≡ ok tt → verdict s ≡ ok (byte s 5)
    unfolding verdict
    accepted j = takes (table s) (λ fs. ok (length fs)) (earlier (format_of s).header s (byte s 5)) (opened ∙ goes _ _ tt j) ∙ ap ok (length-earlier (format_of s).header s (byte s 5))
