-- 10: a call names an earlier function, and has as many arguments as that has inputs.
use Prim.Native.Nat.{ℕ, zero, suc, ◌+◌, ◌-◌, ◌<◌}
use mathlib.Core.Path.{◌≡◌, refl, ap, sym, ◌∙◌, subst}
use mathlib.Core.Bool.{Bool, true, false, ◌&&◌}
use mathlib.Core.List.{List, ◌∷◌}
use mathlib.Core.Option.{Option, none, some}
use native.Mathlib.Omega.{arith}
use lib.Dec.{eqb}
use lib.ListN.{length}
use Rattle.ports.specs.declared.Form.{Form}
use Rattle.ports.specs.declared.Form.TheVariants.{Absent, Constant, References, Call}
use Rattle.ports.specs.declared.Ports.{Ports}
use Rattle.ports.specs.Ports.{ports_of, form_of, calling}
use Rattle.base.specs.Outcome.{Outcome, ok, fault, need, each}
use Rattle.base.specs.Bytes.{byte, u16}
use Rattle.graph.specs.Graph.{Node, Function}
use Rattle.graph.specs.Look.{find_function, found}
use Rattle.graph.specs.Read.{references}
use Rattle.graph.specs.Judge.{call_ok}
use Rattle.graph.specs.Types.{inputs_of}
use Rattle.base.proofs.Outcomes.{takes, stops, took}
use Rattle.base.proofs.Numbers.{one_less}
use Rattle.graph.proofs.Formed.{refs-length}
use Rattle.reader.specs.Layout.{kind_at, payload_at, node_at, nodes_at, node_place, inputs_at, function_at, known}
use Rattle.reader.specs.Find.{ReadsFunction, ReadsStarts, function_found, found_at}
use Rattle.reader.proofs.Passed.{place-next, found-function, form-is}

pub inputs-length : (n : ℕ) (s : List ℕ) (at : ℕ) → length (inputs_at n s at) ≡ n
inputs-length zero s at = refl
inputs-length (suc n) s at = ap suc (inputs-length n s (at + 1))

-- the function that was found for an id
pub found-callee :
    (s starts : List ℕ) (k : ℕ) → ReadsStarts s starts k → (id i p : ℕ) → function_found id (known s starts k) ≡ found_at i p
    → ReadsFunction s p × (find_function id (known s starts k) ≡ some (function_at s p))
found-callee s starts k h id i p e =
    let (l, q, f) = found-function s starts id k i p e in
    (subst (ReadsFunction s) (sym q) (h i l), f)

module _ (s : List ℕ) (at : ℕ) (early : List Function) where
  of-form : (h : Form) → form_of (kind_at s at) ≡ h → call_ok early at (node_at s at).payload ≡ call_ok early at (payload_at h (kind_at s at) s (at + 4))
  unfolding node_at
  of-form h e = ap (λ (x : Form). call_ok early at (payload_at x (kind_at s at) s (at + 4))) e

  pub no_call : (h : Form) → form_of (kind_at s at) ≡ h → call_ok early at (payload_at h (kind_at s at) s (at + 4)) ≡ ok tt → call_ok early at (node_at s at).payload ≡ need true 10 at
  unfolding need
  no_call h e q = of-form h e ∙ q

  plain_ok : (h : Form) → calling h ≡ false → call_ok early at (payload_at h (kind_at s at) s (at + 4)) ≡ ok tt
  plain_ok Absent e = refl
  plain_ok Constant e = refl
  plain_ok References e = refl
  plain_ok Call e = let z : ◌≡◌ {A = ℕ} 0 1 = cc in absurd (omega arith)

  -- a node whose row is no call's
  pub plain-call : (row : Ports) → row ≡ ports_of (kind_at s at) → calling row.form ≡ false → call_ok early at (node_at s at).payload ≡ need true 10 at
  plain-call row q e = no_call row.form (form-is s at row q row.form refl) (plain_ok row.form e)

  module _ (c : form_of (kind_at s at) ≡ Call) where
    pub call_none : find_function (u16 s (at + 4)) early ≡ none → call_ok early at (node_at s at).payload ≡ need false 10 at
    call_none e =
        of-form Call c
        ∙ ap (λ (o : Option Function). need (found o && eqb (length (references (byte s (at + 4 + 2)) s (at + 4 + 3))) (length (inputs_of o))) 10 at) e

    pub call-some :
        (p : ℕ) → find_function (u16 s (at + 4)) early ≡ some (function_at s p)
        → call_ok early at (node_at s at).payload ≡ need (eqb (byte s (at + 4 + 2)) (byte s (p + 2))) 10 at
    unfolding function_at
    call-some p e =
        of-form Call c
        ∙ (ap (λ (o : Option Function). need (found o && eqb (length (references (byte s (at + 4 + 2)) s (at + 4 + 3))) (length (inputs_of o))) 10 at) e
        ∙ (ap (λ (n : ℕ). need (eqb n (length (inputs_at (byte s (p + 2)) s (p + 6)))) 10 at) (refs-length (byte s (at + 4 + 2)) s (at + 4 + 3))
        ∙ ap (λ (n : ℕ). need (eqb (byte s (at + 4 + 2)) n) 10 at) (inputs-length (byte s (p + 2)) s (p + 6))))

-- ---- the nodes in turn

-- node j and those after it, of n from `first` on
module _ (s : List ℕ) (first n j : ℕ) (l : j < n) where
  pub nodes-next : nodes_at (n - j) s (node_place s first j) ≡ node_at s (node_place s first j) ∷ nodes_at (n - (j + 1)) s (node_place s first (j + 1))
  unfolding nodes_at
  nodes-next =
      ap (λ (k : ℕ). nodes_at k s (node_place s first j)) (one_less n j l)
      ∙ ap (λ (p : ℕ). node_at s (node_place s first j) ∷ nodes_at (n - (j + 1)) s p) (sym (place-next s j first))

  module _ (g : Node → Outcome (Unit {0})) where
    pub each-fault : {a p : ℕ} → g (node_at s (node_place s first j)) ≡ fault a p → each g (nodes_at (n - j) s (node_place s first j)) ≡ fault a p
    each-fault e = ap (each g) nodes-next ∙ stops _ _ _ _ e

    pub each_on : g (node_at s (node_place s first j)) ≡ ok tt
        → each g (nodes_at (n - j) s (node_place s first j)) ≡ each g (nodes_at (n - (j + 1)) s (node_place s first (j + 1)))
    each_on e = ap (each g) nodes-next ∙ takes _ _ tt e

    pub each-passed : each g (nodes_at (n - j) s (node_place s first j)) ≡ ok tt
        → (g (node_at s (node_place s first j)) ≡ ok tt) × (each g (nodes_at (n - (j + 1)) s (node_place s first (j + 1))) ≡ ok tt)
    each-passed e = let (a, p, q) = took _ _ tt (sym (ap (each g) nodes-next) ∙ e) in (p, q)

pub each_none : (g : Node → Outcome (Unit {0})) (s : List ℕ) (n at : ℕ) → n ≡ 0 → each g (nodes_at n s at) ≡ ok tt
unfolding nodes_at
each_none g s n at e = rw e

module _ (b : Bool) {g : Outcome (Unit {0})} (n p : ℕ) (e : g ≡ need b n p) where
  pub need-passed : b ≡ true → g ≡ ok tt
  unfolding need
  need-passed q = e ∙ rw q

  pub need-failed : b ≡ false → g ≡ fault n p
  unfolding need
  need-failed q = e ∙ rw q
