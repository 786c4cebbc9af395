-- A node as the code meets it: the row of its kind, and the payload of a call; the functions in turn.
use Prim.Native.Nat.{ℕ, suc, ◌+◌, ◌≤◌, ◌<◌}
use mathlib.Core.Path.{◌≡◌, refl, sym, ap, ◌∙◌, subst}
use mathlib.Core.Bool.{true, false}
use mathlib.Core.List.{List}
use native.Mathlib.Omega.{arith}
use lib.ListN.{set}
use lib.Seq.{sets}
use Rattle.ports.specs.declared.Form.{Form}
use Rattle.ports.specs.declared.Form.TheVariants.{Absent, Constant, References, Call}
use Rattle.ports.specs.declared.Ports.{Ports}
use Rattle.ports.specs.Kinds.{kind_of}
use Rattle.ports.specs.Ports.{ports_of, form_of, calling}
use Rattle.base.specs.Bytes.{byte, u16}
use Rattle.graph.specs.Format.{format_of}
use Rattle.graph.specs.Graph.{calls}
use Rattle.graph.specs.Read.{references}
use Rattle.reader.specs.Layout.{kind_at, payload_at, node_at, function_end, function_place}
use Rattle.sums.specs.Position.{tabulate, place_of}
use Rattle.sums.proofs.Rows.{Narrow, narrow}
use Rattle.sums.proofs.Tabulate.{tabulate-none, tabulate-more}

pub call-form : (f : Form) → calling f ≡ true → f ≡ Call
call-form Absent e = let z : ◌≡◌ {A = ℕ} 0 1 = cc in absurd (omega arith)
call-form Constant e = let z : ◌≡◌ {A = ℕ} 0 1 = cc in absurd (omega arith)
call-form References e = let z : ◌≡◌ {A = ℕ} 0 1 = cc in absurd (omega arith)
call-form Call e = refl

-- ---- the node at p, whose kind has this row

module _ (s : List ℕ) (p kind : ℕ) (row : Ports) (ek : kind ≡ byte s (p + 2)) (er : row ≡ ports_of (kind_of kind)) where
  pub row_is : row ≡ ports_of (kind_at s p)
  row_is = er ∙ ap (λ (k : ℕ). ports_of (kind_of k)) ek

  pub row-narrow : Narrow row
  row-narrow = subst Narrow (sym er) (narrow kind)

  pub form-is : row.form ≡ form_of (kind_at s p)
  form-is = ap (λ (r : Ports). r.form) row_is

  module _ (c : calling row.form ≡ true) where
    pub called : form_of (kind_at s p) ≡ Call
    called = sym form-is ∙ call-form row.form c

    pub call-payload : (node_at s p).payload ≡ calls (u16 s (p + 4)) (references (byte s (p + 4 + 2)) s (p + 4 + 3))
    unfolding node_at
    call-payload = ap (λ (f : Form). payload_at f (kind_at s p) s (p + 4)) called

  pub plain_form : calling row.form ≡ false → calling (form_of (kind_at s p)) ≡ false
  plain_form c = ap calling (sym form-is) ∙ c

-- ---- functions in turn

module _ (s : List ℕ) (n : ℕ) (starts₀ : List ℕ) where
  pub record Starting (starts : List ℕ) (p k : ℕ) : Type 0 where
    pub index : k ≤ n
    pub place : p ≡ place_of s k
    pub starts-are : starts ≡ sets starts₀ 0 (tabulate (place_of s) k)

  pub start_none : Starting starts₀ (format_of s).header 0
  unfolding function_place
  start_none = record { index = omega arith; place = refl; starts-are = sym (tabulate-none (place_of s) starts₀) }

  pub start-step : (starts : List ℕ) (p k r : ℕ) → Starting starts p k → k < n → r ≡ function_end s p → Starting (set starts k p) r (k + 1)
  unfolding function_place
  start-step starts p k r h lt er =
      let z : k + 1 ≡ suc k = omega arith in
      record {
        index = omega arith;
        place = rw z (er ∙ ap (function_end s) h.place);
        starts-are =
            ap (λ (xs : List ℕ). set xs k p) h.starts-are
            ∙ ap (set (sets starts₀ 0 (tabulate (place_of s) k)) k) h.place
            ∙ sym (tabulate-more (place_of s) starts₀ k);
      }

  pub start-done : (starts : List ℕ) (p k : ℕ) → Starting starts p k → n ≤ k → starts ≡ sets starts₀ 0 (tabulate (place_of s) n)
  start-done starts p k h le = let z : k ≡ n = let i = h.index in omega arith in h.starts-are ∙ ap (λ (m : ℕ). sets starts₀ 0 (tabulate (place_of s) m)) z
