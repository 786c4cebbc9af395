-- The numbers of the ports of one node.
use Prim.Native.Nat.{ℕ, ◌+◌, ◌*◌, ◌≤◌, ◌<◌}
use mathlib.Core.Path.{◌≡◌, sym, ap, ◌∙◌}
use mathlib.Core.Bool.{Bool, true, false, cond}
use mathlib.Core.List.{List, []}
use borrow.Author.Tests.{lt-ltb, le-ltb}
use Rattle.ports.specs.declared.Ports.{Ports}
use Rattle.ports.specs.Kinds.{kind_of}
use Rattle.ports.specs.Ports.{ports_of, form_of, width, own, calling}
use Rattle.base.specs.Bytes.{byte, u16}
use Rattle.reader.specs.Layout.{kind_at, output_count}
use Rattle.sums.specs.Position.{place_of, position_of}
use Rattle.compiler.specs.Locating.{rebased_codes, result_codes, callee_codes, node_codes}
use Rattle.sums.proofs.Nodes.{row_is, form-is}

module _ (s outs locations : List ℕ) (k p cell d kind : ℕ) (row : Ports) (ek : kind ≡ byte s (p + 2)) (er : row ≡ ports_of (kind_of kind)) where
  by_call : (b : Bool) → calling row.form ≡ b → calling (form_of (kind_at s p)) ≡ b
  by_call b e = ap calling (sym (form-is s p kind row ek er)) ∙ e

  module _ (f : calling row.form ≡ true) (c g : ℕ) (ec : c ≡ u16 s (p + 4)) (eg : g ≡ position_of s k c) where
    codes-here : node_codes s outs locations k p cell d ≡ callee_codes s outs locations k g cell (byte s (p + 4 + 2)) d
    unfolding node_codes
    codes-here =
        ap
        (λ (b : Bool).
        cond b (callee_codes s outs locations k (position_of s k (u16 s (p + 4))) cell (byte s (p + 4 + 2)) d)
        (result_codes (8 + d) (width (own (byte s (p + 3)) (ports_of (kind_at s p)).result)) (ports_of (kind_at s p)).results))
        (by_call true f)
        ∙ ap (λ (h : ℕ). callee_codes s outs locations k h cell (byte s (p + 4 + 2)) d) (sym (eg ∙ ap (position_of s k) ec))

    pub call-codes : g < k → (n count : ℕ) → n ≡ byte s (p + 4 + 2) → count ≡ output_count s (place_of s g)
        → rebased_codes outs locations cell n d (8 * g) count ≡ node_codes s outs locations k p cell d
    call-codes lt n count en ec =
        sym
        (codes-here
        ∙ ap (λ (b : Bool). cond b (rebased_codes outs locations cell (byte s (p + 4 + 2)) d (8 * g) (output_count s (place_of s g))) []) (lt-ltb g k lt)
        ∙ ap (λ (m : ℕ). rebased_codes outs locations cell m d (8 * g) (output_count s (place_of s g))) (sym en)
        ∙ ap (rebased_codes outs locations cell n d (8 * g)) (sym ec))

    pub no-codes : k ≤ g → node_codes s outs locations k p cell d ≡ []
    no-codes le =
        codes-here ∙ ap (λ (b : Bool). cond b (rebased_codes outs locations cell (byte s (p + 4 + 2)) d (8 * g) (output_count s (place_of s g))) []) (le-ltb g k le)

  pub plain-codes : calling row.form ≡ false → (ty w count : ℕ) → ty ≡ byte s (p + 3) → w ≡ width (own ty row.result) → count ≡ row.results
      → result_codes (8 + d) w count ≡ node_codes s outs locations k p cell d
  unfolding node_codes
  plain-codes f ty w count et ew en =
      let r : row ≡ ports_of (kind_at s p) = row_is s p kind row ek er in
      let a : w ≡ width (own (byte s (p + 3)) (ports_of (kind_at s p)).result) =
      ew ∙ ap (λ (t : ℕ). width (own t row.result)) et ∙ ap (λ (y : Ports). width (own (byte s (p + 3)) y.result)) r in
      let b : count ≡ (ports_of (kind_at s p)).results = en ∙ ap (λ (y : Ports). y.results) r in
      ap (λ (x : ℕ). result_codes (8 + d) x count) a
      ∙ ap (result_codes (8 + d) (width (own (byte s (p + 3)) (ports_of (kind_at s p)).result))) b
      ∙ ap
      (λ (x : Bool).
      cond x (callee_codes s outs locations k (position_of s k (u16 s (p + 4))) cell (byte s (p + 4 + 2)) d)
      (result_codes (8 + d) (width (own (byte s (p + 3)) (ports_of (kind_at s p)).result)) (ports_of (kind_at s p)).results))
      (sym (by_call false f))
