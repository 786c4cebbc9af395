-- What every row of the port list has.
use Prim.Native.Nat.{ℕ, ◌*◌, ◌≤◌}
use mathlib.Core.Path.{◌≡◌, refl, ap, ◌∙◌, subst}
use mathlib.Core.Bool.{Bool, true, not, ◌&&◌, ◌||◌}
use lib.Dec.{leb, eqb}
use borrow.Author.Tests.{leb-true, eqb-true}
use Rattle.ports.specs.declared.Form.{Form}
use Rattle.ports.specs.declared.Form.TheVariants.{Absent, Constant, References, Call}
use Rattle.ports.specs.declared.Ports.{Ports}
use Rattle.ports.specs.Kinds.{Kind, kind_of}
use Rattle.ports.specs.Ports.{width, ports_of, constant_words, exists}
use Rattle.base.specs.Limits.{operand_limit}
use Rattle.ports.proofs.Table.{every-kind}
use Rattle.base.proofs.Bools.{and-inv}

-- a constant has the words of its type and no operand
fits_form : Form → Ports → Bool
fits_form Absent r = true
fits_form Constant r = eqb r.words (width r.result) && eqb r.operands 0
fits_form References r = true
fits_form Call r = true

row_good : Ports → Bool
row_good r = fits_form r.form r && leb r.operands operand_limit

row-good : (k : ℕ) → row_good (ports_of (kind_of k)) ≡ true
unfolding row_good fits_form
row-good k = every-kind (λ (k : Kind). row_good (ports_of k)) refl (kind_of k)

module _ (k : ℕ) where
  abbrev row : Ports
  row = ports_of (kind_of k)

  pub operands-few : row.operands ≤ operand_limit
  unfolding row_good
  operands-few = leb-true _ _ (and-inv (fits_form row.form row) _ (row-good k)).1

  constant-good : row.form ≡ Constant → (eqb row.words (width row.result) && eqb row.operands 0) ≡ true
  unfolding row_good fits_form
  constant-good e = subst (λ (f : Form). fits_form f row ≡ true) e (and-inv (fits_form row.form row) _ (row-good k)).0

  pub constant-width : row.form ≡ Constant → constant_words (kind_of k) ≡ width row.result
  constant-width e = rw e (eqb-true _ _ (and-inv (eqb row.words (width row.result)) (eqb row.operands 0) (constant-good e)).0)

  pub constant-operands : row.form ≡ Constant → row.operands ≡ 0
  constant-operands e = eqb-true _ _ (and-inv (eqb row.words (width row.result)) (eqb row.operands 0) (constant-good e)).1

-- the bytes behind a node's head, by its form
bytes_by : Form → Ports → ℕ
bytes_by Absent r = 0
bytes_by Constant r = 8 * r.words
bytes_by References r = 3 * r.operands
bytes_by Call r = 3

-- a node has a reference or a constant, or is a call
sized : Ports → Bool
sized r = eqb r.bytes (bytes_by r.form r) && (not (exists r.form) || leb 3 r.bytes)

row_sized : (k : ℕ) → sized (ports_of (kind_of k)) ≡ true
unfolding sized bytes_by
row_sized k = every-kind (λ (k : Kind). sized (ports_of k)) refl (kind_of k)

module _ (k : ℕ) where
  abbrev of-kind : Ports
  of-kind = ports_of (kind_of k)

  bytes-by : of-kind.bytes ≡ bytes_by of-kind.form of-kind
  unfolding sized
  bytes-by = eqb-true _ _ (and-inv (eqb of-kind.bytes (bytes_by of-kind.form of-kind)) _ (row_sized k)).0

  pub constant-bytes : of-kind.form ≡ Constant → of-kind.bytes ≡ 8 * of-kind.words
  unfolding bytes_by
  constant-bytes e = bytes-by ∙ ap (λ (f : Form). bytes_by f of-kind) e

  pub reference-bytes : of-kind.form ≡ References → of-kind.bytes ≡ 3 * of-kind.operands
  unfolding bytes_by
  reference-bytes e = bytes-by ∙ ap (λ (f : Form). bytes_by f of-kind) e

  pub call-bytes : of-kind.form ≡ Call → of-kind.bytes ≡ 3
  unfolding bytes_by
  call-bytes e = bytes-by ∙ ap (λ (f : Form). bytes_by f of-kind) e

  pub row-some : exists of-kind.form ≡ true → 3 ≤ of-kind.bytes
  unfolding sized
  row-some e =
      let t : (not (exists of-kind.form) || leb 3 of-kind.bytes) ≡ true = (and-inv (eqb of-kind.bytes (bytes_by of-kind.form of-kind)) _ (row_sized k)).1 in
      leb-true _ _ (subst (λ (b : Bool). (not b || leb 3 of-kind.bytes) ≡ true) e t)
