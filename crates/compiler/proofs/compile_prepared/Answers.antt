use Prim.Native.Nat.{ℕ, ◌≤◌}
use mathlib.Core.Path.{◌≡◌, ap, ◌∙◌, sym, subst}
use mathlib.Core.List.{List}
use lib.ListN.{length}
use lib.Seq.{sets}
use Rattle.compiler.specs.declared.Pass.TheVariants.{Sequential}
use Rattle.compiler.specs.Whole.{code_at, text_of}
use Rattle.compiler.proofs.Texts.{text-sequential}
use Rattle.compiler.proofs.compile_prepared.Goals as goal

pub write-requires : goal.write-requires
write-requires c =
    let text : (place : List ℕ) → text_of Sequential place c.args.table.now c.args.k c.args.sizes.words ≡ code_at c.args.table.now c.args.k =
    λ place. ap (text_of Sequential place c.args.table.now c.args.k) c.requires.measured.1 ∙ text-sequential c.requires.accepted.0 place in
    record {
      accepted = (c.requires.accepted.0, c.requires.accepted.1, c.requires.accepted.2);
      measured = (c.requires.measured.0, c.requires.measured.2, subst (λ (xs : List ℕ). length xs ≤ length c.args.code.now) (sym (text _)) c.requires.measured.3);
    }

pub returns : goal.returns
returns c =
    let text : (place : List ℕ) → text_of Sequential place c.args.table.now c.args.k c.args.sizes.words ≡ code_at c.args.table.now c.args.k =
    λ place. ap (text_of Sequential place c.args.table.now c.args.k) c.requires.measured.1 ∙ text-sequential c.requires.accepted.0 place in
    c.write.ensures ∙ ap (sets c.args.code.now 0) (text _)
