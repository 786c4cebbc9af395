use Prim.Native.Nat.{ℕ, ◌≤◌}
use mathlib.Core.Path.{◌≡◌, ap, ◌∙◌, sym, subst}
use mathlib.Core.List.{List}
use lib.ListN.{length}
use lib.Seq.{sets}
use Rattle.bytecode.specs.declared.Version.TheVariants.{V2}
use Rattle.bytecode.specs.Code.{encode}
use Rattle.compiler.specs.declared.Pass.TheVariants.{Addressed}
use Rattle.compiler.specs.Whole.{text_of, reused_at}
use Rattle.compiler.proofs.Texts.{words_placed}
use Rattle.compiler.proofs.compile_placed.Goals as goal

pub write-requires : goal.write-requires
write-requires c =
    let text : text_of Addressed c.args.places.now c.args.table.now c.args.k c.args.words ≡ encode V2 (reused_at c.args.table.now c.args.k) =
    words_placed c.requires.accepted.2.places c.requires.measured.1 in
    record {
      accepted = (c.requires.accepted.0, c.requires.accepted.1, c.requires.accepted.2.prepared);
      measured = (c.requires.measured.0, c.requires.measured.1, subst (λ (xs : List ℕ). length xs ≤ length c.args.code.now) (sym text) c.requires.measured.2);
    }

pub returns : goal.returns
returns c =
    let text : text_of Addressed c.args.places.now c.args.table.now c.args.k c.args.words ≡ encode V2 (reused_at c.args.table.now c.args.k) =
    words_placed c.requires.accepted.2.places c.requires.measured.1 in
    c.write.ensures ∙ ap (sets c.args.code.now 0) text
