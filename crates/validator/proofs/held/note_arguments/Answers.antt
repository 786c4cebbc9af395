use Rattle.std.proofs.Common.{arith}
use Rattle.base.specs.Lists.{span}
use Rattle.base.proofs.Stores.{filled}
use Rattle.validator.specs.Tests.{no_word}
use Rattle.validator.proofs.Following.{kept}
use Rattle.validator.proofs.Holding.{first-words}
use Rattle.validator.proofs.held.note_arguments.Goals as goal

pub returns : goal.returns
returns c =
    let a = c.args in
    let noted = c.note_words.ensures in
    let size = kept a.words.now 0 (span 0 a.arguments) noted in
    first-words a.words.now a.arguments a.rest noted
    (filled c.note_words.new.words a.arguments a.rest no_word (c.fill.ensures.after (λ y e. e)) (omega arith) (omega (arith, size, c.requires.0)))
