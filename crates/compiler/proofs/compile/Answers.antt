use Rattle.compiler.proofs.compile.Goals as goal

pub compile_prepared-requires : goal.compile_prepared-requires
compile_prepared-requires c =
    record {
      accepted = (c.requires.accepted.0, c.requires.accepted.1, c.prepare.ensures);
      measured = c.requires.measured;
    }
