use Rattle.compiler.proofs.lay_out.Goals as goal

pub place-requires : goal.place-requires
place-requires c =
    record {
      accepted = (c.requires.accepted.0, c.requires.accepted.1, c.prepare.ensures);
      measured = c.requires.measured;
    }

pub returns : goal.returns
returns c =
    record { prepared = c.prepare.ensures; places = c.place.ensures }
