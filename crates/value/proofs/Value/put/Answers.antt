use Rattle.value.proofs.Value.put.Goals as goal

pub returns-in-Matrix : goal.returns-in-Matrix
returns-in-Matrix c = rw c.in-Matrix.is c.put-in-Matrix.ensures
