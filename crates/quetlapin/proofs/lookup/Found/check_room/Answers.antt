use Rattle.quetlapin.proofs.Compiling.{not_allowed, allowed}
use Rattle.quetlapin.proofs.lookup.Found.check_room.Goals as goal

pub returns-then-room-self : goal.returns-then-room-self
returns-then-room-self c = rw c.at.ensures (not_allowed c.args.self.now.sizes.code c.args.room 17 c.if-room-self.true)

pub returns : goal.returns
returns c = allowed c.args.self.now.sizes.code c.args.room 17 c.if-room-self.false
