use Rattle.sim_channels.proofs.Passing.{room_for}
use Rattle.sim_channels.proofs.driver.Driver.make_room_for.Goals as goal

pub returns-clause-room : goal.returns-clause-room
returns-clause-room g c = room_for c.args.input.now c.args.self.now c.make_room.new.self c.make_room.result c.make_room.ensures.room
