use Rattle.std.proofs.Common.{ap}
use Rattle.std.specs.Prelude.{is_some}
use Rattle.sim_channels.proofs.Tended.{room_alone, room_by, same_beside}
use Rattle.sim_channels.proofs.driver.Driver.make_room.Goals as goal

pub returns-in-None-clause-room : goal.returns-in-None-clause-room
returns-in-None-clause-room g c = room_alone c.args.self.now (ap is_some c.in-None.is)

pub returns-in_ok-make_room-in-Some-clause-room : goal.returns-in_ok-make_room-in-Some-clause-room
returns-in_ok-make_room-in-Some-clause-room g c =
    let old = c.args.self.now in
    let e = c.in_ok-make_room-in-Some.ensures in
    let same = same_beside old c.make_room.new.desk c.in-Some.crew c.make_room.new.self c.in-Some.is e.still e.footing in
    room_by old c.make_room.new.desk c.in-Some.crew c.make_room.new.self c.in-Some.is same c.driving_laws.ensures c.tending_laws.ensures.allowed c.requires.kept c.tending_laws.ensures.count e.room
