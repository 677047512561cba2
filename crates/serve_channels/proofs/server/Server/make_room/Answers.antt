use Rattle.std.proofs.Common.{Some, ap, refl}
use Rattle.std.specs.Prelude.{is_some}
use Rattle.machine_desk.proofs.Tended.{room_alone, room_by}
use Rattle.serve_channels.specs.Servers.{home}
use Rattle.serve_channels.proofs.server.Server.make_room.Goals as goal

pub returns-in-None-clause-room : goal.returns-in-None-clause-room
returns-in-None-clause-room g c = room_alone home c.args.self.now refl (ap is_some c.in-None.is)

pub returns-in_ok-make_room-in-Some-clause-room : goal.returns-in_ok-make_room-in-Some-clause-room
returns-in_ok-make_room-in-Some-clause-room g c =
    let e = c.in_ok-make_room-in-Some.ensures in
    let old = c.args.self.now in
    let new = record old { desk = c.make_room.new.desk; crew = Some c.make_room.new.self } in
    room_by home old new refl e.footing c.in-Some.crew c.make_room.new.self c.in-Some.is refl e.still c.tending_laws.ensures.allowed c.tending_laws.ensures.count e.room
