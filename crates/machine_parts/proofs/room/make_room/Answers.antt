use Rattle.std.proofs.Common.{map, arith}
use Rattle.std.proofs.lemmas.List.{length-map}
use Rattle.machine_parts.specs.Sessions.{session_of}
use Rattle.machine_parts.proofs.Sessions.{due_most}
use Rattle.machine_parts.proofs.room.make_room.Goals as goal

pub returns-clause-room : goal.returns-clause-room
returns-clause-room c =
    omega (arith, due_most (map session_of c.args.sessions.now), length-map c.args.sessions.now session_of, c.in-Some.ensures, c.in_ok-reserve.ensures.ok)
