use Rattle.maple_io.proofs.Rooms.{no_room}
use Rattle.maple_io.proofs.kept.append_taken.Goals as goal

pub returns-in_default-clause-room : goal.returns-in_default-clause-room
returns-in_default-clause-room c =
    no_room c.args.connection c.args.taken.now c.loop-part.part-index c.part-item.result c.items.result.now _ _ _ _ c.loop-part-test.true c.part-item.is
    c.if-part-connection.true c.items.ensures c.loop-part.invariant.len c.loop-part.invariant.room c.in_default.ensures.full
