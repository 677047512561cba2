use Rattle.machine_parts.specs.Aiming.{turns}
use Rattle.machine_parts.proofs.Aiming.{walked}
use Rattle.machine_parts.proofs.aims.turn_all.Goals as goal

pub loop-connection-preserved : goal.loop-connection-preserved
loop-connection-preserved c =
    walked turns c.args.sessions.now c.loop-connection.sessions c.loop-connection.connection-index c.connection-item.result c.turn.new.connection c.loop-connection-test.true c.loop-connection.invariant c.connection-item.is c.turn.ensures
