use Rattle.machine_parts.specs.Aiming.{gives_up}
use Rattle.machine_parts.proofs.Aiming.{walked}
use Rattle.machine_parts.proofs.aims.give_up_all.Goals as goal

pub loop-connection-preserved : goal.loop-connection-preserved
loop-connection-preserved c =
    walked gives_up c.args.sessions.now c.loop-connection.sessions c.loop-connection.connection-index c.connection-item.result c.give_up.new.connection c.loop-connection-test.true c.loop-connection.invariant c.connection-item.is c.give_up.ensures
