use Rattle.std.proofs.Common.{length, arith, ap}
use Rattle.switch_session.proofs.Echoes.{echo_short}
use Rattle.switch_session.proofs.session.Session.hear.Goals as goal

pub hear_echo-requires : goal.hear_echo-requires
hear_echo-requires c =
    let same = ap length c.items.ensures in
    let short = echo_short c.args.message.now c.in-EchoRequest.bytes c.requires c.in-EchoRequest.is in
    omega arith
