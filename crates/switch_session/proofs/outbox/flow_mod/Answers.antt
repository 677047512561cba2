use Rattle.std.proofs.Common.{length, arith, ap}
use Rattle.of10_codec.proofs.ListBack.{outputs_length}
use Rattle.switch_session.proofs.outbox.flow_mod.Goals as goal

pub returns-clause-most : goal.returns-clause-most
returns-clause-most c =
    let count = ap length c.items.ensures in
    omega (arith, outputs_length c.args.actions)
