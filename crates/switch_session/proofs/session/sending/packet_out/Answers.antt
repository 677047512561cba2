use Rattle.std.proofs.Common.{length, arith, ap, length-append}
use Rattle.of10_codec.proofs.ListBack.{outputs_length}
use Rattle.of10_codec.specs.Written.{written_outputs}
use Rattle.switch_session.proofs.session.sending.packet_out.Goals as goal

pub returns-clause-short : goal.returns-clause-short
returns-clause-short c =
    let count = ap length c.items.ensures in
    let most = c.bytes_for.ensures.most in
    omega (arith, outputs_length c.args.actions, length-append (written_outputs c.args.actions) c.bytes_for.result.now)
