use Rattle.std.proofs.Common.{◌<◌, length, arith}
use Rattle.machine_parts.proofs.Hears.{heard_at}
use Rattle.machine_parts.proofs.finding.hear_in.Goals as goal

pub returns-clause-heard : goal.returns-clause-heard
returns-clause-heard c =
    let within : c.args.at < length c.args.sessions.now.items = omega (arith, c.args.sessions.now.ok.0) in
    heard_at c.args.sessions.now.items c.args.at c.args.message.now c.hear.result c.index_mut-entry.result.now c.hear.new.self within c.index_mut-entry.ensures.value c.hear.ensures.heard
