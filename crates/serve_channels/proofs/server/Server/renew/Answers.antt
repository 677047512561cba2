use Rattle.serve_channels.proofs.AskedFor.{renewed}
use Rattle.serve_channels.proofs.server.Server.renew.Goals as goal

pub returns-clause-goes : goal.returns-clause-goes
returns-clause-goes g c =
    renewed c.serving_laws.ensures c.args.self.now c.renew.new.self c.law.ensures c.in_ok-renew.field-0 c.args.text.now c.in_ok-renew.ensures.ok
