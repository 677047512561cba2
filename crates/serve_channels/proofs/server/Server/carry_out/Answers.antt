use Rattle.std.proofs.Common.{sym}
use Rattle.serve_channels.proofs.server.Server.carry_out.Goals as goal

pub returns-in_ok-renew-in-Policy-clause-goes : goal.returns-in_ok-renew-in-Policy-clause-goes
returns-in_ok-renew-in-Policy-clause-goes g c = rw (c.in-Policy.is, sym c.items-in-Policy.ensures) c.in_ok-renew-in-Policy.ensures.goes
