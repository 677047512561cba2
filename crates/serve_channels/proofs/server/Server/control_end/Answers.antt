use Rattle.std.proofs.Common.{sym}
use Rattle.serve_channels.proofs.server.Server.control_end.Goals as goal

pub returns-clause-gives : goal.returns-clause-gives
returns-clause-gives g c = rw (sym c.end-item.ensures.item) c.in_ok-obey_next.ensures.goes
