use Rattle.serve_channels.proofs.Items.{asks_alone, quits_alone}
use Rattle.serve_channels.proofs.server.Server.obey_next.Goals as goal

pub returns-in-Some-clause-goes : goal.returns-in-Some-clause-goes
returns-in-Some-clause-goes g c = rw (c.in-Some.is, asks_alone c.in-Some.item) c.obey.ensures.goes

pub returns-in-Some-clause-stopped : goal.returns-in-Some-clause-stopped
returns-in-Some-clause-stopped g c = rw (c.in-Some.is, quits_alone c.in-Some.item) c.obey.ensures.stopped
