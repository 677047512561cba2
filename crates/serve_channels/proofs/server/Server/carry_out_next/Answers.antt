use Rattle.serve_channels.proofs.Items.{asks_alone, quits_alone}
use Rattle.serve_channels.proofs.server.Server.carry_out_next.Goals as goal

pub returns-in-Some-clause-goes : goal.returns-in-Some-clause-goes
returns-in-Some-clause-goes g c = rw (c.in-Some.is, asks_alone c.in-Some.item) c.carry_out.ensures.goes

pub returns-in-Some-clause-end : goal.returns-in-Some-clause-end
returns-in-Some-clause-end g c = rw (c.in-Some.is, asks_alone c.in-Some.item, quits_alone c.in-Some.item) c.carry_out.ensures.end
