use Rattle.serve_channels.proofs.server.Server.carry_out_step.Goals as goal

pub returns-in-Change-clause-goes : goal.returns-in-Change-clause-goes
returns-in-Change-clause-goes g c = rw (c.in-Change.is) c.in_ok-change-in-Change.ensures.goes

pub returns-in-Rules-clause-goes : goal.returns-in-Rules-clause-goes
returns-in-Rules-clause-goes g c = rw (c.in-Rules.is) c.in_ok-list_rules-in-Rules.ensures.goes
