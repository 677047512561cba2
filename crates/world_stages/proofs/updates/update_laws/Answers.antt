use Rattle.world_stages.proofs.Aims.{aims_kept, accepted_cleared}
use Rattle.world_stages.proofs.Leaving.{AreKnown, updates_start}
use Rattle.world_stages.proofs.Onward.{replies_lead_on}
use Rattle.world_stages.proofs.Signals.{signals_known}
use Rattle.world_stages.proofs.updates.update_laws.Goals as goal

known : goal.After-sending_laws → AreKnown
known c = record { step = c.shield_laws.ensures.step; sent = c.batch_laws.ensures.sent; departs = c.sending_laws.ensures.departs }

pub returns-clause-start : goal.returns-clause-start
returns-clause-start c = updates_start (known c)

pub returns-clause-replies : goal.returns-clause-replies
returns-clause-replies c = replies_lead_on (known c) c.hearing_laws.ensures.signals c.hearing_laws.ensures.keeps

pub returns-clause-signals : goal.returns-clause-signals
returns-clause-signals c = signals_known c.hearing_laws.ensures.signals

pub returns-clause-aims : goal.returns-clause-aims
returns-clause-aims c = aims_kept (known c)

pub returns-clause-accepted : goal.returns-clause-accepted
returns-clause-accepted c = accepted_cleared (known c) c.sending_laws.ensures.others
