use Rattle.core_machine.proofs.Following.{nothing_follows}
use Rattle.core_machine.proofs.updates.reach.Goals as goal

pub returns-clause-reached : goal.returns-clause-reached
returns-clause-reached c = nothing_follows c.reach_then.result c.args.update.now c.args.parts.now c.reach_then.new.parts c.reach_then.ensures.reached
