use Rattle.world_model.specs.Places.{links_of}
use Rattle.world_model.proofs.Entered.{enters}
use Rattle.world_model.proofs.entering.enter.Goals as goal

pub returns-in_default : goal.returns-in_default
returns-in_default c =
    enters c.args.core.now c.step.new.self (links_of c.args.places.now.items) c.args.entry c.step.result c.in_default.not-Open c.in_default.not-Heard c.in_default.not-TakeOut c.requires.admits c.step.ensures.step
