use Rattle.world_model.specs.Places.{links_of}
use Rattle.world_model.proofs.Entered.{hears_bad}
use Rattle.world_model.proofs.entering.hear.Goals as goal

pub returns-in_default : goal.returns-in_default
returns-in_default c =
    hears_bad c.args.core.now c.step.new.self c.args.connection c.args.input (links_of c.args.places.now.items) c.step.result c.in_default.not-Message c.requires.admits c.step.ensures.step
