use Rattle.std.proofs.Common.{ap}
use Rattle.world_model.specs.Places.{links_of}
use Rattle.world_model.proofs.Keeping.{opening_kept}
use Rattle.world_model.proofs.world.World.new.Goals as goal

pub invariant_of-result : goal.invariant_of-result
invariant_of-result c = opening_kept c.args.core (links_of c.new-places.result.items) (ap links_of c.new-places.ensures.items) c.requires c.law.ensures
