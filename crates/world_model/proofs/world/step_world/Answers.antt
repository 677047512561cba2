use Rattle.world_model.specs.Places.{world_of}
use Rattle.world_model.proofs.Keeping.{move_kept}
use Rattle.world_model.proofs.world.step_world.Goals as goal

pub invariant_of-world : goal.invariant_of-world
invariant_of-world c =
    move_kept (world_of c.world.inside.core c.world.inside.places.items) c.world.invariant c.growth_laws.ensures.connections (world_of c.make.new.core c.make.new.places.items) c.args.step c.make.result c.make.ensures
