use Rattle.std.proofs.Common.{subst}
use Rattle.world_steps.specs.Worlds.{World}
use Rattle.world_model.specs.Kept.{IsReached}
use Rattle.world_model.proofs.Keeping.{is_right}
use Rattle.world_model.proofs.world.World.law.Goals as goal

pub returns : goal.returns
returns c = is_right c.run_laws.ensures.right c.run_laws.ensures.placed c.args.self.now (subst IsReached c.self.view_is c.self.invariant.reached)
