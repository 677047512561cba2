use Rattle.std.proofs.Common.{subst}
use Rattle.env_cells.specs.Limits.{IsWithinLimits}
use Rattle.env_cells.proofs.Accepted.{accepted}
use Rattle.env_cells.proofs.environment.Env.behind.Goals as goal

pub returns-clause-limits : goal.returns-clause-limits
returns-clause-limits c = accepted c.args.self.now (subst IsWithinLimits c.self.view_is c.self.invariant) c.args.update.now c.in_ok-check.ensures c.requires.tables
