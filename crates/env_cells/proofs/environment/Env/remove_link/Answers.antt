use Rattle.std.proofs.Common.{sym, subst}
use Rattle.env_cells.specs.declared.updates.Update.TheVariants.{NoLink}
use Rattle.env_cells.specs.Environment.{environment_of, Environment}
use Rattle.env_cells.specs.Limits.{IsWithinLimits}
use Rattle.env_cells.proofs.Accepted.{stays_within}
use Rattle.env_cells.proofs.environment.Env.remove_link.Goals as goal

pub invariant_of-self : goal.invariant_of-self
invariant_of-self c =
    let e : Environment = environment_of c.self.inside.switches c.self.inside.hosts c.self.inside.links c.self.inside.tables in
    subst (λ s. IsWithinLimits (record e { links = s })) (sym c.remove.ensures) (stays_within e _ c.self.view_is c.self.invariant (NoLink c.args.from) c.in_ok-check_start.ensures tt)
