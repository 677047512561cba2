use Rattle.std.proofs.Common.{sym, subst}
use Rattle.env_cells.specs.Environment.{environment_of, Environment}
use Rattle.env_cells.specs.Limits.{IsWithinLimits}
use Rattle.env_cells.proofs.Limits.{limits_unhosted}
use Rattle.env_cells.proofs.environment.Env.remove_host.Goals as goal

pub invariant_of-self : goal.invariant_of-self
invariant_of-self c =
    let e : Environment = environment_of c.self.inside.switches c.self.inside.hosts c.self.inside.links c.self.inside.tables in
    subst (λ s. IsWithinLimits (record e { hosts = s })) (sym c.remove.ensures) (limits_unhosted e c.self.invariant c.args.mac)
