use Rattle.std.proofs.Common.{true, sym, subst}
use Rattle.env_cells.specs.declared.updates.Update.TheVariants.{Port}
use Rattle.env_cells.specs.Environment.{environment_of, Environment}
use Rattle.env_cells.specs.Limits.{IsWithinLimits}
use Rattle.env_cells.proofs.Accepted.{stays_within}
use Rattle.env_cells.proofs.environment.Env.raise_port.Goals as goal

pub invariant_of-self-2 : goal.invariant_of-self-2
invariant_of-self-2 c =
    let e : Environment = environment_of c.self.inside.switches c.self.inside.hosts c.self.inside.links c.self.inside.tables in
    subst (λ s. IsWithinLimits (record e { switches = s })) (sym c.in_ok-raise.ensures.ok) (stays_within e _ c.self.view_is c.self.invariant (Port c.args.switch c.args.port true) c.in_ok-check_raised.ensures tt)
