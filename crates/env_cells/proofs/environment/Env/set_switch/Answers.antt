use Rattle.std.proofs.Common.{ap, sym, subst, ◌∙◌}
use Rattle.std.specs.FinMap as map
use Rattle.std.specs.FinSet as set
use Rattle.env_cells.specs.Environment.{environment_of, Environment}
use Rattle.env_cells.specs.Limits.{IsWithinLimits}
use Rattle.env_cells.specs.Refusals.{full, else_full}
use Rattle.env_cells.proofs.Accepted.{both_within}
use Rattle.env_cells.proofs.Limits.{limits_ports}
use Rattle.env_cells.proofs.environment.Env.set_switch.Goals as goal

pub invariant_of-self-2 : goal.invariant_of-self-2
invariant_of-self-2 c =
    let e : Environment = environment_of c.self.inside.switches c.self.inside.hosts c.self.inside.links c.self.inside.tables in
    let (few, small) = both_within _ 64 _ 1364 (ap (λ (x : Environment). else_full (full (map.len (map.insert x.switches c.args.switch c.in_ok-up.up)) 64) (set.len c.in_ok-up.up) 1364) c.self.view_is ∙ c.in_ok-check_listed.ensures) in
    subst (λ s. IsWithinLimits (record e { switches = s })) (sym c.in_ok-insert.ensures.ok) (limits_ports e c.self.invariant c.args.switch c.in_ok-up.up few small)
