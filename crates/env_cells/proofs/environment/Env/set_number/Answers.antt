use Rattle.std.proofs.Common.{sym, subst, ap, ◌∙◌}
use Rattle.env_cells.specs.declared.updates.Update.TheVariants.{Set}
use Rattle.env_cells.specs.Environment.{environment_of, Environment, declares}
use Rattle.env_cells.specs.Limits.{IsWithinLimits}
use Rattle.env_cells.proofs.Accepted.{go_on, stays_within}
use Rattle.env_cells.proofs.environment.Env.set_number.Goals as goal

pub invariant_of-self-2 : goal.invariant_of-self-2
invariant_of-self-2 c =
    let e : Environment = environment_of c.self.inside.switches c.self.inside.hosts c.self.inside.links c.self.inside.tables in
    subst (λ s. IsWithinLimits (record e { tables = s })) (sym c.in_ok-set.ensures.ok) (stays_within e _ c.self.view_is c.self.invariant (Set c.args.table.now c.args.key c.args.value) (c.in_ok-check_number.ensures c.args.value) tt)

pub set-requires : goal.set-requires
set-requires c =
    record { declared = ap (λ (x : Environment). declares x c.args.table.now) c.self.view_is ∙ (go_on (declares c.args.self.now c.args.table.now) _ _ (c.in_ok-check_number.ensures c.args.value)).0 }
