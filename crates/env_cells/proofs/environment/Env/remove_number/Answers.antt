use Rattle.std.proofs.Common.{◌≡◌, true, ap, sym, subst, ◌∙◌}
use Rattle.env_cells.specs.Environment.{environment_of, Environment, declares}
use Rattle.env_cells.specs.Limits.{IsWithinLimits}
use Rattle.maple_base.specs.declared.update_refused.UpdateRefused.TheVariants.{UnknownTable}
use Rattle.env_cells.proofs.Limits.{passed, limits_unset}
use Rattle.env_cells.proofs.environment.Env.remove_number.Goals as goal

pub invariant_of-self : goal.invariant_of-self
invariant_of-self c =
    let e : Environment = environment_of c.self.inside.switches c.self.inside.hosts c.self.inside.links c.self.inside.tables in
    let there : declares e c.args.table.now ≡ true = ap (λ (x : Environment). declares x c.args.table.now) c.self.view_is ∙ passed (declares c.args.self.now c.args.table.now) tt UnknownTable c.in_ok-check_table.ensures in
    subst (λ s. IsWithinLimits (record e { tables = s })) (sym c.unset.ensures) (limits_unset e c.self.invariant c.args.table.now c.args.key there)
