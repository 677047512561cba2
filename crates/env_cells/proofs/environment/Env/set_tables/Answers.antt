use Rattle.std.proofs.Common.{ap, sym, subst, ◌∙◌}
use Rattle.env_cells.specs.Environment.{environment_of, Environment}
use Rattle.env_cells.specs.Named.{tables_named}
use Rattle.env_cells.specs.Limits.{IsWithinLimits}
use Rattle.env_cells.proofs.Limits.{limits_named}
use Rattle.env_cells.proofs.environment.Env.set_tables.Goals as goal

pub invariant_of-self-2 : goal.invariant_of-self-2
invariant_of-self-2 c =
    let e : Environment = environment_of c.self.inside.switches c.self.inside.hosts c.self.inside.links c.self.inside.tables in
    let names = c.args.names.now in
    subst (λ s. IsWithinLimits (record e { tables = s })) (sym (c.in_ok-declare.ensures.ok ∙ ap (tables_named e.tables) c.items.ensures)) (limits_named e c.self.invariant names c.requires)
