use Rattle.std.proofs.Common.{◌≡◌, sym, subst}
use Rattle.env_cells.specs.Environment.{environment_of, Environment, nothing_known}
use Rattle.env_cells.specs.Limits.{IsWithinLimits}
use Rattle.env_cells.proofs.Limits.{none_known}
use Rattle.env_cells.proofs.environment.Env.new.Goals as goal

pub invariant_of-result : goal.invariant_of-result
invariant_of-result c =
    let made : Environment = environment_of c.new.result c.new-2.result c.new-3.result c.new-4.result in
    let empty : made ≡ nothing_known = λ i. record { switches = c.new.ensures i; hosts = c.new-2.ensures i; links = c.new-3.ensures i; tables = c.new-4.ensures i } in
    subst IsWithinLimits (sym empty) none_known
