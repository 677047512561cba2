use Rattle.std.proofs.Common.{ap, sym, ◌∙◌}
use Rattle.std.specs.Prelude.{unwrap_or}
use Rattle.std.specs.Ordering.{nat_cmp}
use Rattle.std.specs.FinSet as set
use Rattle.maple_base.specs.declared.cells.Value.TheVariants.{Flag}
use Rattle.env_cells.specs.Environment.{Environment, ports_in}
use Rattle.env_cells.proofs.environment.Env.is_up.Goals as goal

pub returns-in-None : goal.returns-in-None
returns-in-None c =
    ap Flag (sym (set.contains-empty nat_cmp c.args.port) ∙ ap (λ x. set.contains (unwrap_or x set.empty) c.args.port) c.in-None.ensures)
    ∙ ap (λ (e : Environment). Flag (set.contains (ports_in e.switches c.args.switch) c.args.port)) c.self.view_is
