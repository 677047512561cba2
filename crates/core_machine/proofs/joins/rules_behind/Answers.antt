use Rattle.std.proofs.Common.{ap, ◌∙◌}
use Rattle.env_cells.specs.Changes.{applied}
use Rattle.machine_steps.specs.Machine.{traces_in}
use Rattle.core_machine.proofs.Joining.{rules_moved}
use Rattle.core_machine.proofs.joins.rules_behind.Goals as goal

pub returns-clause-rules : goal.returns-clause-rules
returns-clause-rules c =
    rules_moved _ _ _ _ c.in_ok-rules.rules (c.in_ok-behind.ensures.behind ∙ ap (λ m. applied m.scene c.args.update.now) c.parts.view_is)
    (ap (λ ls. traces_in ls c.args.dpid) (c.deref.ensures.value ∙ ap (λ m. m.learned) c.parts.view_is)) c.in_ok-rules.ensures
