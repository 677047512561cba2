use Rattle.std.proofs.Common.{sym, ap, ◌∙◌}
use Rattle.topo_paths.specs.Scenes.{cell_in}
use Rattle.core_machine.proofs.Committing.{all_gives}
use Rattle.core_machine.proofs.runs.run_now.Goals as goal

-- no read takes a pair away, so the view tells at the end what it told ahead of the call
pub returns-clause-cells : goal.returns-clause-cells
returns-clause-cells c =
    all_gives _ (cell_in c.args.scene.now)
    (λ x v g. c.in-Ok.ensures.kept x (cell_in c.args.scene.now x) (ap (λ s. cell_in s x) (sym c.new-view.ensures)) ∙ sym g)
    c.in-Ok.run'.cells c.in-Ok.ensures.given
