use Rattle.machine_steps.proofs.Running.{current_runs_are_now, runs_are_asked, runs_can_be_learned}
use Rattle.machine_steps.proofs.Sound.Deciding.{kind_in}
use Rattle.machine_steps.proofs.laws.running_laws.Goals as goal

pub returns-clause-now : goal.returns-clause-now
returns-clause-now c = current_runs_are_now c.live_laws.ensures.same

pub returns-clause-asked : goal.returns-clause-asked
returns-clause-asked c = runs_are_asked

pub returns-clause-learned : goal.returns-clause-learned
returns-clause-learned c = runs_can_be_learned (record {
  nil = c.traces_laws.ensures.none;
  only = c.scratch_laws.ensures.only;
  free = c.scratch_laws.ensures.free;
  leaves = c.scratch_laws.ensures.leaves;
  clash = c.tree_laws.ensures.no_clash;
})

pub returns-clause-kinds : goal.returns-clause-kinds
returns-clause-kinds c m h = kind_in m.scene h.links
