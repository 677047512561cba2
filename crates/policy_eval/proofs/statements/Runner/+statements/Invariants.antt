use Rattle.std.proofs.Common.{◌≡◌, ◌+◌, ◌*◌, ◌≤◌, drop}
use Rattle.policy_lang.specs.TreeOf.{term_of}
use Rattle.policy_eval.specs.StatementParts.{block_runs, repeat_runs, runs_of}
use Rattle.policy_eval.proofs.Blocks.{LeadsOn}
use Rattle.policy_eval.proofs.Rounds.{RoundsLeft}
use Rattle.policy_eval.proofs.statements.Runner.+statements.Given as goal

-- statements count a step ahead of each
abbrev pub decreases-statements : goal.decreases-statements
decreases-statements g l = 8 * l.self.now.walk.steps

abbrev pub decreases-block : goal.decreases-block
decreases-block g l = 8 * l.self.now.walk.steps + 1

abbrev pub decreases-otherwise : goal.decreases-otherwise
decreases-otherwise g l = 8 * l.self.now.walk.steps + 2

abbrev pub decreases-branch : goal.decreases-branch
decreases-branch g l = 8 * l.self.now.walk.steps + 3

abbrev pub decreases-repeat : goal.decreases-repeat
decreases-repeat g l = 8 * l.self.now.walk.steps + 2

abbrev pub decreases-statement : goal.decreases-statement
decreases-statement g l = 8 * l.self.now.walk.steps + 4

-- where the statements that are left lead, all do
abbrev pub invariant-statements-loop-item : goal.invariant-statements-loop-item
invariant-statements-loop-item g l = record {
  place : l.self.local.switch ≡ l.initial.self.local.switch;
  fewer : l.self.walk.steps ≤ l.initial.self.walk.steps;
  key : g.A.Asker.key l.self.walk.asker ≡ g.A.Asker.key l.initial.self.walk.asker;
  rest : LeadsOn g.A.Asker.said l.self.walk.asker (runs_of (drop l.item-index l.items) l.initial.self.local.switch l.self.local.scope l.self.walk.steps) l.initial.self.walk.asker (runs_of l.items l.initial.self.local.switch l.initial.self.local.scope l.initial.self.walk.steps);
}

-- where the rounds that are left lead, the loop does
abbrev pub invariant-repeat-loop-self : goal.invariant-repeat-loop-self
invariant-repeat-loop-self g l = record {
  place : l.self.local.switch ≡ l.initial.self.local.switch;
  fewer : l.self.walk.steps ≤ l.initial.self.walk.steps;
  key : g.A.Asker.key l.self.walk.asker ≡ g.A.Asker.key l.initial.self.walk.asker;
  rest : RoundsLeft g.A.Asker.said (term_of l.test) (block_runs l.body l.initial.self.local.switch) l.initial.self.local.switch l.self.walk.asker l.self.local.scope l.self.walk.steps l.initial.self.walk.asker (repeat_runs l.test l.body l.initial.self.local.switch l.initial.self.local.scope l.initial.self.walk.steps);
}

abbrev pub decreases-repeat-loop-self : goal.decreases-repeat-loop-self
decreases-repeat-loop-self g l = l.self.walk.steps
