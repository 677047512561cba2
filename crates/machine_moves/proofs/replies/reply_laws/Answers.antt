use Rattle.machine_moves.proofs.ReplyEntries.{policy_is_told, states_are_told, none_else_waits}
use Rattle.machine_moves.proofs.Jobs.{jobs_are_told, fresh_runs_answer}
use Rattle.machine_moves.proofs.Opened.{opens_are_told}
use Rattle.machine_moves.proofs.ReplySessions.{ends_are_told, others_stay}
use Rattle.machine_moves.proofs.replies.reply_laws.Goals as goal

pub returns-clause-ends : goal.returns-clause-ends
returns-clause-ends c = ends_are_told

pub returns-clause-opens : goal.returns-clause-opens
returns-clause-opens c = opens_are_told

pub returns-clause-others : goal.returns-clause-others
returns-clause-others c = others_stay

pub returns-clause-states : goal.returns-clause-states
returns-clause-states c = states_are_told

pub returns-clause-policy : goal.returns-clause-policy
returns-clause-policy c = policy_is_told

pub returns-clause-jobs : goal.returns-clause-jobs
returns-clause-jobs c = jobs_are_told

pub returns-clause-none : goal.returns-clause-none
returns-clause-none c = none_else_waits

pub returns-clause-fresh : goal.returns-clause-fresh
returns-clause-fresh c = fresh_runs_answer
