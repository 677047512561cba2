use Rattle.serve_steps.proofs.Fronts.{front_stays, are_fronts, none_heard_behind_end}
use Rattle.serve_steps.proofs.Others.{others_are_free}
use Rattle.serve_steps.proofs.Reports.{report_is_told}
use Rattle.serve_steps.proofs.Sends.{never_sends}
use Rattle.serve_steps.proofs.States.{allowed_are_others, goes_on_from, log_goes_on, states_are_told, turns_go_on}
use Rattle.serve_steps.proofs.laws.run_laws.Goals as goal

pub returns-clause-stays : goal.returns-clause-stays
returns-clause-stays c = front_stays

pub returns-clause-step : goal.returns-clause-step
returns-clause-step c = are_fronts

pub returns-clause-heard : goal.returns-clause-heard
returns-clause-heard c = none_heard_behind_end

pub returns-clause-states : goal.returns-clause-states
returns-clause-states c = states_are_told

pub returns-clause-from : goal.returns-clause-from
returns-clause-from c = goes_on_from

pub returns-clause-log : goal.returns-clause-log
returns-clause-log c = log_goes_on

pub returns-clause-sends : goal.returns-clause-sends
returns-clause-sends c = never_sends

pub returns-clause-turns : goal.returns-clause-turns
returns-clause-turns c = turns_go_on

pub returns-clause-others : goal.returns-clause-others
returns-clause-others c = allowed_are_others

pub returns-clause-free : goal.returns-clause-free
returns-clause-free c = others_are_free

pub returns-clause-report : goal.returns-clause-report
returns-clause-report c = report_is_told
