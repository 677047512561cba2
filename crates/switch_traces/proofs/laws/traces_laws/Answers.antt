use Rattle.switch_traces.proofs.Fit.{rules_are_list, fewer_are_fit, none_are_fit}
use Rattle.switch_traces.proofs.Last.{last_goes}
use Rattle.switch_traces.proofs.laws.traces_laws.Goals as goal

pub returns-clause-list : goal.returns-clause-list
returns-clause-list c = rules_are_list

pub returns-clause-fewer : goal.returns-clause-fewer
returns-clause-fewer c = fewer_are_fit

pub returns-clause-none : goal.returns-clause-none
returns-clause-none c = none_are_fit

pub returns-clause-back : goal.returns-clause-back
returns-clause-back c = last_goes
