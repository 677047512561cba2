use Rattle.serve_tries.proofs.Lines.{committed_untold, cut_line_asks, decided_behind_three, decided_behind_two, end_asks, none_behind_quit, nothing_asks, places_are_refused, policy_asks}
use Rattle.serve_tries.proofs.laws.line_law.Goals as goal

pub returns-clause-cut : goal.returns-clause-cut
returns-clause-cut c = cut_line_asks

pub returns-clause-nothing : goal.returns-clause-nothing
returns-clause-nothing c = nothing_asks

pub returns-clause-quit : goal.returns-clause-quit
returns-clause-quit c = none_behind_quit

pub returns-clause-policy : goal.returns-clause-policy
returns-clause-policy c = policy_asks

pub returns-clause-end : goal.returns-clause-end
returns-clause-end c = end_asks

pub returns-clause-places : goal.returns-clause-places
returns-clause-places c = places_are_refused

pub returns-clause-three : goal.returns-clause-three
returns-clause-three c = decided_behind_three

pub returns-clause-two : goal.returns-clause-two
returns-clause-two c = decided_behind_two

pub returns-clause-untold : goal.returns-clause-untold
returns-clause-untold c = committed_untold
