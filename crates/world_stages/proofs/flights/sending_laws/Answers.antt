use Rattle.world_stages.proofs.Flying.{flights_agree}
use Rattle.world_stages.proofs.Sending.{others_are_sent, all_are_taken_out, parts_depart}
use Rattle.world_stages.proofs.flights.sending_laws.Goals as goal

pub returns-clause-others : goal.returns-clause-others
returns-clause-others c = others_are_sent

pub returns-clause-taken : goal.returns-clause-taken
returns-clause-taken c = all_are_taken_out

pub returns-clause-departs : goal.returns-clause-departs
returns-clause-departs c = parts_depart

pub returns-clause-agree : goal.returns-clause-agree
returns-clause-agree c = flights_agree
