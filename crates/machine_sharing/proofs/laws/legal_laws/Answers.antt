use Rattle.machine_sharing.proofs.Legal.{calls_are_turns, states_are_sound, turns_are_calls}
use Rattle.machine_sharing.proofs.laws.legal_laws.Goals as goal

pub returns-clause-turns : goal.returns-clause-turns
returns-clause-turns c = calls_are_turns

pub returns-clause-calls : goal.returns-clause-calls
returns-clause-calls c = turns_are_calls c.machine_laws.ensures.keeps

pub returns-clause-sound : goal.returns-clause-sound
returns-clause-sound c = states_are_sound c.machine_laws.ensures.keeps
