use Rattle.world_stages.proofs.FlightHearing.{others_are_heard, clear_is_silent, signals_are_heard}
use Rattle.world_stages.proofs.Numbers.{hearing_keeps}
use Rattle.world_stages.proofs.flights.hearing_laws.Goals as goal

pub returns-clause-keeps : goal.returns-clause-keeps
returns-clause-keeps c = hearing_keeps

pub returns-clause-others : goal.returns-clause-others
returns-clause-others c = others_are_heard

pub returns-clause-silent : goal.returns-clause-silent
returns-clause-silent c = clear_is_silent

pub returns-clause-signals : goal.returns-clause-signals
returns-clause-signals c = signals_are_heard
