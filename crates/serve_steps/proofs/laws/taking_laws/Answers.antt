use Rattle.serve_steps.proofs.Taken.{taken_stays_in_cut, taken_stays_in_end, taken_stays_in_last_asked}
use Rattle.serve_steps.proofs.laws.taking_laws.Goals as goal

pub returns : goal.returns
returns c = record { asked = taken_stays_in_last_asked; cut = taken_stays_in_cut; ended = taken_stays_in_end }
