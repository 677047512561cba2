use Rattle.machine_desk.proofs.Room.{others_find_room}
use Rattle.machine_desk.proofs.Staying.{stages_stay}
use Rattle.machine_desk.proofs.laws.hearing_laws.Goals as goal

pub returns : goal.returns
returns c = record { stay = stages_stay c.growth_laws.ensures.connections; room = others_find_room }
