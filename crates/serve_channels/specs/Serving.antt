-- The laws that a server rests on.
use Rattle.machine_desk.specs.Driving.{DrivingLaws}
use Rattle.serve_steps.specs.Laws.{AllowedAreOthers, OthersAreFree}

-- those of the machine; and where what others do may stand in a run
pub record ServingLaws : Type 0 where
  pub driving : DrivingLaws
  pub allowed : AllowedAreOthers
  pub free : OthersAreFree
