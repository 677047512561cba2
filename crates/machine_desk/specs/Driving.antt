-- The laws that the desk, and who drives it, rest on.
use Rattle.machine_desk.specs.Hearing.{StagesStay}
use Rattle.machine_desk.specs.Working.{RoundsArePlain, RoundsClose}
use Rattle.machine_moves.specs.MoveLaws.{ConnectionsOpen, OpenIsKept, SessionsMove, SessionsOpen, StatesGrow}
use Rattle.machine_moves.specs.Sends.{SendsLaw}
use Rattle.machine_moves.specs.Told.{EndsAreTold, JobsAreTold, NoneElseWaits, OpensAreTold, OthersStay, PolicyIsTold, StatesAreTold}
use Rattle.machine_sharing.specs.Between.{MostStays, NothingChanges, SinceStays}
use Rattle.machine_sharing.specs.Legal.{CallsAreTurns, StatesAreSound, TurnsAreCalls}
use Rattle.machine_sharing.specs.Longer.{SettingsStay}
use Rattle.machine_steps.specs.Laws.{KeepsSound, OpensSound}

pub record DeskLaws : Type 0 where
  pub since : SinceStays
  pub turns : CallsAreTurns
  pub sound : StatesAreSound
  pub settings : SettingsStay
  pub policy : PolicyIsTold

-- and those by which the stage of a connection is that of its session
pub record StagingLaws : Type 0 where
  pub calls : TurnsAreCalls
  pub sound : StatesAreSound
  pub ends : EndsAreTold
  pub opens : OpensAreTold
  pub connections : ConnectionsOpen

-- and those of the machine that who drives it rests on
pub record DrivingLaws : Type 0 where
  pub sound : OpensSound
  pub keeps : KeepsSound
  pub legal : StatesAreSound
  pub ends : EndsAreTold
  pub opens : OpensAreTold
  pub others : OthersStay
  pub states : StatesAreTold
  pub policy : PolicyIsTold
  pub jobs : JobsAreTold
  pub none : NoneElseWaits
  pub moves : SessionsMove
  pub sessions : SessionsOpen
  pub kept : OpenIsKept
  pub connections : ConnectionsOpen
  pub grow : StatesGrow
  pub sends : SendsLaw
  pub calls : TurnsAreCalls
  pub nothing : NothingChanges
  pub stays : MostStays
  pub staged : StagesStay
  pub plain : RoundsArePlain
  pub close : RoundsClose
