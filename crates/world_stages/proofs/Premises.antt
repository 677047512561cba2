-- What a turn stands on: the laws of the machine's turns, of what is in flight, and of what follows.
use Rattle.machine_moves.specs.MoveLaws.{SessionsMove, OpenIsKept, StatesGrow}
use Rattle.world_stages.specs.FlightLaws.{HearingKeeps, OthersAreHeard, ClearIsSilent, OthersAreSent, AllAreTakenOut, FlightsAgree}
use Rattle.world_stages.specs.Updates.{RepliesLeadOn, SignalsAreKnown, AimsAreKept, AcceptedAreCleared}

pub record LowerLaws : Type 0 where
  pub moves : SessionsMove
  pub kept : OpenIsKept
  pub grow : StatesGrow
  pub hearing : HearingKeeps
  pub others : OthersAreHeard
  pub silent : ClearIsSilent
  pub sent : OthersAreSent
  pub taken : AllAreTakenOut
  pub agree : FlightsAgree
  pub replies : RepliesLeadOn
  pub signals : SignalsAreKnown
  pub aims : AimsAreKept
  pub accepted : AcceptedAreCleared
