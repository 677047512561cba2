-- The laws that the end of a run rests on.
use Rattle.machine_desk.specs.Arriving.{OthersFindRoom}
use Rattle.machine_sharing.specs.Legal.{CallsAreTurns, StatesAreSound}
use Rattle.serve_steps.specs.Laws.{OthersStandLast, OthersStayAtRest, OthersStayInBrokenOff, OthersStayInCut, OthersStayInEnd, OthersStayInLastAsked}
use Rattle.serve_steps.specs.Laws.{OthersStayInParts, OthersStayInScript, OthersTakeNothing, OthersTellNothing, ReportIsTold, StatesAreTold}
use Rattle.serve_steps.specs.Laws.{TakenStaysInCut, TakenStaysInEnd, TakenStaysInLastAsked, WorldsAreRight}

pub record EndingLaws : Type 0 where
  pub calls : CallsAreTurns
  pub sound : StatesAreSound
  pub room : OthersFindRoom
  pub stand : OthersStandLast
  pub parts : OthersStayInParts
  pub cut : OthersStayInCut
  pub ended : OthersStayInEnd
  pub asked : OthersStayInLastAsked
  pub script : OthersStayInScript
  pub front : OthersStayInBrokenOff
  pub rest : OthersStayAtRest
  pub take : OthersTakeNothing
  pub tell : OthersTellNothing
  pub taken : TakenStaysInLastAsked
  pub taken_cut : TakenStaysInCut
  pub taken_ended : TakenStaysInEnd
  pub told : StatesAreTold
  pub report : ReportIsTold
  pub world : WorldsAreRight
