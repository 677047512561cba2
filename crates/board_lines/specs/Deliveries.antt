-- What a delivery does: bytes are taken out for a connection, and sent to it.
use Rattle.std.specs.Prelude.{◌≡◌, ◌≢◌, ℕ, ◌<◌, Bool, true, false, ◌==◌, not, ◌&&◌, ◌⊎◌, List, [], ◌∷◌, ◌++◌, length, Result, Ok, Err, MatchBool, ⊤}
use Rattle.std.specs.List.{list_all}
use Rattle.maple_base.specs.declared.no_memory.NoMemory.{NoMemory}
use Rattle.maple_io.specs.declared.act.Act.{Act}
use Rattle.maple_io.specs.declared.act.Act.TheVariants.{Takes}
use Rattle.maple_io.specs.declared.board.Sent.{Sent}
use Rattle.maple_io.specs.declared.board.Sent.TheVariants as sends
use Rattle.maple_io.specs.Boards.{BoardView, LinkBroke, NoBoardFailed, NoLinkBroke, sent}
use Rattle.board_lines.specs.declared.sending.Reach.{Reach}
use Rattle.board_lines.specs.declared.sending.Reach.TheVariants as reach
use Rattle.board_lines.specs.Queues.{AsksNone, AsksOnce, GivesNone, OutboxView, QueueView}

-- ---- acts

-- a send for a connection
abbrev pub is_send : ℕ → Act → Bool
is_send c (Takes d bytes answer) = d == c
is_send c act = false

-- what was done from one log to the other is sends for a connection, and nothing else
abbrev pub OnlySends : ℕ → List Act → List Act → Type 0
OnlySends c old new = (acts : List Act) × (new ≡ old ++ acts) × (list_all (is_send c) acts ≡ true)

-- the last that was done from one log to the other is a send that took nothing, and was answered so
abbrev pub LastAnswers : Sent → ℕ → List Act → List Act → Type 0
LastAnswers answer c old new = (acts : List Act) × (new ≡ old ++ acts ++ Takes c [] answer ∷ [])

-- a send for a connection that didn't fail
abbrev pub is_good_send : ℕ → Act → Bool
is_good_send c (Takes d bytes sends.Failed) = false
is_good_send c (Takes d bytes answer) = d == c
is_good_send c act = false

-- such sends, and nothing else
abbrev pub GoodSends : ℕ → List Act → List Act → Type 0
GoodSends c old new = (acts : List Act) × (new ≡ old ++ acts) × (list_all (is_good_send c) acts ≡ true)

-- such sends, and then one that failed
abbrev pub FailsAtLast : ℕ → List Act → List Act → Type 0
FailsAtLast c old new = (mid : List Act) × GoodSends c old mid × (new ≡ mid ++ Takes c [] sends.Failed ∷ [])

-- ---- a delivery

-- what is left behind it: nothing; some, since its last send found no room; or a send has failed
abbrev pub Reaches : Reach → QueueView → List Act → List Act → Type 0
Reaches reach.All queue old new = queue.rest ≡ []
Reaches reach.NotYet queue old new = (0 < length queue.rest) × LastAnswers sends.NotYet queue.number old new
Reaches reach.Failed queue old new = queue.failed ≡ true

abbrev pub is_failed_reach : Reach → Bool
is_failed_reach reach.Failed = true
is_failed_reach r = false

abbrev pub is_failed : Result Reach NoMemory → Bool
is_failed (Ok r) = is_failed_reach r
is_failed (Err e) = false

-- a send failed from the one to the other
abbrev pub fails_now : QueueView → QueueView → Bool
fails_now old new = not old.failed && new.failed

-- nothing is given for another connection
abbrev pub GivesOthersNone : ℕ → OutboxView → OutboxView → Type 0
GivesOthersNone c old new = (d : ℕ) → d ≢ c → new.gave d ≡ old.gave d

-- where a send failed this is told, and else nothing
abbrev pub IsTold : QueueView → QueueView → OutboxView → OutboxView → Type 0
IsTold k l old new = MatchBool (fails_now k l) (new.told ≡ old.told ++ k.number ∷ []) (new.told ≡ old.told)

-- where a send failed it was the last one, and the break is counted; else none is
abbrev pub Breaks : QueueView → QueueView → BoardView → BoardView → Type 0
Breaks k l old new = MatchBool (fails_now k l) (LastAnswers sends.Failed k.number old.log new.log × LinkBroke old new) (NoLinkBroke old new)

-- nothing was taken out, told or sent
pub record Stands (k l : QueueView) (gave given : OutboxView) (old new : BoardView) : Type 0 where
  pub queue : l ≡ k
  pub outbox : given ≡ gave
  pub log : new.log ≡ old.log

-- nothing was taken out or sent
pub record TakesNone (k l : QueueView) (gave given : OutboxView) (old new : BoardView) : Type 0 where
  pub queue : l ≡ k
  pub asked : AsksNone gave given
  pub gives : GivesNone gave given
  pub log : new.log ≡ old.log

-- where memory lacked for what is to be taken out nothing was taken out or sent, and where it lacked in a send it was taken out
abbrev pub Lacks : QueueView → QueueView → OutboxView → OutboxView → BoardView → BoardView → Type 0
Lacks k l gave given old new = TakesNone k l gave given old new ⊎ AsksOnce k.number gave given

-- ---- its parts

-- bytes are taken out, and stand behind what wasn't sent yet
pub record TakesFrom (k l : QueueView) (old new : OutboxView) : Type 0 where
  pub bytes : List ℕ
  pub queue : l ≡ record k { rest = k.rest ++ bytes }
  pub own : new.gave k.number ≡ old.gave k.number ++ bytes
  pub others : GivesOthersNone k.number old new

-- sends for the connection: what was sent with what is left stays
pub record StepsOn (k l : QueueView) (old new : List Act) : Type 0 where
  pub number : l.number ≡ k.number
  pub failed : l.failed ≡ k.failed
  pub own : sent k.number new ++ l.rest ≡ sent k.number old ++ k.rest
  pub acts : OnlySends k.number old new

-- less is left where bytes were taken, and else as much
abbrev pub Shortens : Sent → List ℕ → List ℕ → Type 0
Shortens (sends.Took n) old new = length new < length old
Shortens answer old new = new ≡ old

-- a send that took nothing is the last that was done
abbrev pub EndsSo : Sent → ℕ → List Act → List Act → Type 0
EndsSo (sends.Took n) c old new = ⊤
EndsSo sends.NoMemory c old new = ⊤
EndsSo answer c old new = LastAnswers answer c old new

-- one that failed is the last that was done, and no other failed
abbrev pub AnswersSo : Sent → ℕ → List Act → List Act → Type 0
AnswersSo sends.Failed c old new = FailsAtLast c old new
AnswersSo answer c old new = GoodSends c old new

abbrev pub FailsSo : Result Reach NoMemory → ℕ → List Act → List Act → Type 0
FailsSo (Ok reach.Failed) c old new = FailsAtLast c old new
FailsSo result c old new = GoodSends c old new

-- what comes of sending all that is left
abbrev pub SendsSo : Result Reach NoMemory → QueueView → BoardView → BoardView → Type 0
SendsSo (Ok reach.All) l old new = (l.rest ≡ []) × NoLinkBroke old new
SendsSo (Ok reach.NotYet) l old new = (0 < length l.rest) × LastAnswers sends.NotYet l.number old.log new.log × NoLinkBroke old new
SendsSo (Ok reach.Failed) l old new = LastAnswers sends.Failed l.number old.log new.log × LinkBroke old new
SendsSo (Err e) l old new = NoLinkBroke old new

pub record SendsRest (result : Result Reach NoMemory) (k l : QueueView) (old new : BoardView) : Type 0 where
  pub steps : StepsOn k l old.log new.log
  pub so : SendsSo result l old new
  pub answers : FailsSo result k.number old.log new.log
  pub faults : NoBoardFailed old new

-- the same, and behind a failed send the queue tells of it
pub record SendsAll (result : Result Reach NoMemory) (k l : QueueView) (old new : BoardView) : Type 0 where
  pub number : l.number ≡ k.number
  pub failed : l.failed ≡ is_failed result
  pub own : sent k.number new.log ++ l.rest ≡ sent k.number old.log ++ k.rest
  pub acts : OnlySends k.number old.log new.log
  pub so : SendsSo result l old new
  pub answers : FailsSo result k.number old.log new.log
  pub faults : NoBoardFailed old new
