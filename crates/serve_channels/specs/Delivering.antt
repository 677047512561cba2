-- What is delivered to connections, and which are closed.
use Rattle.std.specs.Prelude.{◌≡◌, ◌≢◌, ◌⊎◌, ℕ, ◌<◌, ◌≤◌, true, false, not, List, [], ◌∷◌, ◌++◌, Bool, ◌||◌, count_by, set, take, Some, None, Ok}
use Rattle.std.specs.List.{list_any, remove, slice_get}
use Rattle.maple_io.specs.declared.board.Sent.TheVariants as sends
use Rattle.maple_io.specs.declared.board.Turn.{Turn as BoardTurn}
use Rattle.maple_io.specs.declared.board.Turn.TheVariants as turn
use Rattle.maple_io.specs.Boards.{BoardFailed, BoardView, NoBoardFailed}
use Rattle.maple_io.specs.Turns.{OpensAnew}
use Rattle.maple_io.specs.Views.{SinkView, Wrote}
use Rattle.maple_io.specs.declared.act.Act.{Act}
use Rattle.maple_io.specs.declared.act.Act.TheVariants as acts
use Rattle.board_lines.specs.declared.sending.Reach.{Reach}
use Rattle.board_lines.specs.Deliveries.{SendsAll, is_failed_reach}
use Rattle.board_lines.specs.Queues.{QueueView}
use Rattle.machine_steps.specs.declared.entry.Entry.{Entry}
use Rattle.machine_steps.specs.declared.entry.Entry.TheVariants as entries
use Rattle.machine_steps.specs.declared.reply.Reply.TheVariants as replies
use Rattle.machine_steps.specs.Machine.{was_opened as was_session}
use Rattle.machine_desk.specs.declared.inbound.Inbound.{Inbound}
use Rattle.machine_desk.specs.Hearing.{is_live, Closes as EndsSession}
use Rattle.machine_desk.specs.Orders.{Asks}
use Rattle.machine_desk.specs.Connections.{AreTaken, IsDone, IsTaken, Moves, OthersStay as OthersStayAt, IsOver}
use Rattle.machine_desk.specs.Homes.{NoneWaits}
use Rattle.serve_steps.specs.Deeds.{Past, acts_of, last_answer, takes_out, turns_of}
use Rattle.serve_steps.specs.Deeds.Deed.{Does}
use Rattle.serve_steps.specs.Parts.{Given}
use Rattle.serve_steps.specs.Runs.{taken_report}
use Rattle.serve_channels.specs.declared.connection.Connection.{Connection}
use Rattle.serve_channels.specs.declared.server.Server.{Server}
use Rattle.serve_channels.specs.Keeping.{IsBegun, IsKept}
use Rattle.serve_channels.specs.Servers.{IsUnknown, links, number_of}
use Rattle.serve_channels.specs.Stretches.{IsAside, Stretch}

-- ---- a turn of the board

-- what a turn leaves in the log
abbrev pub given_act : BoardTurn → List ℕ → List Act
given_act turn.Failed bytes = []
given_act turn.NoMemory bytes = []
given_act t bytes = acts.Gives t bytes ∷ []

-- the deeds of a turn
abbrev pub given_deeds : BoardTurn → List ℕ → Past → Past
given_deeds turn.Failed bytes past = past
given_deeds turn.NoMemory bytes past = past
given_deeds t bytes past = Does (acts.Gives t bytes) ∷ past

-- a connection that was opened has a number with which nothing else was done
abbrev pub IsNew : BoardTurn → Past → Server → Type 0
IsNew (turn.Opened c) past s = IsBegun c past × IsUnknown c s.connections.items × (was_session c s.desk.now ≡ false)
IsNew t past s = Unit {0}

-- a number that it opens wasn't opened in these deeds before
abbrev pub OpensOnce : BoardTurn → Past → Type 0
OpensOnce t past = OpensAnew t (acts_of past)

-- its bytes stand at the front of the slice
abbrev pub bytes_in : BoardTurn → List ℕ → List ℕ
bytes_in (turn.Bytes c n) into = take n into
bytes_in (turn.Control n) into = take n into
bytes_in t into = []

-- a turn came, with these bytes, and is kept
abbrev pub Receives : BoardTurn → List ℕ → Server → List Act → Server → List Act → Type 0
Receives t bytes old old_log new new_log =
    (g : Given) (before : List Act) (past : Past) → IsKept g before past old_log old
    → IsKept g before (given_deeds t bytes past) new_log new × IsNew t (given_deeds t bytes past) new × OpensOnce t past

-- the board failed just where its turn says so
abbrev pub FailsBy : BoardTurn → BoardView → BoardView → Type 0
FailsBy turn.Failed old new = BoardFailed old new
FailsBy t old new = NoBoardFailed old new

-- one turn came
pub record GivesOne (old new : List Act) : Type 0 where
  pub turn : BoardTurn
  pub bytes : List ℕ
  pub anew : OpensAnew turn old
  pub log : new ≡ old ++ acts.Gives turn bytes ∷ []

-- ---- deliveries

-- all was sent; or a send failed, or the session ended by its link; or the last send found no room
abbrev pub IsSentOut : Connection → Past → Type 0
IsSentOut k done =
    (k.queue.rest ≡ []) ⊎ ((k.queue.failed ≡ true) ⊎ ((k.cut ≡ true) ⊎ (last_answer (number_of k) done ≡ Some sends.NotYet)))

-- what the machine had for a connection was taken out in these deeds, and sent
pub record IsServed (k : Connection) (done : Past) : Type 0 where
  pub taken : k.cut ≡ false → list_any (takes_out (number_of k)) done ≡ true
  pub sent : IsSentOut k done

-- the connection with this index was served, and nothing was done with the others
pub record ServesAt (at : ℕ) (new : Server) (past : Past) (own : List Entry) (done : Past) : Type 0 where
  pub none : own ≡ []
  pub served : (k : Connection) → slice_get new.connections.items at ≡ Some k → IsServed k done
  pub others : (n : ℕ) (k : Connection) → n ≢ at → slice_get new.connections.items n ≡ Some k → IsAside (number_of k) done

-- the others are as they were
abbrev pub OthersStay : ℕ → Server → Server → Type 0
OthersStay at old new = OthersStayAt links at old new

-- all were
abbrev pub ServesAll : Server → Past → List Entry → Past → Type 0
ServesAll new past own done = (own ≡ []) × ((at : ℕ) (k : Connection) → slice_get new.connections.items at ≡ Some k → IsServed k done)

-- nothing waits in the machine for the connection with this index, if its session is open
abbrev pub TakenAt : ℕ → Server → Type 0
TakenAt at s = IsTaken links at s

-- nor for any
abbrev pub AllTaken : Server → Type 0
AllTaken s = AreTaken links s

-- no packet waits, and the machine has nothing for an open session: so it stays, whatever anybody else does
abbrev pub IsStill : Server → Type 0
IsStill s = IsDone links s

-- no packet waits behind it; and where no send failed nothing waits for this connection, nor for another for which nothing did
pub record Empties (at : ℕ) (failed : Bool) (old new : Server) : Type 0 where
  pub none : NoneWaits new.desk
  pub own : failed ≡ false → TakenAt at new
  pub others : failed ≡ false → (n : ℕ) → n ≢ at → TakenAt n old → TakenAt n new

-- the same of all
pub record EmptiesAll (failed : Bool) (new : Server) : Type 0 where
  pub none : NoneWaits new.desk
  pub all : failed ≡ false → AllTaken new

-- what the machine has for the connection with this index was taken out, and stands behind what wasn't sent yet
pub record TakesOut (at : ℕ) (old new : Server) : Type 0 where
  pub connection : Connection
  pub there : slice_get old.connections.items at ≡ Some connection
  pub bytes : List ℕ
  pub asks : Asks (entries.TakeOut (number_of connection)) (replies.Out bytes) old.desk new.desk
  pub rest : new ≡ record old { desk = new.desk; connections = new.connections }
  pub connections :
      new.connections.items
      ≡ set old.connections.items at (record connection { queue = record connection.queue { rest = connection.queue.rest ++ bytes } })

-- a send had failed before, and none is made; or all that was left was sent, and by this it's told whether one failed now
abbrev pub SendsBy : Bool → QueueView → QueueView → BoardView → BoardView → Type 0
SendsBy failed k l old new =
    ((k.failed ≡ true) × (failed ≡ false) × (l ≡ k) × (new.log ≡ old.log))
    ⊎ ((k.failed ≡ false) × (r : Reach) × (failed ≡ is_failed_reach r) × SendsAll (Ok r) k l old new)

-- what wasn't sent yet to the connection with this index was sent
pub record SendsOut (at : ℕ) (failed : Bool) (old new : Server) (from to : BoardView) : Type 0 where
  pub connection : Connection
  pub there : slice_get old.connections.items at ≡ Some connection
  pub queue : QueueView
  pub how : SendsBy failed connection.queue queue from to
  pub rest : new ≡ record old { connections = new.connections }
  pub connections : new.connections.items ≡ set old.connections.items at (record connection { queue = queue })

-- to so many no send has failed
abbrev pub unfailed : Server → ℕ
unfailed s = count_by (λ (k : Connection). not k.queue.failed) s.connections.items

-- to fewer, where one failed now
abbrev pub FewerUnfailed : Bool → Server → Server → Type 0
FewerUnfailed true old new = unfailed new < unfailed old
FewerUnfailed false old new = unfailed new ≤ unfailed old

-- a connection of which this came, cut by its link where its session was open
abbrev pub cut_with : Inbound → Connection → Connection
cut_with i k = record k { inbound = i; cut = k.cut || is_live k.inbound.stage }

-- the session of the connection with this index was ended, with a fault of its link or without; it was cut where it was open
abbrev pub Leaves : ℕ → Bool → Server → Server → Type 0
Leaves at fault old new = Moves links cut_with at (EndsSession fault) old new

-- ---- closing

-- each session is open
abbrev pub AllLive : Server → Type 0
AllLive s = (at : ℕ) (k : Connection) → slice_get s.connections.items at ≡ Some k → is_live k.inbound.stage ≡ true

-- connections were closed, and nothing else was done; those that are left are open
pub record Closes (new : Server) (past : Past) (own : List Entry) (done : Past) : Type 0 where
  pub none : own ≡ []
  pub turns : turns_of done ≡ []
  pub live : AllLive new
  pub unanswered : (c : ℕ) → last_answer c done ≡ None

-- the session of the connection with this index is over
abbrev pub IsOverAt : ℕ → Server → Type 0
IsOverAt at s = IsOver links at s

-- the connection with this index, whose session is over, is closed and left out
pub record ClosesAt (at : ℕ) (s t : Server) (old new : List Act) : Type 0 where
  pub connection : Connection
  pub there : slice_get s.connections.items at ≡ Some connection
  pub over : is_live connection.inbound.stage ≡ false
  pub log : new ≡ old ++ acts.Closes (number_of connection) ∷ []
  pub rest : t ≡ record s { connections = t.connections }
  pub removed : t.connections.items ≡ remove s.connections.items at

-- ---- the report

-- what waited of the report was taken and written; no entry was asked for, nothing was done with any connection, and all is kept
pub record WentReporting (g : Given) (before : List Act) (to_old to_new : SinkView) (past : Past) (log : List Act) (s : Server) : Type 0 where
  pub done : Past
  pub stretch : Stretch [] done past
  pub kept : IsKept g before (done ++ past) log s
  pub aside : (c : ℕ) → IsAside c done
  pub wrote : Wrote to_old to_new (taken_report done)

-- whatever was done before
abbrev pub GoesReporting : SinkView → SinkView → Server → List Act → Server → List Act → Type 0
GoesReporting to_old to_new old old_log new new_log =
    (g : Given) (before : List Act) (past : Past) → IsKept g before past old_log old → WentReporting g before to_old to_new past new_log new
