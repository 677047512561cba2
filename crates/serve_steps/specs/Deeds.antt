-- What is done in a run of `serve`, and what of it is what. Of two deeds the one that was done later stands first.
use Rattle.std.specs.Prelude.{ℕ, Bool, true, false, not, ◌&&◌, ◌==◌, if◌then◌else◌, map, List, [], ◌∷◌, ◌++◌, Option, Some, None}
use Rattle.std.specs.List.{list_any}
use Rattle.std.specs.Option.{option_or}
use Rattle.maple_io.specs.declared.act.Act.{Act}
use Rattle.maple_io.specs.declared.act.Act.TheVariants as acts
use Rattle.maple_io.specs.declared.board.Turn.TheVariants as turn
use Rattle.maple_io.specs.declared.board.Sent.{Sent}
use Rattle.maple_io.specs.declared.board.Sent.TheVariants as sends
use Rattle.switch_session.specs.declared.told.End.TheVariants.{LinkEnd, LinkFault}
use Rattle.machine_steps.specs.declared.entry.Entry.{Entry}
use Rattle.machine_steps.specs.declared.entry.Entry.TheVariants as entries
use Rattle.machine_steps.specs.declared.entry.Input.{Input}
use Rattle.machine_steps.specs.declared.reply.Reply.{Reply}
use Rattle.machine_steps.specs.declared.reply.Reply.TheVariants as replies
pub use Rattle.machine_steps.specs.Effects.{tells_end}
use Rattle.machine_steps.specs.Histories.{Turn}
use Rattle.machine_sharing.specs.Legal.{call_of}
use Rattle.machine_sharing.specs.Sharing.{Call}
use Rattle.machine_steps.specs.Machine.{State}
use Rattle.sim_steps.specs.Agreeing.{heard_in}
use Rattle.sim_steps.specs.Deeds.Deed.{Enters as EntersAtBench}
use Rattle.sim_steps.specs.Parts.{asks}
pub use Rattle.sim_steps.specs.Parts.{is_shared as is_others}

pub data Deed : Type 0 where
  -- the machine is given an entry, and replies
  Enters : Turn → Deed
  -- the board does this
  Does : Act → Deed

-- what was done so far, the newest first
abbrev pub Past : Type 0
Past = List Deed

-- ---- the machine and the board

-- what the deeds have of something, in the order in which they were done
abbrev pub gathered : {A : Type 0} → (Deed → List A) → Past → List A
gathered f [] = []
gathered f (d ∷ past) = gathered f past ++ f d

abbrev pub turn_in : Deed → List Turn
turn_in (Enters t) = t ∷ []
turn_in (Does act) = []

abbrev pub act_in : Deed → List Act
act_in (Enters t) = []
act_in (Does act) = act ∷ []

-- the machine's history, the first turn first
abbrev pub turns_of : Past → List Turn
turns_of past = gathered turn_in past

-- the same as calls of the shared machine
abbrev pub calls_of : Past → List Call
calls_of past = map call_of (turns_of past)

-- what the board's log gained, the first act first
abbrev pub acts_of : Past → List Act
acts_of past = gathered act_in past

-- the machine's state behind these deeds, where it was in this one ahead of them
abbrev pub state_behind : State → Past → State
state_behind m [] = m
state_behind m (Enters t ∷ past) = t.behind
state_behind m (Does act ∷ past) = state_behind m past

-- ---- kinds of entries

-- one that a turn of the board, a line or a failed send asks for: beside those of `sim`, what is heard, and each end of a session
abbrev pub is_asked : Entry → Bool
is_asked (entries.Heard c input) = true
is_asked (entries.Gone c fault) = true
is_asked entry = asks entry

-- one at which the session of this connection can end
abbrev pub is_of : ℕ → Entry → Bool
is_of c (entries.Open d) = d == c
is_of c (entries.Heard d input) = d == c
is_of c (entries.Gone d fault) = d == c
is_of c entry = false

-- ---- the session of a connection, read off the replies

abbrev pub tells_link_end : Reply → Bool
tells_link_end (replies.Ended LinkEnd) = true
tells_link_end (replies.Ended LinkFault) = true
tells_link_end reply = false

abbrev pub opens_by : ℕ → Entry → Reply → Bool
opens_by c (entries.Open d) replies.Done = d == c
opens_by c entry reply = false

-- a session is opened
abbrev pub opens : ℕ → Deed → Bool
opens c (Enters t) = opens_by c t.entry t.reply
opens c (Does act) = false

-- the session ends, or none is opened since there are too many
abbrev pub ends : ℕ → Deed → Bool
ends c (Enters t) = is_of c t.entry && tells_end t.reply
ends c (Does act) = false

-- the session ends by its link: the connection was closed, or it failed
abbrev pub ends_by_link : ℕ → Deed → Bool
ends_by_link c (Enters t) = is_of c t.entry && tells_link_end t.reply
ends_by_link c (Does act) = false

abbrev pub was_accepted : ℕ → Past → Bool
was_accepted c past = list_any (opens c) past

-- the session has ended, or its opening was refused
abbrev pub is_over : ℕ → Past → Bool
is_over c past = list_any (ends c) past

abbrev pub was_cut : ℕ → Past → Bool
was_cut c past = list_any (ends_by_link c) past

-- the session was opened and hasn't ended
abbrev pub is_open : ℕ → Past → Bool
is_open c past = was_accepted c past && not (is_over c past)

-- ---- what came on a connection

abbrev pub came_by : ℕ → Act → List ℕ → List ℕ
came_by c (acts.Gives (turn.Opened d) bytes) before = if d == c then [] else before
came_by c (acts.Gives (turn.Bytes d n) bytes) before = if d == c then before ++ bytes else before
came_by c act before = before

-- the bytes that came on a connection since it was opened
abbrev pub bytes_of : ℕ → Past → List ℕ
bytes_of c [] = []
bytes_of c (Enters t ∷ past) = bytes_of c past
bytes_of c (Does act ∷ past) = came_by c act (bytes_of c past)

abbrev pub input_in : ℕ → Deed → List Input
input_in c (Enters t) = heard_in c (EntersAtBench t.entry t.reply)
input_in c (Does act) = []

-- what the machine heard of a connection
abbrev pub inputs_of : ℕ → Past → List Input
inputs_of c past = gathered (input_in c) past

-- ---- what goes to a connection

abbrev pub out_by : ℕ → Entry → Reply → List ℕ
out_by c (entries.TakeOut d) (replies.Out bytes) = if d == c then bytes else []
out_by c entry reply = []

abbrev pub out_in : ℕ → Deed → List ℕ
out_in c (Enters t) = out_by c t.entry t.reply
out_in c (Does act) = []

-- the bytes that the machine gave for a connection
abbrev pub taken_of : ℕ → Past → List ℕ
taken_of c past = gathered (out_in c) past

abbrev pub takes_out_by : ℕ → Entry → Reply → Bool
takes_out_by c (entries.TakeOut d) (replies.Out bytes) = d == c
takes_out_by c entry reply = false

-- what the machine has for the connection is taken out
abbrev pub takes_out : ℕ → Deed → Bool
takes_out c (Enters t) = takes_out_by c t.entry t.reply
takes_out c (Does act) = false

abbrev pub answer_to : ℕ → Deed → Option Sent
answer_to c (Does (acts.Takes d bytes answer)) = if d == c then Some answer else None
answer_to c deed = None

-- what the last send to a connection answered
abbrev pub last_answer : ℕ → Past → Option Sent
last_answer c [] = None
last_answer c (d ∷ past) = option_or (answer_to c d) (last_answer c past)

abbrev pub fails : ℕ → Deed → Bool
fails c (Does (acts.Takes d bytes sends.Failed)) = d == c
fails c deed = false

-- a send to the connection failed
abbrev pub has_failed : ℕ → Past → Bool
has_failed c past = list_any (fails c) past
