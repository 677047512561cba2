-- What is seen of a session, and how it moves: which part of an update leaves, and what follows the reply to a barrier.
use Rattle.std.specs.Prelude.{ℕ, Bool, true, false, List, [], ◌∷◌, ◌++◌, Option, Some, None, if◌then◌else◌}
use Rattle.maple_base.specs.RuleLists.{Rules}
use Rattle.of10_codec.specs.declared.message.Message.{Message}
use Rattle.update_plan.specs.Batches.{no_rules}
use Rattle.switch_session.specs.declared.part.Part.{Part}
use Rattle.switch_session.specs.declared.part.Part.TheVariants.{Clearing}
use Rattle.switch_session.specs.declared.part.UnderWay.{UnderWay}
use Rattle.switch_session.specs.declared.told.Phase.{Phase}
use Rattle.switch_session.specs.declared.told.Phase.TheVariants as phases
use Rattle.switch_session.specs.Lists.{Lists}
use Rattle.switch_session.specs.Parts.{Update, set_config, is_clearing, barrier_of, part_messages}

pub record State : Type 0 where
  pub connection : ℕ
  -- how many rules the switch has room for
  pub capacity : ℕ
  pub phase : Phase
  -- the switch's number, once it was heard and not given up
  pub dpid : Option ℕ
  -- the first clearing was acknowledged
  pub ready : Bool
  -- a change was refused: no rules are sent any more
  pub quiet : Bool
  -- the part whose barrier's reply wasn't heard yet: whether it clears the table, its barrier's number, the lists of its update
  pub under_way : Option UnderWay
  -- the parts that are to leave behind it, each with the reply to the barrier before it; a clearing among them is one behind an error
  pub to_come : List Part
  -- the rules that the running update leads to, and at rest those that the switch was led to; none in the first clearing and behind an error
  pub target : Rules
  -- the update that starts once the running one has ended
  pub next : Option Update
  -- the update that was prepared last, where it may be aimed at
  pub prepared : Option Update
  -- the last number that a message took, and the last that was taken out
  pub used : ℕ
  pub taken : ℕ
  pub outbox : List Message

-- a message is put behind the others of the outbox
abbrev pub put : Message → State → State
put m s = record s { outbox = s.outbox ++ m ∷ [] }

-- the first of these parts leaves, and the others are to come; without any nothing is under way
abbrev pub leaves : Lists → List Part → State → State
leaves lists [] s = record s { under_way = None; to_come = [] }
leaves lists (part ∷ parts) s = record s {
  under_way = Some (record { clears = is_clearing part; barrier = barrier_of s.used part; lists = lists });
  to_come = parts;
  used = barrier_of s.used part;
  outbox = s.outbox ++ part_messages s.used part;
}

-- an update starts: from the rules that the session headed for, or came to, to its own
abbrev pub starts : Update → State → State
starts update s = leaves (record { from = s.target; to = update.rules }) update.parts (record s { target = update.rules; next = None })

-- behind the last part of an update the next one starts, if there is one
abbrev pub next_starts : Option Update → State → State
next_starts None s = record s { under_way = None }
next_starts (Some update) s = starts update s

-- a further part of the update leaves, with its lists, or else the next update starts
abbrev pub onward : Lists → List Part → State → State
onward lists [] s = next_starts s.next s
onward lists (part ∷ parts) s = leaves lists (part ∷ parts) s

-- what follows the reply to the barrier of a part of an update with these lists
abbrev pub follows : Lists → State → State
follows lists s = onward lists s.to_come (record s { prepared = None })

-- the table is to be cleared behind an error: at once where nothing is under way, or else behind the part that is
abbrev pub clears_behind : Option UnderWay → Rules → State → State
clears_behind None came_to s = leaves (record { from = came_to; to = came_to }) (Clearing ∷ []) s
clears_behind (Some part) came_to s = record s { to_come = Clearing ∷ [] }

-- the first error of a batch: from now on the session heads for no rules
abbrev pub breaks_off : State → State
breaks_off s = clears_behind s.under_way s.target (record s { quiet = true; target = no_rules; next = None; prepared = None })

-- an ended session keeps its outbox, the switch's number, and whether it is quiet
abbrev pub ended : State → State
ended s = record s { phase = phases.Ended; ready = false; under_way = None; to_come = []; target = no_rules; next = None; prepared = None }

-- the rules that a session heads for: those of its next update, or else its target
abbrev pub next_rules : Option Update → Rules → Rules
next_rules None target = target
next_rules (Some update) target = update.rules

abbrev pub heading : State → Rules
heading s = next_rules s.next s.target

-- an update waits behind the part that is under way
abbrev pub waits : Update → State → State
waits update s = record s { next = Some update }

-- what is aimed at: where the session heads for these rules already nothing changes, at rest the update starts, and behind a part it is the next one
abbrev pub aimed_by : Bool → Option UnderWay → Update → State → State
aimed_by true under_way update s = s
aimed_by false None update s = starts update s
aimed_by false (Some part) update s = waits update s

abbrev pub aimed : Update → State → State
aimed update s = aimed_by update.settled s.under_way update (record s { prepared = None })

-- the session is live: the table is cleared, and then the first update starts, if there is one
abbrev pub first_next : Update → Option Update
first_next update = if update.settled then None else Some update

abbrev pub goes_live : Update → State → State
goes_live update s = record (put set_config s) { phase = phases.Live; next = first_next update; prepared = None }

abbrev pub accepted : Update → State → State
accepted update s = leaves (record { from = s.target; to = s.target }) (Clearing ∷ []) (goes_live update s)

-- what was prepared last is given up, and in the second phase the switch's number too, as if no FEATURES_REPLY had come
abbrev pub forgets_number : Phase → Option ℕ → Option ℕ
forgets_number phases.Second dpid = None
forgets_number phase dpid = dpid

abbrev pub forgotten : State → State
forgotten s = record s { prepared = None; dpid = forgets_number s.phase s.dpid }

-- the reply to the outstanding barrier was heard, that of a part of an update with these lists
abbrev pub acknowledged : Lists → State → State
acknowledged lists s = follows lists (record s { ready = true; under_way = None })
