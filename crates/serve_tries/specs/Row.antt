-- The worked row, as far as its HELLO: a connection is opened, a HELLO comes, and the control text says `quit`.
use Rattle.std.specs.Prelude.{ℕ, List, [], ◌∷◌, ◌++◌, codes}
use Rattle.std.specs.FinSet as set
use Rattle.maple_base.specs.declared.decision.Settings.{Settings}
use Rattle.policy_lang.specs.declared.Policy.{Policy}
use Rattle.of10_codec.specs.declared.message.Message.{Message}
use Rattle.of10_codec.specs.declared.message.Body.TheVariants as body
use Rattle.maple_io.specs.declared.act.Act.{Act}
use Rattle.maple_io.specs.declared.act.Act.TheVariants as acts
use Rattle.maple_io.specs.declared.board.Turn.TheVariants as turn
use Rattle.maple_io.specs.declared.board.Sent.TheVariants as sends
use Rattle.report_text.specs.declared.line.Line.TheVariants as lines
use Rattle.switch_session.specs.declared.told.Phase.TheVariants as phases
use Rattle.switch_session.specs.Calls.{opened}
use Rattle.switch_session.specs.Sessions.{put}
use Rattle.switch_session.specs.Parts.{features_request}
use Rattle.machine_steps.specs.declared.entry.Entry.TheVariants as entries
use Rattle.machine_steps.specs.declared.entry.Input.TheVariants.{Message as Whole}
use Rattle.machine_steps.specs.declared.reply.Reply.TheVariants as replies
use Rattle.machine_steps.specs.Histories.{Turn, Leads}
use Rattle.machine_steps.specs.Machine.{Session, State, opening, tells, with_session}
use Rattle.serve_steps.specs.Deeds.{Past, turns_of}
use Rattle.serve_steps.specs.Deeds.Deed.{Enters, Does}
use Rattle.serve_steps.specs.Parts.{Given, Part, deeds_of, AreCutAtTurns, AreOpenedOnce}
use Rattle.serve_steps.specs.declared.end.ServeEnd.{ServeEnd}
use Rattle.serve_steps.specs.declared.end.ServeEnd.TheVariants.{Done}
use Rattle.serve_steps.specs.Runs.{EndsWith, IsRun, IsSmooth, is_whole}

-- these parts are those of a run at this end, and there was room for each packet, and memory where the end is whole
abbrev pub AreAtEnd : ServeEnd → Given → Past → List Part → List ℕ → Type 0
AreAtEnd end g first parts text = EndsWith end g first parts text × IsSmooth (is_whole end) (turns_of (deeds_of first parts))

-- so it is of each run
abbrev pub RunsAreAtEnd : Type 0
RunsAreAtEnd =
    (end : ServeEnd) (g : Given) (history : List Turn) (before after : List Act) (text : List ℕ) (run : IsRun end g history before after text)
    → AreAtEnd end g run.first run.parts text

-- ---- bytes

-- 01 00 00 08 00 00 00 00
abbrev pub hello_bytes : List ℕ
hello_bytes = 1 ∷ 0 ∷ 0 ∷ 8 ∷ 0 ∷ 0 ∷ 0 ∷ 0 ∷ []

-- 01 05 00 08 00 00 00 00
abbrev pub request_bytes : List ℕ
request_bytes = 1 ∷ 5 ∷ 0 ∷ 8 ∷ 0 ∷ 0 ∷ 0 ∷ 0 ∷ []

abbrev pub quit_bytes : List ℕ
quit_bytes = 113 ∷ 117 ∷ 105 ∷ 116 ∷ 10 ∷ []

-- ---- the machine

abbrev pub was_heard : Message
was_heard = record { xid = 0; body = body.Hello 1 }

abbrev pub given_row : Policy → Settings → Given
given_row policy settings = record { policy = policy; settings = settings; script = []; first_line = 1; listen = 6633; control = 6634 }

abbrev pub session0 : Settings → Session
session0 settings = opened 1 settings.capacity

abbrev pub emptied_out : Session → Session
emptied_out s = record s { outbox = []; taken = s.used }

abbrev pub session1 : Settings → Session
session1 settings = emptied_out (session0 settings)

abbrev pub session2 : Settings → Session
session2 settings = record (put features_request (session1 settings)) { phase = phases.Second }

abbrev pub session3 : Settings → Session
session3 settings = emptied_out (session2 settings)

-- the states of the machine
abbrev pub state0 : Policy → Settings → State
state0 policy settings = opening policy settings

abbrev pub opened_by : State → Session → State
opened_by m s = tells (lines.Open 1) (record m { opened = set.insert m.opened 1; sessions = m.sessions ++ s ∷ [] })

abbrev pub state1 : Policy → Settings → State
state1 policy settings = opened_by (state0 policy settings) (session0 settings)

abbrev pub state2 : Policy → Settings → State
state2 policy settings = with_session (session1 settings) (state1 policy settings)

abbrev pub state3 : Policy → Settings → State
state3 policy settings = with_session (session2 settings) (state2 policy settings)

abbrev pub state4 : Policy → Settings → State
state4 policy settings = with_session (session3 settings) (state3 policy settings)

abbrev pub state5 : Policy → Settings → State
state5 policy settings = with_session (emptied_out (session3 settings)) (state4 policy settings)

-- its turns
abbrev pub turn1 : Policy → Settings → Turn
turn1 p s = record { before = state0 p s; entry = entries.Open 1; reply = replies.Done; behind = state1 p s }

abbrev pub turn2 : Policy → Settings → Turn
turn2 p s = record { before = state1 p s; entry = entries.TakeOut 1; reply = replies.Out hello_bytes; behind = state2 p s }

abbrev pub turn3 : Policy → Settings → Turn
turn3 p s = record { before = state2 p s; entry = entries.Heard 1 (Whole was_heard); reply = replies.Done; behind = state3 p s }

abbrev pub turn4 : Policy → Settings → Turn
turn4 p s = record { before = state3 p s; entry = entries.TakeOut 1; reply = replies.Out request_bytes; behind = state4 p s }

abbrev pub turn5 : Policy → Settings → Turn
turn5 p s = record { before = state4 p s; entry = entries.TakeOut 1; reply = replies.Out []; behind = state5 p s }

-- ---- the run

abbrev pub first_row : Past
first_row = Does (acts.Starts 6633 6634) ∷ []

abbrev pub part1 : Policy → Settings → Part
part1 p s = record {
  given = turn.Opened 1;
  bytes = [];
  done = Does (acts.Takes 1 hello_bytes (sends.Took 8)) ∷ Enters (turn2 p s) ∷ Enters (turn1 p s) ∷ [];
}

abbrev pub part2 : Policy → Settings → Part
part2 p s = record {
  given = turn.Bytes 1 8;
  bytes = hello_bytes;
  done = Does (acts.Takes 1 request_bytes (sends.Took 8)) ∷ Enters (turn4 p s) ∷ Enters (turn3 p s) ∷ [];
}

abbrev pub part3 : Policy → Settings → Part
part3 p s = record { given = turn.Control 5; bytes = quit_bytes; done = Enters (turn5 p s) ∷ [] }

abbrev pub parts_row : Policy → Settings → List Part
parts_row p s = part3 p s ∷ part2 p s ∷ part1 p s ∷ []

-- each turn of the board begins a part
abbrev pub RowIsCut : Type 0
RowIsCut = (p : Policy) (s : Settings) → AreCutAtTurns first_row (parts_row p s)

-- and the board opens its number once
abbrev pub RowIsOpenedOnce : Type 0
RowIsOpenedOnce = (p : Policy) (s : Settings) → AreOpenedOnce first_row (parts_row p s)

-- the machine's turns are a legal history
abbrev pub RowLeads : Type 0
RowLeads = (p : Policy) (s : Settings) → Leads (opening p s) (turns_of (deeds_of first_row (parts_row p s))) (state5 p s)

-- the run is done, and its report is the line `open c1`
abbrev pub RowIsDone : Type 0
RowIsDone = (p : Policy) (s : Settings) → AreAtEnd Done (given_row p s) first_row (parts_row p s) (codes "open c1" ++ 10 ∷ [])
