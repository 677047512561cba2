-- Parts and runs that are right: of links that fail, sends that find no room, sessions that end, connections that are refused, and lines that are.
use Rattle.std.specs.Prelude.{ℕ, true, List, [], ◌∷◌}
use Rattle.maple_base.specs.declared.decision.Settings.{Settings}
use Rattle.policy_lang.specs.declared.Policy.{Policy}
use Rattle.of10_codec.specs.declared.message.Message.{Message}
use Rattle.of10_codec.specs.declared.message.Body.TheVariants as body
use Rattle.maple_io.specs.declared.act.Act.TheVariants as acts
use Rattle.maple_io.specs.declared.board.Turn.{Turn as BoardTurn}
use Rattle.maple_io.specs.declared.board.Turn.TheVariants as turn
use Rattle.maple_io.specs.declared.board.Sent.TheVariants as sends
use Rattle.report_text.specs.declared.line.ScriptRefusal.TheVariants.{Grammar}
use Rattle.switch_session.specs.declared.told.End.TheVariants.{Full, LinkFault, Version}
use Rattle.switch_session.specs.declared.told.End.TheVariants as ends
use Rattle.of10_codec.specs.declared.fault.Bad.TheVariants.{Version as WrongVersion}
use Rattle.machine_steps.specs.declared.entry.Entry.{Entry}
use Rattle.machine_steps.specs.declared.entry.Entry.TheVariants as entries
use Rattle.machine_steps.specs.declared.entry.Input.TheVariants.{Message as Whole, Bad}
use Rattle.machine_steps.specs.declared.note.Note.TheVariants as notes
use Rattle.machine_steps.specs.declared.reply.Reply.{Reply}
use Rattle.machine_steps.specs.declared.reply.Reply.TheVariants as replies
use Rattle.serve_steps.specs.Deeds.{Deed, Past}
use Rattle.serve_steps.specs.Deeds.Deed.{Enters, Does}
use Rattle.serve_steps.specs.Parts.{Given, Part, IsPart, deeds_of}
use Rattle.serve_steps.specs.declared.end.ServeEnd.TheVariants.{Done, Script}
use Rattle.serve_steps.specs.Runs.{report}
use Rattle.serve_tries.specs.Row.{AreAtEnd, first_row, given_row, part1, part2, state2, turn1, turn2, hello_bytes}

-- an entry with its reply, in a state in which no packet waits
abbrev pub enters : Policy → Settings → Entry → Reply → Deed
enters p s entry reply = Enters (record { before = state2 p s; entry = entry; reply = reply; behind = state2 p s })

abbrev pub part : BoardTurn → List ℕ → Past → Part
part given bytes done = record { given = given; bytes = bytes; done = done }

-- ---- a send fails: the session ends, and the connection is closed

abbrev pub failing : Policy → Settings → Part
failing p s = part (turn.Opened 1) [] (
    Does (acts.Closes 1) ∷ enters p s (entries.Gone 1 true) (replies.Ended LinkFault) ∷ Does (acts.Takes 1 [] sends.Failed) ∷ Enters (turn2 p s)
    ∷ Enters (turn1 p s)
    ∷ [])

abbrev pub SendFails : Type 0
SendFails = (p : Policy) (s : Settings) → IsPart (given_row p s) first_row [] (failing p s)

-- ---- a send finds no room, and the rest goes with the next turn

abbrev pub waiting : Policy → Settings → Part
waiting p s = part (turn.Opened 1) [] (
    Does (acts.Takes 1 [] sends.NotYet) ∷ Does (acts.Takes 1 (1 ∷ 0 ∷ []) (sends.Took 2)) ∷ Enters (turn2 p s) ∷ Enters (turn1 p s)
    ∷ [])

abbrev pub going : Policy → Settings → Part
going p s = part turn.Idle [] (Does (acts.Takes 1 (0 ∷ 8 ∷ 0 ∷ 0 ∷ 0 ∷ 0 ∷ []) (sends.Took 6)) ∷ enters p s (entries.TakeOut 1) (replies.Out []) ∷ [])

abbrev pub Waits : Type 0
Waits = (p : Policy) (s : Settings) → IsPart (given_row p s) first_row [] (waiting p s) × IsPart (given_row p s) first_row (waiting p s ∷ []) (going p s)

-- ---- a HELLO of version 0 ends the session: what is left is sent, and further bytes are passed over

abbrev pub zero_bytes : List ℕ
zero_bytes = 0 ∷ 0 ∷ 0 ∷ 8 ∷ 0 ∷ 0 ∷ 0 ∷ 5 ∷ []

abbrev pub zero_hello : Message
zero_hello = record { xid = 5; body = body.Hello 0 }

abbrev pub last_words : List ℕ
last_words = 1 ∷ 1 ∷ 0 ∷ 12 ∷ 0 ∷ 0 ∷ 0 ∷ 5 ∷ 0 ∷ 0 ∷ 0 ∷ 0 ∷ []

abbrev pub ending : Policy → Settings → Part
ending p s = part (turn.Bytes 1 8) zero_bytes (
    Does (acts.Closes 1) ∷ Does (acts.Takes 1 last_words (sends.Took 12)) ∷ enters p s (entries.TakeOut 1) (replies.Out last_words)
    ∷ enters p s (entries.Heard 1 (Whole zero_hello)) (replies.Ended Version)
    ∷ [])

abbrev pub passing : Part
passing = part (turn.Bytes 1 8) hello_bytes []

abbrev pub Passes : Type 0
Passes =
    (p : Policy) (s : Settings)
    → IsPart (given_row p s) first_row (part1 p s ∷ []) (ending p s) × IsPart (given_row p s) first_row (ending p s ∷ part1 p s ∷ []) passing

-- ---- a connection is refused, told nothing, and closed

abbrev pub refused : Policy → Settings → Part
refused p s = part (turn.Opened 2) [] (
    Does (acts.Closes 2) ∷ enters p s (entries.TakeOut 1) (replies.Out []) ∷ enters p s (entries.Open 2) (replies.Ended Full) ∷ [])

abbrev pub OpensInVain : Type 0
OpensInVain = (p : Policy) (s : Settings) → IsPart (given_row p s) first_row (part1 p s ∷ []) (refused p s)

-- ---- a line of the control text is refused: fly, and rules 1

abbrev pub faulty_lines : List ℕ
faulty_lines = 102 ∷ 108 ∷ 121 ∷ 10 ∷ 114 ∷ 117 ∷ 108 ∷ 101 ∷ 115 ∷ 32 ∷ 49 ∷ []

abbrev pub faulty : Policy → Settings → Part
faulty p s = part (turn.Control 11) faulty_lines (enters p s (entries.Note (notes.LineRefused 1 1)) replies.Done ∷ [])

-- the control text comes to its end, and the last line with it
abbrev pub at_end : Policy → Settings → Part
at_end p s = part turn.End [] (enters p s (entries.ReadRules 1) replies.Done ∷ [])

abbrev pub LineIsRefused : Type 0
LineIsRefused =
    (p : Policy) (s : Settings)
    → AreAtEnd Done (given_row p s) first_row (at_end p s ∷ faulty p s ∷ []) (report (deeds_of first_row (at_end p s ∷ faulty p s ∷ [])))

-- ---- a line of the start script is refused, or is `quit`

-- rules 1, and then settle
abbrev pub refused_script : List ℕ
refused_script = 114 ∷ 117 ∷ 108 ∷ 101 ∷ 115 ∷ 32 ∷ 49 ∷ 10 ∷ 115 ∷ 101 ∷ 116 ∷ 116 ∷ 108 ∷ 101 ∷ 10 ∷ []

-- rules 1, and then quit
abbrev pub quit_script : List ℕ
quit_script = 114 ∷ 117 ∷ 108 ∷ 101 ∷ 115 ∷ 32 ∷ 49 ∷ 10 ∷ 113 ∷ 117 ∷ 105 ∷ 116 ∷ 10 ∷ []

abbrev pub given_script : Policy → Settings → List ℕ → Given
given_script p s script = record { policy = p; settings = s; script = script; first_line = 3; listen = 6633; control = 6634 }

abbrev pub one_entry : Policy → Settings → Past
one_entry p s = enters p s (entries.ReadRules 1) replies.Done ∷ []

abbrev pub ScriptIsRefused : Type 0
ScriptIsRefused = (p : Policy) (s : Settings) → AreAtEnd (Script 4 Grammar) (given_script p s refused_script) (one_entry p s) [] (report (one_entry p s))

abbrev pub ScriptQuits : Type 0
ScriptQuits = (p : Policy) (s : Settings) → AreAtEnd Done (given_script p s quit_script) (one_entry p s) [] (report (one_entry p s))

-- ---- behind its HELLO a message of version 2 comes: the session ends by it, at byte 8

abbrev pub bad_bytes : List ℕ
bad_bytes = 2 ∷ 5 ∷ 0 ∷ 8 ∷ 0 ∷ 0 ∷ 0 ∷ 0 ∷ []

abbrev pub broken : Policy → Settings → Part
broken p s = part (turn.Bytes 1 8) bad_bytes (
    Does (acts.Closes 1) ∷ enters p s (entries.TakeOut 1) (replies.Out [])
    ∷ enters p s (entries.Heard 1 (Bad 8 WrongVersion)) (replies.Ended (ends.Bad 8 WrongVersion))
    ∷ [])

abbrev pub StreamBreaks : Type 0
StreamBreaks = (p : Policy) (s : Settings) → IsPart (given_row p s) first_row (part2 p s ∷ part1 p s ∷ []) (broken p s)
