-- The worked row whole, part by part: what came, what the machine replied, and what was sent. Of the machine's states behind the HELLO nothing is said here, so
-- they are stand-ins, in which no packet waits and no message does.
use Rattle.std.specs.Prelude.{◌≡◌, ◌≢◌, ℕ, List, [], ◌∷◌, ◌++◌, length}
use Rattle.maple_base.specs.declared.decision.Decision.{Decision}
use Rattle.maple_base.specs.declared.decision.Settings.{Settings}
use Rattle.maple_base.specs.declared.key.Key.{Key}
use Rattle.policy_lang.specs.declared.Policy.{Policy}
use Rattle.of10_codec.specs.declared.message.Message.{Message}
use Rattle.of10_codec.specs.declared.message.Body.TheVariants as body
use Rattle.maple_io.specs.declared.act.Act.{Act}
use Rattle.maple_io.specs.declared.act.Act.TheVariants as acts
use Rattle.maple_io.specs.declared.board.Turn.TheVariants as turn
use Rattle.maple_io.specs.declared.board.Sent.TheVariants as sends
use Rattle.maple_io.specs.Boards.{sent}
use Rattle.report_text.specs.declared.line.Learnt.{Learnt}
use Rattle.trace_record.specs.Runs.{Recorded}
use Rattle.machine_steps.specs.declared.entry.Entry.TheVariants as entries
use Rattle.machine_steps.specs.declared.entry.Input.TheVariants.{Message as Whole}
use Rattle.machine_steps.specs.declared.reply.Reply.{Reply}
use Rattle.machine_steps.specs.declared.reply.Reply.TheVariants as replies
use Rattle.machine_steps.specs.declared.entry.Entry.{Entry}
use Rattle.machine_steps.specs.declared.job.Job.{Job}
use Rattle.machine_steps.specs.Histories.{Turn}
use Rattle.serve_steps.specs.Deeds.{Deed, acts_of}
use Rattle.serve_steps.specs.Deeds.Deed.{Enters, Does}
use Rattle.serve_steps.specs.Parts.{Given, Part, deeds_of, IsPart}
use Rattle.serve_steps.specs.declared.end.ServeEnd.{ServeEnd}
use Rattle.serve_steps.specs.declared.end.ServeEnd.TheVariants.{Done}
use Rattle.serve_steps.specs.Runs.{IsRun, report}
use Rattle.serve_tries.specs.Row.{AreAtEnd, first_row, given_row, part1, part2, quit_bytes, state2}
use Rattle.serve_tries.specs.More.{enters, part}

-- ---- what came

-- a FEATURES_REPLY of datapath id 1, without ports
abbrev pub features_bytes : List ℕ
features_bytes =
    1 ∷ 6 ∷ 0 ∷ 32 ∷ 0 ∷ 0 ∷ 0 ∷ 0 ∷ 0 ∷ 0 ∷ 0 ∷ 0 ∷ 0 ∷ 0 ∷ 0 ∷ 1 ∷ 0 ∷ 0 ∷ 0 ∷ 0 ∷ 0 ∷ 0 ∷ 0 ∷ 0 ∷ 0 ∷ 0 ∷ 0 ∷ 0 ∷ 0 ∷ 0 ∷ 0 ∷ 0 ∷ []

abbrev pub features : Message
features = record { xid = 0; body = body.FeaturesReply 1 [] }

-- the reply to barrier 2
abbrev pub barrier_bytes : List ℕ
barrier_bytes = 1 ∷ 19 ∷ 0 ∷ 8 ∷ 0 ∷ 0 ∷ 0 ∷ 2 ∷ []

abbrev pub barrier : Message
barrier = record { xid = 2; body = body.BarrierReply }

-- a TCP packet to port 80
abbrev pub frame : List ℕ
frame =
    0 ∷ 0 ∷ 0 ∷ 0 ∷ 0 ∷ 0 ∷ 0 ∷ 0 ∷ 0 ∷ 0 ∷ 0 ∷ 0 ∷ 8 ∷ 0 ∷ 69 ∷ 0 ∷ 0 ∷ 40 ∷ 0 ∷ 0 ∷ 0 ∷ 0 ∷ 64 ∷ 6 ∷ 0 ∷ 0 ∷ 0 ∷ 0 ∷ 0 ∷ 0 ∷ 0 ∷ 0 ∷ 0 ∷ 0 ∷ 0 ∷ 0 ∷ 0 ∷
    80 ∷ 0 ∷ 0 ∷ 0 ∷ 0 ∷ 0 ∷ 0 ∷ 0 ∷ 0 ∷ 80 ∷ 0 ∷ 0 ∷ 0 ∷ 0 ∷ 0 ∷ 0 ∷ 0 ∷ []

-- it came in by port 1, with all of its 54 bytes
abbrev pub packet_head : List ℕ
packet_head = 1 ∷ 10 ∷ 0 ∷ 72 ∷ 0 ∷ 0 ∷ 0 ∷ 0 ∷ 255 ∷ 255 ∷ 255 ∷ 255 ∷ 0 ∷ 54 ∷ 0 ∷ 1 ∷ 0 ∷ 0 ∷ []

abbrev pub packet_bytes : List ℕ
packet_bytes = packet_head ++ frame

abbrev pub packet : Message
packet = record { xid = 0; body = body.PacketIn 4294967295 54 1 0 frame }

-- ---- what was sent

-- SET_CONFIG, DELETE, BARRIER_REQUEST
abbrev pub clearing : List ℕ
clearing =
    1 ∷ 9 ∷ 0 ∷ 12 ∷ 0 ∷ 0 ∷ 0 ∷ 0 ∷ 0 ∷ 0 ∷ 255 ∷ 255 ∷ 1 ∷ 14 ∷ 0 ∷ 72 ∷ 0 ∷ 0 ∷ 0 ∷ 1 ∷ 0 ∷ 56 ∷ 32 ∷ 255 ∷ 0 ∷ 0 ∷ 0 ∷ 0 ∷ 0 ∷ 0 ∷ 0 ∷ 0 ∷ 0 ∷ 0 ∷ 0 ∷
    0 ∷ 0 ∷ 0 ∷ 0 ∷ 0 ∷ 0 ∷ 0 ∷ 0 ∷ 0 ∷ 0 ∷ 0 ∷ 0 ∷ 0 ∷ 0 ∷ 0 ∷ 0 ∷ 0 ∷ 0 ∷ 0 ∷ 0 ∷ 0 ∷ 0 ∷ 0 ∷ 0 ∷ 0 ∷ 0 ∷ 0 ∷ 0 ∷ 0 ∷ 0 ∷ 0 ∷ 0 ∷ 0 ∷ 0 ∷ 3 ∷ 0 ∷ 0 ∷
    0 ∷ 0 ∷ 0 ∷ 0 ∷ 255 ∷ 255 ∷ 255 ∷ 255 ∷ 255 ∷ 255 ∷ 0 ∷ 0 ∷ 1 ∷ 18 ∷ 0 ∷ 8 ∷ 0 ∷ 0 ∷ 0 ∷ 2 ∷ []

-- PACKET_OUT, ADD of the barrier rule, BARRIER_REQUEST
abbrev pub answer : List ℕ
answer =
    1 ∷ 13 ∷ 0 ∷ 78 ∷ 0 ∷ 0 ∷ 0 ∷ 0 ∷ 255 ∷ 255 ∷ 255 ∷ 255 ∷ 0 ∷ 1 ∷ 0 ∷ 8 ∷ 0 ∷ 0 ∷ 0 ∷ 8 ∷ 0 ∷ 2 ∷ 0 ∷ 0 ∷ 0 ∷ 0 ∷ 0 ∷ 0 ∷ 0 ∷ 0 ∷ 0 ∷ 0 ∷ 0 ∷ 0 ∷ 0 ∷
    0 ∷ 8 ∷ 0 ∷ 69 ∷ 0 ∷ 0 ∷ 40 ∷ 0 ∷ 0 ∷ 0 ∷ 0 ∷ 64 ∷ 6 ∷ 0 ∷ 0 ∷ 0 ∷ 0 ∷ 0 ∷ 0 ∷ 0 ∷ 0 ∷ 0 ∷ 0 ∷ 0 ∷ 0 ∷ 0 ∷ 80 ∷ 0 ∷ 0 ∷ 0 ∷ 0 ∷ 0 ∷ 0 ∷ 0 ∷ 0 ∷ 80 ∷
    0 ∷ 0 ∷ 0 ∷ 0 ∷ 0 ∷ 0 ∷ 0 ∷ 1 ∷ 14 ∷ 0 ∷ 80 ∷ 0 ∷ 0 ∷ 0 ∷ 3 ∷ 0 ∷ 56 ∷ 32 ∷ 79 ∷ 0 ∷ 0 ∷ 0 ∷ 0 ∷ 0 ∷ 0 ∷ 0 ∷ 0 ∷ 0 ∷ 0 ∷ 0 ∷ 0 ∷ 0 ∷ 0 ∷ 0 ∷ 0 ∷ 0 ∷
    0 ∷ 8 ∷ 0 ∷ 0 ∷ 6 ∷ 0 ∷ 0 ∷ 0 ∷ 0 ∷ 0 ∷ 0 ∷ 0 ∷ 0 ∷ 0 ∷ 0 ∷ 0 ∷ 0 ∷ 0 ∷ 22 ∷ 0 ∷ 0 ∷ 0 ∷ 0 ∷ 0 ∷ 0 ∷ 0 ∷ 0 ∷ 0 ∷ 0 ∷ 0 ∷ 0 ∷ 0 ∷ 0 ∷ 0 ∷ 2 ∷ 255 ∷
    255 ∷ 255 ∷ 255 ∷ 255 ∷ 255 ∷ 0 ∷ 0 ∷ 0 ∷ 0 ∷ 0 ∷ 8 ∷ 255 ∷ 253 ∷ 255 ∷ 255 ∷ 1 ∷ 18 ∷ 0 ∷ 8 ∷ 0 ∷ 0 ∷ 0 ∷ 4 ∷ []

-- ---- the parts

abbrev pub part_features : Policy → Settings → Part
part_features p s = part (turn.Bytes 1 32) features_bytes (
    Does (acts.Takes 1 clearing (sends.Took 92)) ∷ enters p s (entries.TakeOut 1) (replies.Out clearing)
    ∷ enters p s (entries.Heard 1 (Whole features)) (replies.NewState 1 0)
    ∷ [])

abbrev pub part_barrier : Policy → Settings → Part
part_barrier p s = part (turn.Bytes 1 8) barrier_bytes (
    enters p s (entries.TakeOut 1) (replies.Out []) ∷ enters p s (entries.Heard 1 (Whole barrier)) replies.Done ∷ [])

-- the job is worked at once
abbrev pub part_packet : Policy → Settings → Key → Reply → Recorded → Decision → Learnt → Part
part_packet p s key lent run decision what = part (turn.Bytes 1 72) packet_bytes (
    Does (acts.Takes 1 answer (sends.Took 166)) ∷ enters p s (entries.TakeOut 1) (replies.Out answer)
    ∷ enters p s (entries.Commit 1 run) (replies.Answered decision what) ∷ enters p s entries.ReadPolicy lent
    ∷ enters p s (entries.Heard 1 (Whole packet)) (replies.Job (record { job = 1; switch = 1; key = key }))
    ∷ [])

abbrev pub part_quit : Policy → Settings → Part
part_quit p s = part (turn.Control 5) quit_bytes (enters p s (entries.TakeOut 1) (replies.Out []) ∷ [])

abbrev pub whole_parts : Policy → Settings → Key → Reply → Recorded → Decision → Learnt → List Part
whole_parts p s key lent run decision what =
    part_quit p s ∷ part_packet p s key lent run decision what ∷ part_barrier p s ∷ part_features p s ∷ part2 p s ∷ part1 p s ∷ []

-- whatever the key, the run, and the answer are, these parts are those of a run that is done
abbrev pub WholeIsDone : Type 0
WholeIsDone =
    (p : Policy) (s : Settings) (key : Key) (lent : Reply) (run : Recorded) (decision : Decision) (what : Learnt) → lent ≢ replies.Overload
    → lent ≢ replies.NoMemory
    → AreAtEnd Done (given_row p s) first_row (whole_parts p s key lent run decision what) (report (deeds_of first_row (whole_parts p s key lent run decision what)))

-- 274 bytes were sent
abbrev pub WholeIsSent : Type 0
WholeIsSent =
    (p : Policy) (s : Settings) (key : Key) (lent : Reply) (run : Recorded) (decision : Decision) (what : Learnt)
    → length (sent 1 (acts_of (deeds_of first_row (whole_parts p s key lent run decision what)))) ≡ 274

-- ---- with workers the job is worked later, and its answer leaves with the next turn

abbrev pub busy : Policy → Settings → Job → Entry → Reply → Deed
busy p s j entry reply = Enters (record { before = state2 p s; entry = entry; reply = reply; behind = record (state2 p s) { jobs = j ∷ [] } })

abbrev pub part_waits : Policy → Settings → Job → Key → Part
part_waits p s j key = part (turn.Bytes 1 72) packet_bytes (
    busy p s j (entries.TakeOut 1) (replies.Out []) ∷ busy p s j (entries.Heard 1 (Whole packet)) (replies.Job (record { job = 1; switch = 1; key = key }))
    ∷ busy p s j entries.OpenJobs (replies.Count 0)
    ∷ [])

abbrev pub part_later : Policy → Settings → Recorded → Decision → Learnt → Part
part_later p s run decision what = part (turn.Control 5) quit_bytes (
    Does (acts.Takes 1 answer (sends.Took 166)) ∷ enters p s (entries.TakeOut 1) (replies.Out answer)
    ∷ enters p s (entries.Commit 1 run) (replies.Answered decision what)
    ∷ [])

abbrev pub later_parts : Policy → Settings → Job → Key → Recorded → Decision → Learnt → List Part
later_parts p s j key run decision what =
    part_later p s run decision what ∷ part_waits p s j key ∷ part_barrier p s ∷ part_features p s ∷ part2 p s ∷ part1 p s ∷ []

abbrev pub LaterIsDone : Type 0
LaterIsDone =
    (p : Policy) (s : Settings) (j : Job) (key : Key) (run : Recorded) (decision : Decision) (what : Learnt) → s.workers ≡ 2
    → AreAtEnd Done (given_row p s) first_row (later_parts p s j key run decision what) (report (deeds_of first_row (later_parts p s j key run decision what)))

-- without workers no part ends so
abbrev pub LeftOpen : Type 0
LeftOpen =
    (p : Policy) (s : Settings) (j : Job) (key : Key) → s.workers ≡ 0
    → ¬ (IsPart (given_row p s) first_row (part_barrier p s ∷ part_features p s ∷ part2 p s ∷ part1 p s ∷ []) (part_waits p s j key))

-- ---- the packet finds too many others waiting

abbrev pub part_crowded : Policy → Settings → Part
part_crowded p s = part (turn.Bytes 1 72) packet_bytes (
    enters p s (entries.TakeOut 1) (replies.Out []) ∷ enters p s (entries.Heard 1 (Whole packet)) replies.Overload ∷ [])

abbrev pub crowded_parts : Policy → Settings → List Part
crowded_parts p s = part_crowded p s ∷ part_barrier p s ∷ part_features p s ∷ part2 p s ∷ part1 p s ∷ []

-- no more is wrong with this part, but these parts have no end
abbrev pub Crowded : Type 0
Crowded =
    (p : Policy) (s : Settings)
    → IsPart (given_row p s) first_row (part_barrier p s ∷ part_features p s ∷ part2 p s ∷ part1 p s ∷ []) (part_crowded p s)
    × ((end : ServeEnd) (text : List ℕ) → ¬ (AreAtEnd end (given_row p s) first_row (crowded_parts p s) text))

-- so it is wherever this is replied, at any end of any run
abbrev pub NoneIsCrowded : Type 0
NoneIsCrowded =
    (end : ServeEnd) (g : Given) (ahead behind : List Turn) (t : Turn) (before after : List Act) (text : List ℕ) → t.reply ≡ replies.Overload
    → ¬ (IsRun end g (ahead ++ t ∷ behind) before after text)
