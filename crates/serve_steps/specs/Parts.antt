-- The parts of a run: what was done behind a turn of the board, and the four points that hold of it.
use Rattle.std.specs.Prelude.{◌≡◌, ◌⊎◌, ℕ, ◌==◌, Bool, true, false, not, ◌&&◌, ◌||◌, if◌then◌else◌, map, List, [], ◌∷◌, ◌++◌, Option, Some, None}
use Rattle.std.specs.List.{list_any, list_all}
use Rattle.maple_base.specs.declared.decision.Settings.{Settings}
use Rattle.maple_io.specs.Fronts.{IsFront}
use Rattle.policy_lang.specs.declared.Policy.{Policy}
use Rattle.maple_io.specs.declared.act.Act.TheVariants as acts
use Rattle.maple_io.specs.declared.board.Turn.{Turn as BoardTurn}
use Rattle.maple_io.specs.declared.board.Turn.TheVariants as turn
use Rattle.maple_io.specs.declared.board.Sent.{Sent}
use Rattle.maple_io.specs.declared.board.Sent.TheVariants as sends
use Rattle.maple_io.specs.Boards.{sent, control_text, was_closed}
use Rattle.maple_io.specs.Turns.{OpensAnew}
use Rattle.of10_stream.specs.Cut.{IsOpen}
use Rattle.machine_steps.specs.declared.entry.Entry.{Entry}
use Rattle.machine_steps.specs.declared.entry.Entry.TheVariants as entries
use Rattle.machine_steps.specs.declared.entry.Input.{Input}
use Rattle.machine_steps.specs.declared.reply.Reply.{Reply}
use Rattle.machine_steps.specs.declared.reply.Reply.TheVariants as replies
use Rattle.machine_steps.specs.Machine.{State, opening}
use Rattle.machine_sharing.specs.Sharing.{ThreeStale}
use Rattle.world_steps.specs.Worlds.{lacks_memory}
use Rattle.sim_steps.specs.Agreeing.{AreCut}
use Rattle.serve_steps.specs.Deeds.{Deed, Past, acts_of, calls_of, state_behind, is_asked, is_others, is_over, is_open, was_accepted, was_cut, ends, ends_by_link, bytes_of, inputs_of, taken_of, takes_out, last_answer, has_failed}
use Rattle.serve_steps.specs.Deeds.Deed.{Enters, Does}
use Rattle.serve_steps.specs.Texts.{AreEntriesOf, asks_more, asks_last, control_quits, script_quits}

-- what is given to a run: the policy, the settings, the bytes of the start script, the number of its first line, and the ports for switches and for control
-- text
pub record Given : Type 0 where
  pub policy : Policy
  pub settings : Settings
  pub script : List ℕ
  pub first_line : ℕ
  pub listen : ℕ
  pub control : ℕ

abbrev pub given : Policy → Settings → List ℕ → ℕ → ℕ → ℕ → Given
given policy settings script first_line listen control = record {
  policy = policy;
  settings = settings;
  script = script;
  first_line = first_line;
  listen = listen;
  control = control;
}

-- a turn of the board with its bytes, and what was done behind it, up to the next turn
pub record Part : Type 0 where
  pub given : BoardTurn
  pub bytes : List ℕ
  pub done : Past

-- all that was done in the first part, which is the start script's, and in these, of which the newest comes first; the turns stand ahead of what was done
-- behind them
abbrev pub deeds_of : Past → List Part → Past
deeds_of first [] = first
deeds_of first (p ∷ ahead) = p.done ++ Does (acts.Gives p.given p.bytes) ∷ deeds_of first ahead

-- the deeds that stand ahead of what was done behind the turn, the turn itself too
abbrev pub ahead_of : Past → List Part → Part → Past
ahead_of first ahead p = Does (acts.Gives p.given p.bytes) ∷ deeds_of first ahead

abbrev pub is_turn : Deed → Bool
is_turn (Does (acts.Gives t bytes)) = true
is_turn deed = false

abbrev pub is_start : Deed → Bool
is_start (Does (acts.Starts listen control)) = true
is_start deed = false

abbrev pub is_quiet : Deed → Bool
is_quiet d = not (is_turn d || is_start d)

-- the board's log is cut at its turns: the board gives none within a part, and is started in the first part alone
abbrev pub AreCutAtTurns : Past → List Part → Type 0
AreCutAtTurns first [] = list_any is_turn first ≡ false
AreCutAtTurns first (p ∷ ahead) = (list_all is_quiet p.done ≡ true) × AreCutAtTurns first ahead

-- the board opens each number once, as it promises
abbrev pub AreOpenedOnce : Past → List Part → Type 0
AreOpenedOnce first [] = Unit {0}
AreOpenedOnce first (p ∷ ahead) = OpensAnew p.given (acts_of (deeds_of first ahead)) × AreOpenedOnce first ahead

-- of each deed of a part, with what was done before it, this holds
abbrev pub EachBehind : (Deed → Past → Type 0) → Past → Past → Type 0
EachBehind P [] ahead = Unit {0}
EachBehind P (d ∷ done) ahead = P d (done ++ ahead) × EachBehind P done ahead

-- ---- failed sends

abbrev pub due_by : Deed → Option ℕ → Option ℕ
due_by (Does (acts.Takes c bytes sends.Failed)) before = Some c
due_by (Does act) before = None
due_by (Enters t) before = if is_others t.entry then before else None

-- the connection that the last send failed for, while nothing was done behind it but what threads beside the driver may
abbrev pub due : Past → Option ℕ
due [] = None
due (d ∷ done) = due_by d (due done)

abbrev pub ends_due : Option ℕ → Entry → Bool
ends_due (Some c) (entries.Gone d fault) = d == c && fault
ends_due other entry = false

-- the machine is told that a send failed
abbrev pub is_due : Deed → Past → Bool
is_due (Enters t) done = ends_due (due done) t.entry
is_due (Does act) done = false

abbrev pub keeps_due : Option ℕ → Deed → Bool
keeps_due None d = true
keeps_due (Some c) (Enters t) = is_others t.entry || ends_due (Some c) t.entry
keeps_due (Some c) (Does act) = false

-- behind each failed send the machine is told of it, with nothing between but what threads beside the driver may do
abbrev pub all_told : Past → Bool
all_told [] = true
all_told (d ∷ done) = keeps_due (due done) d && all_told done

-- ---- the first point: what is asked for

abbrev pub entry_if : Bool → Entry → List Entry
entry_if asked entry = if asked then entry ∷ [] else []

abbrev pub own_in : Deed → Past → List Entry
own_in (Enters t) done = entry_if (is_asked t.entry && not (is_due (Enters t) done)) t.entry
own_in (Does act) done = []

-- the entries that the turn asks for itself, the first one first: those that may be asked for, but those that tell of failed sends
abbrev pub own_of : Past → List Entry
own_of [] = []
own_of (d ∷ done) = own_of done ++ own_in d done

-- on a connection whose session is open these bytes complete these inputs, up to one that ends it: they come next in what all that came on it is cut into. The
-- others are passed over
pub record AreHeardNext (c : ℕ) (before : Past) (bytes : List ℕ) (after : Past) (heard : List Entry) : Type 0 where
  pub inputs : List Input
  pub rest : List ℕ
  pub entries_are : heard ≡ map (entries.Heard c) inputs
  pub cut : AreCut 0 (inputs_of c before ++ inputs) (bytes_of c before ++ bytes) rest
  pub up_to : (is_over c after ≡ true) ⊎ IsOpen rest

abbrev pub AreHeard : Bool → ℕ → Past → List ℕ → Past → List Entry → Type 0
AreHeard true c before bytes after heard = AreHeardNext c before bytes after heard
AreHeard false c before bytes after heard = heard ≡ []

-- what a turn asks for, behind what was done before it; `after` is all that was done up to the end of its part
abbrev pub Asks : Past → BoardTurn → List ℕ → Past → List Entry → Type 0
Asks before (turn.Opened c) bytes after asked = asked ≡ entries.Open c ∷ []
Asks before (turn.Bytes c n) bytes after asked = AreHeard (is_open c before) c before bytes after asked
Asks before (turn.Closed c) bytes after asked = asked ≡ entries.Gone c false ∷ []
Asks before (turn.Broken c) bytes after asked = asked ≡ entries.Gone c true ∷ []
Asks before (turn.Control n) bytes after asked = AreEntriesOf (asks_more (control_text (acts_of before)) bytes) asked
Asks before turn.Idle bytes after asked = asked ≡ []
Asks before turn.End bytes after asked = AreEntriesOf (asks_last (control_text (acts_of before))) asked
Asks before turn.Failed bytes after asked = ⊥
Asks before turn.NoMemory bytes after asked = ⊥

-- memory didn't run out for an entry that is asked for
abbrev pub had_memory : Deed → Bool
had_memory (Enters t) = not (is_asked t.entry && lacks_memory t.reply)
had_memory (Does act) = true

abbrev pub hears_open : Entry → Past → Bool
hears_open (entries.Heard c input) past = is_open c past
hears_open entry past = true

-- a connection is heard only while its session is open
abbrev pub HearsOpen : Deed → Past → Type 0
HearsOpen (Enters t) past = hears_open t.entry past ≡ true
HearsOpen (Does act) past = Unit {0}

-- the run came to its end: the board's control text did, or a line of it is `quit`
abbrev pub is_last : BoardTurn → List ℕ → Bool
is_last turn.End text = true
is_last t text = control_quits text

abbrev pub has_ended : Given → Past → List Part → Bool
has_ended g first [] = script_quits g.first_line g.script
has_ended g first (p ∷ ahead) = is_last p.given (control_text (acts_of (deeds_of first (p ∷ ahead))))

-- behind a turn the entries that may be asked for are those that it asks for, and besides only those that tell of failed sends
pub record IsAsked (g : Given) (first : Past) (ahead : List Part) (p : Part) : Type 0 where
  pub goes_on : has_ended g first ahead ≡ false
  pub asked : Asks (deeds_of first ahead) p.given p.bytes (deeds_of first (p ∷ ahead)) (own_of p.done)
  pub memory : list_all had_memory p.done ≡ true
  pub while_open : EachBehind HearsOpen p.done (ahead_of first ahead p)
  pub told : all_told p.done ≡ true
  pub none_due : due p.done ≡ None

-- ---- the second point: what may stand freely

abbrev pub opens_job_by : ℕ → Reply → Bool
opens_job_by n (replies.Job item) = item.job == n
opens_job_by n reply = false

abbrev pub opens_job : ℕ → Deed → Bool
opens_job n (Enters t) = opens_job_by n t.reply
opens_job n (Does act) = false

-- a job of this number was opened
abbrev pub was_job : ℕ → Past → Bool
was_job n past = list_any (opens_job n) past

abbrev pub fails_to_commit : Reply → Bool
fails_to_commit replies.NotOpen = true
fails_to_commit replies.NoMemory = true
fails_to_commit reply = false

-- an entry that isn't asked for may stand anywhere; a run is committed for a job that was opened, or in vain, and the machine is asked to run the policy itself
-- for a job for which three runs were stale
abbrev pub MayStand : Entry → Reply → Past → Type 0
MayStand (entries.Commit job run) reply past = (was_job job past ≡ true) ⊎ (fails_to_commit reply ≡ true)
MayStand (entries.Decide job) reply past = (was_job job past ≡ true) × ThreeStale job (calls_of past)
MayStand entry reply past = Unit {0}

abbrev pub IsFree : Deed → Past → Type 0
IsFree (Enters t) past = MayStand t.entry t.reply past
IsFree (Does act) past = Unit {0}

-- each entry is one that may be asked for or one that may stand there
abbrev pub AreFree : Past → Past → Type 0
AreFree done ahead = EachBehind IsFree done ahead

-- ---- the third point: what is delivered

abbrev pub is_taken_by : Bool → List Entry → Bool → Bool
is_taken_by true own before = true
is_taken_by false [] before = before
is_taken_by false (e ∷ own) before = false

-- what the machine has for a connection is taken out, and none of the entries that the turn asks for stands behind that
abbrev pub is_taken : ℕ → Past → Bool
is_taken c [] = false
is_taken c (d ∷ done) = is_taken_by (takes_out c d) (own_in d done) (is_taken c done)

-- a session that was opened ended here otherwise than by its link
abbrev pub ended_here : ℕ → Past → Past → Bool
ended_here c done after = list_any (ends c) done && not (list_any (ends_by_link c) done) && was_accepted c after

-- the session is open at the end of the part, or ended in it otherwise than by its link
abbrev pub is_served : ℕ → Past → Past → Bool
is_served c done after = is_open c after || ended_here c done after

-- a send may be made only of what comes next in what was taken out, and ahead of the connection's close, which is made once
abbrev pub SendsNext : Deed → Past → Type 0
SendsNext (Does (acts.Takes c bytes answer)) past = IsFront (sent c (acts_of past) ++ bytes) (taken_of c past) × (was_closed c (acts_of past) ≡ false)
SendsNext (Does (acts.Closes c)) past = was_closed c (acts_of past) ≡ false
SendsNext d past = Unit {0}

abbrev pub is_not_yet : Option Sent → Bool
is_not_yet (Some sends.NotYet) = true
is_not_yet answer = false

abbrev pub held_by : Option Sent → Bool → Bool → Bool
held_by None ended_there before = before
held_by (Some sends.NotYet) ended_there before = ended_there
held_by (Some answer) ended_there before = false

-- the last send to a connection found no room, and was made in the part in which its session ended
abbrev pub was_held : ℕ → List Part → Bool
was_held c [] = false
was_held c (p ∷ ahead) = held_by (last_answer c p.done) (list_any (ends c) p.done) (was_held c ahead)

-- or in the newest part
abbrev pub is_held : ℕ → Part → List Part → Bool
is_held c p ahead = is_not_yet (last_answer c p.done) || was_held c (p ∷ ahead)

-- all that was taken out was sent; or a send failed, or the session ended by its link, or this holds
abbrev pub IsSentUnless : Type 0 → ℕ → Past → Type 0
IsSentUnless Held c past = (sent c (acts_of past) ≡ taken_of c past) ⊎ ((has_failed c past ≡ true) ⊎ ((was_cut c past ≡ true) ⊎ Held))

-- or the last send found no room
abbrev pub IsSent : ℕ → Past → List Part → Part → Type 0
IsSent c first ahead p = IsSentUnless (is_held c p ahead ≡ true) c (deeds_of first (p ∷ ahead))

-- what the machine has for each session is taken out behind the last entry that the turn asks for, and sent, in order; and a connection is closed just where
-- its session is over
pub record IsDelivered (first : Past) (ahead : List Part) (p : Part) : Type 0 where
  pub taken : (c : ℕ) → is_served c p.done (deeds_of first (p ∷ ahead)) ≡ true → is_taken c p.done ≡ true
  pub in_order : EachBehind SendsNext p.done (ahead_of first ahead p)
  pub all_sent : (c : ℕ) → IsSent c first ahead p
  pub closed : (c : ℕ) → was_closed c (acts_of (deeds_of first (p ∷ ahead))) ≡ is_over c (deeds_of first (p ∷ ahead))

-- ---- the fourth point: jobs

-- the machine's state behind these deeds
abbrev pub state_of : Given → Past → State
state_of g past = state_behind (opening g.policy g.settings) past

-- without workers no packet waits for an answer
abbrev pub IsWorked : Given → Past → Type 0
IsWorked g past = g.settings.workers ≡ 0 → (state_of g past).jobs ≡ []

-- ---- all four

pub record IsPart (g : Given) (first : Past) (ahead : List Part) (p : Part) : Type 0 where
  pub asked : IsAsked g first ahead p
  pub free : AreFree p.done (ahead_of first ahead p)
  pub delivered : IsDelivered first ahead p
  pub worked : IsWorked g (deeds_of first (p ∷ ahead))
