-- What holds of all runs.
use Rattle.std.specs.Prelude.{◌≡◌, ◌↔◌, ℕ, Bool, if◌then◌else◌, true, false, map, List, [], ◌∷◌, ◌++◌, None}
use Rattle.std.specs.Option.{option_to_list}
use Rattle.maple_io.specs.Fronts.{IsFront}
use Rattle.maple_io.specs.declared.act.Act.{Act}
use Rattle.maple_io.specs.declared.board.Turn.TheVariants as turn
use Rattle.maple_io.specs.Boards.{sent}
use Rattle.board_lines.specs.declared.control_item.ControlItem.{ControlItem}
use Rattle.board_lines.specs.ControlItems.{items_of}
use Rattle.board_lines.specs.KeptTexts.{kept_text}
use Rattle.board_lines.specs.Laws.{given_by, held_behind}
use Rattle.board_lines.specs.Readings.{beginning, last_item}
use Rattle.of10_stream.specs.Cut.{IsOpen}
use Rattle.sim_steps.specs.Agreeing.{AreCut}
use Rattle.sim_steps.specs.Ends.{ReportIsTold as ReportIsToldOf}
use Rattle.machine_steps.specs.declared.entry.Entry.{Entry}
use Rattle.machine_steps.specs.declared.entry.Entry.TheVariants as entries
use Rattle.machine_steps.specs.Histories.{Turn, IsTurn, Leads}
use Rattle.machine_steps.specs.Machine.{State, opening}
use Rattle.machine_steps.specs.Sound.{IsSound}
use Rattle.history_lock.specs.Histories.{AreAllowed}
use Rattle.machine_sharing.specs.Legal.{call_of}
use Rattle.machine_sharing.specs.Sharing.{Allows, Call}
use Rattle.serve_steps.specs.Deeds.Deed.{Enters, Does}
use Rattle.serve_steps.specs.Deeds.{Past, acts_of, calls_of, is_others, is_over, state_behind, taken_of, turns_of, last_answer, was_cut, bytes_of, inputs_of, is_open}
use Rattle.serve_steps.specs.Texts.{Ask, IsEntryOf, asks_last, asks_more, asks_of, control_asks, ended_items, quits}
use Rattle.serve_steps.specs.Texts.Ask.{Renews}
use Rattle.serve_steps.specs.Parts.{AreFree, Given, Part, SendsNext, EachBehind, IsAsked, deeds_of, own_of, IsDelivered, AreCutAtTurns, AreOpenedOnce, has_ended}
use Rattle.serve_steps.specs.Runs.{AreParts, ArePartsButLast, IsAtRest, IsBrokenOff, IsLastAsked, IsRightInWorlds, report, taken_report, IsScriptOnly}

-- what was sent to a connection is a front of what the machine gave for it
abbrev pub SentIsFront : ℕ → Past → Type 0
SentIsFront c past = IsFront (sent c (acts_of past)) (taken_of c past)

-- that stays so behind deeds of which each send is of what comes next: so it holds at every moment of a part
abbrev pub FrontStays : Type 0
FrontStays = (c : ℕ) (done ahead : Past) → EachBehind SendsNext done ahead → SentIsFront c ahead → SentIsFront c (done ++ ahead)

-- and at the end of each part of a run
abbrev pub AreFronts : Type 0
AreFronts = (g : Given) (first : Past) (parts : List Part) → AreParts g first parts → (c : ℕ) → SentIsFront c (deeds_of first parts)

-- where nothing was ever handed to the board for a connection, and its session wasn't ended by its link, the machine gave nothing for it: so a part of a run
-- that takes out and never sends is none
abbrev pub NeverSends : Type 0
NeverSends =
    (first : Past) (ahead : List Part) (p : Part) (c : ℕ)
    → IsDelivered first ahead p → last_answer c (deeds_of first (p ∷ ahead)) ≡ None → was_cut c (deeds_of first (p ∷ ahead)) ≡ false
    → taken_of c (deeds_of first (p ∷ ahead)) ≡ []

-- the states that deeds tell are those of a legal history
abbrev pub StatesAreTold : Type 0
StatesAreTold = (m last : State) (past : Past) → Leads m (turns_of past) last → state_behind m past ≡ last

-- and one more turn goes on from the last of them
abbrev pub GoesOnFrom : Type 0
GoesOnFrom =
    (m last : State) (past : Past) (t : Turn) → Leads m (turns_of past) last → t.before ≡ last → IsTurn t
    → Leads m (turns_of (Enters t ∷ past)) t.behind

-- a board's log goes on likewise
abbrev pub LogGoesOn : Type 0
LogGoesOn = (log : List Act) (past : Past) (act : Act) → log ++ acts_of (Does act ∷ past) ≡ (log ++ acts_of past) ++ act ∷ []

-- where the session of a connection is over, bytes on it ask for nothing
abbrev pub NoneHeardBehindEnd : Type 0
NoneHeardBehindEnd =
    (g : Given) (first : Past) (ahead : List Part) (bytes : List ℕ) (done : Past) (c n : ℕ)
    → is_over c (deeds_of first ahead) ≡ true → IsAsked g first ahead (record { given = turn.Bytes c n; bytes = bytes; done = done }) → own_of done ≡ []

-- ---- turns of other threads

-- what these may enter, at any moment of a history
abbrev pub AllowedAreOthers : Type 0
AllowedAreOthers = (log : List Call) (entry : Entry) → Allows log entry → is_others entry ≡ true

-- these turns were made behind what was done
abbrev pub entered : List Turn → Past → Past
entered [] past = past
entered (t ∷ ts) past = entered ts (Enters t ∷ past)

-- they stand behind the history's
abbrev pub TurnsGoOn : Type 0
TurnsGoOn = (ts : List Turn) (past : Past) → turns_of (entered ts past) ≡ turns_of past ++ ts

-- what they entered behind a part may stand there
abbrev pub OthersAreFree : Type 0
OthersAreFree =
    (g : Given) (done ahead : Past) (now last : State) (others : List Turn) → Leads (opening g.policy g.settings) (turns_of (done ++ ahead)) now
    → Leads now others last → AreAllowed Allows (calls_of (done ++ ahead)) (map call_of others) → AreFree done ahead → AreFree (entered others done) ahead

-- ---- turns of other threads behind all that was done

-- these turns were made behind all that was done in a run: they stand in its newest part, or in the first where that is the only one
abbrev pub first_entered : List Turn → Past → List Part → Past
first_entered ts first [] = entered ts first
first_entered ts first (p ∷ ahead) = first

abbrev pub parts_entered : List Turn → List Part → List Part
parts_entered ts [] = []
parts_entered ts (p ∷ ahead) = record p { done = entered ts p.done } ∷ ahead

abbrev pub deeds_entered : List Turn → Past → List Part → Past
deeds_entered ts first parts = deeds_of (first_entered ts first parts) (parts_entered ts parts)

-- the history goes on by them, and the board's log stays
pub record StandLast (ts : List Turn) (first : Past) (parts : List Part) : Type 0 where
  pub turns : turns_of (deeds_entered ts first parts) ≡ turns_of (deeds_of first parts) ++ ts
  pub acts : acts_of (deeds_entered ts first parts) ≡ acts_of (deeds_of first parts)

abbrev pub OthersStandLast : Type 0
OthersStandLast = (ts : List Turn) (first : Past) (parts : List Part) → StandLast ts first parts

-- they are others': from the state in which the machine was behind these deeds they go on, and each entry is one that these may make
pub record OthersGoOn (g : Given) (past : Past) (others : List Turn) : Type 0 where
  pub now : State
  pub sound : IsSound now
  pub legal : Leads (opening g.policy g.settings) (turns_of past) now
  pub last : State
  pub goes_on : Leads now others last
  pub allowed : AreAllowed Allows (calls_of past) (map call_of others)

-- what is so of a run, by its first part and its others, stays so with them
abbrev pub OthersStayIn : (Given → Past → List Part → Type 0) → Type 0
OthersStayIn P =
    (g : Given) (first : Past) (parts : List Part) (others : List Turn) → OthersGoOn g (deeds_of first parts) others → P g first parts
    → P g (first_entered others first parts) (parts_entered others parts)

-- the first part and the others are parts of a run, the one too in which they stand
abbrev pub OthersStayInParts : Type 0
OthersStayInParts = OthersStayIn AreParts

-- the parts are cut at the board's turns, and it opens each number once
abbrev pub OthersStayInCut : Type 0
OthersStayInCut = OthersStayIn (λ (g : Given) (first : Past) (parts : List Part). AreCutAtTurns first parts × AreOpenedOnce first parts)

-- the run has ended, or it hasn't
abbrev pub OthersStayInEnd : Type 0
OthersStayInEnd = (ended : Bool) → OthersStayIn (λ (g : Given) (first : Past) (parts : List Part). has_ended g first parts ≡ ended)

-- the parts but the last are parts of a run, and in the last one all was done that was asked for
abbrev pub OthersStayInLastAsked : Type 0
OthersStayInLastAsked = OthersStayIn (λ (g : Given) (first : Past) (parts : List Part). ArePartsButLast g first parts × IsLastAsked g first parts)

-- only the start script was carried out, up to a refused line
abbrev pub OthersStayInScript : Type 0
OthersStayInScript = OthersStayIn IsScriptOnly

-- the run broke off, and a front of the report was written
abbrev pub OthersStayInBrokenOff : Type 0
OthersStayInBrokenOff = (text : List ℕ) → OthersStayIn (λ (g : Given) (first : Past) (parts : List Part). IsBrokenOff g first parts text)

-- nothing is left to do
abbrev pub OthersStayAtRest : Type 0
OthersStayAtRest = OthersStayIn (λ (g : Given) (first : Past) (parts : List Part). IsAtRest g (deeds_of first parts))

-- they take nothing of the report
abbrev pub OthersTakeNothing : Type 0
OthersTakeNothing =
    (g : Given) (first : Past) (parts : List Part) (others : List Turn) → OthersGoOn g (deeds_of first parts) others
    → taken_report (deeds_entered others first parts) ≡ taken_report (deeds_of first parts)

-- and where no packet waited they add nothing to it
abbrev pub OthersTellNothing : Type 0
OthersTellNothing =
    (g : Given) (first : Past) (parts : List Part) (others : List Turn) (go : OthersGoOn g (deeds_of first parts) others) → go.now.jobs ≡ []
    → report (deeds_entered others first parts) ≡ report (deeds_of first parts)

-- ---- the report is taken once more

-- what is so of a run stays so where the report is taken behind all that was done, by one turn more in the part in which others' turns stand
abbrev pub TakenStaysIn : (Given → Past → List Part → Type 0) → Type 0
TakenStaysIn P =
    (g : Given) (first : Past) (parts : List Part) (t : Turn) → t.entry ≡ entries.TakeReport → P g first parts
    → P g (first_entered (t ∷ []) first parts) (parts_entered (t ∷ []) parts)

-- the parts but the last are parts of a run, and in the last one all was done that was asked for
abbrev pub TakenStaysInLastAsked : Type 0
TakenStaysInLastAsked = TakenStaysIn (λ (g : Given) (first : Past) (parts : List Part). ArePartsButLast g first parts × IsLastAsked g first parts)

-- the parts are cut at the board's turns, and it opens each number once
abbrev pub TakenStaysInCut : Type 0
TakenStaysInCut = TakenStaysIn (λ (g : Given) (first : Past) (parts : List Part). AreCutAtTurns first parts × AreOpenedOnce first parts)

-- the run has ended, or it hasn't
abbrev pub TakenStaysInEnd : Type 0
TakenStaysInEnd = (ended : Bool) → TakenStaysIn (λ (g : Given) (first : Past) (parts : List Part). has_ended g first parts ≡ ended)

-- ---- the report

-- it is what was taken of it, and the lines that weren't taken yet
abbrev pub ReportIsTold : Type 0
ReportIsTold = ReportIsToldOf turns_of taken_report

-- ---- the control text, as it comes

-- what has ended stays, whatever comes behind it
abbrev pub EndedStays : Type 0
EndedStays = (text rest : List ℕ) → (later : List ControlItem) × (items_of (text ++ rest) ≡ ended_items text ++ later)

-- it is what a reader gives that reads the text byte by byte
abbrev pub EndedIsGiven : Type 0
EndedIsGiven = (text : List ℕ) → given_by beginning text ≡ ended_items text

-- what more of them ask for, behind those
abbrev pub asks_behind : List ControlItem → List ControlItem → List Ask
asks_behind before more = if quits before then [] else asks_of more

-- the lines that end in further bytes are what the reader gives as it goes on with these
abbrev pub LinesGoOn : Type 0
LinesGoOn = (text bytes : List ℕ) → asks_more text bytes ≡ asks_behind (ended_items text) (given_by (held_behind beginning text) bytes)

-- and what lines asked for ahead of them stays: each line asks once
abbrev pub EachAsksOnce : Type 0
EachAsksOnce = (text bytes : List ℕ) → control_asks (text ++ bytes) ≡ control_asks text ++ asks_more text bytes

-- as the text comes to its end, what the reader gives last asks
abbrev pub LastAsks : Type 0
LastAsks = (text : List ℕ) → asks_last text ≡ asks_behind (ended_items text) (option_to_list (last_item (held_behind beginning text)))

-- a policy's text asks as what is kept of it does
abbrev pub RenewsAlike : Type 0
RenewsAlike = (text : List ℕ) (entry : Entry) → IsEntryOf (Renews (kept_text text)) entry ↔ IsEntryOf (Renews text) entry

-- ---- what is heard, over a whole run

-- all that was heard of a connection is what all the bytes that came on it are cut into; what is left is no whole message, and shows no fault
pub record IsHeardOut (c : ℕ) (past : Past) : Type 0 where
  pub rest : List ℕ
  pub cut : AreCut 0 (inputs_of c past) (bytes_of c past) rest
  pub no_more : IsOpen rest

-- so it is at the end of each part for each open session: each message was heard once, in order
abbrev pub HeardIsCut : Type 0
HeardIsCut =
    (g : Given) (first : Past) (parts : List Part) → AreParts g first parts → AreCutAtTurns first parts → AreOpenedOnce first parts
    → (c : ℕ) → is_open c (deeds_of first parts) ≡ true → IsHeardOut c (deeds_of first parts)

-- ---- the world

-- whatever was done, each run of the world with its history is right
abbrev pub WorldsAreRight : Type 0
WorldsAreRight = (g : Given) (past : Past) → IsRightInWorlds g past
