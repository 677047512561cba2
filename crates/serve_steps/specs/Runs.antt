-- A run of `serve`, and what it is at each of its ends.
use Rattle.std.specs.Prelude.{◌≡◌, ◌⊎◌, ℕ, Bool, true, false, List, [], ◌∷◌, ◌++◌, length, Some, None}
use Rattle.std.specs.List.{list_all}
use Rattle.maple_io.specs.Fronts.{IsFront}
use Rattle.maple_io.specs.Views.{SinkView}
use Rattle.maple_io.specs.declared.act.Act.{Act}
use Rattle.maple_io.specs.declared.act.Act.TheVariants as acts
use Rattle.maple_io.specs.Boards.{BoardView, BoardFailed, NoBoardFailed}
use Rattle.report_text.specs.declared.line.ScriptRefusal.{ScriptRefusal}
use Rattle.machine_steps.specs.Histories.{Leads, Turn}
use Rattle.machine_steps.specs.Machine.{State, opening}
use Rattle.world_steps.specs.Worlds.{World}
use Rattle.world_steps.specs.Runs.{Event as WorldEvent, IsWorldRun}
use Rattle.world_steps.specs.Runs.{turns_of as world_turns}
use Rattle.world_steps.specs.Right.{IsRight}
use Rattle.serve_steps.specs.declared.end.ServeEnd.{ServeEnd}
use Rattle.serve_steps.specs.declared.end.ServeEnd.TheVariants.{Done, Script, WriteFault, BoardFault, Worn, NoMemory}
use Rattle.sim_steps.specs.Agreeing.{taken_text}
use Rattle.sim_steps.specs.Deeds.Deed.{Enters as EntersAtBench}
pub use Rattle.sim_steps.specs.Ends.{AllHadMemory, IsFull, IsSmooth, most_entries}
use Rattle.sim_steps.specs.Ends.{IsFaultOf, IsStillFor, Writes, told_by}
use Rattle.serve_steps.specs.Deeds.Deed.{Enters, Does}
use Rattle.serve_steps.specs.Deeds.{Deed, Past, gathered, turns_of, acts_of, is_open}
use Rattle.serve_steps.specs.Texts.{script_asks, script_quits, ahead_of_refused, first_refused, AreEntriesOf}
use Rattle.serve_steps.specs.Parts.{Given, Part, deeds_of, own_of, had_memory, ahead_of, AreCutAtTurns, AreOpenedOnce, has_ended, IsAsked, AreFree, IsPart, IsWorked, state_of}

-- ---- the first part

-- the board is started, with its two ports, unless a line of the start script is `quit`
abbrev pub start_by : Bool → Given → List Act
start_by true g = []
start_by false g = acts.Starts g.listen g.control ∷ []

abbrev pub start_of : Given → List Act
start_of g = start_by (script_quits g.first_line g.script) g

-- the entries of the first part that may be asked for are those of the start script's lines, up to a `quit` or a refused line
pub record IsScripted (g : Given) (first : Past) : Type 0 where
  pub asked : AreEntriesOf (ahead_of_refused (script_asks g.first_line g.script)) (own_of first)
  pub memory : list_all had_memory first ≡ true

-- the first part, where no line is refused and the board could be started
pub record IsFirst (g : Given) (first : Past) : Type 0 where
  pub scripted : IsScripted g first
  pub none_refused : first_refused (script_asks g.first_line g.script) ≡ None
  pub free : AreFree first []
  pub started : acts_of first ≡ start_of g
  pub worked : IsWorked g first

-- ---- parts

-- the first part, and all of these
abbrev pub AreParts : Given → Past → List Part → Type 0
AreParts g first [] = IsFirst g first
AreParts g first (p ∷ ahead) = IsPart g first ahead p × AreParts g first ahead

-- the lines of the report
abbrev pub report : Past → List ℕ
report past = told_by (turns_of past)

-- those that were taken
abbrev pub taken_in : Deed → List ℕ
taken_in (Enters t) = taken_text (EntersAtBench t.entry t.reply)
taken_in (Does act) = []

abbrev pub taken_report : Past → List ℕ
taken_report past = gathered taken_in past

-- nothing is left to do: no packet waits for an answer, and what the machine had for each open session was taken out
abbrev pub IsAtRest : Given → Past → Type 0
IsAtRest g past = IsStillFor (λ (c : ℕ). is_open c past ≡ true) (state_of g past)

-- ---- the ends

-- the run came to its end: at the board's end, or at a line `quit` of the control text, or of the start script
pub record IsDone (g : Given) (first : Past) (parts : List Part) (text : List ℕ) : Type 0 where
  pub all : AreParts g first parts
  pub ended : has_ended g first parts ≡ true
  pub rest : IsAtRest g (deeds_of first parts)
  pub text_is : text ≡ report (deeds_of first parts)

-- only the start script was carried out, up to a refused line: the board wasn't started, and that is all
pub record IsScriptOnly (g : Given) (first : Past) (parts : List Part) : Type 0 where
  pub scripted : IsScripted g first
  pub free : AreFree first []
  pub not_started : acts_of first ≡ []
  pub no_turn : parts ≡ []

-- a line of it was refused, ahead of any `quit`
pub record IsRefused (g : Given) (line : ℕ) (kind : ScriptRefusal) (first : Past) (parts : List Part) (text : List ℕ) : Type 0 where
  pub refused : first_refused (script_asks g.first_line g.script) ≡ Some (line, kind)
  pub only : IsScriptOnly g first parts
  pub text_is : text ≡ report first

-- the part in which a run broke off: of what was done in it nothing is said
abbrev pub ArePartsButLast : Given → Past → List Part → Type 0
ArePartsButLast g first [] = Unit {0}
ArePartsButLast g first (last ∷ ahead) = AreParts g first ahead

-- the report of all parts but the last was written
abbrev pub IsWrittenButLast : Past → List Part → List ℕ → Type 0
IsWrittenButLast first [] text = Unit {0}
IsWrittenButLast first (last ∷ ahead) text = IsFront (report (deeds_of first ahead)) text

-- the run broke off in its last part, and a front of the report was written, that of the parts ahead at least
pub record IsBrokenOff (g : Given) (first : Past) (parts : List Part) (text : List ℕ) : Type 0 where
  pub ahead : ArePartsButLast g first parts
  pub written : IsWrittenButLast first parts text
  pub front : IsFront text (report (deeds_of first parts))

-- the board failed at its start, or as it was asked for the next turn: in the last part all was done that was asked for
abbrev pub IsLastAsked : Given → Past → List Part → Type 0
IsLastAsked g first [] =
    IsScripted g first × (first_refused (script_asks g.first_line g.script) ≡ None) × AreFree first []
    × ((acts_of first ≡ []) ⊎ (acts_of first ≡ start_of g))
IsLastAsked g first (last ∷ ahead) = IsAsked g first ahead last × AreFree last.done (ahead_of first ahead last)

pub record StopsAtBoard (g : Given) (first : Past) (parts : List Part) : Type 0 where
  pub ahead : ArePartsButLast g first parts
  pub last : IsLastAsked g first parts
  pub not_ended : has_ended g first parts ≡ false

pub record IsFailed (g : Given) (first : Past) (parts : List Part) (text : List ℕ) : Type 0 where
  pub stops : StopsAtBoard g first parts
  pub text_is : text ≡ report (deeds_of first parts)

-- the history is so long that no further entry is taken
pub record IsWorn (g : Given) (first : Past) (parts : List Part) (text : List ℕ) : Type 0 where
  pub broken : IsBrokenOff g first parts text
  pub long : IsFull (length (turns_of (deeds_of first parts)))

abbrev pub EndsWith : ServeEnd → Given → Past → List Part → List ℕ → Type 0
EndsWith Done g first parts text = IsDone g first parts text
EndsWith (Script line kind) g first parts text = IsRefused g line kind first parts text
EndsWith WriteFault g first parts text = IsBrokenOff g first parts text
EndsWith BoardFault g first parts text = IsFailed g first parts text
EndsWith Worn g first parts text = IsWorn g first parts text
EndsWith NoMemory g first parts text = IsBrokenOff g first parts text

-- the run came to its end, or to a line of the start script that is refused
abbrev pub is_whole : ServeEnd → Bool
is_whole Done = true
is_whole (Script line kind) = true
is_whole end = false

-- a run of this history that wrote this text: its parts, in which the machine's turns are the history, which is legal, and the board's acts are what its log
-- gained
pub record IsRun (end : ServeEnd) (g : Given) (history : List Turn) (before after : List Act) (text : List ℕ) : Type 0 where
  pub first : Past
  pub parts : List Part
  pub turns : turns_of (deeds_of first parts) ≡ history
  pub last : State
  pub legal : Leads (opening g.policy g.settings) history last
  pub cut : AreCutAtTurns first parts
  pub opened : AreOpenedOnce first parts
  pub log : after ≡ before ++ acts_of (deeds_of first parts)
  pub ends : EndsWith end g first parts text
  pub smooth : IsSmooth (is_whole end) history

-- ---- causes

-- a run ends by a fault only where its count rose; where it ends well, or at a refused line, no call of the board failed, and no write did but where that
-- ends it. Behind a failed call of the board the report is still taken and written, so a write may fail then, or memory run out
pub record HasCause (end : ServeEnd) (board_old board_new : BoardView) (to_old to_new : SinkView) : Type 0 where
  pub board : end ≡ BoardFault → BoardFailed board_old board_new
  pub no_board : is_whole end ≡ true → NoBoardFailed board_old board_new
  pub writes : IsFaultOf (end ≡ WriteFault) to_old to_new

-- ---- the world

-- each run of the world with this history is right: over a switch that keeps the specification each hit and each answer is as it says
abbrev pub IsRightInWorlds : Given → Past → Type 0
IsRightInWorlds g past = (es : List WorldEvent) (w : World) → IsWorldRun g.policy g.settings es w → world_turns es ≡ turns_of past → IsRight es

-- ---- a call

-- how a run ends that wrote this text, by some history, meant as that of the call's hall at its close; each run of the world with it is right
pub record HasEnded (end : ServeEnd) (g : Given) (before after : List Act) (text : List ℕ) : Type 0 where
  pub history : List Turn
  pub run : IsRun end g history before after text
  pub right : IsRightInWorlds g (deeds_of run.first run.parts)

-- how it ends over a board and a sink
abbrev pub HasRun : ServeEnd → Given → BoardView → BoardView → SinkView → SinkView → Type 0
HasRun end g board_old board_new to_old to_new = Writes (λ (text : List ℕ). HasEnded end g board_old.log board_new.log text) to_old to_new
