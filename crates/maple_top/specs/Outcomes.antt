-- What comes of a run: its status, what it writes, and what its switches are behind it.
use Rattle.std.specs.Prelude.{◌≡◌, ◌⊎◌, ℕ, ◌<◌, true, List, [], length, Option, Some, None}
use Rattle.maple_base.specs.declared.decision.Settings.{Settings}
use Rattle.maple_io.specs.Boards.{BoardFailed, BoardView, NoBoardFailed}
use Rattle.maple_io.specs.Views.{SinkView, SourceView}
use Rattle.policy_lang.specs.declared.Policy.{Policy}
use Rattle.policy_text.specs.Printed.{policy_text}
use Rattle.report_text.specs.declared.line.Line.{Line}
use Rattle.report_text.specs.declared.line.ScriptRefusal.{ScriptRefusal}
use Rattle.report_text.specs.Report.{spelled}
use Rattle.device_port.specs.Devices.{Meaning}
use Rattle.gen_script.specs.Summary.{summary_of}
use Rattle.sim_driver.specs.declared.drive.SimEnd.{SimEnd}
use Rattle.sim_driver.specs.declared.drive.SimEnd.TheVariants as sims
use Rattle.sim_driver.specs.Runs.{HasEnded as HasSimEnded, given as sim_given}
use Rattle.serve_steps.specs.declared.end.ServeEnd.{ServeEnd}
use Rattle.serve_steps.specs.declared.end.ServeEnd.TheVariants as ends
use Rattle.serve_steps.specs.Parts.{Given as ServeGiven, given as serve_given}
use Rattle.serve_steps.specs.Runs.{HasEnded as HasServeEnded, is_whole}
use Rattle.command_words.specs.declared.words.Command.{Command}
use Rattle.command_words.specs.declared.words.Command.TheVariants.{Sim, Check, Gen, Serve}
use Rattle.maple_top.specs.declared.status.Status.{Status}
use Rattle.maple_top.specs.declared.status.Status.TheVariants as status
use Rattle.maple_top.specs.Due.{AreReading, AreWords, HasCommand, HasNone, HasPolicy, IsFit, IsUnread, OfInput, most_bytes, refused}
use Rattle.maple_top.specs.Ends.{IsOrCut, WroteSome, closing, status_of}
use Rattle.maple_top.specs.Refusals.{IsRefusal}
use Rattle.maple_top.specs.Statuses.{last_line}
use Rattle.maple_top.specs.Texts.{Texts, reads, texts_of}

-- what a run has for switches: the devices, from place 1 on, and a board
pub record Switches : Type 0 where
  pub devices : List Meaning
  pub board : BoardView

abbrev pub switches : List Meaning → BoardView → Switches
switches devices board = record { devices = devices; board = board }

-- ---- under a policy

-- how a script ended over devices, as a run of `serve` would
abbrev pub end_of : SimEnd → ServeEnd
end_of sims.Done = ends.Done
end_of (sims.Script line kind) = ends.Script line kind
end_of sims.WriteFault = ends.WriteFault
end_of sims.NoMemory = ends.NoMemory
end_of sims.Worn = ends.Worn

-- a script ended so over the devices, having made this report; no call of the board was made
pub record Simulates (end : ServeEnd) (policy : Policy) (settings : Settings) (texts : Texts) (before after : Switches) (report : List ℕ) : Type 0 where
  pub sim_end : SimEnd
  pub end_is : end ≡ end_of sim_end
  pub ended : HasSimEnded sim_end (sim_given policy settings before.devices texts.script texts.first_line) after.devices report
  pub unserved : after.board ≡ before.board

-- the switches of the board were served so, having made this report; it ends by the board just where a call of that failed; no call of a device was made
pub record Serves (end : ServeEnd) (g : ServeGiven) (before after : Switches) (report : List ℕ) : Type 0 where
  pub ended : HasServeEnded end g before.board.log after.board.log report
  pub board : end ≡ ends.BoardFault → BoardFailed before.board after.board
  pub no_board : is_whole end ≡ true → NoBoardFailed before.board after.board
  pub uncalled : after.devices ≡ before.devices

-- what a command does: `sim` and `gen` run the script over the devices; `check` prints the policy; `serve` serves the switches of the board
abbrev pub Did : Command → ServeEnd → Policy → Texts → Switches → Switches → List ℕ → Type 0
Did (Sim settings) end policy texts before after report = Simulates end policy settings texts before after report
Did (Gen number settings) end policy texts before after report = Simulates end policy settings texts before after report
Did Check end policy texts before after report = (end ≡ ends.Done) × (after ≡ before) × (report ≡ policy_text policy)
Did (Serve listen control settings) end policy texts before after report =
    Serves end (serve_given policy settings texts.script texts.first_line listen control) before after report

-- it comes to its end where no line of the script is refused, and to a refused line just where that is the first
abbrev pub EndsAtRefused : ServeEnd → Option (ℕ × ScriptRefusal) → Type 0
EndsAtRefused ends.Done first = first ≡ None
EndsAtRefused (ends.Script line kind) first = first ≡ Some (line, kind)
EndsAtRefused end first = Unit {0}

-- a command was run under a policy, ended so, and made this report
pub record Ran (command : Command) (end : ServeEnd) (policy : Policy) (texts : Texts) (before after : Switches) (report : List ℕ) : Type 0 where
  pub did : Did command end policy texts before after report
  pub refused_at : EndsAtRefused end (refused command (length before.devices) texts)

-- what a command writes of its report as it goes: `sim` and `serve` all of it
abbrev pub kept_of : Command → List ℕ → List ℕ
kept_of (Sim settings) report = report
kept_of (Serve listen control settings) report = report
kept_of command report = []

-- what it writes last: `check` the printed form; `gen` the report's summary, where it came to its end; else the last line of such an end
abbrev pub last_of : Command → ServeEnd → List ℕ → List ℕ
last_of Check end report = report
last_of (Gen number settings) ends.Done report = summary_of report
last_of command end report = closing end

-- ---- what a run comes to

-- nothing was run, and only this text is written
pub record IsText (before after : Switches) (text kept last : List ℕ) : Type 0 where
  pub same : after ≡ before
  pub nothing : kept ≡ []
  pub text_is : last ≡ text

-- where the command reads its input, that was read to its end, and isn't too long
abbrev pub IsRead : Type 0 → Command → List ℕ → Type 0
IsRead ended command input = reads command ≡ true → ended × IsFit input

-- the text of the command's policy is of none, and the line that tells where and why is written
pub record RefusesPolicy (ended : Type 0) (words : List (List ℕ)) (input : List ℕ) (before after : Switches) (kept last : List ℕ) : Type 0 where
  pub command : Command
  pub has_command : HasCommand command words
  pub read : IsRead ended command input
  pub none : HasNone (texts_of command input)
  pub line : Line
  pub refusal : IsRefusal (texts_of command input).policy line
  pub is_text : IsText before after (spelled line) kept last

-- the command was run under its policy
pub record RunsPolicy (ended : Type 0) (words : List (List ℕ)) (input : List ℕ) (before after : Switches) (due : Status) (kept last : List ℕ) : Type 0 where
  pub command : Command
  pub has_command : HasCommand command words
  pub read : IsRead ended command input
  pub policy : Policy
  pub has_policy : HasPolicy policy (texts_of command input)
  pub end : ServeEnd
  pub report : List ℕ
  pub ran : Ran command end policy (texts_of command input) before after report
  pub status_is : due ≡ status_of end
  pub kept_is : kept ≡ kept_of command report
  pub last_is : last ≡ last_of command end report

-- the status that a run comes to, what it writes as it goes, and what it writes last. `ended` says that the input has no more, `unread` that a read failed
abbrev pub Comes : Type 0 → Type 0 → List (List ℕ) → List ℕ → Switches → Switches → Status → List ℕ → List ℕ → Type 0
Comes ended unread words input before after status.Usage kept last = ¬ (AreWords words) × IsText before after (last_line status.Usage) kept last
Comes ended unread words input before after status.ReadFault kept last =
    AreReading words × unread × IsText before after (last_line status.ReadFault) kept last
Comes ended unread words input before after status.TooLong kept last =
    AreReading words × (most_bytes < length input) × IsText before after (last_line status.TooLong) kept last
Comes ended unread words input before after status.Policy kept last = RefusesPolicy ended words input before after kept last
Comes ended unread words input before after status.NoMemory kept last =
    IsText before after [] kept last ⊎ RunsPolicy ended words input before after status.NoMemory kept last
Comes ended unread words input before after due kept last = RunsPolicy ended words input before after due kept last

-- a run that ends with this status wrote this text: it came to the status, or was cut short by it as it wrote
pub record Results (ended unread : Type 0) (words : List (List ℕ)) (input : List ℕ) (before after : Switches) (result : Status) (text : List ℕ) : Type 0 where
  pub came_to : Status
  pub kept : List ℕ
  pub last : List ℕ
  pub comes : Comes ended unread words input before after came_to kept last
  pub written : IsOrCut came_to result kept last text

-- the same of an input, as far as it is known, with what was written
abbrev pub ResultsBy : SourceView → SourceView → SinkView → SinkView → List (List ℕ) → Switches → Switches → Status → Type 0
ResultsBy source left old new words before after result =
    OfInput source left (λ ended input. WroteSome old new (Results ended (IsUnread source left) words input before after result))
