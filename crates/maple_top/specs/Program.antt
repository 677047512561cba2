-- What a run of the program over its own devices has read and written.
use Rattle.std.specs.Prelude.{◌≡◌, ◌≢◌, ◌≤◌, ℕ, zero, suc, true, None, List, [], ◌∷◌, ◌++◌, length}
use Rattle.maple_io.specs.Answers.{ends as tells_end, fails, given}
use Rattle.maple_io.specs.declared.act.Act.{Act}
use Rattle.maple_io.specs.declared.answer.Answer.{Answer}
use Rattle.maple_io.specs.Boards.{BoardFailed, BoardView, NoBoardFailed}
use Rattle.maple_io.specs.Fronts.{IsFront}
use Rattle.maple_io.specs.Views.{NoReadFailed, NoWriteFailed, ReadFailed, SinkView, SourceView, WriteFailed, Wrote}
use Rattle.policy_lang.specs.declared.Policy.{Policy}
use Rattle.policy_text.specs.Printed.{policy_text}
use Rattle.device_port.specs.Devices.{Meaning}
use Rattle.machine_steps.specs.Histories.{Turn}
use Rattle.model_switch.specs.States.{meaning_of, opened}
use Rattle.sim_laws.specs.Laws.{AreWorldRun}
use Rattle.sim_steps.specs.Ends.{IsSmooth}
use Rattle.sim_driver.specs.Runs.{Given as SimGiven, IsFollowed, given as sim_given}
use Rattle.serve_steps.specs.declared.end.ServeEnd.{ServeEnd}
use Rattle.serve_steps.specs.Parts.{given as serve_given}
use Rattle.serve_steps.specs.Runs.{HasEnded as HasServeEnded}
use Rattle.command_words.specs.declared.words.Command.{Command}
use Rattle.command_words.specs.declared.words.Command.TheVariants.{Sim, Check, Gen, Serve}
use Rattle.maple_top.specs.declared.status.Status.{Status}
use Rattle.maple_top.specs.declared.status.Status.TheVariants as status
use Rattle.maple_top.specs.Due.{AreReading, AreServing, HasCommand, HasPolicy, IsDue, IsExact, IsReading, refused}
use Rattle.maple_top.specs.Ends.{IsAside, IsBoardSpared, IsUnhindered, status_of}
use Rattle.maple_top.specs.Outcomes.{EndsAtRefused, Results, kept_of, last_of, switches}
use Rattle.maple_top.specs.Statuses.{last_line}
use Rattle.maple_top.specs.Texts.{Texts, reads, texts_of}

-- ---- the devices

-- the device at a place: a switch of this datapath id, with 48 ports and room for 65,535 rules, just made
abbrev pub device_at : ℕ → Meaning
device_at place = meaning_of 0 None (opened place 48 65535)

-- those at the places from 1 to this
abbrev pub devices_to : ℕ → List Meaning
devices_to zero = []
devices_to (suc place) = devices_to place ++ device_at (suc place) ∷ []

-- the devices of the program
unfoldable pub program_devices : List Meaning
program_devices = devices_to 64

-- ---- what is right

-- the report is that of deeds that follow the script, up to its end or its first refused line. The deeds are a run of the world, which is right: each rule
-- that a ready session's switch hits decides as plain evaluation does; no packet found too many others waiting, and memory sufficed for each turn of the machine
pub record IsRightReport (g : SimGiven) (report : List ℕ) : Type 0 where
  pub after : List Meaning
  pub history : List Turn
  pub followed : IsFollowed g after history report
  pub smooth : IsSmooth true history
  pub world : AreWorldRun g.policy g.settings g.devices followed.events followed.last

-- the report of a command that came to its end, or to a refused line, while the board did this
abbrev pub IsRight : Command → ServeEnd → Policy → Texts → List Act → List Act → List ℕ → Type 0
IsRight (Sim settings) end policy texts before after report =
    IsRightReport (sim_given policy settings program_devices texts.script texts.first_line) report
IsRight (Gen number settings) end policy texts before after report =
    IsRightReport (sim_given policy settings program_devices texts.script texts.first_line) report
IsRight Check end policy texts before after report = report ≡ policy_text policy
IsRight (Serve listen control settings) end policy texts before after report =
    HasServeEnded end (serve_given policy settings texts.script texts.first_line listen control) before after report

-- the status of a run that came to its end, or to a refused line
abbrev pub IsReporting : Status → Type 0
IsReporting status.Done = Unit {0}
IsReporting status.Script = Unit {0}
IsReporting result = ⊥

-- the input was given up to its end, where the command reads it; this status is due; and the text is what the words' command writes of a right report
pub record Reports (result : Status) (words : List (List ℕ)) (heard : List Answer) (before after : List Act) (text : List ℕ) : Type 0 where
  pub due : IsDue result (length program_devices) words (given heard)
  pub command : Command
  pub has_command : HasCommand command words
  pub ended : reads command ≡ true → tells_end heard ≡ true
  pub policy : Policy
  pub has_policy : HasPolicy policy (texts_of command (given heard))
  pub end : ServeEnd
  pub result_is : result ≡ status_of end
  pub refused_at : EndsAtRefused end (refused command (length program_devices) (texts_of command (given heard)))
  pub report : List ℕ
  pub right : IsRight command end policy (texts_of command (given heard)) before after report
  pub text_is : text ≡ kept_of command report ++ last_of command end report

-- ---- a run

-- what comes of a run of the program, by the bytes that were given and those that were taken
abbrev pub ResultsIn : Status → List (List ℕ) → List Answer → BoardView → BoardView → List ℕ → Type 0
ResultsIn result words heard before after text =
    (devices : List Meaning)
    × Results (tells_end heard ≡ true) (fails heard ≡ true) words (given heard) (switches program_devices before) (switches devices after) result text

-- which failed calls were counted, by the status: those of the sink and of the board that it tells; none of the sink that it doesn't tell; none of the source
-- or the board with a status that can't stand behind one. The board is called by `serve` alone
pub record Spares (source left : SourceView) (old new : SinkView) (before after : BoardView) (words : List (List ℕ)) (result : Status) : Type 0 where
  pub reads_spared : IsUnhindered result → NoReadFailed source left
  pub reads_count : source.failed ≤ left.failed
  pub write_fault : result ≡ status.WriteFault → WriteFailed old new
  pub writes_spared : result ≢ status.WriteFault → NoWriteFailed old new
  pub board_fault : result ≡ status.BoardFault → BoardFailed before after
  pub board_spared : IsBoardSpared result → NoBoardFailed before after
  pub board_aside : IsAside result → after ≡ before
  pub unserved : ¬ (AreServing words) → after ≡ before

-- a run over the devices of the program, from any source to any sink
pub record RunsOver (source left : SourceView) (old new : SinkView) (before after : BoardView) (words : List (List ℕ)) (result : Status) : Type 0 where
  pub heard : List Answer
  pub were_heard : left.answers ≡ source.answers ++ heard
  pub text : List ℕ
  pub wrote : Wrote old new text
  pub results : ResultsIn result words heard before after text
  pub exact : IsExact result (length program_devices) words (given heard)
  pub reports : IsReporting result → Reports result words heard before.log after.log text
  pub reading : IsReading heard
  pub unread : ¬ (AreReading words) → heard ≡ []
  pub first : fails heard ≡ true → IsFront text (last_line status.ReadFault)
  pub read_fault : result ≡ status.ReadFault → ReadFailed source left
  pub spares : Spares source left old new before after words result
