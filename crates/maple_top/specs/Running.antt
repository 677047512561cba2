-- What the parts of a run say of it.
use Rattle.std.specs.Prelude.{◌≡◌, ℕ, ◌<◌, true, List, [], length, Result, Ok, Err}
use Rattle.std.specs.declared.vec.Vec.{Vec}
use Rattle.maple_io.specs.Boards.{BoardView}
use Rattle.maple_io.specs.Answers.{ends as tells_end, fails, given, gives}
use Rattle.maple_io.specs.declared.answer.Answer.{Answer}
use Rattle.maple_io.specs.Views.{SinkView, Wrote}
use Rattle.policy_lang.specs.declared.Policy.{Policy}
use Rattle.device_port.specs.Devices.{Meaning}
use Rattle.report_text.specs.declared.line.Line.{Line}
use Rattle.report_text.specs.Report.{spelled}
use Rattle.serve_steps.specs.declared.end.ServeEnd.{ServeEnd}
use Rattle.command_words.specs.declared.words.Command.{Command}
use Rattle.maple_top.specs.declared.status.Status.{Status}
use Rattle.maple_top.specs.declared.status.Status.TheVariants as status
use Rattle.maple_top.specs.declared.input.ReadStop.{ReadStop}
use Rattle.maple_top.specs.declared.input.ReadStop.TheVariants as stops
use Rattle.maple_top.specs.declared.texts.Texts.{Texts as LentTexts}
use Rattle.maple_top.specs.declared.policies.PolicyStop.{PolicyStop}
use Rattle.maple_top.specs.declared.policies.PolicyStop.TheVariants.{Refused, NoMemory}
use Rattle.maple_top.specs.Due.{HasNone, HasPolicy, most_bytes}
use Rattle.maple_top.specs.Ends.{Ends, IsOrCut, WroteSome, status_of}
use Rattle.maple_top.specs.Outcomes.{Ran, Switches, kept_of, last_of, switches}
use Rattle.maple_top.specs.Refusals.{IsRefusal}
use Rattle.maple_top.specs.Texts.{Texts}

-- what is read of texts
abbrev pub read_texts : LentTexts → Texts
read_texts texts = record { policy = texts.policy.now; script = texts.script.now; first_line = texts.first_line }

-- a command ended so under a policy, having written this text
pub record RunsUnder (command : Command) (policy : Policy) (texts : Texts) (before after : Switches) (result : Status) (text : List ℕ) : Type 0 where
  pub end : ServeEnd
  pub report : List ℕ
  pub ran : Ran command end policy texts before after report
  pub written : IsOrCut (status_of end) result (kept_of command report) (last_of command end report) text

-- the same with what was written
abbrev pub EndsPolicy : Command → Policy → Texts → Switches → Switches → SinkView → SinkView → Status → Type 0
EndsPolicy command policy texts before after old new result = WroteSome old new (RunsUnder command policy texts before after result)

-- of a command that makes no call of the board, whatever that is
abbrev pub EndsOver : Command → Policy → Texts → List Meaning → List Meaning → SinkView → SinkView → Status → Type 0
EndsOver command policy texts before after old new result =
    (board : BoardView) → EndsPolicy command policy texts (switches before board) (switches after board) old new result

-- of one that makes no call of the devices, whatever they are
abbrev pub EndsServing : Command → Policy → Texts → BoardView → BoardView → SinkView → SinkView → Status → Type 0
EndsServing command policy texts before after old new result =
    (devices : List Meaning) → EndsPolicy command policy texts (switches devices before) (switches devices after) old new result

-- a command's texts were run under their policy, have none, or found no memory
pub data RunsTexts (command : Command) (texts : Texts) (before after : Switches) (old new : SinkView) (result : Status) : Type 0 where
  ran : (policy : Policy) → HasPolicy policy texts → WroteSome old new (RunsUnder command policy texts before after result)
      → RunsTexts command texts before after old new result
  refused : after ≡ before → HasNone texts → (line : Line) → IsRefusal texts.policy line → Ends old new status.Policy (spelled line) result
      → RunsTexts command texts before after old new result
  lacked_memory : after ≡ before → result ≡ status.NoMemory → Wrote old new [] → RunsTexts command texts before after old new result

-- a text gives no policy: by the line that refuses it, or for want of memory
abbrev pub IsPolicyStop : List ℕ → PolicyStop → Type 0
IsPolicyStop text (Refused l) = IsRefusal text l
IsPolicyStop text NoMemory = Unit {0}

-- what the answers are where an input was read, by what that gave: all its bytes and its end, or why not
abbrev pub ReadsBy : {Alloc : Type 0} → Result (Vec ℕ Alloc) ReadStop → List Answer → Type 0
ReadsBy (Ok all) heard = (tells_end heard ≡ true) × (given heard ≡ all.items)
ReadsBy (Err stops.Failed) heard = fails heard ≡ true
ReadsBy (Err stops.TooLong) heard = (gives heard ≡ true) × (most_bytes < length (given heard))
ReadsBy (Err stops.NoMemory) heard = gives heard ≡ true
