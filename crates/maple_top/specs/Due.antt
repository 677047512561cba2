-- Which status a run of the program is due.
use Rattle.std.specs.Prelude.{◌≡◌, ◌⊎◌, ℕ, ◌<◌, ◌≤◌, ◌+◌, ◌-◌, true, List, length, take, Option, Some, None, IfSome}
use Rattle.std.specs.Io.KnownBytes.{IsAtEnd}
use Rattle.maple_io.specs.Answers.{ends as tells_end, fails, given, gives}
use Rattle.maple_io.specs.declared.answer.Answer.{Answer}
use Rattle.maple_io.specs.Views.{Gave, Heard, ReadFailed, SourceView}
use Rattle.policy_lang.specs.declared.Policy.{Policy}
use Rattle.policy_text.specs.Texts.{IsTextOf}
use Rattle.report_text.specs.declared.line.ScriptRefusal.{ScriptRefusal}
use Rattle.script_text.specs.Lines.{ended_lines}
use Rattle.script_text.specs.Orders.{refused_from}
use Rattle.serve_steps.specs.Texts.{first_refused, script_asks}
use Rattle.command_words.specs.declared.words.Command.{Command}
use Rattle.command_words.specs.declared.words.Command.TheVariants.{Check, Serve}
use Rattle.command_words.specs.Words.{command_of}
use Rattle.maple_top.specs.declared.status.Status.{Status}
use Rattle.maple_top.specs.declared.status.Status.TheVariants as status
use Rattle.maple_top.specs.Texts.{Texts, reads, serves, simulates, texts_of}

-- ---- words

-- the words give this command
abbrev pub HasCommand : Command → List (List ℕ) → Type 0
HasCommand command words = command_of words ≡ Some command

-- they are in the grammar
abbrev pub AreWords : List (List ℕ) → Type 0
AreWords words = (command : Command) × HasCommand command words

-- they give a command that reads its input, runs a script over the devices, serves the switches of the board
abbrev pub AreReading : List (List ℕ) → Type 0
AreReading words = (command : Command) × HasCommand command words × (reads command ≡ true)

abbrev pub AreSimulating : List (List ℕ) → Type 0
AreSimulating words = (command : Command) × HasCommand command words × (simulates command ≡ true)

abbrev pub AreServing : List (List ℕ) → Type 0
AreServing words = (command : Command) × HasCommand command words × (serves command ≡ true)

-- ---- the input

-- the most bytes that an input may have
abbrev pub most_bytes : ℕ
most_bytes = 67108864

-- the most that one read gives
abbrev pub most_piece : ℕ
most_piece = 4096

-- an input that isn't too long
abbrev pub IsFit : List ℕ → Type 0
IsFit input = length input ≤ most_bytes

-- where the command reads its input, that isn't too long
abbrev pub IsFitFor : Command → List ℕ → Type 0
IsFitFor command input = reads command ≡ true → IsFit input

-- some bytes were read, none of them lost and none twice
abbrev pub ReadSome : SourceView → SourceView → Type 0
ReadSome before after = (bytes : List ℕ) × Gave before after bytes

-- more bytes were read than an input may have
abbrev pub ReadOver : SourceView → SourceView → Type 0
ReadOver before after = (bytes : List ℕ) × (most_bytes < length bytes) × Gave before after bytes

-- a read failed, and it was the last
abbrev pub IsUnread : SourceView → SourceView → Type 0
IsUnread source left = ReadFailed source left × Heard source left (λ heard. fails heard ≡ true)

-- the answers ahead of the last one
abbrev pub but_last : List Answer → List Answer
but_last heard = take (length heard - 1) heard

-- no more bytes than an input may have were given ahead of the last answer, and few more with it; nothing was read behind the end or a failure
abbrev pub IsReading : List Answer → Type 0
IsReading heard =
    (length (given (but_last heard)) ≤ most_bytes)
    × (length (given heard) ≤ most_bytes + most_piece)
    × ((gives heard ≡ true) ⊎ ((tells_end heard ≡ true) ⊎ (fails heard ≡ true)))

-- of the input it is so, as far as it is known: by the bytes that the source told to be left, where it told them, and by those that it gave. `ended` says that
-- the input has no more
pub record OfInput (source left : SourceView) (Of : Type 0 → List ℕ → Type 0) : Type 0 where
  pub told : IfSome source.left (λ bytes. Of (IsAtEnd left.left) bytes)
  pub heard : Heard source left (λ heard. Of (tells_end heard ≡ true) (given heard))

-- ---- the policy and the script

-- the policy's text is one of this policy
abbrev pub HasPolicy : Policy → Texts → Type 0
HasPolicy policy texts = IsTextOf policy texts.policy

-- it is of none
abbrev pub HasNone : Texts → Type 0
HasNone texts = (policy : Policy) → ¬ (HasPolicy policy texts)

-- the number of the first refused line of the script, and why it is refused, where there are so many devices. `check` looks at no script
abbrev pub refused : Command → ℕ → Texts → Option (ℕ × ScriptRefusal)
refused Check places texts = None
refused (Serve listen control settings) places texts = first_refused (script_asks texts.first_line texts.script)
refused command places texts = refused_from places texts.first_line (ended_lines texts.script)

-- no line of the script is refused
abbrev pub IsScript : Command → ℕ → Texts → Type 0
IsScript command places texts = refused command places texts ≡ None

-- some line is
abbrev pub IsNoScript : Command → ℕ → Texts → Type 0
IsNoScript command places texts = (r : ℕ × ScriptRefusal) × (refused command places texts ≡ Some r)

-- ---- the status

-- a command's policy and script are due this status, where there are so many devices
abbrev pub IsDueOf : Status → ℕ → Command → Texts → Type 0
IsDueOf status.Policy places command texts = HasNone texts
IsDueOf status.Script places command texts = ((policy : Policy) × HasPolicy policy texts) × IsNoScript command places texts
IsDueOf status.Done places command texts = ((policy : Policy) × HasPolicy policy texts) × IsScript command places texts
IsDueOf due places command texts = ⊥

-- the status that these words and this input are due where there are so many devices, no stream and no board fails, memory is left and the hall is not worn:
-- words first, then length, policy and script
abbrev pub IsDue : Status → ℕ → List (List ℕ) → List ℕ → Type 0
IsDue status.Usage places words input = ¬ (AreWords words)
IsDue status.TooLong places words input = AreReading words × (most_bytes < length input)
IsDue due places words input =
    (command : Command) × HasCommand command words × IsFitFor command input × IsDueOf due places command (texts_of command input)

-- a fault of a stream or of the board, want of memory, or a worn hall
abbrev pub IsFault : Status → Type 0
IsFault status.ReadFault = Unit {0}
IsFault status.WriteFault = Unit {0}
IsFault status.NoMemory = Unit {0}
IsFault status.BoardFault = Unit {0}
IsFault status.Worn = Unit {0}
IsFault result = ⊥

-- the status that is due comes, or a fault that came before it
abbrev pub IsExact : Status → ℕ → List (List ℕ) → List ℕ → Type 0
IsExact result places words input = (due : Status) → IsDue due places words input → (result ≡ due) ⊎ IsFault result

-- the status comes, or a fault of the sink or want of memory before it, where nothing is read
abbrev pub IsOrUnwritten : Status → Status → Type 0
IsOrUnwritten due result = (result ≡ due) ⊎ ((result ≡ status.WriteFault) ⊎ (result ≡ status.NoMemory))

-- ---- the same of an input, as far as it is known

abbrev pub IsDueBy : SourceView → SourceView → Status → ℕ → List (List ℕ) → Type 0
IsDueBy source left result places words = OfInput source left (λ ended input. ¬ (IsFault result) → IsDue result places words input)

abbrev pub IsExactBy : SourceView → SourceView → Status → ℕ → List (List ℕ) → Type 0
IsExactBy source left result places words = OfInput source left (λ ended input. IsExact result places words input)
