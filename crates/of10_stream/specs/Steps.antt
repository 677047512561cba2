-- What the calls on a stream do.
use Rattle.std.specs.Prelude.{◌≡◌, ℕ, ◌+◌, ◌<◌, All, List, [], ◌++◌, length, Option, Some, None}
use Rattle.of10_codec.specs.declared.message.Message.{Message}
use Rattle.of10_codec.specs.declared.fault.Bad.{Bad}
use Rattle.of10_codec.specs.Messages.{Spelled}
use Rattle.of10_stream.specs.declared.reassembly.Next.{Next}
use Rattle.of10_stream.specs.declared.reassembly.Next.TheVariants as answers
use Rattle.of10_stream.specs.Cut.{IsOpen, IsBad, IsSound}

-- a stream: how many bytes its messages had so far, the bytes behind them, and the fault that was met, with its place
pub record Stream : Type 0 where
  pub place : ℕ
  pub rest : List ℕ
  pub broken : Option (ℕ × Bad)

abbrev pub beginning : Stream
beginning = record { place = 0; rest = []; broken = None }

-- what is kept of a stream: itself, and how many bytes of messages that were taken, which are still stored ahead of its rest
pub record Held : Type 0 where
  pub stream : Stream
  pub done : ℕ

-- how many bytes are stored
abbrev pub stored : Held → ℕ
stored h = h.done + length h.stream.rest

-- a piece is appended; behind a fault it is dropped
abbrev pub appended : Option (ℕ × Bad) → List ℕ → Stream → Stream
appended None piece s = record s { rest = s.rest ++ piece }
appended (Some fault) piece s = s

abbrev pub fed : List ℕ → Stream → Stream
fed piece s = appended s.broken piece s

-- the first message of the rest is taken from it
pub record Takes (m : Message) (old new : Stream) : Type 0 where
  pub front : List ℕ
  pub are_bytes : All (λ b. b < 256) front
  pub parts : old.rest ≡ front ++ new.rest
  pub spelled : Spelled m front
  pub place_after : new.place ≡ old.place + length front
  pub unbroken : new.broken ≡ None

-- what the next answer may be, where no fault was met, and what it leaves
abbrev pub Answers : Next → Stream → Stream → Type 0
Answers (answers.Message m) old new = Takes m old new
Answers answers.More old new = IsOpen old.rest × (new ≡ old)
Answers (answers.Bad place bad) old new = (place ≡ old.place) × IsBad bad old.rest × (new ≡ record old { broken = Some (place, bad) })
Answers answers.NoMemory old new = IsSound old.rest × (new ≡ old)

-- what the next answer is: behind a fault that fault, for ever
abbrev pub AnswersBehind : Option (ℕ × Bad) → Next → Stream → Stream → Type 0
AnswersBehind None next old new = Answers next old new
AnswersBehind (Some fault) next old new = (next ≡ answers.Bad fault.0 fault.1) × (new ≡ old)

abbrev pub Tells : Next → Stream → Stream → Type 0
Tells next old new = AnswersBehind old.broken next old new
