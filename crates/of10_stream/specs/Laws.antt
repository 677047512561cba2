-- Whatever the pieces were, the messages that a stream gave are those that it is cut into.
use Rattle.std.specs.Prelude.{◌≡◌, ℕ, List, [], ◌∷◌, ◌++◌}
use Rattle.of10_codec.specs.declared.message.Message.{Message}
use Rattle.of10_stream.specs.declared.reassembly.Next.{Next}
use Rattle.of10_stream.specs.declared.reassembly.Next.TheVariants as answers
use Rattle.of10_stream.specs.Cut.{End, IsCut, IsCutFrom}
use Rattle.of10_stream.specs.Steps.{Stream, beginning, fed, Tells}

-- a call on a stream: a piece that was fed, or an answer; a piece that was refused is none
pub data Call : Type 0 where
  Fed : List ℕ → Call
  Told : Next → Call

-- these calls lead from one stream to the other
abbrev pub Run : List Call → Stream → Stream → Type 0
Run [] old new = new ≡ old
Run (Fed piece ∷ calls) old new = Run calls (fed piece old) new
Run (Told next ∷ calls) old new = (between : Stream) × Tells next old between × Run calls between new

-- the messages among the answers, in order
abbrev pub given : List Call → List Message
given [] = []
given (Told (answers.Message m) ∷ calls) = m ∷ given calls
given (call ∷ calls) = given calls

-- the pieces that were fed before a fault was met, joined
abbrev pub heard : List Call → List ℕ
heard [] = []
heard (Fed piece ∷ calls) = piece ++ heard calls
heard (Told (answers.Bad place bad) ∷ calls) = []
heard (call ∷ calls) = heard calls

-- whatever is fed and asked from the beginning: the messages that were given, and any into which the rest is cut, are those into which all that was heard is cut, with the same end
abbrev pub AnyPieces : Type 0
AnyPieces =
    (calls : List Call) (s : Stream) (ms : List Message) (end : End) → Run calls beginning s → IsCutFrom s.place ms end s.rest → IsCut (given calls ++ ms) end (heard calls)

-- a stream is cut in one way
abbrev pub OneCut : Type 0
OneCut = (ms ns : List Message) (e f : End) (b : List ℕ) → IsCut ms e b → IsCut ns f b → (ms ≡ ns) × (e ≡ f)
