-- A message that is taken from a stream has some bytes.
use Rattle.std.proofs.Common.{ℕ, ◌<◌, length, ap, arith, length-append}
use Rattle.std.specs.Prelude.{Option, Some, None}
use Rattle.of10_codec.specs.declared.message.Message.{Message}
use Rattle.of10_codec.specs.declared.fault.Bad.{Bad as Fault}
use Rattle.of10_stream.specs.declared.reassembly.Next.TheVariants as next
use Rattle.of10_stream.specs.Steps.{AnswersBehind, Stream, Takes, Tells}

-- behind a fault no message is given
takes : (x : Message) (s t : Stream) → Tells (next.Message x) s t → Takes x s t
takes x s t h = go s.broken h
  where
    go : (broken : Option (ℕ × Fault)) → AnswersBehind broken (next.Message x) s t → Takes x s t
    go None a = a
    go (Some fault) a = (let e = a.0 in absurd (cc))

-- a header is taken at least
pub gets_shorter : (x : Message) (s t : Stream) → Tells (next.Message x) s t → length t.rest < length s.rest
gets_shorter x s t h =
    let a = takes x s t h in
    omega (arith, a.spelled.header.long, length-append a.front t.rest, ap length a.parts)
