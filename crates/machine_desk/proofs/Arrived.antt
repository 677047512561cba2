-- What came of a stream that stands at the stage of its session.
use Rattle.std.proofs.Common.{◌≡◌, ℕ, true, false, sym, ap, ◌∙◌, refl}
use Rattle.std.specs.Prelude.{Option, Some, None}
use Rattle.of10_codec.specs.declared.fault.Bad.{Bad as Fault}
use Rattle.of10_stream.specs.declared.reassembly.Next.TheVariants.{More}
use Rattle.of10_stream.specs.Cut.{IsOpen}
use Rattle.of10_stream.specs.Steps.{AnswersBehind, Held, Stream, Tells}
use Rattle.machine_steps.specs.declared.entry.Input.{Input}
use Rattle.machine_desk.specs.declared.inbound.Inbound.{Inbound}
use Rattle.machine_desk.specs.declared.inbound.Stage.{Stage}
use Rattle.machine_desk.specs.declared.inbound.Stage.TheVariants.{Live, Over, Unopened}
use Rattle.machine_desk.specs.Hearing.{Comes, ComesAt, is_live, told_as}

-- something comes only while the session is open
pub some_came : (input : Input) (i j : Inbound) → Comes (Some input) i j → (i.stage ≡ Live) × Tells (told_as (Some input)) i.from.stream j.from.stream
some_came input i j comes = go i.stage refl comes.0
  where
    go : (stage : Stage) → i.stage ≡ stage → ComesAt stage (Some input) i.from j.from → (i.stage ≡ Live) × Tells (told_as (Some input)) i.from.stream j.from.stream
    go Live e tells = (e, tells)
    go Unopened e h = (let f = h.0 in absurd (cc))
    go Over e h = (let f = h.0 in absurd (cc))

-- a stream has no more that met no fault, and shows no whole message
abbrev pub HasNoMore : Stream → Type 0
HasNoMore s = (s.broken ≡ None) × IsOpen s.rest

has_no_more : (s t : Stream) → Tells More s t → (t ≡ s) × HasNoMore s
has_no_more s t h = go s.broken refl h
  where
    go : (broken : Option (ℕ × Fault)) → s.broken ≡ broken → AnswersBehind broken More s t → (t ≡ s) × HasNoMore s
    go None whole a = (a.1, (whole, a.0))
    go (Some fault) e a = (let f = a.0 in absurd (cc))

-- nothing comes: the stream stays, and while the session is open it has no more
pub none_came : (i j : Inbound) → Comes None i j → (j.from.stream ≡ i.from.stream) × (is_live i.stage ≡ true → HasNoMore i.from.stream)
none_came i j comes = go i.stage refl comes.0
  where
    go : (stage : Stage) → i.stage ≡ stage → ComesAt stage None i.from j.from → (j.from.stream ≡ i.from.stream) × (is_live i.stage ≡ true → HasNoMore i.from.stream)
    go Live e tells = (let h = has_no_more i.from.stream j.from.stream tells in (h.0, λ live. h.1))
    go Unopened e h = (ap (λ (x : Held). x.stream) h.1, λ live. (let f : false ≡ true = sym (ap is_live e) ∙ live in absurd (cc)))
    go Over e h = (ap (λ (x : Held). x.stream) h.1, λ live. (let f : false ≡ true = sym (ap is_live e) ∙ live in absurd (cc)))
