-- What a stream gave is what it is cut into.
use Rattle.std.proofs.Common.{◌≡◌, ℕ, List, [], ◌∷◌, ◌++◌, Some, None, refl, sym, subst, ap, ◌∙◌, append_assoc, append-nil}
use Rattle.of10_codec.specs.declared.message.Message.{Message}
use Rattle.of10_codec.specs.declared.fault.Bad.{Bad}
use Rattle.of10_stream.specs.declared.reassembly.Next.TheVariants as answers
use Rattle.of10_stream.specs.Cut.{End, IsCutFrom}
use Rattle.of10_stream.specs.Steps.{Stream}
use Rattle.of10_stream.specs.Laws.{Call, Fed, Told, Run, given, heard, AnyPieces}

abbrev sound_stream : ℕ → List ℕ → Stream
sound_stream place rest = record { place = place; rest = rest; broken = None }

abbrev broken_stream : ℕ → List ℕ → ℕ × Bad → Stream
broken_stream place rest fault = record { place = place; rest = rest; broken = Some fault }

-- behind a fault nothing more is given, and the stream stays
behind : (calls : List Call) (place : ℕ) (rest : List ℕ) (fault : ℕ × Bad) (s : Stream) → Run calls (broken_stream place rest fault) s → (given calls ≡ []) × (s ≡ broken_stream place rest fault)
behind [] place rest fault s run = (refl, run)
behind (Fed piece ∷ calls) place rest fault s run = behind calls place rest fault s run
behind (Told (answers.Message m) ∷ calls) place rest fault s run = let e = run.1.0 in cc
behind (Told answers.More ∷ calls) place rest fault s run = let e = run.1.0 in cc
behind (Told (answers.Bad at bad) ∷ calls) place rest fault s run =
    behind calls place rest fault s (subst (λ b. Run calls b s) run.1.1 run.2)
behind (Told answers.NoMemory ∷ calls) place rest fault s run = let e = run.1.0 in cc

runs_from : (calls : List Call) (place : ℕ) (rest : List ℕ) (s : Stream) (ms : List Message) (end : End) → Run calls (sound_stream place rest) s → IsCutFrom s.place ms end s.rest
    → IsCutFrom place (given calls ++ ms) end (rest ++ heard calls)
runs_from [] place rest s ms end run cut =
    subst (IsCutFrom place ms end) (sym (append-nil rest)) (subst (λ t. IsCutFrom t.place ms end t.rest) run cut)
runs_from (Fed piece ∷ calls) place rest s ms end run cut =
    subst (IsCutFrom place (given calls ++ ms) end) (append_assoc rest piece (heard calls)) (runs_from calls place (rest ++ piece) s ms end run cut)
runs_from (Told (answers.Message m) ∷ calls) place rest s ms end run cut =
    let between = run.0 in
    let takes = run.1 in
    let same : between ≡ sound_stream between.place between.rest = λ i. record { place = between.place; rest = between.rest; broken = takes.unbroken i } in
    let further = runs_from calls between.place between.rest s ms end (subst (λ b. Run calls b s) same run.2) cut in (
      takes.front,
      between.rest ++ heard calls,
      ap (λ x. x ++ heard calls) takes.parts ∙ append_assoc takes.front between.rest (heard calls),
      takes.spelled,
      subst (λ p. IsCutFrom p (given calls ++ ms) end (between.rest ++ heard calls)) takes.place_after further,
    )
runs_from (Told answers.More ∷ calls) place rest s ms end run cut =
    runs_from calls place rest s ms end (subst (λ b. Run calls b s) run.1.1 run.2) cut
runs_from (Told (answers.Bad at bad) ∷ calls) place rest s ms end run cut =
    let stays = behind calls place rest (at, bad) s (subst (λ b. Run calls b s) run.1.2 run.2) in
    let cut' : IsCutFrom place ms end rest = subst (λ t. IsCutFrom t.place ms end t.rest) stays.1 cut in
    subst (IsCutFrom place (given calls ++ ms) end) (sym (append-nil rest)) (subst (λ l. IsCutFrom place (l ++ ms) end rest) (sym stays.0) cut')
runs_from (Told answers.NoMemory ∷ calls) place rest s ms end run cut =
    runs_from calls place rest s ms end (subst (λ b. Run calls b s) run.1.1 run.2) cut

pub any_pieces : AnyPieces
any_pieces calls s ms end run cut = runs_from calls 0 [] s ms end run cut
