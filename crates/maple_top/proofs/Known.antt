-- Bytes that come off the front of what a source tells, and go to the end of what a sink tells.
use Rattle.std.proofs.Common.{◌≡◌, ℕ, ◌<◌, List, [], ◌∷◌, ◌++◌, length, Option, Some, None, sym, ap, ◌∙◌, arith, length-append}
use Rattle.std.specs.Prelude.{IfSome}
use Rattle.std.specs.Io.KnownBytes.{Consumes, Keeps, IsAtEnd}
use Rattle.std.proofs.KnownBytes.{Consumes-trans}
use Rattle.maple_io.specs.declared.answer.Answer.TheVariants as answers
use Rattle.maple_io.specs.Views.{Gave, SourceView}
use Rattle.maple_io.proofs.Reading.{Given, more_given}
use Rattle.std.proofs.lemmas.List.{append-nil}

-- what came off is all there was
pub all_consumed : (old mid : Option (List ℕ)) (bs : List ℕ) → Consumes old mid bs → IsAtEnd mid → IfSome old (λ xs. bs ≡ xs)
all_consumed None mid bs h e = tt
all_consumed (Some xs) None bs h e = absurd h
all_consumed (Some xs) (Some ys) bs h e = sym (h ∙ ap (λ l. bs ++ l) e ∙ append-nil bs)

pub end_kept : (old mid new : Option (List ℕ)) (bs : List ℕ) → Consumes old mid bs → IsAtEnd mid → Keeps mid new → IfSome old (λ _. IsAtEnd new)
end_kept None mid new bs h e k = tt
end_kept (Some xs) None new bs h e k = absurd h
end_kept (Some xs) (Some ys) None bs h e k = absurd k
end_kept (Some xs) (Some ys) (Some zs) bs h e k = k ∙ e

-- these bytes came off, and were given
pub gave : (old new : SourceView) (bs : List ℕ) → Consumes old.left new.left bs → Given old new bs → Gave old new bs
gave old new bs h (heard, is, g) = record { left = h; heard = (heard, is, g.1) }

-- what came off, and what a further read gave
pub some_more : (old mid new : SourceView) (bs cs : List ℕ) → Consumes old.left mid.left bs → Given old mid bs → Consumes mid.left new.left cs
    → new.answers ≡ mid.answers ++ answers.Gave cs ∷ [] → (some : List ℕ) × Gave old new some
some_more old mid new bs cs h g k e = (bs ++ cs, gave old new (bs ++ cs) (Consumes-trans old.left mid.left new.left bs cs h k) (more_given old mid new bs cs g e))

-- what came off is no longer than what there was
pub consumed_longer : (n : ℕ) (old mid : Option (List ℕ)) (bs : List ℕ) → Consumes old mid bs → n < length bs → IfSome old (λ xs. n < length xs)
consumed_longer n None mid bs h lt = tt
consumed_longer n (Some xs) None bs h lt = absurd h
consumed_longer n (Some xs) (Some ys) bs h lt = let e = ap length h in omega (arith, e, lt, length-append bs ys)
