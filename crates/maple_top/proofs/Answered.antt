-- What a source answered to several reads.
use Rattle.std.proofs.Common.{◌≡◌, ◌⊎◌, ℕ, ◌+◌, ◌≤◌, true, List, [], ◌∷◌, ◌++◌, length, take, sym, ap, subst, ◌∙◌, append_assoc, append-nil, length-append, arith}
use Rattle.std.proofs.lemmas.List.{append_cancel_left}
use Rattle.std.proofs.Math.Seq.{take-append_seam}
use Rattle.maple_io.specs.Answers.{ends as tells_end, fails, given, gives}
use Rattle.maple_io.specs.declared.answer.Answer.{Answer}
use Rattle.maple_io.specs.Views.{Heard, SourceView}
use Rattle.maple_io.proofs.Reading.{Given}
use Rattle.maple_top.specs.Due.{IsReading, but_last, most_bytes, most_piece}

-- nothing was read
pub unheard : (source : SourceView) (Are : List Answer → Type 0) → Are [] → Heard source source Are
unheard source Are h = ([], sym (append-nil source.answers), h)

pub heard_so : (source left : SourceView) {P : List Answer → Type 0} → (Q : List Answer → Type 0) → ((heard : List Answer) → P heard → Q heard) → Heard source left P
    → Heard source left Q
heard_so source left Q f (heard, is, h) = (heard, is, f heard h)

-- what was heard is one list of answers
pub at_heard : (source left : SourceView) {Are : List Answer → Type 0} → Heard source left Are → (heard : List Answer) → left.answers ≡ source.answers ++ heard → Are heard
at_heard source left {Are} (other, was, are) heard is = subst Are (append_cancel_left source.answers other heard (sym was ∙ is)) are

-- ---- reading on

-- no more bytes than an input may have were given ahead of the last answer
abbrev pub IsFewAhead : List Answer → Type 0
IsFewAhead heard = length (given (but_last heard)) ≤ most_bytes

but_last_is : (heard : List Answer) (a : Answer) → but_last (heard ++ a ∷ []) ≡ heard
but_last_is heard a = ap (λ (n : ℕ). take n (heard ++ a ∷ [])) (omega (arith, length-append heard (a ∷ []))) ∙ take-append_seam heard (a ∷ [])

-- one answer more, where no more bytes than an input may have were given
pub few_ahead : (old mid new : SourceView) (bytes : List ℕ) (a : Answer) → Given old mid bytes → length bytes ≤ most_bytes → new.answers ≡ mid.answers ++ a ∷ []
    → Heard old new IsFewAhead
few_ahead old mid new bytes a (heard, is, h) few e = (
  heard ++ a ∷ [],
  e ∙ ap (λ l. l ++ a ∷ []) is ∙ append_assoc old.answers heard (a ∷ []),
  subst (λ (xs : List Answer). length (given xs) ≤ most_bytes) (sym (but_last_is heard a)) (subst (λ (b : List ℕ). length b ≤ most_bytes) (sym h.1) few),
)

-- bytes were given, and nothing was read behind the end or a failure
abbrev IsUnbroken : List Answer → Type 0
IsUnbroken heard = (gives heard ≡ true) ⊎ ((tells_end heard ≡ true) ⊎ (fails heard ≡ true))

pub reading_of : (old new : SourceView) (bytes : List ℕ) {Are : List Answer → Type 0} → length bytes ≤ most_bytes + most_piece → Heard old new IsFewAhead
    → Heard old new (λ heard. Are heard × (given heard ≡ bytes)) → ((heard : List Answer) → Are heard → IsUnbroken heard) → Heard old new IsReading
reading_of old new bytes within ahead (heard, is, (are, e)) unbroken =
    (heard, is, (at_heard old new ahead heard is, subst (λ (b : List ℕ). length b ≤ most_bytes + most_piece) (sym e) within, unbroken heard are))
