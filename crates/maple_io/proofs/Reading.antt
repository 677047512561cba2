-- Texts that are read one behind the other.
use Rattle.std.proofs.Common.{◌≡◌, ℕ, true, List, [], ◌∷◌, ◌++◌, refl, sym, ap, ◌∙◌, append-nil, append_assoc}
use Rattle.maple_io.specs.declared.answer.Answer.{Answer}
use Rattle.maple_io.specs.declared.answer.Answer.TheVariants as answers
use Rattle.maple_io.specs.Answers.{ends, fails, given, gives}
use Rattle.maple_io.specs.Views.{Heard, SourceView}

-- one answer more
given_on : (xs : List Answer) (bytes : List ℕ) → given (xs ++ answers.Gave bytes ∷ []) ≡ given xs ++ bytes
given_on [] bytes = append-nil bytes
given_on (answers.Gave b ∷ xs) bytes = ap (λ l. b ++ l) (given_on xs bytes) ∙ sym (append_assoc b (given xs) bytes)
given_on (answers.Ended ∷ xs) bytes = given_on xs bytes
given_on (answers.Failed ∷ xs) bytes = given_on xs bytes

given_end : (xs : List Answer) → given (xs ++ answers.Ended ∷ []) ≡ given xs
given_end [] = refl
given_end (answers.Gave b ∷ xs) = ap (λ l. b ++ l) (given_end xs)
given_end (answers.Ended ∷ xs) = given_end xs
given_end (answers.Failed ∷ xs) = given_end xs

given_failure : (xs : List Answer) → given (xs ++ answers.Failed ∷ []) ≡ given xs
given_failure [] = refl
given_failure (answers.Gave b ∷ xs) = ap (λ l. b ++ l) (given_failure xs)
given_failure (answers.Ended ∷ xs) = given_failure xs
given_failure (answers.Failed ∷ xs) = given_failure xs

gives_on : (xs : List Answer) (bytes : List ℕ) → gives xs ≡ true → gives (xs ++ answers.Gave bytes ∷ []) ≡ true
gives_on [] bytes h = refl
gives_on (answers.Gave b ∷ xs) bytes h = gives_on xs bytes h
gives_on (answers.Ended ∷ xs) bytes h = absurd (let no = h in cc)
gives_on (answers.Failed ∷ xs) bytes h = absurd (let no = h in cc)

ends_on : (xs : List Answer) → gives xs ≡ true → ends (xs ++ answers.Ended ∷ []) ≡ true
ends_on [] h = refl
ends_on (answers.Gave b ∷ xs) h = ends_on xs h
ends_on (answers.Ended ∷ xs) h = absurd (let no = h in cc)
ends_on (answers.Failed ∷ xs) h = absurd (let no = h in cc)

fails_on : (xs : List Answer) → gives xs ≡ true → fails (xs ++ answers.Failed ∷ []) ≡ true
fails_on [] h = refl
fails_on (answers.Gave b ∷ xs) h = fails_on xs h
fails_on (answers.Ended ∷ xs) h = absurd (let no = h in cc)
fails_on (answers.Failed ∷ xs) h = absurd (let no = h in cc)

-- these bytes were given, and nothing else was answered
abbrev pub Given : SourceView → SourceView → List ℕ → Type 0
Given old new bytes = Heard old new (λ xs. (gives xs ≡ true) × (given xs ≡ bytes))

pub nothing_given : (source : SourceView) → Given source source []
nothing_given source = ([], sym (append-nil source.answers), (refl, refl))

module _ (old mid new : SourceView) (bytes : List ℕ) where
  joined : (xs : List Answer) → mid.answers ≡ old.answers ++ xs → (a : Answer) → new.answers ≡ mid.answers ++ a ∷ [] → new.answers ≡ old.answers ++ (xs ++ a ∷ [])
  joined xs is a e = e ∙ ap (λ l. l ++ a ∷ []) is ∙ append_assoc old.answers xs (a ∷ [])

  pub more_given : (more : List ℕ) → Given old mid bytes → new.answers ≡ mid.answers ++ answers.Gave more ∷ [] → Given old new (bytes ++ more)
  more_given more (xs, is, h) e = (xs ++ answers.Gave more ∷ [], joined xs is (answers.Gave more) e, (gives_on xs more h.0, given_on xs more ∙ ap (λ l. l ++ more) h.1))

  pub end_told : Given old mid bytes → new.answers ≡ mid.answers ++ answers.Ended ∷ [] → Heard old new (λ xs. (ends xs ≡ true) × (given xs ≡ bytes))
  end_told (xs, is, h) e = (xs ++ answers.Ended ∷ [], joined xs is answers.Ended e, (ends_on xs h.0, given_end xs ∙ h.1))

  pub read_failed : Given old mid bytes → new.answers ≡ mid.answers ++ answers.Failed ∷ [] → Heard old new (λ xs. (fails xs ≡ true) × (given xs ≡ bytes))
  read_failed (xs, is, h) e = (xs ++ answers.Failed ∷ [], joined xs is answers.Failed e, (fails_on xs h.0, given_failure xs ∙ h.1))
