-- A text of more words than are wanted.
use Rattle.std.proofs.Common.{◌≡◌, ℕ, eqb, cond, true, false, List, ◌∷◌, Option, Some, None, refl, ap}
use Rattle.std.specs.List.{slice_split}
use Rattle.std.specs.Borrow.{Bor}
use Rattle.std.specs.Prelude.{◌↔◌, Bool, IsSome, IsTrue, IfSome, is_some, not}
use Rattle.maple_text.specs.Parts.{rest_parts}
use Rattle.maple_text.proofs.PartsOf.{some_part}
use Rattle.script_text.specs.Words.{is_empty, just_one, just_two, just_three, just_four}

pub past_none : (rest : Option (Bor (List ℕ))) (ended : Bool) → is_some rest ≡ not ended → ended ≡ is_empty (rest_parts 32 rest)
past_none None true e = refl
past_none None false e = absurd (cc e)
past_none (Some rest) true e = absurd (cc e)
past_none (Some rest) false e = let h = some_part 32 rest.now in rw h.is refl

pub past_one : (stop : ℕ) (a : List ℕ) (text : List ℕ) → None ≡ just_one (a ∷ slice_split (λ b. eqb b stop) text)
past_one stop a text = let h = some_part stop text in rw h.is refl

pub past_two : (stop : ℕ) (a b : List ℕ) (text : List ℕ) → None ≡ just_two (a ∷ b ∷ slice_split (λ b. eqb b stop) text)
past_two stop a b text = let h = some_part stop text in rw h.is refl

pub past_three : (stop : ℕ) (a b c : List ℕ) (text : List ℕ) → None ≡ just_three (a ∷ b ∷ c ∷ slice_split (λ b. eqb b stop) text)
past_three stop a b c text = let h = some_part stop text in rw h.is refl

pub past_four : (stop : ℕ) (a b c d : List ℕ) (text : List ℕ) → None ≡ just_four (a ∷ b ∷ c ∷ d ∷ slice_split (λ b. eqb b stop) text)
past_four stop a b c d text = let h = some_part stop text in rw h.is refl

-- a name that is accepted exactly where a text is one
pub by_test : (r : Option (List ℕ)) (b : Bool) (text : List ℕ) → (IsSome r ↔ IsTrue b) → IfSome r (λ n. n ≡ text) → r ≡ cond b (Some text) None
by_test None true text h k = absurd (cc (h.1 refl))
by_test None false text h k = refl
by_test (Some n) true text h k = ap Some k
by_test (Some n) false text h k = absurd (cc (h.0 refl))
