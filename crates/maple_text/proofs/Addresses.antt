-- A text of more parts than an address has.
use Rattle.std.proofs.Common.{◌≡◌, ℕ, eqb, List, ◌∷◌, None, refl}
use Rattle.std.specs.List.{slice_split}
use Rattle.maple_text.specs.Numbers.{dotted, paired}
use Rattle.maple_text.proofs.PartsOf.{some_part}

pub five_parts : (a b c d : List ℕ) (text : List ℕ) → dotted (a ∷ b ∷ c ∷ d ∷ slice_split (λ b. eqb b 46) text) ≡ None
five_parts a b c d text = let h = some_part 46 text in rw h.is refl

pub seven_parts : (a b c d e f : List ℕ) (text : List ℕ) → paired (a ∷ b ∷ c ∷ d ∷ e ∷ f ∷ slice_split (λ b. eqb b 58) text) ≡ None
seven_parts a b c d e f text = let h = some_part 58 text in rw h.is refl
