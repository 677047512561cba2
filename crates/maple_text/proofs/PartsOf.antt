-- A text has a part round each byte.
use Rattle.std.proofs.Common.{◌≡◌, ℕ, eqb, cond, true, false, List, [], ◌∷◌, refl}
use Rattle.std.specs.List.{slice_split, onto_first}

pub record HasPart (parts : List (List ℕ)) : Type 0 where
  pub first : List ℕ
  pub others : List (List ℕ)
  pub is : parts ≡ first ∷ others

onto_part : (b : ℕ) (parts : List (List ℕ)) → HasPart (onto_first b parts)
onto_part b [] = record { first = b ∷ []; others = []; is = refl }
onto_part b (p ∷ ps) = record { first = b ∷ p; others = ps; is = refl }

pub some_part : (stop : ℕ) (text : List ℕ) → HasPart (slice_split (λ b. eqb b stop) text)
some_part stop [] = record { first = []; others = []; is = refl }
some_part stop (b ∷ bs) =
    let parts = slice_split (λ b. eqb b stop) bs in
    elim (eqb b stop) as (λ t. HasPart (cond t ([] ∷ parts) (onto_first b parts))) [
      | true ↦ record { first = []; others = parts; is = refl }
      | false ↦ onto_part b parts
    ]
