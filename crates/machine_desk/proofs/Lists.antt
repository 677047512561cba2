-- One item of a list is set; what is there is something.
use Rattle.std.proofs.Common.{◌≡◌, ℕ, true, zero, suc, List, [], ◌∷◌, set, refl, ap}
use Rattle.std.specs.Prelude.{Option, Some, None, is_some}
use Rattle.std.specs.List.{slice_get}

-- the others stay
pub set_beside : {X : Type 0} (xs : List X) (at n : ℕ) (y : X) → (n ≡ at → ⊥) → slice_get (set xs at y) n ≡ slice_get xs n
set_beside [] at n y other = refl
set_beside (z ∷ zs) zero zero y other = absurd (other refl)
set_beside (z ∷ zs) zero (suc n) y other = refl
set_beside (z ∷ zs) (suc at) zero y other = refl
set_beside (z ∷ zs) (suc at) (suc n) y other = set_beside zs at n y (λ e. other (ap suc e))

pub some_at : {X : Type 0} (o : Option X) → is_some o ≡ true → (x : X) × (o ≡ Some x)
some_at None e = absurd (cc)
some_at (Some x) e = (x, refl)
