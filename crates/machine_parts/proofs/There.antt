-- What stands at a place of a list.
use Rattle.std.proofs.Common.{◌≡◌, ℕ, zero, suc, List, [], ◌∷◌, Some, subst}
use Rattle.std.specs.List.{AllByRecursion, slice_get}

-- it has what all have
pub all_there : {X : Type 0} (P : X → Type 0) (at : ℕ) (xs : List X) (x : X) → slice_get xs at ≡ Some x → AllByRecursion P xs → P x
all_there P at [] x h all = absurd (cc)
all_there P zero (y ∷ ys) x h all = let same : y ≡ x = cc in subst P same all.0
all_there P (suc at) (y ∷ ys) x h all = all_there P at ys x h all.1
