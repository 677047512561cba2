-- Stacks, as lists with the last thing first.
use Rattle.std.specs.Prelude.{◌≡◌, List, [], ◌∷◌, Option, Some, None}

-- the thing on top was taken away, or there was none
abbrev pub Popped : {A : Type 0} → Option A → List A → List A → Type 0
Popped (Some a) old new = old ≡ a ∷ new
Popped None old new = (old ≡ []) × (new ≡ [])

abbrev pub top_of : {A : Type 0} → List A → Option A
top_of [] = None
top_of (a ∷ as_) = Some a
