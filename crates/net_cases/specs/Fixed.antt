-- Which fields the items so far fixed.
use Rattle.std.specs.Prelude.{Bool, true, false, not, List, ◌∷◌}
use Rattle.std.specs.List.{list_any}
use Rattle.maple_base.specs.declared.key.Field.{Field}
use Rattle.maple_base.specs.declared.items.Item.{Item}
use Rattle.maple_base.specs.declared.items.Item.TheVariants.{Read, Test}
use Rattle.maple_base.specs.Questions.{same_field}

-- an item's field is not among these
abbrev pub is_new : List Field → Item → Bool
is_new fixed (Read f v) = not (list_any (λ g. same_field g f) fixed)
is_new fixed (Test f v a) = not (list_any (λ g. same_field g f) fixed)

-- these fields and the item's, where its answer fixes it
abbrev pub fixed_behind : Item → List Field → List Field
fixed_behind (Read f v) fixed = f ∷ fixed
fixed_behind (Test f v true) fixed = f ∷ fixed
fixed_behind (Test f v false) fixed = fixed
