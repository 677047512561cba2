-- What a key and an environment make of a tree of questions.
use Rattle.std.specs.Prelude.{◌==◌, List, [], ◌∷◌}
use Rattle.maple_base.specs.declared.key.Key.{Key}
use Rattle.maple_base.specs.declared.cells.Cell.{Cell}
use Rattle.maple_base.specs.declared.cells.Value.{Value}
use Rattle.maple_base.specs.declared.items.Item.{Item}
use Rattle.maple_base.specs.declared.items.Item.TheVariants.{Read, Test}
use Rattle.maple_base.specs.Keys.{field_of}
use Rattle.policy_meaning.specs.Asking.{Asking, Done, AsksField, AsksTest, AsksCell}

-- what is done at the end of their answers: plain evaluation
abbrev pub outcome_in : {A : Type 0} → Asking A → Key → (Cell → Value) → A
outcome_in (Done a) k env = a
outcome_in (AsksField f by) k env = outcome_in (by (field_of k f)) k env
outcome_in (AsksTest f v by) k env = outcome_in (by (field_of k f == v)) k env
outcome_in (AsksCell c by) k env = outcome_in (by (env c)) k env

-- what is asked of the key, with its answers
abbrev pub items_of : {A : Type 0} → Asking A → Key → (Cell → Value) → List Item
items_of (Done a) k env = []
items_of (AsksField f by) k env = Read f (field_of k f) ∷ items_of (by (field_of k f)) k env
items_of (AsksTest f v by) k env = Test f v (field_of k f == v) ∷ items_of (by (field_of k f == v)) k env
items_of (AsksCell c by) k env = items_of (by (env c)) k env

-- what is asked of the environment, with its answers
abbrev pub cells_of : {A : Type 0} → Asking A → Key → (Cell → Value) → List (Cell × Value)
cells_of (Done a) k env = []
cells_of (AsksField f by) k env = cells_of (by (field_of k f)) k env
cells_of (AsksTest f v by) k env = cells_of (by (field_of k f == v)) k env
cells_of (AsksCell c by) k env = (c, env c) ∷ cells_of (by (env c)) k env
