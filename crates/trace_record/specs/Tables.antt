-- What is kept beside items and cells, so that nothing is searched.
use Rattle.std.specs.Prelude.{◌≡◌, ℕ, Bool, true, ◌&&◌, ◌==◌, List, length, Option, None}
use Rattle.std.specs.List.{list_all, slice_index_or}
use Rattle.std.specs.HashMap.{HashMap, get}
use Rattle.std.specs.HashSet.{HashSet, contains}
use Rattle.maple_base.specs.declared.key.Field.{Field}
use Rattle.maple_base.specs.declared.items.Item.{Item}
use Rattle.maple_base.specs.declared.cells.Cell.{Cell}
use Rattle.maple_base.specs.declared.cells.Value.{Value}
use Rattle.maple_base.specs.Questions.{field_number, known, excluded}
use Rattle.maple_base.specs.contracts.key.FieldPartialEq.TheImpl as field
use Rattle.maple_base.specs.contracts.cells.CellPartialEq.TheImpl as cell
use Rattle.policy_meaning.specs.Cells.{given, is_of_kind}

-- as `==` compares keys of tables
abbrev pub equal_cells : Cell → Cell → Bool
equal_cells = (cell.ghosts).eq

abbrev pub equal_fields : Field → Field → Bool
equal_fields = (field.ghosts).eq

abbrev pub equal_pairs : Field × ℕ → Field × ℕ → Bool
equal_pairs a b = equal_fields a.0 b.0 && a.1 == b.1

-- the tables have, of each field, the value that the items fixed it to, by its number, and those that they excluded
pub record AreOf {T : Type 0} (is : List Item) (fixed : List (Option ℕ)) (ruled : HashSet (Field × ℕ) T) : Type 0 where
  pub long : length fixed ≡ 11
  pub known : (f : Field) → slice_index_or fixed (field_number f) None ≡ known f is
  pub excluded : (f : Field) (v : ℕ) → contains equal_pairs ruled (f, v) ≡ excluded f v is

-- the table has what was read in each cell, and each value is of its cell's kind
pub record AreKept {S : Type 0} (cs : List (Cell × Value)) (table : HashMap Cell Value S) : Type 0 where
  pub given : (c : Cell) → get equal_cells table c ≡ given c cs
  pub kinds : list_all is_of_kind cs ≡ true
