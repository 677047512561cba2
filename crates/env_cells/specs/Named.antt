-- Tables by their names.
use Rattle.std.specs.Prelude.{ℕ, unwrap_or, List, [], ◌∷◌}
use Rattle.std.specs.FinMap as map
use Rattle.env_cells.specs.Environment.{NumberTable, name_cmp}
use Rattle.env_cells.specs.Sorted.{replaced}

-- the numbers of a table; one that is not declared has none
abbrev pub numbers_in : map.FinMap name_cmp NumberTable → List ℕ → NumberTable
numbers_in tables name = unwrap_or (map.get tables name) map.empty

-- a table has this number at the key
abbrev pub with_number : map.FinMap name_cmp NumberTable → List ℕ → ℕ → ℕ → map.FinMap name_cmp NumberTable
with_number tables name key value = map.insert tables name (map.insert (numbers_in tables name) key value)

-- a table has no number at the key
abbrev pub without_number : map.FinMap name_cmp NumberTable → List ℕ → ℕ → map.FinMap name_cmp NumberTable
without_number tables name key = map.insert tables name (map.remove (numbers_in tables name) key)

-- the tables of these names, each with the numbers that it has, and empty where it is new
abbrev pub tables_named : map.FinMap name_cmp NumberTable → List (List ℕ) → map.FinMap name_cmp NumberTable
tables_named tables [] = map.empty
tables_named tables (name ∷ names) = map.insert (tables_named tables names) name (numbers_in tables name)

-- tables that are among these entries take their numbers
abbrev pub with_tables : map.FinMap name_cmp NumberTable → List (List ℕ × NumberTable) → map.FinMap name_cmp NumberTable
with_tables tables [] = tables
with_tables tables (e ∷ es) = replaced name_cmp (with_tables tables es) e.0 e.1
