use Rattle.std.proofs.Common.{◌≡◌, drop}
use Rattle.std.specs.List.{list_all}
use Rattle.maple_base.specs.Names.{is_name}
use Rattle.policy_lang.specs.Faults.{tables_behind, table_names}
use Rattle.policy_lang.specs.Scopes.{in_force}
use Rattle.policy_lang.proofs.names.Scope.of_tables.Given as goal

-- the tables so far are in force, and those left come behind them; those so far are names
abbrev pub invariant-loop-table : goal.invariant-loop-table
invariant-loop-table l =
    (tables_behind (in_force l.scope.names.entries) (drop l.table-index l.tables) ≡ table_names l.tables)
    × (list_all is_name (drop l.table-index l.tables) ≡ list_all is_name l.tables)
