use Rattle.std.proofs.Common.{ap, ◌∙◌}
use Rattle.env_cells.specs.Environment.{name_cmp}
use Rattle.env_cells.specs.Named.{tables_named}
use Rattle.env_cells.specs.Sorted.{map_of}
use Rattle.env_cells.proofs.NamedTables.{declared}
use Rattle.env_cells.proofs.tables.SortedMap+Name+NumberMap+u64.declare.Goals as goal

pub returns-clause-ok : goal.returns-clause-ok
returns-clause-ok c =
    ap (map_of name_cmp) c.drop.view_is ∙ c.take_over.ensures
    ∙ declared c.self.inside.entries.items c.args.names.now _ c.in_ok-tables.ensures ∙ ap (λ l. tables_named (map_of name_cmp l) c.args.names.now) c.self.view_is
