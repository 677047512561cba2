use Rattle.std.proofs.Common.{sym, ap, ◌∙◌}
use Rattle.env_cells.specs.Named.{with_tables}
use Rattle.env_cells.specs.Sorted.{map_of}
use Rattle.env_cells.specs.Environment.{name_cmp}
use Rattle.env_cells.proofs.NamedTables.{with_tables_last}
use Rattle.env_cells.proofs.tables.SortedMap+Name+NumberMap+u64.take_over.Goals as goal

pub loop-name-preserved : goal.loop-name-preserved
loop-name-preserved c =
    let left = c.pop.new.self.items in
    let tables = map_of name_cmp c.loop-name.self in
    ap (λ m. with_tables m left) c.replace.ensures ∙ sym (with_tables_last tables left _) ∙ ap (with_tables tables) (sym c.in-Some.ensures.items) ∙ c.loop-name.invariant
