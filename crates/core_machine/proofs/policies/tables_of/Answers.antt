-- the names of the tables
use Rattle.std.proofs.Common.{◌≤◌, sym, ap, ◌∙◌, subst, length}
use Rattle.env_cells.specs.declared.updates.Update.TheVariants.{Tables}
use Rattle.env_cells.specs.FewNames.{few_names}
use Rattle.core_machine.proofs.policies.tables_of.Goals as goal

pub returns-clause-named : goal.returns-clause-named
returns-clause-named c = ap Tables (c.new-names.ensures ∙ c.in_ok-from_slice.ensures.items ∙ c.items.ensures ∙ c.tables.ensures.tables)

pub returns-clause-room : goal.returns-clause-room
returns-clause-room c =
    let e = c.new-names.ensures ∙ c.in_ok-from_slice.ensures.items ∙ c.items.ensures ∙ c.tables.ensures.tables in
    few_names c.new-names.result (subst (λ l. length l ≤ 16) (sym e) c.tables.ensures.few)
