use Rattle.std.proofs.Common.{◌≡◌, ◌+◌, ◌-◌, drop, ap, ◌∙◌, arith}
use Rattle.std.specs.FinMap as map
use Rattle.env_cells.specs.Named.{tables_named}
use Rattle.env_cells.proofs.NamedTables.{named_more}
use Rattle.env_cells.proofs.tables.SortedMap+Name+NumberMap+u64.named.Goals as goal

pub loop-left-preserved : goal.loop-left-preserved
loop-left-preserved c =
    let names = c.args.names.now in
    let at = c.loop-left.left - 1 in
    let name = c.index-names-left.result in
    let one_on : c.loop-left.left ≡ at + 1 = omega (arith, c.loop-left-test.true) in
    record {
      within = omega (arith, c.loop-left.invariant.within);
      made =
          c.in_ok-insert.ensures.ok
          ∙ (λ j. map.insert ((c.loop-left.invariant.made ∙ ap (λ i. tables_named map.empty (drop i names)) one_on) j) (c.index-names-left.is j) (c.new.ensures j))
          ∙ named_more names at name (omega (arith, c.loop-left-test.true, c.loop-left.invariant.within));
    }
