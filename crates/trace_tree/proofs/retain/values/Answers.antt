use Rattle.std.proofs.Common.{◌<◌, length, ◌∙◌, arith}
use Rattle.std.proofs.lemmas.Bool.Decides.{nat_tests}
use Rattle.trace_tree.proofs.Rolls.{tree_of-Values}
use Rattle.trace_tree.proofs.Retains.{reads_some}
use Rattle.trace_tree.proofs.retain.values.Goals as goal

pub returns-else-is_empty : goal.returns-else-is_empty
returns-else-is_empty c =
    let some : 0 < length c.args.children.items = grind (arith, nat_tests, c.if-is_empty.ensures, c.args.children.ok.0) in
    tree_of-Values c.args.field c.args.children ∙ reads_some c.args.field c.args.children.items some
