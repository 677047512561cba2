use Rattle.std.proofs.Common.{◌≡◌, true, drop}
use Rattle.trace_tree.specs.TreeOf.{tree_of}
use Rattle.trace_tree.specs.Growth.{admits, IsOrdered}
use Rattle.net_cases.proofs.admission.leads.Given as goal

-- the items so far lead to this node
abbrev pub invariant-loop-item : goal.invariant-loop-item
invariant-loop-item l = record {
  ordered : IsOrdered (tree_of l.node);
  leads : admits (drop l.item-index l.items) (tree_of l.node) ≡ true → admits l.items l.tree ≡ true;
}
