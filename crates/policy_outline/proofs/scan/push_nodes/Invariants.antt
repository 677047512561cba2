use Rattle.std.proofs.Common.{◌≡◌, ◌-◌, ◌++◌}
use Rattle.policy_outline.specs.Scanning.{nodes_at}
use Rattle.policy_outline.proofs.scan.push_nodes.Given as goal

-- the other nodes come behind those that are there
abbrev pub invariant-loop-number : goal.invariant-loop-number
invariant-loop-number l =
    l.nodes.items ++ nodes_at l.outer l.token l.named l.number l.ended (l.last - l.number)
    ≡ l.fn.nodes.items ++ nodes_at l.fn.whole l.token l.named l.begun l.ended l.fn.count.begun
