use Rattle.std.proofs.Common.{unwrap_or}
use Rattle.topo_paths.specs.NextHops.{distance}
use Rattle.topo_paths.proofs.Ways.{IsUnderWay}
use Rattle.topo_paths.proofs.hops.Hops.way.Given as goal

abbrev pub invariant-loop-next : goal.invariant-loop-next
invariant-loop-next l = IsUnderWay l.self l.from l.to l.at l.hops.items

abbrev pub decreases-loop-next : goal.decreases-loop-next
decreases-loop-next l = unwrap_or (distance l.self l.at l.to) 0
