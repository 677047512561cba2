use Rattle.std.proofs.Common.{◌≡◌, ◌++◌, drop, map, take}
use Rattle.maple_io.specs.Kept.{marked}
use Rattle.maple_io.proofs.kept.close_links.Given as goal

abbrev pub invariant-loop-link : goal.invariant-loop-link
invariant-loop-link l = l.links ≡ map (marked l.connection) (take l.link-index l.fn.links) ++ drop l.link-index l.fn.links
