use Rattle.std.proofs.Common.{◌≡◌, take}
use Rattle.std.specs.Vec.{vec_capacity}
use Rattle.topo_paths.specs.Beside.{AreLeast}
use Rattle.topo_paths.proofs.least.keep_least.Given as goal

abbrev pub invariant-loop-link : goal.invariant-loop-link
invariant-loop-link l = record {
  least : AreLeast (take l.link-index l.links) l.least.items;
  capacity : vec_capacity l.least ≡ vec_capacity l.initial.least;
}
