use Rattle.std.proofs.Common.{◌≡◌, ℕ, List, length}
use Rattle.topo_paths.specs.Graphs.{RisePorts}
use Rattle.topo_paths.specs.Rows.{AreEnds}
use Rattle.topo_paths.specs.Levels.{IsLevel}
use Rattle.topo_paths.proofs.rows.find_hops.Given as goal

abbrev pub invariant-loop : goal.invariant-loop
invariant-loop l = record {
  square : length l.rows ≡ 64;
  masks : length l.reach ≡ 64;
  level : (switches : List ℕ) → AreEnds l.links switches l.ends → RisePorts l.links → IsLevel l.links switches l.index l.reach l.rows;
}
