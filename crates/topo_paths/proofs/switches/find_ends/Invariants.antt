use Rattle.std.proofs.Common.{◌≡◌, ◌≢◌, ℕ, ◌<◌, List, All, AllPairs, Contains, length, get_or}
use Rattle.std.specs.Vec.{vec_capacity}
use Rattle.env_cells.specs.Lists.{IsAmong}
use Rattle.topo_paths.specs.declared.rows.Ends.{Ends}
use Rattle.topo_paths.specs.Walks.{Link}
use Rattle.topo_paths.specs.Rows.{IsEnds}
use Rattle.topo_paths.proofs.switches.find_ends.Given as goal

abbrev pub invariant-loop-from : goal.invariant-loop-from
invariant-loop-from l = record {
  capacity : vec_capacity l.switches ≡ vec_capacity l.initial.switches;
  capacity_of_ends : vec_capacity l.ends ≡ vec_capacity l.initial.ends;
  distinct : AllPairs ◌≢◌ l.switches.items;
  among : (names : List ℕ) → All (IsAmong names) l.links → All (Contains names) l.switches.items;
  long : length l.ends.items ≡ l.from-index;
  each : (k : ℕ) (b : Link) (d : Ends) → k < l.from-index → IsEnds l.switches.items (get_or l.links k b) (get_or l.ends.items k d);
}
