-- Next hops that lead as far as there are any.
use Rattle.std.specs.Prelude.{◌≡◌, ◌≢◌, ℕ, ◌<◌, ◌⊎◌, List, length}
use Rattle.maple_base.specs.declared.cells.Place.{Place}
use Rattle.maple_base.specs.Paths.{IsPath}
use Rattle.topo_paths.specs.Walks.{Link, IsWay, NoWalk}

-- no hops where none leads on, else a way to the switch
pub record IsWholeWay (links : List Link) (from to : ℕ) (hops : List Place) : Type 0 where
  pub none : length hops ≡ 0 → (from ≡ to) ⊎ NoWalk links from to
  pub way : 0 < length hops → IsWay links to from to hops
  pub path : 0 < length hops → IsPath hops
  pub apart : 0 < length hops → from ≢ to
