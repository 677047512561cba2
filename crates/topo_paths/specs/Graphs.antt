-- Which links have a table of next hops.
use Rattle.std.specs.Prelude.{◌≡◌, ◌≤◌, List, All}
use Rattle.std.specs.List.{AllPairs}
use Rattle.topo_paths.specs.Walks.{Link}
use Rattle.env_cells.specs.Lists.{StartApart, NamesFewSwitches, IsBetweenPorts}

-- no two links begin at one place, all links together name at most 64 switches, and each port is from 1 to 65,280
pub record IsGraph (links : List Link) : Type 0 where
  pub apart : StartApart links
  pub few : NamesFewSwitches links
  pub ports : All IsBetweenPorts links

-- of two links that begin at one switch the one by the lesser port comes first
abbrev pub RisePorts : List Link → Type 0
RisePorts links = AllPairs (λ link other. link.0.switch ≡ other.0.switch → link.0.port ≤ other.0.port) links
