-- The ports that a list says are up.
use Rattle.std.specs.Prelude.{Bool, ◌&&◌, List, map as map_list, filter}
use Rattle.std.specs.FinSet as set
use Rattle.maple_base.specs.declared.cells.Port.{Port}
use Rattle.maple_base.specs.Ports.{is_port}
use Rattle.env_cells.specs.Environment.{PortSet}

-- the entry says that its port is up, and a switch may have such a port
abbrev pub is_listed_up : Port → Bool
is_listed_up p = p.up && is_port p.number

-- a number that stands twice counts once, and is up where some entry says so
abbrev pub listed_up : List Port → PortSet
listed_up ports = set.from_list (map_list (λ p. p.number) (filter is_listed_up ports))
