-- What a scene has in its cells.
use Rattle.std.specs.Prelude.{◌≡◌, ◌⊎◌, List}
use Rattle.std.specs.FinMap as map
use Rattle.maple_base.specs.declared.cells.Cell.{Cell}
use Rattle.maple_base.specs.declared.cells.Cell.TheVariants.{Hop}
use Rattle.maple_base.specs.declared.cells.Value.{Value}
use Rattle.maple_base.specs.declared.cells.Value.TheVariants.{Nothing, At}
use Rattle.env_cells.specs.Environment.{Environment}
use Rattle.env_cells.specs.Values.{value_in, at_or_nothing}
use Rattle.topo_paths.specs.Walks.{Link, IsNextHop, NoWalk}
use Rattle.topo_paths.specs.NextHops.{next_hop}

-- the links of an environment
abbrev pub links_in : Environment → List Link
links_in e = map.entries e.links

-- a cell's value in the environment, or the next hop over its links
abbrev pub cell_in : Environment → Cell → Value
cell_in e (Hop from to) = at_or_nothing (next_hop (links_in e) from to)
cell_in e cell = value_in e cell

-- a cell of a next hop has it, or nothing where the switches are one or no walk leads from the first to the second
abbrev pub HopIsShown : List Link → Cell → Value → Type 0
HopIsShown links (Hop from to) (At hop) = IsNextHop links from to hop
HopIsShown links (Hop from to) value = (value ≡ Nothing) × ((from ≡ to) ⊎ NoWalk links from to)
HopIsShown links cell value = Unit {0}
