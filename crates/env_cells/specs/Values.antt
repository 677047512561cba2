-- What an environment has in a cell, other than a next hop.
use Rattle.std.specs.Prelude.{ℕ, Option, Some, None}
use Rattle.std.specs.FinMap as map
use Rattle.std.specs.FinSet as set
use Rattle.maple_base.specs.declared.cells.Place.{Place}
use Rattle.maple_base.specs.declared.cells.Cell.{Cell}
use Rattle.maple_base.specs.declared.cells.Cell.TheVariants.{Host, Hop, Up, Num}
use Rattle.maple_base.specs.declared.cells.Value.{Value}
use Rattle.maple_base.specs.declared.cells.Value.TheVariants.{Nothing, At, Number, Flag}
use Rattle.env_cells.specs.Environment.{Environment, ports_in}
use Rattle.env_cells.specs.Named.{numbers_in}

abbrev pub at_or_nothing : Option Place → Value
at_or_nothing None = Nothing
at_or_nothing (Some place) = At place

abbrev pub number_or_nothing : Option ℕ → Value
number_or_nothing None = Nothing
number_or_nothing (Some n) = Number n

-- the host's place, whether the port is up, the table's number; a next hop takes the walks over links, and has no value here
abbrev pub value_in : Environment → Cell → Value
value_in e (Host mac) = at_or_nothing (map.get e.hosts mac)
value_in e (Hop from to) = Nothing
value_in e (Up switch port) = Flag (set.contains (ports_in e.switches switch) port)
value_in e (Num table key) = number_or_nothing (map.get (numbers_in e.tables table) key)

-- the cell asks for no next hop
abbrev pub IsNoHop : Cell → Type 0
IsNoHop (Hop from to) = ⊥
IsNoHop c = Unit {0}
