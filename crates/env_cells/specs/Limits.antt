-- What holds of every environment.
use Rattle.std.specs.Prelude.{◌≡◌, ℕ, ◌≤◌, Some, IsTrue, List}
use Rattle.std.specs.FinMap as map
use Rattle.std.specs.FinSet as set
use Rattle.maple_base.specs.declared.cells.Place.{Place}
use Rattle.maple_base.specs.Ports.{is_port}
use Rattle.env_cells.specs.Most.{most_switches, most_up_ports, most_hosts, most_links, most_tables, most_numbers}
use Rattle.env_cells.specs.Environment.{Environment, PortSet, NumberTable, knows}

-- a place at a known switch, at a port that a switch may have
pub record IsPlaceOf (e : Environment) (place : Place) : Type 0 where
  pub switch : IsTrue (knows e place.switch)
  pub port : IsTrue (is_port place.port)

-- at most so many switches, up ports of a switch, hosts, links, tables and numbers of a table, and links between ports of known switches
pub record IsWithinLimits (e : Environment) : Type 0 where
  pub switches : map.len e.switches ≤ most_switches
  pub ports : (switch : ℕ) (ports : PortSet) → map.get e.switches switch ≡ Some ports → set.len ports ≤ most_up_ports
  pub hosts : map.len e.hosts ≤ most_hosts
  pub links : map.len e.links ≤ most_links
  pub tables : map.len e.tables ≤ most_tables
  pub numbers : (name : List ℕ) (numbers : NumberTable) → map.get e.tables name ≡ Some numbers → map.len numbers ≤ most_numbers
  pub starts : (from to : Place) → map.get e.links from ≡ Some to → IsPlaceOf e from
  pub ends : (from to : Place) → map.get e.links from ≡ Some to → IsPlaceOf e to
