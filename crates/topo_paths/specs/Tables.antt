-- A table of next hops between the switches that links name.
use Rattle.std.specs.Prelude.{◌≡◌, ℕ, ◌≤◌, List, length, None, Contains, IsTrue}
use Rattle.std.specs.Vec.{vec_capacity}
use Rattle.maple_base.specs.declared.cells.Cell.TheVariants.{Hop}
use Rattle.maple_base.specs.declared.cells.Value.{Value}
use Rattle.maple_base.specs.Kinds.{of_kind}
use Rattle.env_cells.specs.Values.{at_or_nothing}
use Rattle.topo_paths.specs.Scenes.{HopIsShown}
use Rattle.topo_paths.specs.Walks.{Link}
use Rattle.topo_paths.specs.declared.hop_table.HopTable.{HopTable}
use Rattle.env_cells.specs.Most.{most_switches}
use Rattle.topo_paths.specs.Graphs.{IsGraph}
use Rattle.topo_paths.specs.NextHops.{next_hop}
use Rattle.topo_paths.specs.Rows.{HaveHops}

-- a table has a row for each of 64 places, and room for 64 switches and so many links with their ends
pub record HasRoom (table : HopTable) (links : ℕ) : Type 0 where
  pub least : links ≤ vec_capacity table.least
  pub switches : most_switches ≤ vec_capacity table.switches
  pub ends : links ≤ vec_capacity table.ends
  pub rows : length table.rows.items ≡ most_switches

-- a table has a row for each of at most 64 switches
pub record IsSquare (table : HopTable) : Type 0 where
  pub few : length table.switches.items ≤ most_switches
  pub rows : length table.rows.items ≡ most_switches

-- a table has the next hops of these links, and there are none between other switches
pub record IsTableOf (links : List Link) (table : HopTable) : Type 0 where
  pub square : IsSquare table
  pub hops : HaveHops links table.switches.items table.rows.items
  pub others : (from to : ℕ) → (Contains table.switches.items from × Contains table.switches.items to → ⊥) → next_hop links from to ≡ None

-- links that have next hops, and the table of these
pub record HasTable (links : List Link) (table : HopTable) : Type 0 where
  pub graph : IsGraph links
  pub hops : IsTableOf links table

-- a cell of the next hop has this value
pub record IsShown (links : List Link) (from to : ℕ) (value : Value) : Type 0 where
  pub told : value ≡ at_or_nothing (next_hop links from to)
  pub kind : IsTrue (of_kind (Hop from to) value)
  pub hop : HopIsShown links (Hop from to) value
