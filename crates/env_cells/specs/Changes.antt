-- The environment after an accepted update.
use Rattle.std.specs.Prelude.{ℕ, true, false, List}
use Rattle.std.specs.FinMap as map
use Rattle.std.specs.FinSet as set
use Rattle.env_cells.specs.declared.updates.Update.{Update}
use Rattle.env_cells.specs.declared.updates.Update.TheVariants.{Switch, Port as PortState, Host, NoHost, Link, NoLink, Set, Unset, Tables}
use Rattle.env_cells.specs.Environment.{Environment, PortSet, NumberTable, ports_in}
use Rattle.env_cells.specs.Named.{numbers_in, tables_named}
use Rattle.env_cells.specs.Listed.{listed_up}

-- a switch has these up ports and no others
abbrev pub with_ports : Environment → ℕ → PortSet → Environment
with_ports e switch ports = record e { switches = map.insert e.switches switch ports }

-- a table has these numbers and no others
abbrev pub with_numbers : Environment → List ℕ → NumberTable → Environment
with_numbers e name numbers = record e { tables = map.insert e.tables name numbers }

abbrev pub applied : Environment → Update → Environment
applied e (Switch switch ports) = with_ports e switch (listed_up ports)
applied e (PortState switch port true) = with_ports e switch (set.insert (ports_in e.switches switch) port)
applied e (PortState switch port false) = with_ports e switch (set.remove (ports_in e.switches switch) port)
applied e (Host mac place) = record e { hosts = map.insert e.hosts mac place }
applied e (NoHost mac) = record e { hosts = map.remove e.hosts mac }
applied e (Link from to) = record e { links = map.insert e.links from to }
applied e (NoLink from) = record e { links = map.remove e.links from }
applied e (Set table key value) = with_numbers e table (map.insert (numbers_in e.tables table) key value)
applied e (Unset table key) = with_numbers e table (map.remove (numbers_in e.tables table) key)
applied e (Tables names) = record e { tables = tables_named e.tables names }
