-- Why an update is refused: the first of four reasons, in this order.
use Rattle.std.specs.Prelude.{◌≤◌, ℕ, Bool, true, not, ◌&&◌, nat_lt, if◌then◌else◌, Option, Some, None}
use Rattle.std.specs.FinMap as map
use Rattle.std.specs.FinSet as set
use Rattle.env_cells.specs.declared.updates.Update.{Update}
use Rattle.env_cells.specs.declared.updates.Update.TheVariants.{Switch, Port, Host, Link, NoLink, Set, Unset, Tables}
use Rattle.maple_base.specs.declared.update_refused.UpdateRefused.{UpdateRefused}
use Rattle.maple_base.specs.declared.update_refused.UpdateRefused.TheVariants.{UnknownTable, UnknownSwitch, PortRange, Full}
use Rattle.maple_base.specs.Ports.{is_port}
use Rattle.env_cells.specs.Most.{most_switches, most_up_ports, most_hosts, most_links, most_tables, most_numbers}
use Rattle.env_cells.specs.Environment.{Environment, name_cmp, knows, ports_in, declares}
use Rattle.env_cells.specs.Named.{numbers_in}
use Rattle.env_cells.specs.Listed.{listed_up}

-- the table that an update sets a number in is declared
abbrev pub names_tables : Environment → Update → Bool
names_tables e (Set table key value) = declares e table
names_tables e (Unset table key) = declares e table
names_tables e u = true

-- the switches of the places that an update names are known; `Switch` itself makes a switch known
abbrev pub names_switches : Environment → Update → Bool
names_switches e (Port switch port up) = knows e switch
names_switches e (Host mac place) = knows e place.switch
names_switches e (Link from to) = knows e from.switch && knows e to.switch
names_switches e (NoLink from) = knows e from.switch
names_switches e u = true

-- the ports that an update names are in range; those that `Switch` lists may be any
abbrev pub names_ports : Update → Bool
names_ports (Port switch port up) = is_port port
names_ports (Host mac place) = is_port place.port
names_ports (Link from to) = is_port from.port && is_port to.port
names_ports (NoLink from) = is_port from.port
names_ports u = true

-- so many would pass the limit
abbrev pub full : ℕ → ℕ → Option UpdateRefused
full count limit = if nat_lt limit count then Some (Full count limit) else None

abbrev pub else_full : Option UpdateRefused → ℕ → ℕ → Option UpdateRefused
else_full None count limit = full count limit
else_full (Some r) count limit = Some r

-- what would pass its limit: the switches, the up ports of a switch, the hosts, the links, the numbers of a table
abbrev pub full_of : Environment → Update → Option UpdateRefused
full_of e (Switch switch ports) = else_full (full (map.len (map.insert e.switches switch (listed_up ports))) most_switches) (set.len (listed_up ports)) most_up_ports
full_of e (Port switch port true) = full (set.len (set.insert (ports_in e.switches switch) port)) most_up_ports
full_of e (Host mac place) = full (map.len (map.insert e.hosts mac place)) most_hosts
full_of e (Link from to) = full (map.len (map.insert e.links from to)) most_links
full_of e (Set table key value) = full (map.len (map.insert (numbers_in e.tables table) key value)) most_numbers
full_of e u = None

-- the first reason to refuse an update
abbrev pub refusal_of : Environment → Update → Option UpdateRefused
refusal_of e u =
    if not (names_tables e u) then Some UnknownTable
    else (if not (names_switches e u) then Some UnknownSwitch
    else (if not (names_ports u) then Some PortRange
    else full_of e u))

-- `Tables` declares at most 16 tables
abbrev pub HasRoomForTables : Update → Type 0
HasRoomForTables (Tables names) = set.len (set.from_list {R = name_cmp} names) ≤ most_tables
HasRoomForTables u = Unit {0}
