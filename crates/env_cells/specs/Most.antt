-- The most that an environment holds.
use Rattle.std.specs.Prelude.{ℕ}

-- the most switches
abbrev pub most_switches : ℕ
most_switches = 64

-- the most up ports of a switch
abbrev pub most_up_ports : ℕ
most_up_ports = 1364

-- the most hosts
abbrev pub most_hosts : ℕ
most_hosts = 65536

-- the most links
abbrev pub most_links : ℕ
most_links = 4096

-- the most tables
abbrev pub most_tables : ℕ
most_tables = 16

-- the most numbers of a table
abbrev pub most_numbers : ℕ
most_numbers = 65536
