-- What is known of a network, as finite maps.
use Rattle.std.specs.Prelude.{ℕ, Bool, unwrap_or, List, refl}
use Rattle.std.specs.Coded.{Coded, code_by, coded×, coded_ℕ, coded_list}
use Rattle.std.specs.declared.cmp.Ordering.{Ordering}
use Rattle.std.specs.Ordering.{nat_cmp, on, then_cmp}
use Rattle.std.specs.Cmp.Lexicographic.{slice_cmp}
use Rattle.std.specs.FinMap as map
use Rattle.std.specs.FinSet as set
use Rattle.maple_base.specs.declared.cells.Place.{Place}

-- places by their switch, and of one switch by their port
abbrev pub place_cmp : Place → Place → Ordering
place_cmp = then_cmp (on (λ p. p.switch) nat_cmp) (on (λ p. p.port) nat_cmp)

-- names by their text
abbrev pub name_cmp : List ℕ → List ℕ → Ordering
name_cmp = slice_cmp nat_cmp

-- numbers of ports
abbrev pub PortSet : Type 0
PortSet = set.FinSet nat_cmp

-- the numbers of a table by their keys
abbrev pub NumberTable : Type 0
NumberTable = map.FinMap nat_cmp ℕ

-- the up ports of a switch; one that is not known has none
abbrev pub ports_in : map.FinMap nat_cmp PortSet → ℕ → PortSet
ports_in switches switch = unwrap_or (map.get switches switch) set.empty

-- the known switches with their up ports, the hosts with their places, the links from places to places, the tables by their names;
-- a switch that is known stays known
pub record Environment : Type 0 where
  pub switches : map.FinMap nat_cmp PortSet
  pub hosts : map.FinMap nat_cmp Place
  pub links : map.FinMap place_cmp Place
  pub tables : map.FinMap name_cmp NumberTable

-- what is known where these are the entries of the links and of the tables
abbrev pub environment_of : map.FinMap nat_cmp PortSet → map.FinMap nat_cmp Place → List (Place × Place) → List (List ℕ × NumberTable) → Environment
environment_of s h ls ts = record { switches = s; hosts = h; links = map.from_entries ls; tables = map.from_entries ts }

-- without switches, hosts, links and tables
abbrev pub nothing_known : Environment
nothing_known = record { switches = map.empty; hosts = map.empty; links = map.empty; tables = map.empty }

-- whether a switch is known
abbrev pub knows : Environment → ℕ → Bool
knows e switch = map.contains_key e.switches switch

-- whether a table is declared
abbrev pub declares : Environment → List ℕ → Bool
declares e name = map.contains_key e.tables name

abbrev pub place_code : Coded Place
place_code = code_by (ℕ × ℕ) (coded× coded_ℕ coded_ℕ) (λ p. (p.switch, p.port)) (λ p. record { switch = p.0; port = p.1 }) (λ _. refl)

abbrev pub ports_code : Coded PortSet
ports_code = set.code coded_ℕ

abbrev pub table_code : Coded NumberTable
table_code = map.code coded_ℕ coded_ℕ

abbrev Parts : Type 0
Parts = (map.FinMap nat_cmp PortSet × map.FinMap nat_cmp Place) × (map.FinMap place_cmp Place × map.FinMap name_cmp NumberTable)

abbrev parts_code : Coded Parts
parts_code = coded× (coded× (map.code coded_ℕ ports_code) (map.code coded_ℕ place_code)) (coded× (map.code place_code place_code) (map.code (coded_list coded_ℕ) table_code))

-- an environment is stored as its four maps
abbrev pub environment_code : Coded Environment
environment_code =
    code_by Parts parts_code (λ e. ((e.switches, e.hosts), (e.links, e.tables)))
    (λ p. record { switches = p.0.0; hosts = p.0.1; links = p.1.0; tables = p.1.1 }) (λ _. refl)
