-- Links as a list, each from the first place to the second.
use Rattle.std.specs.Prelude.{◌≡◌, ◌≢◌, ℕ, ◌≤◌, List, length, All, Contains, IsTrue}
use Rattle.std.specs.List.{AllPairs}
use Rattle.std.specs.declared.cmp.Ordering.TheVariants.{Less}
use Rattle.maple_base.specs.declared.cells.Place.{Place}
use Rattle.maple_base.specs.Ports.{is_port}
use Rattle.env_cells.specs.Most.{most_switches}
use Rattle.env_cells.specs.Environment.{Environment, place_cmp, knows}

-- no two links have the same first place
abbrev pub StartApart : List (Place × Place) → Type 0
StartApart links = AllPairs (λ link other. link.0 ≢ other.0) links

-- the links stand in the order of their first places
abbrev pub RiseByPlace : List (Place × Place) → Type 0
RiseByPlace links = AllPairs (λ link other. place_cmp link.0 other.0 ≡ Less) links

-- every link is from a port in 1 to 65,280 to a port in 1 to 65,280
pub record IsBetweenPorts (link : Place × Place) : Type 0 where
  pub start : IsTrue (is_port link.0.port)
  pub end : IsTrue (is_port link.1.port)

-- a link is between known switches
pub record IsKnown (e : Environment) (link : Place × Place) : Type 0 where
  pub start : IsTrue (knows e link.0.switch)
  pub end : IsTrue (knows e link.1.switch)

-- a link is between switches of this list
pub record IsAmong (switches : List ℕ) (link : Place × Place) : Type 0 where
  pub start : Contains switches link.0.switch
  pub end : Contains switches link.1.switch

-- the links name at most 64 switches: 64 switches at most can be listed that have among them both switches of each link
abbrev pub NamesFewSwitches : List (Place × Place) → Type 0
NamesFewSwitches links = (switches : List ℕ) × (length switches ≤ most_switches) × All (IsAmong switches) links
