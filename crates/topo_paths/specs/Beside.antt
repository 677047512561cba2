-- Links beside others: where another link leads between the same two switches by a lesser port, a link makes no next hop.
use Rattle.std.specs.Prelude.{◌≡◌, ◌≤◌, ◌⊎◌, ℕ, Bool, true, ◌&&◌, ◌==◌, nat_lt, List, [], ◌∷◌, ◌++◌, length, All, Contains}
use Rattle.std.specs.List.{list_any}
use Rattle.maple_base.specs.declared.cells.Place.{Place}
use Rattle.topo_paths.specs.Walks.{Link}
use Rattle.topo_paths.specs.Graphs.{RisePorts}
use Rattle.topo_paths.specs.NextHops.{next_hop}

-- a link leads from the switch of the one place, by a lesser port, to that of the other
abbrev pub is_beside : Place → Place → Link → Bool
is_beside from to link = link.1.switch == to.switch && nat_lt link.0.port from.port && link.0.switch == from.switch

-- a link leads between the same two switches as another, by a port that is no greater
pub record IsBeside (other link : Link) : Type 0 where
  pub begins : other.0.switch ≡ link.0.switch
  pub ends : other.1.switch ≡ link.1.switch
  pub port : other.0.port ≤ link.0.port

-- one of the links is beside another
abbrev pub HasBeside : List Link → Link → Type 0
HasBeside links link = (other : Link) × Contains links other × IsBeside other link

-- links among others, each of which has one of them beside it
pub record AreAmong (links others : List Link) : Type 0 where
  pub all : (link : Link) → Contains links link → Contains others link
  pub beside : (link : Link) → Contains others link → HasBeside links link

-- the links that are kept of others, in their order
pub record AreLeast (links least : List Link) : Type 0 where
  pub all : All (Contains links) least
  pub beside : All (HasBeside least) links
  pub rise : RisePorts least
  pub few : length least ≤ length links

-- a link was added, or one of those that are there is beside it
abbrev pub IsKept : List Link → Link → List Link → Type 0
IsKept before link after = (after ≡ before ++ link ∷ []) ⊎ ((after ≡ before) × (list_any (is_beside link.0 link.1) before ≡ true))

-- links that begin at one place are one
pub record StartOnce (links : List Link) : Type 0 where
  pub one : (a b : Link) → Contains links a → Contains links b → a.0 ≡ b.0 → a ≡ b

-- other links have the same next hops
pub record KeepsHops (links others : List Link) : Type 0 where
  pub hops : (from to : ℕ) → next_hop others from to ≡ next_hop links from to
