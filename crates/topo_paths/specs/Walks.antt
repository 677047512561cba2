-- Walks of links from switch to switch, and what the next hop of a shortest one is.
use Rattle.std.specs.Prelude.{◌≡◌, ◌≢◌, ℕ, ◌≤◌, List, [], ◌∷◌, length, Contains}
use Rattle.maple_base.specs.declared.cells.Place.{Place}

-- a link leads from a port of one switch to a port of another
abbrev pub Link : Type 0
Link = Place × Place

-- links of the list, one after the other: the first begins at the one switch, each further one at the switch at which the one before ends, and the last ends at the other switch; no link at all leads from a switch to itself
abbrev pub IsWalk : List Link → ℕ → ℕ → List Link → Type 0
IsWalk links from to [] = from ≡ to
IsWalk links from to (link ∷ walk) = Contains links link × (link.0.switch ≡ from) × IsWalk links link.1.switch to walk

-- no walk leads from the one switch to the other
abbrev pub NoWalk : List Link → ℕ → ℕ → Type 0
NoWalk links from to = (walk : List Link) → ¬ IsWalk links from to walk

-- a walk than which none has fewer links
pub record IsShortest (links : List Link) (from to : ℕ) (walk : List Link) : Type 0 where
  pub leads : IsWalk links from to walk
  pub least : (other : List Link) → IsWalk links from to other → length walk ≤ length other

-- the link is the first of a shortest walk
abbrev pub BeginsShortest : List Link → ℕ → ℕ → Link → Type 0
BeginsShortest links from to link = (rest : List Link) × IsShortest links from to (link ∷ rest)

-- the next hop between two switches that are not one: by the least port of the first whose link begins a shortest walk, to the switch at which that link ends
pub record IsNextHop (links : List Link) (from to : ℕ) (hop : Place) : Type 0 where
  pub apart : from ≢ to
  pub begins : (link : Link) × BeginsShortest links from to link × (hop.port ≡ link.0.port) × (hop.switch ≡ link.1.switch)
  pub least : (link : Link) → BeginsShortest links from to link → hop.port ≤ link.0.port

-- the next hops to a switch, one after the other, lead from one switch to another: each names the switch that is left and the port
abbrev pub IsWay : List Link → ℕ → ℕ → ℕ → List Place → Type 0
IsWay links to from at [] = from ≡ at
IsWay links to from at (hop ∷ hops) = (next : ℕ) × (hop.switch ≡ from) × IsNextHop links from to (record { switch = next; port = hop.port }) × IsWay links to next at hops
