-- What the next hop as a function says of all walks.
use Rattle.std.specs.Prelude.{◌≡◌, ◌⊎◌, ℕ, List, MatchOption}
use Rattle.topo_paths.specs.Walks.{Link, IsNextHop, NoWalk}
use Rattle.topo_paths.specs.NextHops.{next_hop}

-- a next hop is the first of a shortest walk of all, by the least port; there is none exactly where the switches are one or no walk leads from the first to the second
abbrev pub NextHopIsShortest : Type 0
NextHopIsShortest =
    (links : List Link) (from to : ℕ) → MatchOption (next_hop links from to) ((from ≡ to) ⊎ NoWalk links from to) (λ hop. IsNextHop links from to hop)
