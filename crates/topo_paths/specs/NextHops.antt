-- The next hop as a function of the links. That it is the first hop of a shortest walk of all, by the least port, is a clause of each call that answers it.
use Rattle.std.specs.Prelude.{ℕ, zero, suc, ◌+◌, Bool, ◌&&◌, ◌==◌, nat_lt, if◌then◌else◌, List, [], ◌∷◌, length, Option, Some, None}
use Rattle.std.specs.List.{list_any}
use Rattle.maple_base.specs.declared.cells.Place.{Place}
use Rattle.topo_paths.specs.Walks.{Link}

-- a walk of so many links leads from one switch to another
unfoldable pub leads_in : List Link → ℕ → ℕ → ℕ → Bool
leads_in links zero from to = from == to
leads_in links (suc n) from to = list_any (λ link. link.0.switch == from && leads_in links n link.1.switch to) links

-- the first number that passes, among so many from this one on
unfoldable pub first_passing : (ℕ → Bool) → ℕ → ℕ → Option ℕ
first_passing test from zero = None
first_passing test from (suc n) = if test from then Some from else first_passing test (from + 1) n

-- how many links a shortest walk has; it has each link at most once
unfoldable pub distance : List Link → ℕ → ℕ → Option ℕ
distance links from to = first_passing (λ n. leads_in links n from to) 0 (length links + 1)

-- a hop over a link: to the switch at which it ends, by the port at which it begins
abbrev pub hop_over : Link → Place
hop_over link = record { switch = link.1.switch; port = link.0.port }

-- of two hops the one by the lesser port
abbrev pub lesser : Place → Option Place → Place
lesser hop None = hop
lesser hop (Some other) = if nat_lt other.port hop.port then other else hop

-- of the hops over links that pass, the one by the least port
unfoldable pub least_hop : (Link → Bool) → List Link → Option Place
least_hop test [] = None
least_hop test (link ∷ links) = if test link then Some (lesser (hop_over link) (least_hop test links)) else least_hop test links

-- the link begins at the one switch, and so many further ones lead on to the other
abbrev pub leads_on : List Link → ℕ → ℕ → ℕ → Link → Bool
leads_on links n from to link = link.0.switch == from && leads_in links n link.1.switch to

-- the first hop of a walk of so many links
abbrev pub hop_at : List Link → ℕ → ℕ → Option ℕ → Option Place
hop_at links from to None = None
hop_at links from to (Some zero) = None
hop_at links from to (Some (suc n)) = least_hop (leads_on links n from to) links

-- the next hop from one switch to another
unfoldable pub next_hop : List Link → ℕ → ℕ → Option Place
next_hop links from to = hop_at links from to (distance links from to)
