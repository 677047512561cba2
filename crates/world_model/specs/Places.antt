-- The places of connections, as links of the world.
use Rattle.std.specs.Prelude.{◌≢◌, ℕ, Bool, ◌==◌, map, List, []}
use Rattle.std.specs.List.{AllPairs}
use Rattle.machine_steps.specs.Machine.{State}
use Rattle.world_steps.specs.Worlds.{Link, World}
use Rattle.world_places.specs.declared.place.Place.{Place}
use Rattle.world_places.specs.Places.{opened_switch, switch_of, to_of}

abbrev pub link_of : Place → Link
link_of p = record { connection = p.connection; to = to_of p; switch = switch_of p }

abbrev pub links_of : List Place → List Link
links_of ps = map link_of ps

-- the world of a machine and these places
abbrev pub world_of : State → List Place → World
world_of machine places = record { machine = machine; links = links_of places }

-- a connection as it is opened
abbrev pub opened_link : ℕ → Link
opened_link c = record { connection = c; to = []; switch = opened_switch c }

abbrev pub is_of : ℕ → Link → Bool
is_of c l = l.connection == c

-- links of different connections
abbrev pub AreOthers : List Link → Type 0
AreOthers ls = AllPairs (λ (l k : Link). l.connection ≢ k.connection) ls
