-- A server: the machine at its desk, who works beside it, and the connections of switches.
use Rattle.std.specs.Prelude.{ℕ, ◌<◌, ◌≤◌, List, length}
use Rattle.machine_steps.specs.Machine.{State}
use Rattle.machine_desk.specs.declared.inbound.Inbound.{Inbound}
use Rattle.machine_desk.specs.Connections.{AreSessions as AreSessionsOf, Connections, IsAt as IsAtIndex, IsKnown as IsKnownOf, IsUnknown as IsUnknownOf}
use Rattle.machine_desk.specs.Homes.{Home, IsAlone, IsSame as IsSameAt, IsSameHall as IsSameHallAt}
use Rattle.serve_channels.specs.declared.connection.Connection.{Connection}
use Rattle.serve_channels.specs.declared.server.Server.{Server}

-- ---- connections

abbrev pub number_of : Connection → ℕ
number_of k = k.inbound.connection

-- where a server has its desk, who works beside it, and its connections
abbrev pub home : Home Server
home = record { desk = λ (s : Server). s.desk; crew = λ (s : Server). s.crew; moved = λ (s : Server) desk crew. record s { desk = desk; crew = crew } }

abbrev pub links : Connections Server Connection
links = record {
  home = home;
  all = λ (s : Server). s.connections.items;
  number = λ (at : ℕ) (k : Connection). number_of k;
  inbound = λ (k : Connection). k.inbound;
  moved = λ (old new : Server). record old { desk = new.desk; connections = new.connections };
  filled = λ (old new : Server). record old { connections = new.connections };
}

-- the connection with this index is that of this number
abbrev pub IsAt : ℕ → ℕ → List Connection → Type 0
IsAt at c ks = IsAtIndex links at c ks

-- there is one of this number
abbrev pub IsKnown : ℕ → List Connection → Type 0
IsKnown c ks = IsKnownOf links c ks

abbrev pub IsUnknown : ℕ → List Connection → Type 0
IsUnknown c ks = IsUnknownOf links c ks

-- they stand in the order of their numbers, and so no number stands twice
abbrev pub AreSorted : List Connection → Type 0
AreSorted ks = (i j c d : ℕ) → i < j → IsAt i c ks → IsAt j d ks → c < d

-- there is none of this number, if they are sorted
abbrev pub IsMissing : ℕ → List Connection → Type 0
IsMissing c ks = AreSorted ks → IsUnknown c ks

-- a connection of this number would go here: if they are sorted, each one ahead has a lower number, and each one from here on a higher
pub record IsGap (at c : ℕ) (ks : List Connection) : Type 0 where
  pub within : at ≤ length ks
  pub ahead : AreSorted ks → (i d : ℕ) → i < at → IsAt i d ks → d < c
  pub behind : AreSorted ks → (i d : ℕ) → at ≤ i → IsAt i d ks → c < d

-- ---- the machine

-- the sessions of the machine are those of these connections
abbrev pub AreSessions : List Connection → State → Type 0
AreSessions ks m = AreSessionsOf links ks m

-- ---- what no call changes

-- a connection of which this came
abbrev pub with_inbound : Inbound → Connection → Connection
with_inbound i k = record k { inbound = i }

-- whose hall it is, and who works beside
abbrev pub IsSame : Server → Server → Type 0
IsSame old new = IsSameAt home old new

-- the same, but for what is marked of the turns
abbrev pub IsSameHall : Server → Server → Type 0
IsSameHall old new = IsSameHallAt home old new

-- the same connections are there
abbrev pub SameNumbers : Server → Server → Type 0
SameNumbers old new =
    (at c : ℕ)
    → (IsAt at c old.connections.items → IsAt at c new.connections.items) × (IsAt at c new.connections.items → IsAt at c old.connections.items)

-- nobody works beside the server
abbrev pub WorksAlone : Server → Type 0
WorksAlone server = IsAlone home server
