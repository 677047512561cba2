-- A driver of any kind, by its connections: what is done with one of them, and what is left to do.
use Rattle.std.specs.Prelude.{◌≡◌, ℕ, false, List, [], set, Some, is_some}
use Rattle.std.specs.List.{slice_get}
use Rattle.machine_desk.specs.declared.inbound.Inbound.{Inbound}
use Rattle.machine_desk.specs.declared.inbound.Stage.TheVariants.{Live, Over}
use Rattle.machine_desk.specs.Desks.{DeskView}
use Rattle.machine_desk.specs.Hearing.{IsStaged}
use Rattle.machine_steps.specs.Machine.{State, session_at}
use Rattle.world_steps.specs.Worlds.{messages_for}
use Rattle.machine_desk.specs.Homes.{Home, NoneWaits, rest_of}

-- where a driver has its connections: those that are there, the number that the one with an index has, and what comes of one. `moved old new` is `old` with
-- the desk and the connections of `new`, `filled old new` with the connections alone
pub record Connections (D K : Type 0) : Type 0 where
  pub home : Home D
  pub all : D → List K
  pub number : ℕ → K → ℕ
  pub inbound : K → Inbound
  pub moved : D → D → D
  pub filled : D → D → D

-- the one with this index has this number
pub record IsAt {D K : Type 0} (c : Connections D K) (at n : ℕ) (ks : List K) : Type 0 where
  pub connection : K
  pub there : slice_get ks at ≡ Some connection
  pub number : c.number at connection ≡ n

-- there is one of this number
abbrev pub IsKnown : {D K : Type 0} → Connections D K → ℕ → List K → Type 0
IsKnown c n ks = (at : ℕ) × IsAt c at n ks

abbrev pub IsUnknown : {D K : Type 0} → Connections D K → ℕ → List K → Type 0
IsUnknown c n ks = IsKnown c n ks → ⊥

-- ---- what is done with one

-- this was done at the desk of the connection with this index, which goes on so, and nothing else changed
pub record Moves {D K : Type 0} (c : Connections D K) (goes_on : Inbound → K → K) (at : ℕ) (Does : DeskView → Inbound → DeskView → Inbound → Type 0)
    (old new : D) : Type 0 where
  pub connection : K
  pub there : slice_get (c.all old) at ≡ Some connection
  pub number : (c.inbound connection).connection ≡ c.number at connection
  pub behind : Inbound
  pub does : Does (c.home.desk old) (c.inbound connection) (c.home.desk new) behind
  pub rest : new ≡ c.moved old new
  pub all : c.all new ≡ set (c.all old) at (goes_on behind connection)

-- the same without the desk
pub record Fills {D K : Type 0} (c : Connections D K) (goes_on : Inbound → K → K) (at : ℕ) (Does : Inbound → Inbound → Type 0) (old new : D) : Type 0 where
  pub connection : K
  pub there : slice_get (c.all old) at ≡ Some connection
  pub behind : Inbound
  pub does : Does (c.inbound connection) behind
  pub rest : new ≡ c.filled old new
  pub all : c.all new ≡ set (c.all old) at (goes_on behind connection)

-- the others are as they were
abbrev pub OthersStay : {D K : Type 0} → Connections D K → ℕ → D → D → Type 0
OthersStay c at old new = (n : ℕ) → (n ≡ at → ⊥) → slice_get (c.all new) n ≡ slice_get (c.all old) n

-- how many bytes that came of the one with this index are to be heard yet
abbrev pub rest_at : {D K : Type 0} → Connections D K → ℕ → D → ℕ
rest_at c at driver = rest_of c.inbound (slice_get (c.all driver) at)

-- the session of each stands as its stage says
abbrev pub AreStaged : {K : Type 0} → (K → Inbound) → List K → State → Type 0
AreStaged {K} inbound ks m = (at : ℕ) (k : K) → slice_get ks at ≡ Some k → IsStaged (inbound k) m

-- the sessions of the machine are those of these
pub record AreSessions {D K : Type 0} (c : Connections D K) (ks : List K) (m : State) : Type 0 where
  pub staged : AreStaged c.inbound ks m
  pub others : (n : ℕ) → IsUnknown c n ks → is_some (session_at n m) ≡ false

-- ---- what is left to do

-- it holds of the connection with this index, where its session is open
abbrev pub WhileLive : {D K : Type 0} → Connections D K → (K → Type 0) → ℕ → D → Type 0
WhileLive {D} {K} c Holds at driver = (k : K) → slice_get (c.all driver) at ≡ Some k → (c.inbound k).stage ≡ Live → Holds k

-- the session of the connection with this index is over, if there is one
abbrev pub IsOver : {D K : Type 0} → Connections D K → ℕ → D → Type 0
IsOver {D} {K} c at driver = (k : K) → slice_get (c.all driver) at ≡ Some k → (c.inbound k).stage ≡ Over

-- all that the machine has for it was taken out
abbrev pub IsTaken : {D K : Type 0} → Connections D K → ℕ → D → Type 0
IsTaken {D} {K} c at driver = WhileLive c (λ (k : K). messages_for (c.number at k) (c.home.desk driver).now ≡ []) at driver

-- and so it is of all
abbrev pub AreTaken : {D K : Type 0} → Connections D K → D → Type 0
AreTaken c driver = (at : ℕ) → IsTaken c at driver

-- and no packet waits
pub record IsDone {D K : Type 0} (c : Connections D K) (driver : D) : Type 0 where
  pub jobs : NoneWaits (c.home.desk driver)
  pub taken : AreTaken c driver
