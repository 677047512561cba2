-- A driver of any kind, by its desk and by who works beside it: what it does with others about packets that wait.
use Rattle.std.specs.Prelude.{◌≡◌, ◌<◌, ◌⊎◌, ℕ, true, false, [], length, Option, Some, None, is_some}
use Rattle.machine_steps.specs.declared.entry.Input.{Input}
use Rattle.machine_steps.specs.Machine.{most_jobs}
use Rattle.machine_steps.specs.Waiting.{Waiting}
use Rattle.machine_desk.specs.Arriving.{is_packet}
use Rattle.machine_desk.specs.Desks.{DeskView, SameHall}
use Rattle.machine_desk.specs.declared.hearing.Heard.{Heard}
use Rattle.machine_desk.specs.declared.hearing.Heard.TheVariants as heard
use Rattle.machine_desk.specs.declared.inbound.Inbound.{Inbound}
use Rattle.machine_desk.specs.declared.crew.Crew.{Crew}
use Rattle.machine_desk.specs.declared.tending.Handed.{Handed}
use Rattle.machine_desk.specs.Crews.{BySights, MayHave, SameCrew}
use Rattle.machine_desk.specs.Laws.{Meanwhile}
use Rattle.machine_desk.specs.Tending.{Done, HandsOver, IsInHand, IsWorked, Reaches, Room, Sight}

-- where a driver has its desk and its crew, and what it is where these two alone are others
pub record Home (D : Type 0) : Type 0 where
  pub desk : D → DeskView
  pub crew : D → Option Crew
  pub moved : D → DeskView → Option Crew → D

-- ---- who works beside it

-- nobody does
abbrev pub IsAlone : {D : Type 0} → Home D → D → Type 0
IsAlone home driver = is_some (home.crew driver) ≡ false

-- its footing is the same, and who works beside it
pub record IsSame {D : Type 0} (home : Home D) (old new : D) : Type 0 where
  pub footing : (home.desk new).footing ≡ (home.desk old).footing
  pub crew : SameCrew (home.crew old) (home.crew new)

-- its hall is the same, but for what is marked of the turns, and who works beside it
pub record IsSameHall {D : Type 0} (home : Home D) (old new : D) : Type 0 where
  pub hall : SameHall (home.desk old).footing (home.desk new).footing
  pub crew : SameCrew (home.crew old) (home.crew new)

-- it may have this crew, as its pass has so many parts and the machine is so
abbrev pub IsStaffed : {D : Type 0} → Home D → D → Type 0
IsStaffed home driver = MayHave (home.crew driver) (home.desk driver).footing.parts (home.desk driver).now

-- where somebody works beside it this holds of its queue, and of what it knows ahead and behind
abbrev pub Beside : {D : Type 0} → Home D → (ℕ → Sight → Sight → Type 0) → D → D → Type 0
Beside home R old new = BySights R (home.desk old) (home.desk new) (home.crew old) (home.crew new)

-- ---- packets that wait

-- none waits for an answer
abbrev pub NoneWaits : DeskView → Type 0
NoneWaits desk = desk.now.jobs ≡ []

-- who works alone leaves none
abbrev pub LeavesNone : {D : Type 0} → Home D → D → Type 0
LeavesNone home driver = IsAlone home driver → NoneWaits (home.desk driver)

-- nobody changes the machine but the driver: there is nobody, or no packet waits that somebody could answer
abbrev pub IsQuiet : {D : Type 0} → Home D → D → Type 0
IsQuiet home driver = IsAlone home driver ⊎ NoneWaits (home.desk driver)

-- it and others did what anybody may, of packets that wait, and nothing else changed but the crew's pass
pub record IsTended {D : Type 0} (home : Home D) (old new : D) : Type 0 where
  pub meanwhile : Meanwhile (home.desk old) (home.desk new)
  pub rest : new ≡ home.moved old (home.desk new) (home.crew new)
  pub same : IsSame home old new

-- there is room for a further packet; who works alone answers each ahead of the next
abbrev pub HasRoom : {D : Type 0} → Home D → D → Type 0
HasRoom home driver = IsAlone home driver ⊎ (length (home.desk driver).now.jobs < most_jobs)

-- it waits until there is
pub record MakesRoom {D : Type 0} (home : Home D) (old new : D) : Type 0 where
  pub tends : IsTended home old new
  pub alone : IsAlone home old → new ≡ old
  pub room : HasRoom home new
  pub asked : Beside home (λ n s t. Reaches Room s t) old new

-- the same where a packet came
pub record MakesRoomFor {D : Type 0} (home : Home D) (input : Input) (old new : D) : Type 0 where
  pub tends : IsTended home old new
  pub alone : IsAlone home old → new ≡ old
  pub room : is_packet input ≡ true → HasRoom home new
  pub asked : is_packet input ≡ true → Beside home (λ n s t. Reaches Room s t) old new

-- where somebody works beside, it waits until none waits for an answer
pub record AwaitsAll {D : Type 0} (home : Home D) (old new : D) : Type 0 where
  pub tends : IsTended home old new
  pub alone : IsAlone home old → new ≡ old
  pub none : IsQuiet home new
  pub asked : Beside home (λ n s t. Reaches Done s t) old new

-- a packet is answered, or handed over to who works beside
pub record Attends {D : Type 0} (home : Home D) (item : Waiting) (old new : D) : Type 0 where
  pub tends : IsTended home old new
  pub alone : IsAlone home old → IsWorked item (home.desk old) (home.desk new)
  pub hands : Beside home (λ n s t. (handed : Handed) × HandsOver handed item n s t × IsInHand handed) old new

-- what is done about an input
abbrev pub Follows : {D : Type 0} → Home D → Heard → D → D → Type 0
Follows home (heard.Packet item) old new = Attends home item old new
Follows home rest old new = new ≡ old

-- how many bytes that came of a connection are to be heard yet, if there is one
abbrev pub rest_of : {K : Type 0} → (K → Inbound) → Option K → ℕ
rest_of inbound None = 0
rest_of inbound (Some k) = length (inbound k).from.stream.rest
