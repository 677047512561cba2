-- One message that is heard: what comes next on a channel, what its reply brings about, and what is known behind both.
use Rattle.std.specs.Prelude.{◌≡◌, ℕ, ◌<◌, Bool, true, false, Option, Some, None}
use Rattle.machine_steps.specs.declared.entry.Input.{Input}
use Rattle.machine_steps.specs.Waiting.{Waiting}
use Rattle.machine_desk.specs.declared.hearing.Came.{Came}
use Rattle.machine_desk.specs.declared.hearing.Came.TheVariants.{Nothing, Ended, State}
use Rattle.machine_desk.specs.Hearing.{Comes, Hears, came_of}
use Rattle.machine_desk.specs.Connections.{Fills, Moves, rest_at as rest_at_index}
use Rattle.machine_desk.specs.Homes.{Attends as AttendsAt, AwaitsAll as AwaitsAllAt, Beside as BesideAt, Follows as FollowsAt, MakesRoom as MakesRoomAt, MakesRoomFor as MakesRoomForAt}
use Rattle.machine_desk.specs.Tending.{Sight}
use Rattle.machine_desk.specs.declared.hearing.Heard.{Heard}
use Rattle.sim_channels.specs.Channels.{CarriedOver, IsKept, IsSame, WorksAlone, home, places, with_inbound}
use Rattle.sim_channels.specs.Waiting.{IsHeard, IsOffered, NoneWaits, StaysBut}
use Rattle.sim_channels.specs.declared.driver.Driver.{Driver}
use Rattle.sim_channels.specs.Hearing.{KeepsChannels}

-- ---- the driver

-- an input from a place was heard; its channel alone changes, and its session may end
abbrev pub HearsAt : ℕ → Input → Heard → Driver → Driver → Type 0
HearsAt here input heard old new = Moves places with_inbound here (Hears input heard) old new

abbrev pub Beside : (ℕ → Sight → Sight → Type 0) → Driver → Driver → Type 0
Beside R old new = BesideAt home R old new

-- a packet is answered, or handed over to who works beside
abbrev pub Attends : Waiting → Driver → Driver → Type 0
Attends item old new = AttendsAt home item old new

-- what is done about an input
abbrev pub Follows : Heard → Driver → Driver → Type 0
Follows heard old new = FollowsAt home heard old new

-- no packet waits, where somebody works beside
abbrev pub AwaitsAll : Driver → Driver → Type 0
AwaitsAll old new = AwaitsAllAt home old new

-- there is room for a packet, or nobody works beside
abbrev pub MakesRoom : Driver → Driver → Type 0
MakesRoom old new = MakesRoomAt home old new

-- the same where a packet came
abbrev pub MakesRoomFor : Input → Driver → Driver → Type 0
MakesRoomFor input old new = MakesRoomForAt home input old new

-- ---- what comes next

-- this came next from a place, or nothing did yet; of its channel the stream alone changes
abbrev pub ComesAt : ℕ → Option Input → Driver → Driver → Type 0
ComesAt here found old new = Fills places with_inbound here (Comes found) old new

-- an input came next, room was made for the packet in it, it was heard, and then was done what is to be done about it: one behind the other, and nothing else
pub record HearsInput (here : ℕ) (came : Came) (old new : Driver) : Type 0 where
  pub input : Input
  pub next : Driver
  pub comes : ComesAt here (Some input) old next
  pub room : Driver
  pub makes : MakesRoomFor input next room
  pub heard : Heard
  pub hearing : Driver
  pub hears : HearsAt here input heard room hearing
  pub follows : Follows heard hearing new
  pub told : came ≡ came_of heard

-- by what came
abbrev pub HearsNext : ℕ → Came → Driver → Driver → Type 0
HearsNext here Nothing old new = ComesAt here None old new
HearsNext here came old new = HearsInput here came old new

-- ---- messages, one after the other

abbrev pub is_state : Came → Bool
is_state State = true
is_state came = false

-- some messages from a place were heard; unless a state may have been made all other places are as they were
pub record HasHeard (here : ℕ) (made : Bool) (old new : Driver) : Type 0 where
  pub kept : IsKept new
  pub carried : CarriedOver old new
  pub jobs : WorksAlone old → NoneWaits new.desk
  pub offered : IsOffered here new
  pub channels : KeepsChannels here old new
  pub others : made ≡ false → old.desk.now.policy.learning ≡ false → StaysBut (WorksAlone old) here old new
  pub same : IsSame old new
  pub learning : new.desk.now.policy.learning ≡ old.desk.now.policy.learning

-- how many bytes are to be heard from a place yet
abbrev pub rest_at : ℕ → Driver → ℕ
rest_at here driver = rest_at_index places here driver

-- by what came: no more is to be heard, also where nothing was, or fewer bytes than before
abbrev pub HearsBy : Came → ℕ → Driver → Driver → Type 0
HearsBy Nothing here old new = IsHeard here new × (new.desk ≡ old.desk)
HearsBy Ended here old new = IsHeard here new
HearsBy came here old new = rest_at here new < rest_at here old

-- what is known behind one message
abbrev pub Passed : ℕ → Driver → Driver → Came → Type 0
Passed here old new came = HasHeard here (is_state came) old new × HearsBy came here old new
