-- Who works beside a driver.
use Rattle.std.specs.Prelude.{◌≡◌, ℕ, Bool, true, false, Option, Some, None, IfSome, is_some, Ok, Err}
use Rattle.machine_steps.specs.Machine.{State}
use Rattle.worker_crew.specs.declared.gave_up.GaveUp.{GaveUp}
use Rattle.worker_crew.specs.declared.gave_up.GaveUp.TheVariants.{NoMemory, Worn}
use Rattle.worker_crew.specs.Takers.{IsTakerOf, places, shares}
use Rattle.worker_crew.specs.Tasks.{Worked as Told}
use Rattle.machine_desk.specs.declared.report.ReportStop.{ReportStop}
use Rattle.machine_desk.specs.declared.report.ReportStop.TheVariants as stops
use Rattle.machine_desk.specs.Desks.{DeskView}
use Rattle.machine_desk.specs.declared.crew.Crew.{Crew}
use Rattle.machine_desk.specs.Tending.{Sight, at}

-- the most workers beside a driver
abbrev pub most_workers : ℕ
most_workers = 16

-- the pass for the queue is one of this queue
abbrev pub IsCrew : Crew → Type 0
IsCrew crew = IsTakerOf crew.jobs.now crew.taker.now

-- a driver may have this crew, where its pass has so many parts and the machine is so: without a crew it has all parts, and it has none where the settings
-- have no workers
pub record MayHave (crew : Option Crew) (parts : ℕ) (m : State) : Type 0 where
  pub alone : is_some crew ≡ false → parts ≡ 1024
  pub none : m.settings.workers ≡ 0 → is_some crew ≡ false
  pub is : IfSome crew IsCrew

-- a crew's pass is the one that was lent, with as many parts of the same queue, and its lobby is the same
pub record IsCrewStill (old new : Crew) : Type 0 where
  pub jobs : new.jobs ≡ old.jobs
  pub lobby : new.lobby ≡ old.lobby
  pub name : new.taker.ghost_name ≡ old.taker.ghost_name
  pub is : IsCrew old → IsCrew new
  pub shares : IsCrew old → shares new.taker.now ≡ shares old.taker.now

abbrev pub SameCrew : Option Crew → Option Crew → Type 0
SameCrew None None = Unit {0}
SameCrew (Some old) (Some new) = IsCrewStill old new
SameCrew old new = ⊥

-- with a crew ahead and behind, this holds of its queue's places and of what the driver knows ahead and behind
abbrev pub BySights : (ℕ → Sight → Sight → Type 0) → DeskView → DeskView → Option Crew → Option Crew → Type 0
BySights R a b (Some c) (Some d) = R (places c.jobs.now) (at a c.taker.now) (at b d.taker.now)
BySights R a b c d = Unit {0}

-- what a driver beside a crew knows
abbrev pub sight : DeskView → Crew → Sight
sight desk crew = at desk crew.taker.now

-- ---- ends

-- how a run may end: where the report couldn't be written, or somebody gave up, by why, and at which ends all was done that it was asked for
pub record EndsOf (E : Type 0) : Type 0 where
  pub write_fault : E
  pub no_memory : E
  pub worn : E
  pub is_whole : E → Bool

abbrev pub given_up : {E : Type 0} → EndsOf E → GaveUp → E
given_up ends NoMemory = ends.no_memory
given_up ends Worn = ends.worn

-- by why the report wasn't written
abbrev pub unwritten : {E : Type 0} → EndsOf E → ReportStop → E
unwritten ends stops.Failed = ends.write_fault
unwritten ends stops.NoMemory = ends.no_memory
unwritten ends stops.Worn = ends.worn

-- how a run ends by what was told of the work done for it: where it came to its end, but somebody gave up, by that
abbrev pub ended_with : {E : Type 0} → (GaveUp → E) → Bool → E → Told → E
ended_with given_up true end (Err cause) = given_up cause
ended_with given_up to_end end told = end

abbrev pub joined : {E : Type 0} → EndsOf E → E → Told → E
joined ends end told = ended_with (given_up ends) (ends.is_whole end) end told

-- what a driver tells of its own calls, by whether memory sufficed for them
abbrev pub told_memory : Bool → Told
told_memory true = Ok tt
told_memory false = Err NoMemory

-- how a run ends by whether memory sufficed for the calls of who drove it
abbrev pub with_memory : {E : Type 0} → EndsOf E → E → Bool → E
with_memory ends end had = joined ends end (told_memory had)
