-- One order is followed, and the report is taken and written behind it.
use Rattle.std.specs.Prelude.{◌≡◌, ◌⊎◌, ℕ, Bool, true, false, List, [], Option, None, Result, Ok, Err}
use Rattle.maple_io.specs.Views.{SinkView, Wrote}
use Rattle.report_text.specs.declared.line.ScriptRefusal.{ScriptRefusal}
use Rattle.device_port.specs.Devices.{Meaning}
use Rattle.machine_steps.specs.Histories.{Turn}
use Rattle.machine_steps.specs.Sound.{AreInRange}
use Rattle.script_text.specs.Orders.{Order}
use Rattle.script_text.specs.Orders.Order.{Nothing}
use Rattle.script_text.specs.declared.step.Step.{Step}
use Rattle.script_text.specs.Steps.{order_with}
use Rattle.sim_steps.specs.Agreeing.{taken_report}
use Rattle.sim_steps.specs.Benches.{Bench, IsSolo, opening_bench}
use Rattle.sim_steps.specs.Deeds.{Event}
use Rattle.sim_steps.specs.Ends.{IsFaultOf}
pub use Rattle.sim_steps.specs.Ends.{untaken}
use Rattle.sim_steps.specs.Parts.{IsPart, IsStill}
use Rattle.sim_steps.specs.Showing.{AllIdle}
use Rattle.sim_steps.specs.Stretches.{BreaksOff, Carried}
use Rattle.sim_laws.specs.Laws.{AgreeLaw, HistoryLaw, PastLaw, ReportLaw, WorldLaw}
use Rattle.sim_channels.specs.declared.driver.Driver.{Driver}
use Rattle.sim_channels.specs.Channels.{EntersNext, Fits, OthersDid, bench}
use Rattle.sim_channels.specs.Waiting.{IsAtRest, IsDone}
use Rattle.machine_desk.specs.Crews.{EndsOf, joined as joined_by, unwritten, with_memory as memory_by}
use Rattle.machine_desk.specs.Runs.{AtDesk, ByPass, IsSmoothFor}
use Rattle.machine_desk.specs.declared.report.ReportStop.{ReportStop}
use Rattle.machine_desk.specs.declared.report.ReportStop.TheVariants.{Failed, NoMemory, Worn}
use Rattle.machine_desk.specs.Desks.{DeskView}
use Rattle.machine_steps.specs.declared.entry.Entry.TheVariants.{TakeReport}
use Rattle.machine_steps.specs.declared.reply.Reply.TheVariants.{Lines}
use Rattle.maple_io.specs.Fronts.{IsFront}
use Rattle.packet_workers.specs.Adding.{PassView}
use Rattle.machine_desk.specs.declared.opening.Opening.{Opening}
use Rattle.machine_desk.specs.Openings.{IsOpenedAt, IsOpening}
use Rattle.machine_steps.specs.Machine.{State}
use Rattle.sim_driver.specs.declared.drive.SimEnd.{SimEnd}
use Rattle.sim_driver.specs.declared.drive.SimEnd.TheVariants as ends
use Rattle.sim_driver.specs.declared.drive.SimEnd.TheVariants.{Done, WriteFault}
use Rattle.worker_crew.specs.Tasks.{Worked}
use Rattle.sim_driver.specs.Runs.{Ends, EndsOver, Given, IsAtRefused, devices_of, given, is_whole, refused_line}

-- what holds of all deeds
pub record DeedLaws : Type 0 where
  pub history : HistoryLaw
  pub report : ReportLaw
  pub agree : AgreeLaw
  pub world : WorldLaw
  pub past : PastLaw

abbrev pub waiting : Driver → List ℕ
waiting driver = untaken driver.desk.now

-- they were taken, behind what others did
pub record TakesReport (old new : Driver) : Type 0 where
  pub rest : new ≡ record old { desk = new.desk }
  pub ahead : Driver
  pub others : OthersDid old ahead
  pub enters : EntersNext TakeReport (Lines (waiting ahead)) ahead.desk new.desk
  pub footing : new.desk.footing ≡ old.desk.footing

-- the driver has nothing left to do, and no line of the report waits
pub record IsReady (driver : Driver) (devices : List Meaning) : Type 0 where
  pub fits : Fits driver devices
  pub rest : IsAtRest driver
  pub none_waits : driver.desk.now.lines ≡ []

-- ---- ahead of a script

-- the machine is ahead of its first entry
pub record IsOpened (driver : Driver) (devices : List Meaning) : Type 0 where
  pub ready : IsReady driver devices
  pub opening : bench driver devices ≡ opening_bench driver.desk.now.policy driver.desk.now.settings devices
  pub start : driver.desk.footing.start ≡ driver.desk.now
  pub ranges : AreInRange driver.desk.now.settings
  pub idle : AllIdle devices

-- so it is at the desk, and the devices have nothing to do
pub record IsOpenedOver (desk : DeskView) (devices : List Meaning) : Type 0 where
  pub opened : IsOpenedAt desk
  pub ranges : AreInRange desk.now.settings
  pub idle : AllIdle devices

-- so it is of a hall that was just opened
pub record IsOpeningOver (k : PassView) (o : Opening) (devices : List Meaning) : Type 0 where
  pub opened : IsOpening k o
  pub ranges : AreInRange o.start.value.settings
  pub idle : AllIdle devices

-- what is given to a run over a machine that is so at first
abbrev pub given_by : State → List Meaning → List ℕ → ℕ → Given
given_by start devices script first = given start.policy start.settings devices script first

-- ---- the end of a run

-- by what the desk knows
abbrev pub EndsAt : SimEnd → Given → DeskView → List Meaning → SinkView → SinkView → Type 0
EndsAt end g desk after old new = EndsOver end g after desk.number desk.past old new

-- what is known of a run by who drove it, who made the calls at these positions of a history, of which so many were read: how it ends, that no packet
-- found too many others waiting and memory sufficed for these calls where it came to its end, and what each end tells
pub record Drove (end : SimEnd) (g : Given) (refused : Option (ℕ × ScriptRefusal)) (after : List Meaning) (number : ℕ) (history : List Turn) (own : List ℕ)
    (old new : SinkView) : Type 0 where
  pub ends : EndsOver end g after number history old new
  pub smooth : IsSmoothFor (is_whole end) history own
  pub done : end ≡ Done → refused ≡ None
  pub script : IsAtRefused end refused
  pub writes : IsFaultOf (end ≡ WriteFault) old new

-- by what the desk knows
abbrev pub DroveAt : SimEnd → Given → Option (ℕ × ScriptRefusal) → DeskView → List Meaning → SinkView → SinkView → Type 0
DroveAt end g refused desk after old new =
    AtDesk (λ (number : ℕ) (history : List Turn) (own : List ℕ). Drove end g refused after number history own old new) desk

-- by what its pass has seen of the hall
abbrev pub DroveBy : SimEnd → Given → Option (ℕ × ScriptRefusal) → State → List Meaning → PassView → SinkView → SinkView → Type 0
DroveBy end g refused start after k old new =
    ByPass (λ (number : ℕ) (history : List Turn) (own : List ℕ). Drove end g refused after number history own old new) start k

-- how a run ends over a machine that is so at first, and these devices
abbrev pub EndsFrom : SimEnd → State → List Meaning → List ℕ → ℕ → List Meaning → SinkView → SinkView → Type 0
EndsFrom end start devices script first after old new = Ends end (given_by start devices script first) after old new

-- and what is known of it by who drove it, where there are so many devices
abbrev pub DroveFrom : SimEnd → State → List Meaning → ℕ → List ℕ → ℕ → List Meaning → PassView → SinkView → SinkView → Type 0
DroveFrom end start devices places script first after k old new =
    DroveBy end (given_by start devices script first) (refused_line places first script) start after k old new

-- how a run may end, for who gave up
abbrev pub sim_ends : EndsOf SimEnd
sim_ends = record { write_fault = ends.WriteFault; no_memory = ends.NoMemory; worn = ends.Worn; is_whole = is_whole }

-- how a run ends whose workers ended so: where the script came to its end, as the first of them that gave up
abbrev pub joined : SimEnd → Worked → SimEnd
joined end outcome = joined_by sim_ends end outcome

-- how a run ends whose lines ended so, by whether memory sufficed for the calls of who drove it
abbrev pub with_memory : SimEnd → Bool → SimEnd
with_memory end had = memory_by sim_ends end had

-- by why the report wasn't written
abbrev pub end_of : ReportStop → SimEnd
end_of stop = unwritten sim_ends stop

-- ---- one order

-- the part of an order, and the report that was taken in it was written
pub record IsReported (o : Order) (a b : Bench) (old new : SinkView) : Type 0 where
  pub events : List Event
  pub part : IsPart o a events b
  pub wrote : Wrote old new (taken_report events)

-- the part of an order, and a front of the report that was taken in it was written; these are the devices then
pub record IsUnreported (o : Order) (a b : Bench) (after : List Meaning) (old new : SinkView) : Type 0 where
  pub events : List Event
  pub part : IsPart o a events b
  pub devices : devices_of b ≡ after
  pub front : List ℕ
  pub is_front : IsFront front (taken_report events)
  pub wrote : Wrote old new front

-- the machine's history is that of deeds that lead on from this bench, and nothing was written
pub record IsCutShort (a : Bench) (driver : Driver) (old new : SinkView) : Type 0 where
  pub broken : BreaksOff a driver.desk.past
  pub unwritten : new ≡ old

-- how it ends that an order isn't followed to its end: a front of the report was written; or nothing was, as memory ran out or the hall was found worn. Memory
-- may run out for the writing too
abbrev pub Breaks : ReportStop → Order → Bench → Driver → List Meaning → SinkView → SinkView → Type 0
Breaks Failed o a driver after old new = IsUnreported o a (bench driver after) after old new
Breaks NoMemory o a driver after old new = IsCutShort a driver old new ⊎ IsUnreported o a (bench driver after) after old new
Breaks Worn o a driver after old new = IsCutShort a driver old new × (driver.desk.worn ≡ true)

-- how it ends that a step is followed, with this text behind its line
abbrev pub Passed : Result (Unit {0}) ReportStop → Step → List ℕ → Driver → List Meaning → Driver → List Meaning → SinkView → SinkView → Type 0
Passed (Ok done) step text d before driver after old new = IsReported (order_with step text) (bench d before) (bench driver after) old new
Passed (Err stop) step text d before driver after old new = Breaks stop (order_with step text) (bench d before) driver after old new

-- why it wasn't followed, ahead of its report
abbrev pub IsStopped : ReportStop → Driver → Type 0
IsStopped Failed driver = ⊥
IsStopped NoMemory driver = driver.desk.worn ≡ false
IsStopped Worn driver = driver.desk.worn ≡ true

-- with the report taken nothing is left to do, whatever the devices are
abbrev pub ReadyAfter : Driver → Driver → Type 0
ReadyAfter old new = (devices : List Meaning) → Fits old devices → IsAtRest old → IsReady new devices

-- ---- behind all lines

-- no packet waits any more, and what came of that was delivered
pub record IsCaughtUp (d : Driver) (before : List Meaning) (driver : Driver) (after : List Meaning) : Type 0 where
  pub fits : Fits driver after
  pub rest : IsAtRest driver
  pub done : IsDone driver
  pub carried : Carried (bench d before) (bench driver after)

-- nothing is left to do, and all of the report was taken and written
pub record IsFinished (a : Bench) (driver : Driver) (after : List Meaning) (old new : SinkView) : Type 0 where
  pub ready : IsReady driver after
  pub reported : IsReported Nothing a (bench driver after) old new
  pub still : IsStill (bench driver after)

-- how a run ends behind all lines: so, or it breaks off, only beside workers
abbrev pub Finished : Result (Unit {0}) ReportStop → Driver → List Meaning → Driver → List Meaning → SinkView → SinkView → Type 0
Finished (Ok done) d before driver after old new = IsFinished (bench d before) driver after old new
Finished (Err stop) d before driver after old new = (IsSolo d.desk.now → ⊥) × Breaks stop Nothing (bench d before) driver after old new
