-- The driver of the machine and devices: the bench that it is with the devices, and what it keeps.
use Rattle.std.specs.Prelude.{◌≡◌, ℕ, ◌+◌, ◌^◌, ◌<◌, List, [], ◌∷◌, length, Some}
use Rattle.std.specs.List.{slice_get}
use Rattle.maple_base.specs.declared.decision.Settings.{Settings}
use Rattle.policy_lang.specs.declared.Policy.{Policy}
use Rattle.of10_stream.specs.Steps.{beginning}
use Rattle.device_port.specs.Devices.{Meaning}
use Rattle.machine_desk.specs.Desks.{DeskView}
use Rattle.machine_desk.specs.Connections.{AreSessions, Connections}
use Rattle.machine_desk.specs.Homes.{Home, IsAlone, IsSame as IsSameAt, IsStaffed, IsTended}
use Rattle.machine_desk.specs.Laws.{Meanwhile}
pub use Rattle.machine_desk.specs.Next.{EntersNext}
use Rattle.machine_steps.specs.Histories.{Leads, Turn}
use Rattle.machine_steps.specs.Machine.{State, opening}
use Rattle.machine_steps.specs.Sound.{AreInRange}
use Rattle.sim_steps.specs.Benches.{Slot, Bench, opening_bench}
use Rattle.sim_steps.specs.Stretches.{BreaksOff, Carried}
use Rattle.sim_channels.specs.declared.channel.Channel.{Channel}
use Rattle.machine_desk.specs.declared.inbound.Inbound.{Inbound}
use Rattle.machine_desk.specs.declared.inbound.Stage.TheVariants.{Unopened}
use Rattle.sim_channels.specs.declared.driver.Driver.{Driver}

-- ---- the bench

abbrev pub slot_by : Channel → Meaning → Slot
slot_by k d = record { device = d; to = k.to; from = k.inbound.from.stream }

-- each device with the channel to it
abbrev pub slots_of : List Channel → List Meaning → List Slot
slots_of [] ds = []
slots_of (k ∷ ks) [] = []
slots_of (k ∷ ks) (d ∷ ds) = slot_by k d ∷ slots_of ks ds

abbrev pub bench : Driver → List Meaning → Bench
bench driver devices = record { past = driver.desk.past; machine = driver.desk.now; slots = slots_of driver.channels.items devices }

-- ---- what is kept

-- a legal history led to this state
pub record IsReached (m : State) : Type 0 where
  pub policy : Policy
  pub settings : Settings
  pub ranges : AreInRange settings
  pub turns : List Turn
  pub leads : Leads (opening policy settings) turns m

-- nothing was taken out for the device, and nothing came from it
pub record IsFresh (k : Channel) : Type 0 where
  pub to : k.to ≡ []
  pub from : k.inbound.from.stream ≡ beginning

-- ---- who works beside the driver

abbrev pub home : Home Driver
home = record { desk = λ (d : Driver). d.desk; crew = λ (d : Driver). d.crew; moved = λ (d : Driver) desk crew. record d { desk = desk; crew = crew } }

-- where it has its channels, each of the connection with the number of its place
abbrev pub places : Connections Driver Channel
places = record {
  home = home;
  all = λ (d : Driver). d.channels.items;
  number = λ (at : ℕ) (k : Channel). at + 1;
  inbound = λ (k : Channel). k.inbound;
  moved = λ (old new : Driver). record old { desk = new.desk; channels = new.channels };
  filled = λ (old new : Driver). record old { channels = new.channels };
}

-- a channel of which this came
abbrev pub with_inbound : Inbound → Channel → Channel
with_inbound i k = record k { inbound = i }

-- nobody works beside the driver
abbrev pub WorksAlone : Driver → Type 0
WorksAlone driver = IsAlone home driver

-- what no call of the driver changes: its footing, and who works beside it
abbrev pub IsSame : Driver → Driver → Type 0
IsSame old new = IsSameAt home old new

-- ---- what is kept of the machine and the channels

-- each channel is of the connection with the number of its place
abbrev pub AreNumbered : List Channel → Type 0
AreNumbered channels = (at : ℕ) (k : Channel) → slice_get channels at ≡ Some k → k.inbound.connection ≡ at + 1

-- what the driver knows of the machine: who else uses it, and which stages its sessions have; a device that never was plugged in has a fresh channel
pub record IsKept (driver : Driver) : Type 0 where
  pub crew : IsStaffed home driver
  pub reached : IsReached driver.desk.now
  pub numbers : length driver.channels.items < 2 ^ 32
  pub names : AreNumbered driver.channels.items
  pub sessions : AreSessions places driver.channels.items driver.desk.now
  pub fresh : (at : ℕ) (k : Channel) → slice_get driver.channels.items at ≡ Some k → k.inbound.stage ≡ Unopened → IsFresh k

-- the channels are those of these devices, and count the messages that wait in them
pub record Fits (driver : Driver) (devices : List Meaning) : Type 0 where
  pub kept : IsKept driver
  pub places : length driver.channels.items ≡ length devices
  pub waiting :
      (at : ℕ) (k : Channel) (d : Meaning)
      → slice_get driver.channels.items at ≡ Some k → slice_get devices at ≡ Some d → k.waiting ≡ length d.pending

-- the bench of a desk ahead of its first entry, and these devices
abbrev pub bench_at_start : DeskView → List Meaning → Bench
bench_at_start desk devices = opening_bench desk.now.policy desk.now.settings devices

-- ---- what others do

-- others did what they may, and nothing else changed; who works alone has nobody beside
pub record OthersDid (old new : Driver) : Type 0 where
  pub meanwhile : Meanwhile old.desk new.desk
  pub rest : new ≡ record old { desk = new.desk }
  pub footing : new.desk.footing ≡ old.desk.footing
  pub alone : WorksAlone old → new ≡ old

-- the driver and others did what anybody may, of packets that wait, and nothing else changed but the crew's pass
abbrev pub Tends : Driver → Driver → Type 0
Tends old new = IsTended home old new

-- ---- without a call of a device

-- whatever the devices are, deeds lead from one to the other, of which none was asked for
abbrev pub CarriedOver : Driver → Driver → Type 0
CarriedOver old new = (devices : List Meaning) → length devices ≡ length old.channels.items → Carried (bench old devices) (bench new devices)

-- whatever they are, deeds were done, up to the machine's history as it is known then
abbrev pub BreaksOffOver : Driver → Driver → Type 0
BreaksOffOver old new = (devices : List Meaning) → length devices ≡ length old.channels.items → BreaksOff (bench old devices) new.desk.past
