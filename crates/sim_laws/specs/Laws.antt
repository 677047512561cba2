-- What holds of all deeds.
use Rattle.std.specs.Prelude.{◌≡◌, List, ◌++◌}
use Rattle.maple_base.specs.declared.decision.Settings.{Settings}
use Rattle.policy_lang.specs.declared.Policy.{Policy}
use Rattle.device_port.specs.Devices.{Meaning}
use Rattle.machine_steps.specs.Histories.{Leads}
use Rattle.machine_steps.specs.Machine.{opening}
use Rattle.machine_steps.specs.Sound.{AreInRange}
use Rattle.world_steps.specs.Worlds.{World}
use Rattle.world_steps.specs.Runs.{Event as WorldEvent, IsWorldRun}
use Rattle.world_steps.specs.Right.{IsRight}
use Rattle.sim_steps.specs.Benches.{Bench, opening_bench}
use Rattle.sim_steps.specs.Deeds.{Event, Runs, turns_of}
use Rattle.sim_steps.specs.Agreeing.{AllAgree, taken_report}
use Rattle.sim_steps.specs.Ends.{ReportIsTold}
use Rattle.sim_steps.specs.Showing.{AllIdle, AllKeep, AreSwitches, Shows}

-- the machine's turns are a legal history
abbrev pub HistoryLaw : Type 0
HistoryLaw =
    (policy : Policy) (settings : Settings) (devices : List Meaning) (es : List Event) (b : Bench) → Runs (opening_bench policy settings devices) es b
    → Leads (opening policy settings) (turns_of es) b.machine

-- a bench has the machine's turns behind those that it had
abbrev pub PastLaw : Type 0
PastLaw = (a : Bench) (es : List Event) (b : Bench) → Runs a es b → b.past ≡ a.past ++ turns_of es

-- their report is what was taken, and the lines that weren't taken yet
abbrev pub ReportLaw : Type 0
ReportLaw = ReportIsTold turns_of taken_report

-- each device agrees with the deeds
abbrev pub AgreeLaw : Type 0
AgreeLaw =
    (policy : Policy) (settings : Settings) (devices : List Meaning) (es : List Event) (b : Bench) → AreInRange settings
    → Runs (opening_bench policy settings devices) es b → AllAgree (opening_bench policy settings devices) es b

-- deeds are a run of the world, which is right, with the devices as the switches of its connections
pub record AreWorldRun (policy : Policy) (settings : Settings) (devices : List Meaning) (es : List Event) (b : Bench) : Type 0 where
  pub events : List WorldEvent
  pub world : World
  pub run : IsWorldRun policy settings events world
  pub right : IsRight events
  pub shows : Shows es events
  pub machine : world.machine ≡ b.machine
  pub switches : AreSwitches (opening_bench policy settings devices) events b world

-- where each device keeps the specification of a switch, and none has a pending message at first
abbrev pub WorldLaw : Type 0
WorldLaw =
    (policy : Policy) (settings : Settings) (devices : List Meaning) (es : List Event) (b : Bench) → AreInRange settings → AllKeep devices → AllIdle devices
    → Runs (opening_bench policy settings devices) es b → AreWorldRun policy settings devices es b
