-- A script that is run beside workers: when it may begin.
use Rattle.std.specs.Prelude.{ℕ, ◌+◌, ◌^◌, ◌<◌, List, length}
use Rattle.device_port.specs.Devices.{Meaning}
use Rattle.machine_desk.specs.declared.opening.Opening.{Opening}
use Rattle.packet_workers.specs.Adding.{PassView}
use Rattle.machine_desk.specs.Openings.{IsOpeningBeside}
use Rattle.machine_steps.specs.Sound.{AreInRange}
use Rattle.sim_steps.specs.Showing.{AllIdle}

-- the pass is of a hall that was just opened with these, whose settings have workers
pub record IsBegun (o : Opening) (devices : List Meaning) (script : List ℕ) (first : ℕ) (k : PassView) : Type 0 where
  pub opening : IsOpeningBeside k o
  pub ranges : AreInRange o.start.value.settings
  pub idle : AllIdle devices
  pub numbers : first + length script < 2 ^ 32
