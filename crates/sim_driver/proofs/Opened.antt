-- A hall that was just opened.
use Rattle.std.proofs.Common.{◌≡◌, ℕ, List, [], arith, refl, subst, sym}
use Rattle.std.specs.Prelude.{Option}
use Rattle.maple_io.specs.Views.{SinkView}
use Rattle.report_text.specs.declared.line.ScriptRefusal.{ScriptRefusal}
use Rattle.device_port.specs.Devices.{Meaning}
use Rattle.machine_desk.specs.Desks.{DeskView, NoneOverflows}
use Rattle.sim_driver.specs.declared.drive.SimEnd.TheVariants as ends
use Rattle.sim_driver.specs.Passes.{DroveAt}
use Rattle.sim_driver.specs.Runs.{Ends, Given}
use Rattle.sim_driver.proofs.Going.{Known, closed, never_begun}

-- memory ran out ahead of the machine
pub never_ran : (g : Given) → Known g → (after : List Meaning) (to : SinkView) → Ends ends.NoMemory g after to to
never_ran g known after to = closed ends.NoMemory g after 0 [] to to (omega arith) (record { room = tt; memory = λ whole. tt }) (never_begun g known after 0 [] refl to)

-- the same at its desk
pub never_drove : (g : Given) → Known g → (refused : Option (ℕ × ScriptRefusal)) (desk : DeskView) (after : List Meaning) (to : SinkView) → desk.past ≡ []
    → DroveAt ends.NoMemory g refused desk after to to
never_drove g known refused desk after to none = record {
  ends = never_begun g known after desk.number desk.past none to;
  smooth = record { room = subst NoneOverflows (sym none) tt; memory = λ whole. absurd (cc) };
  done = λ e. absurd (cc);
  script = tt;
  writes = record { fault = λ e. absurd (cc); spared = λ n. refl };
}
