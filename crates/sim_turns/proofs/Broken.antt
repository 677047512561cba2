-- Where a call stops: an entry that was asked for, a turn of a device.
use Rattle.std.proofs.Common.{◌≡◌, ℕ, ◌+◌, true, List, refl, ap}
use Rattle.maple_base.specs.declared.device.Turned.{Turned}
use Rattle.of10_stream.specs.Steps.{fed}
use Rattle.device_port.specs.Devices.{Meaning}
use Rattle.device_port.specs.Devices.Call.{Turning}
use Rattle.machine_steps.specs.declared.entry.Entry.{Entry}
use Rattle.machine_steps.specs.declared.entry.Entry.TheVariants as entries
use Rattle.machine_steps.specs.declared.note.Note.TheVariants as notes
use Rattle.machine_steps.specs.declared.reply.Reply.{Reply}
use Rattle.machine_steps.specs.declared.reply.Reply.TheVariants.{NoMemory}
use Rattle.machine_desk.specs.Desks.{DeskView, Enters}
use Rattle.machine_desk.specs.Driving.{DrivingLaws}
use Rattle.machine_desk.specs.Orders.{Stops}
use Rattle.machine_desk.specs.declared.asking.DeskStop.{DeskStop}
use Rattle.machine_desk.specs.declared.asking.DeskStop.TheVariants as stops
use Rattle.sim_steps.specs.Deeds.{MayEnter}
use Rattle.sim_steps.specs.Parts.{asks}
use Rattle.sim_steps.specs.Stretches.{BreaksOff}
use Rattle.sim_steps.proofs.Broken.{broken_behind, broken_by, broken_here}
use Rattle.sim_steps.proofs.Moments.{called}
use Rattle.sim_channels.specs.declared.channel.Channel.{Channel}
use Rattle.sim_channels.specs.declared.driver.Driver.{Driver}
use Rattle.sim_channels.specs.Channels.{Fits, IsKept, bench, slots_of}
use Rattle.sim_channels.specs.Turns.{Waits}
use Rattle.sim_channels.proofs.Broken.{broken_stop, worn_past}
use Rattle.sim_channels.proofs.Others.{ahead, enters_next, opened_stays, others_ahead, others_beside, plugged_stays, tends_fits, tends_of}
use Rattle.sim_turns.specs.Taking.{IsTaken, TurnsAt}
use Rattle.sim_turns.proofs.Aside.{waits_on}
use Rattle.sim_turns.proofs.Called.{calls_at, turned_bench}
use Rattle.sim_turns.proofs.Entered.{asked_may}

-- memory didn't suffice for an entry that was asked for, or the hall is worn
pub asked_stop : DrivingLaws → (entry : Entry) (old : Driver) (b : DeskView) → IsKept old → (devices : List Meaning) (stop : DeskStop) → Stops stop entry old.desk b → asks entry ≡ true
    → MayEnter entry (bench old devices) → BreaksOff (bench old devices) b.past
asked_stop laws entry old b kept devices stop stops asked may =
    broken_stop laws old kept devices entry b stop stops (λ next did kept_next same.
    asked_may entry (bench old devices) (bench next devices) asked (ap (λ (ks : List Channel). slots_of ks devices) same)
    (plugged_stays laws old next kept (tends_of old next did)) (opened_stays laws old next kept (tends_of old next did)) may)

-- a device took a turn
module _ (laws : DrivingLaws) (at : ℕ) (turned : Turned) (bytes : List ℕ) (old : Driver) (waits : Waits at old) (taken : IsTaken turned) (before behind : List Meaning)
    (fits : Fits old before) (turns : TurnsAt at turned bytes before behind) (b : DeskView) where
  abbrev telling : Entry
  telling = entries.Note (notes.Turned (at + 1) turned)

  -- whatever the machine replied
  pub turn_broken : (reply : Reply) → Enters old.desk telling reply b → BreaksOff (bench old before) b.past
  turn_broken reply enters =
      let next = ahead old telling reply b fits.kept enters in
      let others = others_ahead old telling reply b fits.kept enters in
      let did = others_beside laws old next fits.kept others before in
      let w = waits_on laws old next fits.kept others at waits in
      let fits_next = tends_fits laws old next fits.kept (tends_of old next others) before fits in
      let k = w.channel in
      let l = record k { inbound = record k.inbound { from = record k.inbound.from { stream = fed bytes k.inbound.from.stream } } } in
      let there = turned_bench at turned bytes next before behind fits_next turns w taken b l in
      broken_behind (bench old before) did.events (bench next before) b.past did.runs
      (broken_by (called (at + 1) (Turning turned bytes) reply (bench next before) there)
      (calls_at at turned bytes next before behind fits_next turns w taken reply b l refl refl (enters_next old telling reply b fits.kept enters)))

  -- the machine couldn't be told
  pub turn_stop : (stop : DeskStop) → Stops stop telling old.desk b → BreaksOff (bench old before) b.past
  turn_stop stops.NoMemory h = turn_broken NoMemory h
  turn_stop stops.Worn h = broken_here (bench old before) b.past (worn_past old.desk b h)
