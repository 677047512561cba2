-- Where a call of the driver stops: the deeds up to there.
use Rattle.std.proofs.Common.{◌≡◌, List, length, refl, sym, ap, ◌∙◌, subst}
use Rattle.device_port.specs.Devices.{Meaning}
use Rattle.machine_steps.specs.declared.entry.Entry.{Entry}
use Rattle.machine_steps.specs.declared.reply.Reply.TheVariants.{NoMemory}
use Rattle.machine_desk.specs.Desks.{DeskView, Enters, WearsOut}
use Rattle.machine_desk.specs.Driving.{DrivingLaws}
use Rattle.machine_desk.specs.Laws.{Meanwhile}
use Rattle.machine_desk.specs.Orders.{Stops}
use Rattle.machine_desk.specs.declared.asking.DeskStop.{DeskStop}
use Rattle.machine_desk.specs.declared.asking.DeskStop.TheVariants as stops
use Rattle.sim_steps.specs.Deeds.{MayEnter}
use Rattle.sim_steps.specs.Stretches.{BreaksOff}
use Rattle.sim_steps.proofs.Broken.{broken_behind, broken_by, broken_carried, broken_here, slots_lacking}
use Rattle.sim_steps.proofs.Moments.{entered}
use Rattle.sim_steps.proofs.Silent.{broken_along}
use Rattle.sim_channels.specs.declared.driver.Driver.{Driver}
use Rattle.sim_channels.specs.Channels.{BreaksOffOver, CarriedOver, IsKept, OthersDid, bench}
use Rattle.sim_channels.proofs.Others.{ahead, kept_ahead, others_ahead, others_beside}

pub worn_past : (a b : DeskView) → WearsOut a b → a.past ≡ b.past
worn_past a b h = sym (ap (λ (d : DeskView). d.past) h.same)

-- others did what they may, or the driver what anybody may
pub broken_meanwhile : (old : Driver) (b : DeskView) → Meanwhile old.desk b → (ds : List Meaning) → BreaksOff (bench old ds) b.past
broken_meanwhile old b h ds = subst (BreaksOff (bench old ds)) (sym h.past) (broken_along (bench old ds) h.turns b.now h.leads h.allowed)

-- behind what is carried
pub broken_over : (a b c : Driver) → length b.channels.items ≡ length a.channels.items → CarriedOver a b → BreaksOffOver b c → BreaksOffOver a c
broken_over a b c long h k = λ ds e. broken_carried (bench a ds) (bench b ds) c.desk.past (h ds e) (k ds (e ∙ sym long))

-- an entry of the driver's own, behind what others did
module _ (laws : DrivingLaws) (old : Driver) (kept : IsKept old) (ds : List Meaning) (entry : Entry) (b : DeskView) where
  -- when it may be made
  abbrev pub MayMake : Type 0
  MayMake = (next : Driver) → OthersDid old next → IsKept next → next.channels.items ≡ old.channels.items → MayEnter entry (bench next ds)

  lacking : Enters old.desk entry NoMemory b → MayMake → BreaksOff (bench old ds) b.past
  lacking h may =
      let next = ahead old entry NoMemory b kept h in
      let did = others_beside laws old next kept (others_ahead old entry NoMemory b kept h) ds in
      broken_behind (bench old ds) did.events (bench next ds) b.past did.runs
      (broken_by (entered entry NoMemory (bench next ds) (bench (record next { desk = b }) ds)) (record {
        may = may next (others_ahead old entry NoMemory b kept h) (kept_ahead laws old entry NoMemory b kept h) refl;
        admitted = h.made.admitted;
        steps = h.made.steps;
        slots = slots_lacking h.between entry (bench next ds).slots;
        past = h.past;
      }))

  pub broken_stop : (stop : DeskStop) → Stops stop entry old.desk b → MayMake → BreaksOff (bench old ds) b.past
  broken_stop stops.NoMemory h may = lacking h may
  broken_stop stops.Worn h may = broken_here (bench old ds) b.past (worn_past old.desk b h)
