-- An order whose entry was asked for.
use Rattle.std.proofs.Common.{◌≡◌, true, false, List, [], ◌∷◌, refl, sym, subst, inl}
use Rattle.device_port.specs.Devices.{Meaning}
use Rattle.machine_desk.specs.Desks.{DeskView, Enters}
use Rattle.machine_steps.specs.declared.entry.Entry.{Entry}
use Rattle.machine_steps.specs.declared.reply.Reply.{Reply}
use Rattle.script_text.specs.Orders.{Order}
use Rattle.world_steps.specs.Worlds.{lacks_memory}
use Rattle.sim_steps.specs.Benches.{Bench}
use Rattle.sim_steps.specs.Deeds.{Event, MayEnter}
use Rattle.sim_steps.specs.Deeds.Deed.{Enters as EntersBy}
use Rattle.sim_steps.specs.Parts.{JustEnters, Obeys, asks, tells_settling}
use Rattle.sim_steps.specs.Stretches.{Carried, Obeyed}
use Rattle.sim_steps.proofs.Joining.{carried_behind, obeyed}
use Rattle.sim_channels.specs.declared.driver.Driver.{Driver}
use Rattle.sim_channels.specs.Channels.{Fits, IsKept, bench}
use Rattle.machine_desk.specs.Driving.{DrivingLaws}
use Rattle.sim_channels.specs.Resting.{RestingLaws}
use Rattle.sim_channels.specs.Waiting.{IsAtRest, IsDone}
use Rattle.sim_turns.specs.Turning.{IsAsked}
use Rattle.sim_turns.proofs.Entered.{asked_over}
use Rattle.sim_driver.specs.Commands.{AsksFor}

-- and then what it brings about was done
pub obeyed_then : RestingLaws → (o : Order) (entry : Entry) (reply : Reply) (a b : Bench) → IsAsked entry reply a b → ((es : List Event) → JustEnters entry es → Obeys o a es)
    → (e : Driver) (after : List Meaning) → Carried b (bench e after) → IsKept e → IsAtRest e → Obeyed o a (bench e after)
obeyed_then resting o entry reply a b asked obeys e after carried kept rest =
    obeyed o (asked.event ∷ []) a (bench e after) (carried_behind (asked.event ∷ []) [] a b (bench e after) asked.stretch carried)
    (obeys (asked.event ∷ []) (asked.event, reply, refl, asked.deed)) (resting.calm e after kept rest)
    (λ solo. resting.still e after kept rest (inl solo))

-- where only what no bench shows changes behind it
pub asks_for : DrivingLaws → RestingLaws → (d : Driver) (entry : Entry) (reply : Reply) (desk : DeskView) (kept : IsKept d) → Enters d.desk entry reply desk → (e : Driver)
    → ((devices : List Meaning) → bench e devices ≡ bench (record d { desk = desk }) devices) → IsAtRest d → asks entry ≡ true
    → (tells_settling (EntersBy entry reply) ≡ true → IsDone d) → lacks_memory reply ≡ false
    → ((devices : List Meaning) → Fits d devices → MayEnter entry (bench d devices)) → AsksFor entry d e
asks_for laws resting d entry reply desk kept enters e shows rest asked settled memory may devices fits = (
  reply,
  subst (λ (b : Bench). IsAsked entry reply (bench d devices) b) (sym (shows devices))
      (asked_over laws resting entry reply d (record d { desk = desk }) kept enters refl devices rest asked settled memory (may devices fits)),
)
