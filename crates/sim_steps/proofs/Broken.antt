-- What was broken off: deeds up to there.
use Rattle.std.proofs.Common.{◌≡◌, ℕ, List, [], ◌∷◌, ◌++◌, refl}
use Rattle.machine_steps.specs.declared.entry.Entry.{Entry}
use Rattle.machine_steps.specs.declared.entry.Entry.TheVariants as entries
use Rattle.machine_steps.specs.declared.reply.Reply.TheVariants.{NoMemory}
use Rattle.machine_steps.specs.Histories.{Turn}
use Rattle.machine_steps.specs.Machine.{State}
use Rattle.sim_steps.specs.Benches.{Bench, Slot}
use Rattle.sim_steps.specs.Deeds.{Event, Happens, Runs, SlotsBehind}
use Rattle.sim_steps.specs.Stretches.{BreaksOff, Carried, Stretch}
use Rattle.sim_steps.proofs.Joining.{runs_then}

-- nothing was done
pub broken_here : (a : Bench) (past : List Turn) → a.past ≡ past → BreaksOff a past
broken_here a past same = record { events = []; last = a; runs = refl; past_is = same }

-- behind deeds
pub broken_behind : (a : Bench) (es : List Event) (b : Bench) (past : List Turn) → Runs a es b → BreaksOff b past → BreaksOff a past
broken_behind a es b past runs h =
    record { events = es ++ h.events; last = h.last; runs = runs_then a es b h.events h.last runs h.runs; past_is = h.past_is }

pub broken_stretch : (xs : List Event) (text : List ℕ) (a b : Bench) (past : List Turn) → Stretch xs text a b → BreaksOff b past → BreaksOff a past
broken_stretch xs text a b past h k = broken_behind a h.events b past h.runs k

pub broken_carried : (a b : Bench) (past : List Turn) → Carried a b → BreaksOff b past → BreaksOff a past
broken_carried a b past h k = broken_stretch [] [] a b past h k

-- one deed
pub broken_by : (e : Event) → Happens e → BreaksOff e.before e.behind.past
broken_by e happens = record { events = e ∷ []; last = e.behind; runs = (refl, happens, refl); past_is = refl }

-- an entry for which memory didn't suffice leaves what is on its way
pub slots_lacking : (m : State) (entry : Entry) (slots : List Slot) → SlotsBehind m entry NoMemory slots slots
slots_lacking m (entries.Heard c input) slots = refl
slots_lacking m (entries.TakeOut c) slots = refl
slots_lacking m entry slots = refl
