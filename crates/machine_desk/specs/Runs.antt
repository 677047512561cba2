-- What is known of a run by who drove it: how many entries were read, the turns of the machine, and which of them are its own.
use Rattle.std.specs.Prelude.{◌≡◌, ℕ, Bool, true, List}
use Rattle.machine_desk.specs.Desks.{DeskView, HadMemory, NoneOverflows, calls_of}
use Rattle.machine_sharing.specs.Legal.{turns_of}
use Rattle.machine_steps.specs.Histories.{Turn}
use Rattle.machine_steps.specs.Machine.{State}
use Rattle.packet_workers.specs.Adding.{PassView}

-- by its desk
abbrev pub AtDesk : (ℕ → List Turn → List ℕ → Type 0) → DeskView → Type 0
AtDesk Known desk = Known desk.number desk.past desk.own

-- by a pass of a hall whose machine was so at first
abbrev pub ByPass : (ℕ → List Turn → List ℕ → Type 0) → State → PassView → Type 0
ByPass Known start k = Known k.number (turns_of start k.seen) k.own

-- no packet found too many others waiting, and of a run in which all was done that it was asked for, memory sufficed for the calls of who drove it
pub record IsSmoothFor (whole : Bool) (history : List Turn) (own : List ℕ) : Type 0 where
  pub room : NoneOverflows history
  pub memory : whole ≡ true → HadMemory (calls_of history) own
