-- A turn of a device is an event, whatever the machine replies to its note.
use Rattle.std.proofs.Common.{◌≡◌, ◌≢◌, ℕ, ◌+◌, false, List, [], ◌++◌, length, set, refl, sym, ap, ◌∙◌, subst, arith}
use Rattle.maple_base.specs.declared.device.Turned.{Turned}
use Rattle.maple_base.specs.declared.device.Turned.TheVariants.{Nothing, Processed, Refused as RefusedChange, Failed as FailedTurn, NoMemory as NoMemoryTurn}
use Rattle.of10_stream.specs.Steps.{fed}
use Rattle.device_port.specs.Devices.{Meaning, Turns}
use Rattle.device_port.specs.Devices.Call.{Turning}
use Rattle.machine_desk.specs.Desks.{DeskView}
use Rattle.machine_steps.specs.declared.entry.Entry.TheVariants as entries
use Rattle.machine_steps.specs.declared.note.Note.TheVariants as notes
use Rattle.machine_steps.specs.declared.reply.Reply.{Reply}
use Rattle.sim_steps.specs.Benches.{Bench, Slot}
use Rattle.sim_steps.specs.Deeds.{CallsAt, CallsSlot, TakesTurn, appends, has_failed}
use Rattle.sim_steps.specs.Parts.{has_dealt}
use Rattle.machine_desk.specs.Hearing.{is_live}
use Rattle.sim_channels.specs.Channels.{EntersNext, Fits, bench, slot_by, slots_of}
use Rattle.sim_channels.specs.declared.channel.Channel.{Channel}
use Rattle.sim_channels.specs.declared.driver.Driver.{Driver}
use Rattle.sim_channels.specs.Turns.{Waits}
use Rattle.sim_channels.proofs.Kept.{staged_at}
use Rattle.sim_channels.proofs.Slots.{slots_move}
use Rattle.sim_turns.specs.Taking.{IsTaken, TakesTurnAt, TurnsAt}

-- ---- by its answer

takes_turn : (turned : Turned) (bytes : List ℕ) (s t : Slot) (e : Meaning) → IsTaken turned → Turns turned bytes s.device e → t ≡ appends bytes e s
    → TakesTurn turned bytes s t
takes_turn (Processed xid) bytes s t e taken turns same = (e, turns, same)
takes_turn (RefusedChange xid) bytes s t e taken turns same = (e, turns, same)
takes_turn FailedTurn bytes s t e taken turns same = (e, turns, same)
takes_turn Nothing bytes s t e taken turns same = absurd taken
takes_turn NoMemoryTurn bytes s t e taken turns same = absurd taken

-- what was appended to nothing
pub turns_by : (at : ℕ) (turned : Turned) (before behind : List Meaning) (ahead all lent : List ℕ) → TakesTurnAt at turned before ahead behind all → ahead ≡ []
    → lent ≡ all
    → TurnsAt at turned lent before behind
turns_by at turned before behind ahead all lent h none same =
    subst (λ bs. TurnsAt at turned bs before behind) (sym (same ∙ h.appended ∙ ap (λ bs. bs ++ h.bytes) none)) h.turns

-- a device in which a message waits takes a turn, unless memory runs out
pub is_taken : (at : ℕ) (turned : Turned) (bytes : List ℕ) (old : Driver) (before behind : List Meaning) → Fits old before → Waits at old
    → TurnsAt at turned bytes before behind
    → turned ≢ NoMemoryTurn → IsTaken turned
is_taken at (Processed xid) bytes old before behind fits waits turns memory = tt
is_taken at (RefusedChange xid) bytes old before behind fits waits turns memory = tt
is_taken at FailedTurn bytes old before behind fits waits turns memory = tt
is_taken at NoMemoryTurn bytes old before behind fits waits turns memory = absurd (memory refl)
is_taken at Nothing bytes old before behind fits waits turns memory =
    let count : waits.channel.waiting ≡ length turns.before.pending = fits.waiting at waits.channel turns.before waits.there turns.there in
    let none : length turns.before.pending ≡ 0 = ap length turns.turns.1.none in
    absurd (omega (arith, waits.some))

-- the device didn't fail
pub record IsDealt (turned : Turned) (bytes : List ℕ) (d e : Meaning) : Type 0 where
  pub fewer : length d.pending ≡ length e.pending + 1
  pub whole : has_failed (Turning turned bytes) ≡ false

pub is_dealt : (turned : Turned) (bytes : List ℕ) (d e : Meaning) → IsTaken turned → (turned ≡ FailedTurn → ⊥) → Turns turned bytes d e
    → IsDealt turned bytes d e
is_dealt (Processed xid) bytes d e taken other turns = record { fewer = turns.1; whole = refl }
is_dealt (RefusedChange xid) bytes d e taken other turns = record { fewer = turns.1; whole = refl }
is_dealt FailedTurn bytes d e taken other turns = absurd (other refl)
is_dealt Nothing bytes d e taken other turns = absurd taken
is_dealt NoMemoryTurn bytes d e taken other turns = absurd taken

pub dealt_one : (turned : Turned) → IsTaken turned → (turned ≡ FailedTurn → ⊥) → has_dealt turned ≡ 1
dealt_one (Processed xid) taken other = refl
dealt_one (RefusedChange xid) taken other = refl
dealt_one FailedTurn taken other = absurd (other refl)
dealt_one Nothing taken other = absurd taken
dealt_one NoMemoryTurn taken other = absurd taken

-- ---- the call

module _ (at : ℕ) (turned : Turned) (bytes : List ℕ) (old : Driver) (before behind : List Meaning) (fits : Fits old before)
    (turns : TurnsAt at turned bytes before behind)
    (waits : Waits at old) (taken : IsTaken turned) where
  -- the bench behind the call, with this desk and this channel
  abbrev pub turned_bench : DeskView → Channel → Bench
  turned_bench desk l = record { past = desk.past; machine = desk.now; slots = slots_of (set old.channels.items at l) (set before at turns.behind) }

  pub calls_at : (reply : Reply) (desk : DeskView) (l : Channel) → l.to ≡ waits.channel.to → l.inbound.from.stream ≡ fed bytes waits.channel.inbound.from.stream
      → EntersNext (entries.Note (notes.Turned (at + 1) turned)) reply old.desk desk
      → CallsAt (at + 1) (Turning turned bytes) reply (bench old before) (turned_bench desk l)
  calls_at reply desk l to from enters = record {
    plugged = staged_at old at waits.channel fits.kept waits.there ∙ ap is_live waits.plugged;
    slots = slots_move old.channels.items before at waits.channel l turns.before turns.behind (CallsSlot (Turning turned bytes)) waits.there turns.there
        (takes_turn turned bytes (slot_by waits.channel turns.before) (slot_by l turns.behind) turns.behind taken turns.turns
        (λ i. record { device = turns.behind; to = to i; from = from i }));
    noted = enters.made.steps;
    past = enters.past;
  }
