-- A turn is told behind what others did.
use Rattle.std.proofs.Common.{◌≡◌, ℕ, ◌+◌, List}
use Rattle.maple_base.specs.declared.device.Turned.{Turned}
use Rattle.maple_base.specs.declared.device.Turned.TheVariants.{Failed as FailedTurn}
use Rattle.machine_desk.specs.Desks.{Enters}
use Rattle.machine_steps.specs.declared.entry.Entry.TheVariants as entries
use Rattle.machine_steps.specs.declared.note.Note.{Note}
use Rattle.machine_steps.specs.declared.note.Note.TheVariants as notes
use Rattle.machine_steps.specs.declared.reply.Reply.TheVariants.{Done}
use Rattle.sim_channels.specs.declared.driver.Driver.{Driver}
use Rattle.sim_channels.specs.Channels.{IsKept, IsSame}
use Rattle.sim_channels.specs.Delivering.{Leaves}
use Rattle.machine_desk.specs.Driving.{DrivingLaws}
use Rattle.sim_channels.specs.Resting.{RestingLaws}
use Rattle.sim_channels.specs.Turns.{Appends, ChannelMoves, Waits}
use Rattle.sim_channels.specs.Waiting.{IsAtRest}
use Rattle.sim_channels.proofs.Others.{same_desk, same_then}
use Rattle.sim_turns.specs.Taking.{IsTaken}
use Rattle.sim_turns.proofs.Aside.{Brings, brings_ahead, waits_on}
use Rattle.sim_turns.proofs.Dealt.{dealt_brings}
use Rattle.sim_turns.proofs.Failing.{failed_brings}
use Rattle.sim_turns.proofs.Noted.{Ahead, ahead_kept, ahead_rest, note_next, others_did}

module _ (laws : DrivingLaws) (resting : RestingLaws) (at : ℕ) (turned : Turned) (bytes : List ℕ) (old mid new : Driver) (kept : IsKept old) (rest : IsAtRest old)
    (waits : Waits at old) (taken : IsTaken turned)
    (enters : Enters old.desk (entries.Note (notes.Turned (at + 1) turned)) Done mid.desk) (same : mid ≡ record old { desk = mid.desk })
    (footing : mid.desk.footing ≡ old.desk.footing) where
  abbrev Told : Note
  Told = notes.Turned (at + 1) turned

  abbrev Base : Driver
  Base = Ahead laws Told old mid kept enters same footing

  base_kept : IsKept Base
  base_kept = ahead_kept laws Told old mid kept enters same footing

  base_rest : IsAtRest Base
  base_rest = ahead_rest laws Told old mid kept enters same footing resting rest

  base_waits : Waits at Base
  base_waits = waits_on laws old Base kept (others_did laws Told old mid kept enters same footing) at waits

  behind_base : Brings at turned bytes Base new → Brings at turned bytes old new
  behind_base b = brings_ahead laws old Base kept (others_did laws Told old mid kept enters same footing) at turned bytes new b

  pub failed_behind : turned ≡ FailedTurn → Leaves at mid new → Brings at turned bytes old new
  failed_behind failed leaves =
      behind_base
      (failed_brings laws resting at turned bytes Base mid new base_kept base_rest base_waits taken failed (note_next laws Told old mid kept enters same footing) same
      footing leaves)

  pub dealt_behind : (turned ≡ FailedTurn → ⊥) → new.desk ≡ mid.desk → ChannelMoves at (Appends bytes) mid new → IsSame mid new → Brings at turned bytes old new
  dealt_behind other desk moves also =
      behind_base
      (dealt_brings laws resting at turned bytes Base mid new base_kept base_rest base_waits taken other (note_next laws Told old mid kept enters same footing) same
      (same_then Base mid new (same_desk Base mid same footing) also) desk moves)
