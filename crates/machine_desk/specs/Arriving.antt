-- A packet that arrives: whether an input brings one, and the room for it in the machine.
use Rattle.std.specs.Prelude.{◌≡◌, ◌<◌, Bool, true, false, List, length}
use Rattle.of10_codec.specs.declared.message.Body.{Body}
use Rattle.of10_codec.specs.declared.message.Body.TheVariants.{PacketIn}
use Rattle.history_lock.specs.Histories.{AreAllowed, Replays}
use Rattle.machine_steps.specs.declared.entry.Entry.{Entry}
use Rattle.machine_steps.specs.declared.entry.Entry.TheVariants as entries
use Rattle.machine_steps.specs.declared.entry.Input.{Input}
use Rattle.machine_steps.specs.declared.entry.Input.TheVariants.{Message, Bad}
use Rattle.machine_steps.specs.Machine.{State, most_jobs}
use Rattle.machine_sharing.specs.Legal.{turns_of}
use Rattle.machine_sharing.specs.Sharing.{Allows, Call, Turns}
use Rattle.machine_desk.specs.Desks.{NoneOverflows}

abbrev pub brings_packet : Body → Bool
brings_packet (PacketIn buffer total in_port reason bytes) = true
brings_packet other = false

-- a packet comes with it
abbrev pub is_packet : Input → Bool
is_packet (Message m) = brings_packet m.body
is_packet (Bad place bad) = false

-- where a packet comes with it, fewer wait in the machine than may
abbrev pub TakesIn : Input → State → Type 0
TakesIn input m = is_packet input ≡ true → length m.jobs < most_jobs

-- no other entry needs room
abbrev pub HasRoomFor : Entry → State → Type 0
HasRoomFor (entries.Heard c input) m = TakesIn input m
HasRoomFor entry m = Unit {0}

-- what others do needs none
abbrev pub OthersFindRoom : Type 0
OthersFindRoom =
    (seen others : List Call) (m n : State) → AreAllowed Allows seen others → Replays Turns m others n → NoneOverflows (turns_of m others)
