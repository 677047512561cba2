-- What is done with the machine and the devices, one deed after the other.
use Rattle.std.specs.Prelude.{◌≡◌, ℕ, ◌^◌, ◌<◌, Bool, true, false, List, [], ◌∷◌, ◌++◌, map, Some, All}
use Rattle.std.specs.List.{flat_map}
use Rattle.maple_base.specs.declared.device.Turned.{Turned}
use Rattle.maple_base.specs.declared.device.Turned.TheVariants.{Nothing, Failed as FailedTurn, NoMemory as NoMemoryTurn}
use Rattle.maple_base.specs.declared.device.Seen.{Seen}
use Rattle.maple_base.specs.declared.device.Seen.TheVariants.{Failed as FailedLook, NoMemory as NoMemoryLook}
use Rattle.of10_codec.specs.declared.message.Message.{Message}
use Rattle.of10_codec.specs.Written.{written}
use Rattle.of10_stream.specs.declared.reassembly.Next.TheVariants as next
use Rattle.of10_stream.specs.Steps.{Stream, Tells as StreamTells, fed}
use Rattle.device_port.specs.declared.device.Took.{Took}
use Rattle.device_port.specs.declared.device.Took.TheVariants.{Taken, Failed as FailedOffer, NoMemory as NoMemoryOffer}
use Rattle.device_port.specs.Devices.{Call, Meaning, Offers, Turns, Packets}
use Rattle.device_port.specs.Devices.Call.{Offered, Turning, Looking}
use Rattle.machine_steps.specs.declared.entry.Entry.{Entry}
use Rattle.machine_steps.specs.declared.entry.Entry.TheVariants as entries
use Rattle.machine_steps.specs.declared.entry.Input.{Input}
use Rattle.machine_steps.specs.declared.entry.Input.TheVariants.{Message as Whole, Bad}
use Rattle.machine_steps.specs.declared.note.Note.{Note}
use Rattle.machine_steps.specs.declared.note.Note.TheVariants as notes
use Rattle.machine_steps.specs.declared.reply.Reply.{Reply}
use Rattle.machine_steps.specs.Admitting.{Admits}
use Rattle.machine_steps.specs.Histories.{Turn}
use Rattle.machine_steps.specs.Machine.{State, was_opened}
use Rattle.machine_steps.specs.Steps.{Steps}
use Rattle.history_lock.specs.Histories.{event}
use Rattle.machine_sharing.specs.Legal.{call_of, turn_of as turn_by}
use Rattle.machine_sharing.specs.Sharing.{ThreeStale}
use Rattle.world_steps.specs.Worlds.{lacks_memory, messages_for}
use Rattle.sim_steps.specs.Benches.{Slot, Bench, MovesAt, is_place, is_plugged, slot_at}

pub data Deed : Type 0 where
  -- the machine is given an entry, and replies so
  Enters : Entry → Reply → Deed
  -- the device at a place is called, with what it answers and appends, and the machine is told so by a note, and replies so
  Calls : ℕ → Call → Reply → Deed

-- ---- the calls of devices

-- the machine is told what was called, and what the device answered
abbrev pub note_of : ℕ → Call → Note
note_of c (Offered bytes FailedOffer) = notes.Offered c true
note_of c (Offered bytes took) = notes.Offered c false
note_of c (Turning turned bytes) = notes.Turned c turned
note_of c (Looking port frame seen bytes) = notes.Seen c port frame seen

-- the device failed
abbrev pub has_failed : Call → Bool
has_failed (Offered bytes FailedOffer) = true
has_failed (Turning FailedTurn bytes) = true
has_failed (Looking port frame FailedLook bytes) = true
has_failed call = false

-- the next of the messages that were taken out for the device is offered to it; where it fails the message stays
abbrev pub OffersNext : List ℕ → Took → Slot → Slot → Type 0
OffersNext bytes Taken s t =
    (x : Message) × (later : List Message) × (s.to ≡ x ∷ later) × (bytes ≡ written x) × (d : Meaning) × Offers bytes Taken s.device d
    × (t ≡ record s { device = d; to = later })
OffersNext bytes FailedOffer s t =
    (x : Message) × (later : List Message) × (s.to ≡ x ∷ later) × (bytes ≡ written x) × (d : Meaning) × Offers bytes FailedOffer s.device d
    × (t ≡ record s { device = d })
OffersNext bytes NoMemoryOffer s t = ⊥

-- what the device appends comes behind what it appended before
abbrev pub appends : List ℕ → Meaning → Slot → Slot
appends bytes d s = record s { device = d; from = fed bytes s.from }

-- a call that finds no memory is none, and a device without a pending message takes no turn
abbrev pub TakesTurn : Turned → List ℕ → Slot → Slot → Type 0
TakesTurn Nothing bytes s t = ⊥
TakesTurn NoMemoryTurn bytes s t = ⊥
TakesTurn turned bytes s t = (d : Meaning) × Turns turned bytes s.device d × (t ≡ appends bytes d s)

-- a frame of bytes comes in by a port of 16 bits
abbrev pub LooksUp : ℕ → List ℕ → Seen → List ℕ → Slot → Slot → Type 0
LooksUp port frame NoMemoryLook bytes s t = ⊥
LooksUp port frame seen bytes s t =
    (port < 2 ^ 16) × All (λ b. b < 256) frame × (d : Meaning) × Packets port frame seen bytes s.device d × (t ≡ appends bytes d s)

abbrev pub CallsSlot : Call → Slot → Slot → Type 0
CallsSlot (Offered bytes took) s t = OffersNext bytes took s t
CallsSlot (Turning turned bytes) s t = TakesTurn turned bytes s t
CallsSlot (Looking port frame seen bytes) s t = LooksUp port frame seen bytes s t

-- a device is called while its session is open, and no device that was left
pub record CallsAt (c : ℕ) (call : Call) (reply : Reply) (a b : Bench) : Type 0 where
  pub plugged : is_plugged c a.machine ≡ true
  pub slots : MovesAt c (CallsSlot call) a.slots b.slots
  pub noted : Steps a.machine (entries.Note (note_of c call)) reply b.machine
  pub past : b.past ≡ a.past ++ turn_by a.machine (event (entries.Note (note_of c call)) reply b.machine) ∷ []

-- ---- the entries

-- the next message of what the device appended, or the fault that is there
abbrev pub NextIs : Input → Stream → Stream → Type 0
NextIs (Whole x) old new = StreamTells (next.Message x) old new
NextIs (Bad place bad) old new = StreamTells (next.Bad place bad) old new

abbrev pub HearsNext : Input → Slot → Slot → Type 0
HearsNext input s t = (from : Stream) × NextIs input s.from from × (t ≡ record s { from = from })

abbrev pub GetsMessages : List Message → Slot → Slot → Type 0
GetsMessages messages s t = t ≡ record s { to = s.to ++ messages }

-- where memory doesn't run out
abbrev pub UnlessLacking : Bool → List Slot → List Slot → Type 0 → Type 0
UnlessLacking true old new Moves = new ≡ old
UnlessLacking false old new Moves = Moves

-- what is heard of a place is what its device appended, and what is taken out for it is to be offered to it
abbrev pub SlotsBehind : State → Entry → Reply → List Slot → List Slot → Type 0
SlotsBehind m (entries.Heard c input) reply old new = UnlessLacking (lacks_memory reply) old new (MovesAt c (HearsNext input) old new)
SlotsBehind m (entries.TakeOut c) reply old new = UnlessLacking (lacks_memory reply) old new (MovesAt c (GetsMessages (messages_for c m)) old new)
SlotsBehind m entry reply old new = new ≡ old

-- what is heard of a place comes next in what its device appended
abbrev pub ComesNext : ℕ → Input → List Slot → Type 0
ComesNext c input slots = (s : Slot) × (from : Stream) × (slot_at c slots ≡ Some s) × NextIs input s.from from

-- calls are told by the notes of their deeds alone
abbrev pub MayNote : Note → Type 0
MayNote (notes.Offered c failed) = ⊥
MayNote (notes.Turned c turned) = ⊥
MayNote (notes.Seen c port frame seen) = ⊥
MayNote note = Unit {0}

-- when an entry is made: a place is opened once; it is heard, taken out for and left while its session is open. The machine is asked to decide of a packet
-- itself behind three stale runs for it
abbrev pub MayEnter : Entry → Bench → Type 0
MayEnter (entries.Open c) b = (is_place c b ≡ true) × (was_opened c b.machine ≡ false)
MayEnter (entries.Heard c input) b = (is_plugged c b.machine ≡ true) × ComesNext c input b.slots
MayEnter (entries.Gone c fault) b = is_plugged c b.machine ≡ true
MayEnter (entries.TakeOut c) b = is_plugged c b.machine ≡ true
MayEnter (entries.Decide job) b = ThreeStale job (map call_of b.past)
MayEnter (entries.Note note) b = MayNote note
MayEnter entry b = Unit {0}

pub record EntersAt (entry : Entry) (reply : Reply) (a b : Bench) : Type 0 where
  pub may : MayEnter entry a
  pub admitted : Admits a.machine entry
  pub steps : Steps a.machine entry reply b.machine
  pub slots : SlotsBehind a.machine entry reply a.slots b.slots
  pub past : b.past ≡ a.past ++ turn_by a.machine (event entry reply b.machine) ∷ []

-- ---- deeds one after the other

abbrev pub Does : Deed → Bench → Bench → Type 0
Does (Enters entry reply) a b = EntersAt entry reply a b
Does (Calls c call reply) a b = CallsAt c call reply a b

-- a deed, with what there was before and behind it
pub record Event : Type 0 where
  pub before : Bench
  pub deed : Deed
  pub behind : Bench

abbrev pub Happens : Event → Type 0
Happens e = Does e.deed e.before e.behind

abbrev pub Runs : Bench → List Event → Bench → Type 0
Runs a [] last = last ≡ a
Runs a (e ∷ es) last = (e.before ≡ a) × Happens e × Runs e.behind es last

-- ---- the machine's history in them

abbrev pub entry_in : Deed → Entry
entry_in (Enters entry reply) = entry
entry_in (Calls c call reply) = entries.Note (note_of c call)

abbrev pub reply_in : Deed → Reply
reply_in (Enters entry reply) = reply
reply_in (Calls c call reply) = reply

abbrev pub turn_of : Event → Turn
turn_of e = turn_by e.before.machine (event (entry_in e.deed) (reply_in e.deed) e.behind.machine)

abbrev pub turns_of : List Event → List Turn
turns_of es = flat_map (λ (e : Event). turn_of e ∷ []) es
