-- The run of the world that deeds are, where each device keeps the specification of a switch.
use Rattle.std.specs.Prelude.{◌≡◌, ◌⊎◌, ℕ, true, false, map, List, [], ◌∷◌, ◌++◌, Option, Some, None, Ok, Err}
use Rattle.std.specs.List.{AllByRecursion}
use Rattle.maple_base.specs.declared.key.Key.{Key}
use Rattle.maple_base.specs.declared.decision.Rule.{Rule}
use Rattle.maple_base.specs.declared.device.Turned.{Turned}
use Rattle.maple_base.specs.declared.device.Turned.TheVariants.{Processed, Refused}
use Rattle.maple_base.specs.declared.device.Seen.{Seen}
use Rattle.maple_base.specs.declared.device.Seen.TheVariants.{Hit, Miss}
use Rattle.maple_base.specs.Ports.{controller_port}
use Rattle.of10_codec.specs.declared.message.Message.{Message}
use Rattle.of10_codec.specs.Written.{written}
use Rattle.packet_key.specs.Frames.{key_of}
use Rattle.packet_key.specs.declared.malformed.Malformed.{Malformed}
use Rattle.device_port.specs.declared.device.Took.TheVariants.{Taken}
use Rattle.device_port.specs.Switches.{Step}
use Rattle.device_port.specs.Switches.Step.{Take, Process, Refuse, Answer, Look, Send}
use Rattle.device_port.specs.Devices.{Call, Meaning, switch_of, by_rule, no_rule}
use Rattle.device_port.specs.Devices.Call.{Offered, Turning, Looking}
use Rattle.machine_steps.specs.declared.entry.Entry.TheVariants as entries
use Rattle.machine_steps.specs.declared.reply.Reply.{Reply}
use Rattle.machine_steps.specs.Machine.{was_opened}
use Rattle.world_steps.specs.Worlds.{Link, World, WorldStep, link_at}
use Rattle.world_steps.specs.Worlds.WorldStep.{Enters as EntersWorld, Acts}
use Rattle.world_steps.specs.Runs.{Event as WorldEvent}
use Rattle.sim_steps.specs.Benches.{Slot, Bench, slot_at}
use Rattle.sim_steps.specs.Deeds.{Deed, Event, note_of}
use Rattle.sim_steps.specs.Deeds.Deed.{Enters, Calls}

-- ---- the steps of a switch in a call of its device

-- these messages are sent of the switch's own accord
abbrev pub sends : List Message → List Step
sends messages = map Send messages

-- one step among messages of the switch's own accord; the bytes spell them and what the step sends
pub record IsAmongSends (step : Step) (steps : List Step) : Type 0 where
  pub ahead : List Message
  pub behind : List Message
  pub are : steps ≡ sends ahead ++ step ∷ sends behind

-- a message of this id is dealt with
abbrev pub Deals : Turned → Message → Step → Type 0
Deals (Processed xid) x step = (x.xid ≡ xid) × ((step ≡ Process x) ⊎ (step ≡ Answer x))
Deals (Refused xid) x step = (x.xid ≡ xid) × (step ≡ Refuse x)
Deals turned x step = ⊥

abbrev pub TurnsBy : Turned → List Step → Type 0
TurnsBy turned steps = (x : Message) × (step : Step) × Deals turned x step × IsAmongSends step steps

-- what the look-up of a key finds: a rule with these actions, one that sends to the controller, or none
abbrev pub Finds : Option Rule → Seen → Type 0
Finds (Some r) (Hit actions) = (r.actions ≡ actions) × (actions ≡ controller_port ∷ [] → ⊥)
Finds (Some r) (Miss reason) = (reason ≡ by_rule) × (r.actions ≡ controller_port ∷ [])
Finds None (Miss reason) = reason ≡ no_rule
Finds found seen = ⊥

-- the frame's key is looked up, and a frame without a key is not
abbrev pub LooksBy : ℕ → List ℕ → Seen → List Step → Type 0
LooksBy port frame seen steps =
    ((k : Key) × (found : Option Rule) × (key_of port frame ≡ Ok k) × Finds found seen × (steps ≡ Look k found ∷ []))
    ⊎ ((fault : Malformed) × (key_of port frame ≡ Err fault) × (steps ≡ []))

-- then come messages of the switch's own accord
abbrev pub LooksAndSends : ℕ → List ℕ → Seen → List Step → Type 0
LooksAndSends port frame seen steps = (looks : List Step) × (messages : List Message) × LooksBy port frame seen looks × (steps ≡ looks ++ sends messages)

-- what a call is; a device that fails makes no step
abbrev pub CallBy : Call → List Step → Type 0
CallBy (Offered bytes Taken) steps = (x : Message) × (bytes ≡ written x) × (steps ≡ Take x ∷ [])
CallBy (Turning (Processed xid) bytes) steps = TurnsBy (Processed xid) steps
CallBy (Turning (Refused xid) bytes) steps = TurnsBy (Refused xid) steps
CallBy (Looking port frame (Hit actions) bytes) steps = LooksAndSends port frame (Hit actions) steps
CallBy (Looking port frame (Miss reason) bytes) steps = LooksAndSends port frame (Miss reason) steps
CallBy call steps = steps ≡ []

-- ---- the steps of deeds

abbrev pub acts : ℕ → List Step → List WorldStep
acts c steps = map (λ (step : Step). Acts c step) steps

-- a deed's entry is the world's; ahead of a call's note stand the steps of the switch
abbrev pub DeedBy : Deed → List WorldStep → Type 0
DeedBy (Enters entry reply) steps = steps ≡ EntersWorld entry reply ∷ []
DeedBy (Calls c call reply) steps = (own : List Step) × CallBy call own × (steps ≡ acts c own ++ EntersWorld (entries.Note (note_of c call)) reply ∷ [])

-- the events of the world are the deeds, each by its steps
abbrev pub Shows : List Event → List WorldEvent → Type 0
Shows [] ws = ws ≡ []
Shows (e ∷ es) ws =
    (own rest : List WorldEvent) × (ws ≡ own ++ rest) × DeedBy e.deed (map (λ (w : WorldEvent). w.step) own) × Shows es rest

-- ---- the devices at the end

-- the connection was opened with the device's switch behind it, as it was ahead of the deeds
pub record BeganWith (c : ℕ) (d : Meaning) (ws : List WorldEvent) : Type 0 where
  pub before : List WorldEvent
  pub event : WorldEvent
  pub later : List WorldEvent
  pub parts : ws ≡ before ++ event ∷ later
  pub reply : Reply
  pub opens : event.step ≡ EntersWorld (entries.Open c) reply
  pub link : Link
  pub there : link_at c event.behind.links ≡ Some link
  pub switch : link.switch ≡ switch_of d

-- a device has the datapath id, the table and the pending messages of its switch in the world
pub record IsSwitchOf (d : Meaning) (l : Link) : Type 0 where
  pub dpid : d.dpid ≡ l.switch.dpid
  pub table : d.table ≡ l.switch.table
  pub pending : d.pending ≡ l.switch.pending

-- where the connection was opened
pub record HasSwitch (c : ℕ) (before after : Slot) (ws : List WorldEvent) (w : World) : Type 0 where
  pub began : BeganWith c before.device ws
  pub link : Link
  pub there : link_at c w.links ≡ Some link
  pub is : IsSwitchOf after.device link

-- at each place is the switch of its connection; where none was opened the device is as it was
abbrev pub AreSwitches : Bench → List WorldEvent → Bench → World → Type 0
AreSwitches a ws b w =
    (c : ℕ) (s t : Slot) → slot_at c a.slots ≡ Some s → slot_at c b.slots ≡ Some t
    → ((was_opened c b.machine ≡ true) × HasSwitch c s t ws w) ⊎ ((was_opened c b.machine ≡ false) × (t.device ≡ s.device))

-- each device keeps the specification
abbrev pub AllKeep : List Meaning → Type 0
AllKeep devices = AllByRecursion (λ (d : Meaning). d.keeps ≡ true) devices

-- no device has a pending message
abbrev pub AllIdle : List Meaning → Type 0
AllIdle devices = AllByRecursion (λ (d : Meaning). d.pending ≡ []) devices
