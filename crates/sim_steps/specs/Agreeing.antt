-- What the devices show of the deeds: their calls, and the messages that went to them and came from them.
use Rattle.std.specs.Prelude.{◌≡◌, ℕ, ◌+◌, ◌==◌, if◌then◌else◌, map, List, [], ◌∷◌, ◌++◌, length, Option, Some, None}
use Rattle.std.specs.List.{flat_map}
use Rattle.of10_codec.specs.declared.message.Message.{Message}
use Rattle.of10_codec.specs.Messages.{Spelled}
use Rattle.of10_codec.specs.Written.{written}
use Rattle.of10_stream.specs.Cut.{IsBad}
use Rattle.device_port.specs.declared.device.Took.TheVariants.{Taken}
use Rattle.device_port.specs.Devices.{Call}
use Rattle.device_port.specs.Devices.Call.{Offered, Turning, Looking}
use Rattle.machine_steps.specs.declared.entry.Entry.TheVariants as entries
use Rattle.machine_steps.specs.declared.entry.Input.{Input}
use Rattle.machine_steps.specs.declared.entry.Input.TheVariants.{Message as Whole, Bad}
use Rattle.machine_steps.specs.declared.reply.Reply.TheVariants.{Lines}
use Rattle.machine_steps.specs.Machine.{State}
use Rattle.world_steps.specs.Worlds.{lacks_memory, messages_for}
use Rattle.sim_steps.specs.Benches.{Slot, Bench, slot_at}
use Rattle.sim_steps.specs.Deeds.{Deed, Event}
use Rattle.sim_steps.specs.Deeds.Deed.{Enters, Calls}

-- the calls of the device at a place
abbrev pub call_in : ℕ → Deed → List Call
call_in c (Calls d call reply) = if d == c then call ∷ [] else []
call_in c deed = []

abbrev pub calls_of : ℕ → List Event → List Call
calls_of c es = flat_map (λ (e : Event). call_in c e.deed) es

-- where a device tells its calls, with these behind them
abbrev pub logged : List Call → Option (List Call) → Option (List Call)
logged calls None = None
logged calls (Some log) = Some (log ++ calls)

-- ---- what went to a device

-- the messages that it took in
abbrev pub taken_by : Call → List (List ℕ)
taken_by (Offered bytes Taken) = bytes ∷ []
taken_by call = []

-- the messages that were taken out for a place
abbrev pub sent_in : ℕ → State → Deed → List Message
sent_in c m (Enters (entries.TakeOut d) reply) = if d == c then (if lacks_memory reply then [] else messages_for c m) else []
sent_in c m deed = []

abbrev pub sent_of : ℕ → List Event → List Message
sent_of c es = flat_map (λ (e : Event). sent_in c e.before.machine e.deed) es

-- ---- what came from it

abbrev pub appended_by : Call → List ℕ
appended_by (Offered bytes took) = []
appended_by (Turning turned bytes) = bytes
appended_by (Looking port frame seen bytes) = bytes

abbrev pub appended_of : ℕ → List Event → List ℕ
appended_of c es = flat_map appended_by (calls_of c es)

-- what was heard of a place
abbrev pub heard_in : ℕ → Deed → List Input
heard_in c (Enters (entries.Heard d input) reply) = if d == c then (if lacks_memory reply then [] else input ∷ []) else []
heard_in c deed = []

abbrev pub heard_of : ℕ → List Event → List Input
heard_of c es = flat_map (λ (e : Event). heard_in c e.deed) es

-- bytes are cut, from a place on, into these inputs, and this rest: messages that they spell one behind the other, and at most one fault, behind which
-- nothing is heard
abbrev pub AreCut : ℕ → List Input → List ℕ → List ℕ → Type 0
AreCut place [] bytes rest = rest ≡ bytes
AreCut place (Whole x ∷ inputs) bytes rest =
    (front behind : List ℕ) × (bytes ≡ front ++ behind) × Spelled x front × AreCut (place + length front) inputs behind rest
AreCut place (Bad at bad ∷ inputs) bytes rest = (at ≡ place) × IsBad bad bytes × (inputs ≡ []) × (rest ≡ bytes)

-- ---- a place

-- a device agrees with the deeds: where it tells its calls they are just those of the deeds; it took in, each once and in their order, the messages that
-- were taken out for it, but for those that are to be offered yet; and what was heard is what its bytes are cut into, but for the rest that wasn't heard yet
pub record Agrees (c : ℕ) (es : List Event) (before after : Slot) : Type 0 where
  pub log : after.device.log ≡ logged (calls_of c es) before.device.log
  pub sent : map written (sent_of c es) ≡ flat_map taken_by (calls_of c es) ++ map written after.to
  pub heard : AreCut 0 (heard_of c es) (appended_of c es) after.from.rest

-- each place is still there, and agrees
abbrev pub AllAgree : Bench → List Event → Bench → Type 0
AllAgree a es b = (c : ℕ) (s : Slot) → slot_at c a.slots ≡ Some s → (t : Slot) × (slot_at c b.slots ≡ Some t) × Agrees c es s t

-- ---- the report

-- the lines of the report that were taken
abbrev pub taken_text : Deed → List ℕ
taken_text (Enters entries.TakeReport (Lines bytes)) = bytes
taken_text deed = []

abbrev pub taken_report : List Event → List ℕ
taken_report es = flat_map (λ (e : Event). taken_text e.deed) es
