-- The machine and the devices, each at its place, with what is on its way between the two.
use Rattle.std.specs.Prelude.{◌≡◌, ℕ, zero, suc, ◌+◌, Bool, true, map, List, [], ◌∷◌, ◌++◌, length, Option, Some, None, is_some}
use Rattle.std.specs.List.{slice_get}
use Rattle.maple_base.specs.declared.decision.Settings.{Settings}
use Rattle.policy_lang.specs.declared.Policy.{Policy}
use Rattle.of10_codec.specs.declared.message.Message.{Message}
use Rattle.of10_stream.specs.Steps.{Stream, beginning}
use Rattle.device_port.specs.Devices.{Meaning}
use Rattle.machine_steps.specs.Histories.{Turn}
use Rattle.machine_steps.specs.Machine.{State, opening, session_at}

pub record Slot : Type 0 where
  -- the device
  pub device : Meaning
  -- the messages that were taken out for it and weren't offered to it yet
  pub to : List Message
  -- what it appended, behind the messages that were heard
  pub from : Stream

pub record Bench : Type 0 where
  -- the machine's turns so far, and the machine behind them
  pub past : List Turn
  pub machine : State
  -- of each place, in their order from place 1 on
  pub slots : List Slot

-- a device ahead of its first call here
abbrev pub slot_of : Meaning → Slot
slot_of d = record { device = d; to = []; from = beginning }

-- the machine ahead of its first entry, and these devices
abbrev pub opening_bench : Policy → Settings → List Meaning → Bench
opening_bench policy settings devices = record { past = []; machine = opening policy settings; slots = map slot_of devices }

-- ---- places

abbrev pub slot_at : ℕ → List Slot → Option Slot
slot_at zero slots = None
slot_at (suc at) slots = slice_get slots at

-- there is a device at this place
abbrev pub is_place : ℕ → Bench → Bool
is_place c b = is_some (slot_at c b.slots)

-- the session of its connection, which has the number of the place, is open
abbrev pub is_plugged : ℕ → State → Bool
is_plugged c m = is_some (session_at c m)

-- the slot at a place goes from one to the other so, and the others stay
pub record MovesAt (c : ℕ) (Moves : Slot → Slot → Type 0) (slots moved : List Slot) : Type 0 where
  pub ahead : List Slot
  pub old : Slot
  pub behind : List Slot
  pub new : Slot
  pub place : c ≡ length ahead + 1
  pub before : slots ≡ ahead ++ old ∷ behind
  pub after : moved ≡ ahead ++ new ∷ behind
  pub moves : Moves old new

-- a plugged place, with its slot
pub record IsPluggedAt (c : ℕ) (b : Bench) (s : Slot) : Type 0 where
  pub plugged : is_plugged c b.machine ≡ true
  pub there : slot_at c b.slots ≡ Some s

-- ---- who drives

-- nobody works beside who drives
abbrev pub IsSolo : State → Type 0
IsSolo m = m.settings.workers ≡ 0
