-- What the machine sends can be offered to a switch.
use Rattle.std.specs.Prelude.{List}
use Rattle.std.specs.List.{AllByRecursion}
use Rattle.maple_base.specs.declared.decision.Settings.{Settings}
use Rattle.policy_lang.specs.declared.Policy.{Policy}
use Rattle.of10_codec.specs.declared.message.Message.{Message}
use Rattle.of10_codec.specs.Written.{written}
use Rattle.device_port.specs.Devices.{IsOffer}
use Rattle.machine_steps.specs.Histories.{Turn, Leads}
use Rattle.machine_steps.specs.Machine.{Session, State, opening}
use Rattle.machine_steps.specs.Sound.{AreInRange}

-- the message is one that a controller sends, and the bytes that it is written as spell it
abbrev pub CanBeOffered : Message → Type 0
CanBeOffered m = IsOffer m (written m)

-- each message of each outbox is
abbrev pub OutboxesCanBeOffered : State → Type 0
OutboxesCanBeOffered m = AllByRecursion (λ (s : Session). AllByRecursion CanBeOffered s.outbox) m.sessions

-- in every legal history
abbrev pub SendsLaw : Type 0
SendsLaw =
    (policy : Policy) (settings : Settings) (ts : List Turn) (m : State) → AreInRange settings → Leads (opening policy settings) ts m → OutboxesCanBeOffered m
