-- What the switches here do of what the specification lets them do.
use Rattle.std.specs.Prelude.{◌≡◌, ◌⊎◌, ℕ, Bool, false, not, ◌||◌, List, [], ◌∷◌, Option, Some, None, is_some, option_map}
use Rattle.maple_base.specs.declared.decision.Rule.{Rule}
use Rattle.maple_base.specs.declared.decision.TableMod.{TableMod}
use Rattle.maple_base.specs.declared.decision.TableMod.TheVariants.{Add}
use Rattle.maple_base.specs.declared.device.Seen.{Seen}
use Rattle.maple_base.specs.declared.device.Seen.TheVariants.{Hit, Miss}
use Rattle.maple_base.specs.Ports.{controller_port}
use Rattle.of10_codec.specs.declared.message.Message.{Message}
use Rattle.of10_codec.specs.declared.message.Body.TheVariants.{Error}
use Rattle.flow_table.specs.Effects.{has_at}
use Rattle.device_port.specs.Switches.{Switch, change_of, message}
use Rattle.device_port.specs.Devices.{by_rule, no_rule}
use Rattle.model_switch.specs.Answers.{reply_of}

abbrev pub messages_of : Option Message → List Message
messages_of None = []
messages_of (Some m) = m ∷ []

-- the ports of each switch, all up
abbrev pub port_count : ℕ
port_count = 48

-- a HELLO is answered by a HELLO, a request for the features by them, an echo by its reply
abbrev pub answers_to : Message → Switch → List Message
answers_to m s = messages_of (option_map (message m.xid) (reply_of s.dpid port_count m.body))

-- the change adds a rule, and no rule of the table has its match and priority
abbrev pub adds_new : Option TableMod → List Rule → Bool
adds_new (Some (Add r)) table = not (has_at r.of r.priority table)
adds_new change table = false

-- to process the message takes memory: it is answered, or it adds such a rule
abbrev pub takes_memory : Message → Switch → Bool
takes_memory m s = is_some (reply_of s.dpid port_count m.body) || adds_new (change_of m.body) s.table

-- a change is refused for want of room (OpenFlow Switch Specification 1.0.0, 5.4.4: OFPET_FLOW_MOD_FAILED, OFPFMFC_ALL_TABLES_FULL)
abbrev pub refusal_to : Message → Switch → List Message
refusal_to m s = message m.xid (Error 3 0 []) ∷ []

-- what a look-up tells: a rule whose one action sends to the controller is a miss
abbrev pub Tells : Option Rule → Seen → Type 0
Tells None seen = seen ≡ Miss no_rule
Tells (Some r) seen =
    ((r.actions ≡ controller_port ∷ []) × (seen ≡ Miss by_rule)) ⊎ ((r.actions ≡ controller_port ∷ [] → ⊥) × (seen ≡ Hit r.actions))
