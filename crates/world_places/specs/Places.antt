-- The place of a connection: the messages on their way to its switch, and the switch.
use Rattle.std.specs.Prelude.{◌≡◌, ◌<◌, ℕ, Bool, ◌==◌, not, map, List, [], ◌∷◌, length, vec_len, vec_capacity}
use Rattle.std.specs.List.{flat_map}
use Rattle.of10_codec.specs.declared.message.Message.{Message}
use Rattle.device_port.specs.Switches.{Switch}
use Rattle.world_places.specs.declared.place.Place.{Place}
use Rattle.world_places.specs.Said.{message_sent}

-- a block has a message
abbrev pub has_more : List Message → Bool
has_more ms = not (length ms == 0)

-- the messages of blocks, one block behind the other
abbrev pub joined : List (List Message) → List Message
joined blocks = flat_map (λ (ms : List Message). ms) blocks

-- the messages on their way to the switch
abbrev pub to_of : Place → List Message
to_of p = joined p.blocks.items

abbrev pub switch_of : Place → Switch
switch_of p = record { dpid = p.dpid; table = p.table.rules; pending = p.pending.items; sent = map message_sent p.sent.items }

-- a switch as its connection is opened
abbrev pub opened_switch : ℕ → Switch
opened_switch c = record { dpid = c; table = []; pending = []; sent = [] }

-- how many rules a switch here has room for: as many as a table may have
abbrev pub most_rules : ℕ
most_rules = 4294967295

-- nothing that is seen of a place changes
pub record Keeps (old new : Place) : Type 0 where
  pub connection : new.connection ≡ old.connection
  pub to : to_of new ≡ to_of old
  pub switch : switch_of new ≡ switch_of old

abbrev pub is_of : ℕ → Place → Bool
is_of c p = p.connection == c

-- there is room for one more block
abbrev pub HasRoom : Place → Type 0
HasRoom p = vec_len p.blocks < vec_capacity p.blocks

-- the messages begin with this one
abbrev pub BeginsWith : Message → List Message → Type 0
BeginsWith m ms = (later : List Message) × (ms ≡ m ∷ later)
