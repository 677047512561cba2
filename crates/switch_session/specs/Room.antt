-- The room that an outbox keeps, and what each session keeps true.
use Rattle.std.specs.Prelude.{◌≡◌, ℕ, ◌+◌, ◌*◌, ◌^◌, ◌<◌, Bool, true, List, [], ◌∷◌, length, Option, Some, None, if◌then◌else◌}
use Rattle.std.specs.List.{list_all}
use Rattle.maple_base.specs.declared.decision.TableMod.{TableMod}
use Rattle.of10_codec.specs.Written.{fits_fields}
use Rattle.switch_session.specs.declared.part.Part.{Part}
use Rattle.switch_session.specs.Parts.{Update, changes_of, change_body}
use Rattle.switch_session.specs.declared.told.Phase.{Phase}
use Rattle.switch_session.specs.declared.told.Phase.TheVariants.{First, Second, Live, Ended}

-- as many bytes as a change has at most, with 16 actions
abbrev pub most_change : ℕ
most_change = 200

-- as many as a part has at most, with its barrier
abbrev pub part_room : Part → ℕ
part_room part = most_change * length (changes_of part) + 8

abbrev pub parts_room : List Part → ℕ
parts_room [] = 0
parts_room (part ∷ parts) = part_room part + parts_room parts

abbrev pub clearing_room : ℕ
clearing_room = most_change + 8

abbrev pub next_room : Option Update → ℕ
next_room None = 0
next_room (Some update) = parts_room update.parts

-- the room for what may leave without memory: the parts to come, the next update's, a prepared one's, and a clearing until the one behind an error
abbrev pub owed : List Part → Option Update → ℕ → Bool → ℕ
owed to_come next prepared_room quiet = parts_room to_come + next_room next + prepared_room + (if quiet then 0 else clearing_room)

-- a session that isn't live yet is to send SET_CONFIG and a clearing first
abbrev pub start_room : Phase → ℕ
start_room First = 12 + clearing_room
start_room Second = 12 + clearing_room
start_room Live = 0
start_room Ended = 0

-- the Ethernet addresses of a change's match have 48 bits
abbrev pub change_fits : TableMod → Bool
change_fits change = fits_fields (change_body change)

-- changes that can be sent as one part
pub record CanBeSent (changes : List TableMod) : Type 0 where
  pub short : length changes + 1 < 2 ^ 18
  pub fits : list_all change_fits changes ≡ true

-- above all numbers that a part takes
abbrev pub last_number : ℕ
last_number = 0xfff40000
