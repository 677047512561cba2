-- The fields that the words of a packet line name, word after word.
use Rattle.std.specs.Prelude.{ℕ, ◌^◌, ◌==◌, if◌then◌else◌, List, [], ◌∷◌, Option, Some, None, is_none}
use Rattle.std.specs.List.{slice_split}
use Rattle.maple_base.specs.declared.key.Field.{Field}
use Rattle.maple_base.specs.declared.key.Field.TheVariants.{InPort}
use Rattle.maple_base.specs.declared.key.Key.{Key}
use Rattle.maple_base.specs.declared.key.Match.{Match}
use Rattle.maple_base.specs.FieldNames.{field_named}
use Rattle.maple_base.specs.Keys.{width_of, fix, fixed_of}
use Rattle.script_text.specs.PacketFields.{is_packet}
use Rattle.script_text.specs.Words.{◌>>=◌, just_two, number_below}

-- each field but in_port, which a line has by itself
abbrev pub but_in_port : Field → Option Field
but_in_port InPort = None
but_in_port f = Some f

unfoldable pub field_called : List ℕ → Option Field
field_called name = field_named name >>= but_in_port

-- `name=number`, with the number in the field's width
unfoldable pub field_word : List ℕ → Option (Field × ℕ)
field_word word = do
  parts ← just_two (slice_split (λ b. b == 61) word)
  field ← field_called parts.0
  value ← number_below (2 ^ width_of field) parts.1
  Some (field, value)

-- a field is named once
abbrev pub naming : Match → Field × ℕ → Option Match
naming m f = if is_none (fixed_of m f.0) then Some (fix f.0 f.1 m) else None

-- the named fields, with that of a word
unfoldable pub with_named : Match → List ℕ → Option Match
with_named m word = do
  f ← field_word word
  naming m f

-- the fields that these words name, behind those that were named
abbrev pub named_by : List (List ℕ) → Match → Option Match
named_by [] m = Some m
named_by (w ∷ ws) m = do
  n ← with_named m w
  named_by ws n

abbrev pub packet_of : Key → Option Key
packet_of k = if is_packet k then Some k else None
