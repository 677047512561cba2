-- The command of a line, as a reader finds it: word after word.
use Rattle.std.specs.Prelude.{ℕ, ◌+◌, ◌^◌, Bool, true, false, ◌==◌, nat_le, if◌then◌else◌, List, [], ◌∷◌, Option, Some, None}
use Rattle.std.specs.List.{slice_split}
use Rattle.maple_base.specs.declared.cells.Place.{Place}
use Rattle.maple_base.specs.Keys.{anything}
use Rattle.maple_text.specs.Numbers.{value_of}
use Rattle.script_text.specs.declared.command.Command.{Command}
use Rattle.script_text.specs.declared.command.Command.TheVariants.{Nothing, Plug, Unplug, Packet, Frame, Turn, Settle, Host, NoHost, Link, NoLink, Set, Unset, NewPolicy, Rules, Quit}
use Rattle.script_text.specs.declared.verb.Verb.{Verb}
use Rattle.script_text.specs.declared.verb.Verb.TheVariants.{Plug as plug, Unplug as unplug, Packet as packet, Frame as frame, Turn as turn, Settle as settle, Host as host, NoHost as nohost, Link as link, NoLink as nolink, Set as set_, Unset as unset, NewPolicy as newpolicy, Rules as rules_, Quit as quit}
use Rattle.script_text.specs.Hexadecimal.{are_pairs, paired_bytes}
use Rattle.script_text.specs.FieldReading.{named_by, packet_of}
use Rattle.script_text.specs.PacketFields.{key_by}
use Rattle.script_text.specs.Verbs.{verb_of}
use Rattle.script_text.specs.Words.{◌>>=◌, is_empty, just_one, just_two, just_three, just_four, number_below, name_of}

-- the most turns that a line asks for
abbrev pub most_turns : ℕ
most_turns = 100000

-- a port, and an Ethernet address
abbrev pub port_of : List ℕ → Option ℕ
port_of = number_below (2 ^ 16)

abbrev pub address_of : List ℕ → Option ℕ
address_of = number_below (2 ^ 48)

-- 1 to so many turns
abbrev pub turns_of : List ℕ → Option ℕ
turns_of word = do
  n ← number_below (most_turns + 1) word
  if nat_le 1 n then Some n else None

-- a switch and a port of it
abbrev pub place_of : List ℕ → List ℕ → Option Place
place_of switch port = do
  s ← value_of switch
  p ← port_of port
  Some (record { switch = s; port = p })

abbrev pub alone : List (List ℕ) → Command → Option Command
alone ws c = if is_empty ws then Some c else None

-- a device, a port, and the fields of a packet
abbrev pub packet_command : List (List ℕ) → Option Command
packet_command (c ∷ p ∷ ws) = do
  device ← value_of c
  port ← port_of p
  fields ← named_by ws anything
  key ← packet_of (key_by port fields)
  Some (Packet device key)
packet_command ws = None

-- a device, a port, and the bytes of a frame in pairs of digits
abbrev pub frame_words : List (List ℕ) → Option (ℕ × ℕ × List ℕ)
frame_words ws = do
  w ← just_three ws
  device ← value_of w.0
  port ← port_of w.1
  if are_pairs w.2 then Some (device, port, w.2) else None

-- the command of a verb and the words behind it
abbrev pub command_of : Verb → List (List ℕ) → Option Command
command_of plug ws = do
  w ← just_one ws
  device ← value_of w
  Some (Plug device)
command_of unplug ws = do
  w ← just_one ws
  device ← value_of w
  Some (Unplug device)
command_of packet ws = packet_command ws
command_of frame ws = do
  w ← frame_words ws
  Some (Frame w.0 w.1 (paired_bytes w.2))
command_of turn ws = do
  w ← just_two ws
  device ← value_of w.0
  turns ← turns_of w.1
  Some (Turn device turns)
command_of settle ws = alone ws Settle
command_of host ws = do
  w ← just_three ws
  address ← address_of w.0
  place ← place_of w.1 w.2
  Some (Host address place)
command_of nohost ws = do
  w ← just_one ws
  address ← address_of w
  Some (NoHost address)
command_of link ws = do
  w ← just_four ws
  from ← place_of w.0 w.1
  to ← place_of w.2 w.3
  Some (Link from to)
command_of nolink ws = do
  w ← just_two ws
  from ← place_of w.0 w.1
  Some (NoLink from)
command_of set_ ws = do
  w ← just_three ws
  name ← name_of w.0
  key ← value_of w.1
  value ← value_of w.2
  Some (Set name key value)
command_of unset ws = do
  w ← just_two ws
  name ← name_of w.0
  key ← value_of w.1
  Some (Unset name key)
command_of newpolicy ws = alone ws NewPolicy
command_of rules_ ws = do
  w ← just_one ws
  switch ← value_of w
  Some (Rules switch)
command_of quit ws = alone ws Quit

-- a line that says nothing: an empty one, or a comment
abbrev pub is_silent : List ℕ → Bool
is_silent [] = true
is_silent (b ∷ bs) = b == 35

abbrev pub words_command : List (List ℕ) → Option Command
words_command [] = None
words_command (w ∷ ws) = do
  verb ← verb_of w
  command_of verb ws

-- the command of a line, whose words are parted by single spaces
abbrev pub line_command : List ℕ → Option Command
line_command line = if is_silent line then Some Nothing else words_command (slice_split (λ b. b == 32) line)

-- a command that holds bytes
abbrev pub holds_bytes : Option Command → Bool
holds_bytes (Some (Frame device port bytes)) = true
holds_bytes c = false
