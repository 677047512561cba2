-- What the frame of a packet line means at a switch.
use Rattle.std.specs.Prelude.{◌≡◌, true, Ok}
use Rattle.maple_base.specs.declared.key.Key.{Key}
use Rattle.packet_key.specs.Frames.{key_of}
use Rattle.script_text.specs.Frames.{frame}
use Rattle.script_text.specs.PacketFields.{is_packet}

-- the key of the frame of a packet is the packet's key
abbrev pub KeyOfFrame : Type 0
KeyOfFrame = (k : Key) → is_packet k ≡ true → key_of k.in_port (frame k) ≡ Ok k
