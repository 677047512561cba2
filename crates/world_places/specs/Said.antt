-- What a switch here sends, as messages.
use Rattle.std.specs.Prelude.{[]}
use Rattle.of10_codec.specs.declared.message.Message.{Message}
use Rattle.of10_codec.specs.declared.message.Body.{Body}
use Rattle.of10_codec.specs.declared.message.Body.TheVariants.{Hello, Error, EchoReply, FeaturesReply, BarrierReply}
use Rattle.of10_codec.specs.Types.{protocol_version}
use Rattle.device_port.specs.Switches.{message}
use Rattle.model_switch.specs.Answers.{ports_up}
use Rattle.world_places.specs.declared.said.Said.{Said}
use Rattle.world_places.specs.declared.said.Said.TheVariants as said
use Rattle.world_places.specs.declared.said.Sent.{Sent}

-- its body
abbrev pub body_said : Said → Body
body_said said.Hello = Hello protocol_version
body_said (said.Features dpid ports) = FeaturesReply dpid (ports_up ports)
body_said (said.Echo bytes) = EchoReply bytes
body_said said.NoRoom = Error 3 0 []
body_said said.Barrier = BarrierReply

-- the whole message
abbrev pub message_sent : Sent → Message
message_sent s = message s.xid (body_said s.said)
