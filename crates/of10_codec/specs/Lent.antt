-- The message that a message with lent bytes shows.
use Rattle.std.specs.Prelude.{◌≡◌, ℕ, zero, suc, ◌/◌, List, [], ◌∷◌, length, drop, Result, Ok, Err}
use Rattle.maple_base.specs.declared.cells.Port.{Port}
use Rattle.maple_base.specs.NetworkOrder.{number_at}
use Rattle.of10_codec.specs.declared.message.Message.{Message}
use Rattle.of10_codec.specs.declared.message.Body.{Body}
use Rattle.of10_codec.specs.declared.message.Body.TheVariants as owned
use Rattle.of10_codec.specs.declared.lent.MessageRef.{MessageRef}
use Rattle.of10_codec.specs.declared.lent.BodyRef.{BodyRef}
use Rattle.of10_codec.specs.declared.lent.BodyRef.TheVariants as lent
use Rattle.of10_codec.specs.declared.fault.Bad.{Bad}
use Rattle.of10_codec.specs.declared.fault.DecodeError.{DecodeError}
use Rattle.of10_codec.specs.declared.fault.DecodeError.TheVariants as errors
use Rattle.of10_codec.specs.Messages.{is_up}

-- so many ports of 48 bytes each
abbrev pub ports_in : ℕ → List ℕ → List Port
ports_in zero b = []
ports_in (suc n) b = record { number = number_at 0 2 b; up = is_up b } ∷ ports_in n (drop 48 b)

abbrev pub all_ports : List ℕ → List Port
all_ports b = ports_in (length b / 48) b

abbrev pub body_of : BodyRef → Body
body_of (lent.Hello version) = owned.Hello version
body_of (lent.Error kind code bytes) = owned.Error kind code bytes.now
body_of (lent.EchoRequest bytes) = owned.EchoRequest bytes.now
body_of (lent.EchoReply bytes) = owned.EchoReply bytes.now
body_of lent.FeaturesRequest = owned.FeaturesRequest
body_of (lent.FeaturesReply dpid ports) = owned.FeaturesReply dpid (all_ports ports.now)
body_of (lent.SetConfig miss_send_len) = owned.SetConfig miss_send_len
body_of (lent.PacketIn buffer total in_port reason bytes) = owned.PacketIn buffer total in_port reason bytes.now
body_of (lent.FlowRemoved of cookie priority reason idle) = owned.FlowRemoved of cookie priority reason idle
body_of (lent.PortStatus reason port) = owned.PortStatus reason port
body_of (lent.PacketOut buffer in_port actions bytes) = owned.PacketOut buffer in_port actions bytes.now
body_of (lent.FlowMod of cookie command idle hard priority buffer out_port flags actions) = owned.FlowMod of cookie command idle hard priority buffer out_port flags actions
body_of lent.BarrierRequest = owned.BarrierRequest
body_of lent.BarrierReply = owned.BarrierReply
body_of (lent.Other kind) = owned.Other kind

abbrev pub message_of : MessageRef → Message
message_of r = record { xid = r.xid; body = body_of r.body }

-- this message was read, unless memory ran out
abbrev pub Gives : Result Message DecodeError → Message → Type 0
Gives (Ok m) message = m ≡ message
Gives (Err e) message = e ≡ errors.NoMemory

-- a message was lent that shows this one
abbrev pub GivesLent : Result MessageRef Bad → Message → Type 0
GivesLent (Ok r) message = message_of r ≡ message
GivesLent (Err bad) message = ⊥
