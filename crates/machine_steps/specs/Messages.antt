-- What a session makes of a message: what is told of it and the session from then on, as one closed sum, which follows from Hears.
use Rattle.std.specs.Prelude.{◌≡◌, ◌≢◌, ◌⊎◌, ℕ, ◌≤◌, ◌<◌, true, false, not, ◌&&◌, ◌==◌, List, Some}
use Rattle.maple_base.specs.declared.cells.Port.{Port}
use Rattle.of10_codec.specs.declared.message.Body.{Body}
use Rattle.of10_codec.specs.declared.message.Body.TheVariants as body
use Rattle.switch_session.specs.declared.told.End.TheVariants as ends
use Rattle.switch_session.specs.declared.told.Heard.{Heard}
use Rattle.switch_session.specs.declared.told.Heard.TheVariants as heard
use Rattle.switch_session.specs.declared.told.Phase.TheVariants as phases
use Rattle.switch_session.specs.Calls.{is_awaited, acknowledged_now, RepliesTo, of_batch, of_clearing, IsOfChange}
use Rattle.switch_session.specs.Parts.{last_start, version_refusal, features_request, echo_reply}
use Rattle.switch_session.specs.Sessions.{ended, put, breaks_off}
use Rattle.machine_steps.specs.Machine.{Session}

-- why a message may be passed over
abbrev pub MayPass : ℕ → Body → Session → Type 0
MayPass xid body.BarrierReply s = is_awaited xid s.under_way ≡ false
MayPass xid (body.Error kind code bytes) s = s.phase ≡ phases.Ended
MayPass xid message s = Unit {0}

-- the number and the body of a message, the session, what is told, and the session from then on
pub data Makes (xid : ℕ) (b : Body) (s : Session) : Heard → Session → Type 0 where
  PassesOver : MayPass xid b s → Makes xid b s heard.Passed s
  -- a HELLO of version 0, or of another
  RefusesVersion : {version : ℕ} → b ≡ body.Hello version → s.phase ≡ phases.First → Makes xid b s (heard.Ended ends.Version) (ended (put (version_refusal xid) s))
  Greets : {version : ℕ} → b ≡ body.Hello version → s.phase ≡ phases.First → Makes xid b s heard.Passed (record (put features_request s) { phase = phases.Second })
  -- an ECHO_REQUEST
  Echoes : {bytes : List ℕ} → b ≡ body.EchoRequest bytes → s.phase ≢ phases.Ended → Makes xid b s heard.Passed (put (echo_reply xid bytes) s)
  -- the switch's number, a packet, a port
  IsNamed : {dpid : ℕ} {ports : List Port} → b ≡ body.FeaturesReply dpid ports → s.phase ≡ phases.Second → Makes xid b s (heard.Features dpid ports) (record s { dpid = Some dpid })
  BringsPacket : {buffer total in_port reason : ℕ} {bytes : List ℕ} → b ≡ body.PacketIn buffer total in_port reason bytes → s.phase ≡ phases.Live
      → Makes xid b s (heard.PacketIn buffer in_port bytes) s
  BringsPort : {reason : ℕ} {port : Port} → b ≡ body.PortStatus reason port → s.phase ≡ phases.Live → Makes xid b s (heard.Port port.number (port.up && not (reason == 1))) s
  -- a BARRIER_REPLY ahead of its barrier, with no numbers left, or in order
  ComesEarly : b ≡ body.BarrierReply → is_awaited xid s.under_way ≡ true → s.taken < xid → Makes xid b s (heard.Ended (ends.Early xid)) (ended s)
  LacksNumbers : b ≡ body.BarrierReply → RepliesTo xid s → last_start ≤ s.used → Makes xid b s (heard.Ended ends.Xids) (ended s)
  Acknowledges : b ≡ body.BarrierReply → RepliesTo xid s → s.used < last_start → Makes xid b s (heard.Acknowledged (not s.ready)) (acknowledged_now s)
  -- an ERROR to a clearing, the first one of a batch, or any other
  RefusesClearing : {kind code : ℕ} {bytes : List ℕ} → b ≡ body.Error kind code bytes → of_batch xid s ≡ true → of_clearing xid s ≡ true
      → Makes xid b s (heard.Ended ends.ClearRefused) (ended s)
  BreaksOff : {kind code : ℕ} {bytes : List ℕ} → b ≡ body.Error kind code bytes → IsOfChange xid s → s.quiet ≡ false → Makes xid b s (heard.Refused kind code true) (breaks_off s)
  IsRefused : {kind code : ℕ} {bytes : List ℕ} → b ≡ body.Error kind code bytes → (of_batch xid s ≡ false) ⊎ (IsOfChange xid s × (s.quiet ≡ true))
      → Makes xid b s (heard.Refused kind code false) s
