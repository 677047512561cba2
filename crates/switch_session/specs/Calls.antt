-- What each call of a session does: its answer, the cause, and what is seen of the session then.
use Rattle.std.specs.Prelude.{◌≡◌, ◌≢◌, ◌⊎◌, ◌<◌, ◌≤◌, ℕ, ◌+◌, Bool, true, false, not, ◌&&◌, ◌||◌, ◌==◌, nat_le, List, [], ◌∷◌, Option, Some, None, Result, Ok, is_err, All}
use Rattle.std.specs.List.{flat_map}
use Rattle.maple_base.specs.declared.cells.Port.{Port}
use Rattle.maple_base.specs.declared.no_memory.NoMemory.{NoMemory}
use Rattle.maple_base.specs.Ports.{is_port}
use Rattle.maple_base.specs.RuleLists.{Rules}
use Rattle.of10_codec.specs.declared.message.Message.{Message}
use Rattle.of10_codec.specs.declared.message.Body.{Body}
use Rattle.of10_codec.specs.declared.message.Body.TheVariants as body
use Rattle.of10_codec.specs.Messages.{Spelled}
use Rattle.of10_codec.specs.Written.{written}
use Rattle.update_plan.specs.Batches.{no_rules}
use Rattle.switch_session.specs.declared.part.UnderWay.{UnderWay}
use Rattle.switch_session.specs.declared.told.Phase.{Phase}
use Rattle.switch_session.specs.declared.told.Phase.TheVariants as phases
use Rattle.switch_session.specs.declared.told.End.TheVariants.{Version, ClearRefused, Early, Xids}
use Rattle.switch_session.specs.declared.told.Heard.{Heard}
use Rattle.switch_session.specs.declared.told.Heard.TheVariants.{Passed, Features, PacketIn, Port as PortChanged, Acknowledged, Refused, Ended}
use Rattle.switch_session.specs.Parts.{Update, AreParts, leads_nowhere, last_start, hello, features_request, version_refusal, echo_reply}
use Rattle.switch_session.specs.Sessions.{State, put, ended, heading, acknowledged, accepted, breaks_off}

-- a session that was opened, on this connection, for a switch with room for so many rules
abbrev pub opened : ℕ → ℕ → State
opened connection capacity = record {
  connection = connection;
  capacity = capacity;
  phase = phases.First;
  dpid = None;
  ready = false;
  quiet = false;
  under_way = None;
  to_come = [];
  target = no_rules;
  next = None;
  prepared = None;
  used = 0;
  taken = 0;
  outbox = hello ∷ [];
}

abbrev pub Answer : Type 0
Answer = Result Heard NoMemory

-- some bytes spell the message
pub record CanBeHeard (m : Message) : Type 0 where
  pub bytes : List ℕ
  pub are_bytes : All (λ b. b < 256) bytes
  pub spelled : Spelled m bytes

-- passed over: nothing changes
abbrev pub Passes : State → Answer → State → Type 0
Passes old answer new = (answer ≡ Ok Passed) × (new ≡ old)

-- memory ran out: nothing changes
abbrev pub Lacks : State → Answer → State → Type 0
Lacks old answer new = (is_err answer ≡ true) × (new ≡ old)

-- a HELLO of version 0
abbrev pub RefusesVersion : ℕ → State → Answer → State → Type 0
RefusesVersion xid old answer new = ((answer ≡ Ok (Ended Version)) × (new ≡ ended (put (version_refusal xid) old))) ⊎ Lacks old answer new

-- a HELLO
abbrev pub HearsHello : ℕ → ℕ → State → Answer → State → Type 0
HearsHello xid version old answer new =
    ((old.phase ≡ phases.First) × (version ≡ 0) × RefusesVersion xid old answer new)
    ⊎ ((old.phase ≡ phases.First) × (0 < version) × (answer ≡ Ok Passed) × (new ≡ record (put features_request old) { phase = phases.Second }))
    ⊎ ((old.phase ≡ phases.First) × (0 < version) × Lacks old answer new)
    ⊎ ((old.phase ≢ phases.First) × Passes old answer new)

-- an ECHO_REQUEST: it is answered in every phase
abbrev pub HearsEcho : ℕ → List ℕ → State → Answer → State → Type 0
HearsEcho xid bytes old answer new =
    ((old.phase ≢ phases.Ended) × (answer ≡ Ok Passed) × (new ≡ put (echo_reply xid bytes) old))
    ⊎ ((old.phase ≢ phases.Ended) × Lacks old answer new)
    ⊎ ((old.phase ≡ phases.Ended) × Passes old answer new)

-- a FEATURES_REPLY: until the session is accepted each one is told
abbrev pub HearsFeatures : ℕ → List Port → State → Answer → State → Type 0
HearsFeatures dpid ports old answer new =
    ((old.phase ≡ phases.Second) × (answer ≡ Ok (Features dpid ports)) × (new ≡ record old { dpid = Some dpid }))
    ⊎ ((old.phase ≡ phases.Second) × Lacks old answer new)
    ⊎ ((old.phase ≢ phases.Second) × Passes old answer new)

-- a PACKET_IN
abbrev pub HearsPacket : ℕ → ℕ → List ℕ → State → Answer → State → Type 0
HearsPacket buffer in_port frame old answer new =
    ((old.phase ≡ phases.Live) × (answer ≡ Ok (PacketIn buffer in_port frame)) × (new ≡ old))
    ⊎ ((old.phase ≡ phases.Live) × Lacks old answer new)
    ⊎ ((old.phase ≢ phases.Live) × Passes old answer new)

-- a PORT_STATUS: a port that was deleted (reason 1) is down
abbrev pub HearsPort : ℕ → Port → State → Answer → State → Type 0
HearsPort reason port old answer new =
    ((old.phase ≡ phases.Live) × (is_port port.number ≡ true) × (answer ≡ Ok (PortChanged port.number (port.up && not (reason == 1)))) × (new ≡ old))
    ⊎ ((old.phase ≡ phases.Live) × (is_port port.number ≡ false) × Passes old answer new)
    ⊎ ((old.phase ≢ phases.Live) × Passes old answer new)

-- the barrier of this number is outstanding
abbrev pub is_awaited : ℕ → Option UnderWay → Bool
is_awaited xid None = false
is_awaited xid (Some part) = part.barrier == xid

abbrev pub acknowledged_by : Option UnderWay → State → State
acknowledged_by None s = s
acknowledged_by (Some part) s = acknowledged part.lists s

abbrev pub acknowledged_now : State → State
acknowledged_now s = acknowledged_by s.under_way s

-- the reply is to the outstanding barrier, which was taken out
abbrev pub RepliesTo : ℕ → State → Type 0
RepliesTo xid s = (is_awaited xid s.under_way ≡ true) × (xid ≤ s.taken)

-- a BARRIER_REPLY
abbrev pub HearsReply : ℕ → State → Answer → State → Type 0
HearsReply xid old answer new =
    ((is_awaited xid old.under_way ≡ false) × Passes old answer new)
    ⊎ ((is_awaited xid old.under_way ≡ true) × (old.taken < xid) × (answer ≡ Ok (Ended (Early xid))) × (new ≡ ended old))
    ⊎ (RepliesTo xid old × (last_start ≤ old.used) × (answer ≡ Ok (Ended Xids)) × (new ≡ ended old))
    ⊎ (RepliesTo xid old × (old.used < last_start) × (answer ≡ Ok (Acknowledged (not old.ready))) × (new ≡ acknowledged_now old))

abbrev pub is_live : Phase → Bool
is_live phases.Live = true
is_live phase = false

-- the number is that of a message of a batch which was taken out, however old
abbrev pub of_batch : ℕ → State → Bool
of_batch xid s = is_live s.phase && nat_le 1 xid && nat_le xid s.taken

-- the number is that of the DELETE or of the barrier of a clearing under way
abbrev pub of_clearing_part : ℕ → Option UnderWay → Bool
of_clearing_part xid None = false
of_clearing_part xid (Some part) = part.clears && (part.barrier == xid || part.barrier == xid + 1)

abbrev pub of_clearing : ℕ → State → Bool
of_clearing xid s = of_clearing_part xid s.under_way

-- an error of a batch that is none of a clearing under way
abbrev pub IsOfChange : ℕ → State → Type 0
IsOfChange xid s = (of_batch xid s ≡ true) × (of_clearing xid s ≡ false)

-- an ERROR
abbrev pub HearsError : ℕ → ℕ → ℕ → State → Answer → State → Type 0
HearsError xid kind code old answer new =
    ((old.phase ≡ phases.Ended) × Passes old answer new)
    ⊎ ((of_batch xid old ≡ true) × (of_clearing xid old ≡ true) × (answer ≡ Ok (Ended ClearRefused)) × (new ≡ ended old))
    ⊎ (IsOfChange xid old × (old.quiet ≡ false) × (answer ≡ Ok (Refused kind code true)) × (new ≡ breaks_off old))
    ⊎ (IsOfChange xid old × (old.quiet ≡ true) × (answer ≡ Ok (Refused kind code false)) × (new ≡ old))
    ⊎ ((old.phase ≢ phases.Ended) × (of_batch xid old ≡ false) × (answer ≡ Ok (Refused kind code false)) × (new ≡ old))

-- any message; of the other types all are passed over
abbrev pub HearsBody : ℕ → Body → State → Answer → State → Type 0
HearsBody xid (body.Hello version) old answer new = HearsHello xid version old answer new
HearsBody xid (body.Error kind code bytes) old answer new = HearsError xid kind code old answer new
HearsBody xid (body.EchoRequest bytes) old answer new = HearsEcho xid bytes old answer new
HearsBody xid (body.FeaturesReply dpid ports) old answer new = HearsFeatures dpid ports old answer new
HearsBody xid (body.PacketIn buffer total in_port reason bytes) old answer new = HearsPacket buffer in_port bytes old answer new
HearsBody xid (body.PortStatus reason port) old answer new = HearsPort reason port old answer new
HearsBody xid body.BarrierReply old answer new = HearsReply xid old answer new
HearsBody xid message old answer new = Passes old answer new

abbrev pub Hears : Message → State → Answer → State → Type 0
Hears m old answer new = HearsBody m.xid m.body old answer new

-- of a BARRIER_REPLY and of an ERROR a session takes no memory
abbrev pub takes_none : Body → Bool
takes_none (body.Error kind code bytes) = true
takes_none body.BarrierReply = true
takes_none message = false

-- an update to these rules: its parts lead from the target, and it is settled where the session heads for these rules already
pub record IsUpdate (s : State) (X : Rules) (update : Update) : Type 0 where
  pub rules : update.rules ≡ X
  pub parts : AreParts s.capacity s.target X update.parts
  pub settled : update.settled ≡ leads_nowhere s.capacity (heading s) X

-- an aim that the session keeps room for
pub record IsGood (s : State) (update : Update) : Type 0 where
  pub live : s.phase ≡ phases.Live
  pub prepared : s.prepared ≡ Some update

-- an update that a session which waits to be accepted keeps room for
pub record CanStart (s : State) (update : Update) : Type 0 where
  pub second : s.phase ≡ phases.Second
  pub prepared : s.prepared ≡ Some update

-- a session is accepted with these rules
pub record Accepts (old : State) (X : Rules) (new : State) : Type 0 where
  pub update : Update
  pub is_update : IsUpdate old X update
  pub now_is : new ≡ accepted update old

-- what is taken out: all messages, as they are written, so that their numbers are taken out
pub record TakesOut (old : State) (bytes : List ℕ) (new : State) : Type 0 where
  pub bytes_are : bytes ≡ flat_map written old.outbox
  pub now_is : new ≡ record old { outbox = []; taken = old.used }
