-- What a turn of the machine does to one session: a message is heard, others are put into the outbox, it is led to other rules, its outbox is taken out, it ends.
use Rattle.std.specs.Prelude.{◌≡◌, ◌⊎◌, ℕ, ◌<◌, ◌==◌, Bool, true, false, List, [], ◌++◌, Some, None}
use Rattle.std.specs.List.{AllByRecursion}
use Rattle.maple_base.specs.declared.cells.Port.{Port}
use Rattle.maple_base.specs.RuleLists.{Rules}
use Rattle.of10_codec.specs.declared.message.Message.{Message}
use Rattle.of10_codec.specs.declared.message.Body.{Body}
use Rattle.of10_codec.specs.declared.message.Body.TheVariants.{Error, FeaturesReply, BarrierReply}
use Rattle.device_port.specs.Switches.{is_barrier, is_flow_mod}
use Rattle.switch_session.specs.declared.told.Phase.TheVariants.{First, Second}
use Rattle.switch_session.specs.Parts.{features_request, last_start}
use Rattle.switch_session.specs.Sessions.{put, breaks_off}
use Rattle.switch_session.specs.Calls.{Accepts, IsOfChange, RepliesTo, acknowledged_now, is_awaited, of_batch}
use Rattle.switch_traces.specs.Lists.{AreRulesOf}
use Rattle.machine_steps.specs.declared.entry.Entry.{Entry}
use Rattle.machine_steps.specs.declared.entry.Entry.TheVariants as entries
use Rattle.machine_steps.specs.declared.entry.Input.TheVariants.{Message as Whole}
use Rattle.machine_steps.specs.declared.reply.Reply.{Reply}
use Rattle.machine_steps.specs.declared.reply.Reply.TheVariants.{NoMemory}
use Rattle.machine_steps.specs.Machine.{Session, State, is_live, session_at, traces_of}
use Rattle.machine_steps.specs.Steps.{HeadsFor, switch_of}

-- ---- one thing after the other

-- a message that changes no table and is no barrier
pub record IsOther (m : Message) : Type 0 where
  pub no_change : is_flow_mod m.body ≡ false
  pub no_barrier : is_barrier m.body ≡ false

-- such messages are put into the outbox, or none
pub record Puts (s t : Session) : Type 0 where
  pub messages : List Message
  pub others : AllByRecursion IsOther messages
  pub now_is : t ≡ record s { outbox = s.outbox ++ messages }

-- a message that moves no update: a BARRIER_REPLY that isn't awaited, an ERROR that is of no batch or comes when the session is quiet already, any other
abbrev pub IsIdleBody : ℕ → Body → Session → Type 0
IsIdleBody xid BarrierReply s = is_awaited xid s.under_way ≡ false
IsIdleBody xid (Error kind code bytes) s = (of_batch xid s ≡ false) ⊎ (IsOfChange xid s × (s.quiet ≡ true))
IsIdleBody xid body s = Unit {0}

abbrev pub IsIdle : Message → Session → Type 0
IsIdle x s = IsIdleBody x.xid x.body s

-- the switch answered the greeting: it is asked for its features
pub record Greets (x : Message) (s t : Session) : Type 0 where
  pub early : s.phase ≡ First
  pub now_is : t ≡ record (put features_request s) { phase = Second }

-- a session that has heard its switch's number
abbrev pub named : ℕ → Session → Session
named dpid s = record s { dpid = Some dpid }

-- the switch told its number: the session is accepted with the rules of its traces
pub record IsAccepted (x : Message) (new : State) (s t : Session) : Type 0 where
  pub dpid : ℕ
  pub ports : List Port
  pub told : x.body ≡ FeaturesReply dpid ports
  pub second : s.phase ≡ Second
  pub rules : Rules
  pub are_rules : AreRulesOf (traces_of dpid new) rules
  pub accepts : Accepts (named dpid s) rules t

-- the reply to the barrier that is under way
pub record IsAcknowledged (x : Message) (s t : Session) : Type 0 where
  pub reply : x.body ≡ BarrierReply
  pub awaited : RepliesTo x.xid s
  pub numbers : s.used < last_start
  pub now_is : t ≡ acknowledged_now s

-- the first ERROR of a batch
pub record IsBrokenOff (x : Message) (s t : Session) : Type 0 where
  pub kind : ℕ
  pub code : ℕ
  pub bytes : List ℕ
  pub error : x.body ≡ Error kind code bytes
  pub of_change : IsOfChange x.xid s
  pub noisy : s.quiet ≡ false
  pub now_is : t ≡ breaks_off s

-- a live session that isn't quiet is aimed at the rules of its switch's traces, which it doesn't head for yet
pub record IsLed (new : State) (s t : Session) : Type 0 where
  pub live : is_live s ≡ true
  pub noisy : s.quiet ≡ false
  pub heads : HeadsFor (traces_of (switch_of s) new) s t

abbrev pub MayBeLed : State → Session → Session → Type 0
MayBeLed new s t = (t ≡ s) ⊎ IsLed new s t

-- ---- a turn

-- two things at most, in this order
pub record PutsAndIsLed (new : State) (s t : Session) : Type 0 where
  pub between : Session
  pub puts : Puts s between
  pub led : MayBeLed new between t

-- a session hears a message, and stays open: one that moves no update may lead it to other rules, since a packet teaches where a host is, and a port comes or goes;
-- any other does its own thing alone
abbrev pub HearsOne : Message → State → Session → Session → Type 0
HearsOne x new s t =
    (IsIdle x s × PutsAndIsLed new s t) ⊎ (Greets x s t ⊎ (IsAccepted x new s t ⊎ (IsAcknowledged x s t ⊎ IsBrokenOff x s t)))

-- by whether the message is this session's
abbrev pub HearsBy : Bool → Message → State → Session → Session → Type 0
HearsBy true x new s t = HearsOne x new s t
HearsBy false x new s t = MayBeLed new s t

abbrev pub TakesBy : Bool → Session → Session → Type 0
TakesBy true s t = t ≡ record s { outbox = []; taken = s.used }
TakesBy false s t = t ≡ s

-- what an entry does to the session of a connection that stays open
abbrev pub MovesBy : ℕ → Entry → State → Session → Session → Type 0
MovesBy c (entries.Heard d (Whole x)) new s t = HearsBy (d == c) x new s t
MovesBy c (entries.TakeOut d) new s t = TakesBy (d == c) s t
MovesBy c entry new s t = PutsAndIsLed new s t

pub record StaysOpen (c : ℕ) (entry : Entry) (new : State) (s : Session) : Type 0 where
  pub behind : Session
  pub there : session_at c new ≡ Some behind
  pub moves : MovesBy c entry new s behind

-- memory ran out, the session ends, or it stays open
abbrev pub Fares : ℕ → State → Entry → Reply → State → Session → Type 0
Fares c old entry reply new s = ((reply ≡ NoMemory) × (new ≡ old)) ⊎ ((session_at c new ≡ None) ⊎ StaysOpen c entry new s)
