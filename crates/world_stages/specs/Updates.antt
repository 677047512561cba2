-- How a live session goes from one part of an update to the next, from one update to the next, and to the clearing behind an error.
use Rattle.std.specs.Prelude.{◌≡◌, ◌⊎◌, ℕ, ◌∷◌, List, true, false, Option, Some, None, IfSome}
use Rattle.std.specs.List.Sorted.{IsPermutation}
use Rattle.maple_base.specs.RuleLists.{Rules}
use Rattle.of10_codec.specs.declared.message.Message.{Message}
use Rattle.of10_codec.specs.declared.message.Body.TheVariants.{BarrierReply}
use Rattle.update_plan.specs.Batches.{rules_of, no_rules, IsTarget}
use Rattle.switch_session.specs.declared.part.UnderWay.{UnderWay}
use Rattle.switch_session.specs.Parts.{Update}
use Rattle.switch_session.specs.Sessions.{starts, acknowledged, accepted, aimed, breaks_off, heading}
use Rattle.switch_session.specs.Calls.{IsUpdate, of_clearing}
use Rattle.device_port.specs.Switches.{message}
use Rattle.machine_steps.specs.Machine.{Session, is_live}
use Rattle.world_steps.specs.Worlds.{Link}
use Rattle.world_stages.specs.Flights.{back_of, is_signal, AreNumbered, IsClear}
use Rattle.world_stages.specs.FlightLaws.{heard}
use Rattle.world_stages.specs.Stages.{AreLasting, IsAtRest, IsFirstClearing, IsInPart, IsPlanned, IsWiping}

-- rules to which a session may be led, none of which goes by itself
pub record IsSteady (capacity : ℕ) (X : Rules) : Type 0 where
  pub target : IsTarget capacity X
  pub lasting : AreLasting (rules_of X)

-- a part is under way, in one of the stages
abbrev pub IsUnderWay : UnderWay → Session → Link → Type 0
IsUnderWay part s l = IsFirstClearing part s l ⊎ (IsInPart part s l ⊎ IsWiping part s l)

-- what is known of a live session while a part is under way
pub record IsRunning (part : UnderWay) (s : Session) (l : Link) : Type 0 where
  pub live : is_live s ≡ true
  pub part_is : s.under_way ≡ Some part
  pub stage : IsUnderWay part s l
  pub numbered : AreNumbered s l
  pub from : IsSteady s.capacity part.lists.from
  pub to : IsSteady s.capacity part.lists.to
  pub next : IfSome s.next (IsPlanned s)
  pub next_list : IfSome s.next (λ (u : Update). IsSteady s.capacity u.rules)
  pub hushed : s.quiet ≡ true → s.next ≡ None

-- an update has started, from these rules to those: a part of it is under way, or it had none
abbrev pub HasStartedBy : Option UnderWay → Rules → Rules → Session → Link → Type 0
HasStartedBy None from to t l = IsAtRest t l
HasStartedBy (Some part) from to t l = (part.lists ≡ record { from = from; to = to }) × IsInPart part t l

pub record HasStarted (from to : Rules) (t : Session) (l : Link) : Type 0 where
  pub stage : HasStartedBy t.under_way from to t l
  pub numbered : AreNumbered t l
  pub target : t.target ≡ to
  pub next : t.next ≡ None

-- the first law: where nothing is under way, and the table is the target's rules, an update starts
pub record CanStart (s : Session) (l : Link) (u : Update) : Type 0 where
  pub ready : s.ready ≡ true
  pub noisy : s.quiet ≡ false
  pub clear : IsClear s l
  pub numbered : AreNumbered s l
  pub table : IsPermutation (rules_of s.target) l.switch.table
  pub planned : IsPlanned s u
  pub from : IsSteady s.capacity s.target
  pub to : IsSteady s.capacity u.rules

abbrev pub UpdatesStart : Type 0
UpdatesStart = (s : Session) (l : Link) (u : Update) → CanStart s l u → HasStarted s.target u.rules (starts u s) l

-- the second: behind the reply to a part's barrier a further part of the update is under way, or the clearing behind an error
pub record GoesToPart (part : UnderWay) (s t : Session) (l : Link) : Type 0 where
  pub next_part : UnderWay
  pub under : t.under_way ≡ Some next_part
  pub lists : next_part.lists ≡ part.lists
  pub stage : IsInPart next_part t l ⊎ IsWiping next_part t l
  pub numbered : AreNumbered t l
  pub target : t.target ≡ s.target
  pub next : t.next ≡ s.next

-- or the update that waits starts
pub record GoesToNext (s t : Session) (l : Link) : Type 0 where
  pub update : Update
  pub waited : s.next ≡ Some update
  pub started : HasStarted s.target update.rules t l

-- or nothing is under way
pub record ComesToRest (s t : Session) (l : Link) : Type 0 where
  pub none_waits : s.next ≡ None
  pub under : t.under_way ≡ None
  pub stage : IsAtRest t l
  pub numbered : AreNumbered t l
  pub target : t.target ≡ s.target
  pub next : t.next ≡ None

abbrev pub GoesOnward : UnderWay → Session → Session → Link → Type 0
GoesOnward part s t l = GoesToPart part s t l ⊎ (GoesToNext s t l ⊎ ComesToRest s t l)

abbrev pub RepliesLeadOn : Type 0
RepliesLeadOn =
    (part : UnderWay) (s : Session) (l : Link) (later : List Message) → IsRunning part s l → back_of l ≡ message part.barrier BarrierReply ∷ later
    → GoesOnward part s (acknowledged part.lists s) (heard l)

-- a signal that is heard while a part is under way is the reply to its barrier, or an ERROR of one of its changes
abbrev pub IsReplyTo : UnderWay → Message → Type 0
IsReplyTo part m = m ≡ message part.barrier BarrierReply

-- the third: an ERROR of a clearing is known as such; behind one of a batch the session is quiet, and the batch goes on
pub record IsErrorHeard (part : UnderWay) (s : Session) (l : Link) (m : Message) : Type 0 where
  pub no_reply : m.body ≡ BarrierReply → ⊥
  pub clearing : part.clears ≡ true → of_clearing m.xid s ≡ true
  pub batch : part.clears ≡ false → s.quiet ≡ false → IsUnderWay part (breaks_off s) (heard l)
  pub again : part.clears ≡ false → s.quiet ≡ true → IsUnderWay part s (heard l)

abbrev pub SignalsAreKnown : Type 0
SignalsAreKnown =
    (part : UnderWay) (s : Session) (l : Link) (m : Message) (later : List Message) → IsRunning part s l → back_of l ≡ m ∷ later → is_signal m ≡ true
    → IsReplyTo part m ⊎ IsErrorHeard part s l m

-- the fourth: a session that isn't quiet is aimed at other rules: at rest the update starts, unless it leads nowhere, and behind a part it waits
pub record CanAim (s : Session) (l : Link) (X : Rules) (u : Update) : Type 0 where
  pub live : is_live s ≡ true
  pub noisy : s.quiet ≡ false
  pub update : IsUpdate s X u
  pub to : IsSteady s.capacity X
  pub heads : IsSteady s.capacity (heading s)

abbrev pub unprepared : Session → Session
unprepared s = record s { prepared = None }

-- at rest
abbrev pub AimsAtRest : Session → Link → Rules → Session → Type 0
AimsAtRest s l X t = (t ≡ unprepared s) ⊎ HasStarted s.target X t l

-- behind a part: nothing changes, or the update waits
pub record Waits (part : UnderWay) (s : Session) (l : Link) (u : Update) (t : Session) : Type 0 where
  pub now_is : t ≡ record s { prepared = None; next = Some u }
  pub planned : IsPlanned t u
  pub stage : IsUnderWay part t l
  pub numbered : AreNumbered t l

abbrev pub AimsBehind : UnderWay → Session → Link → Update → Session → Type 0
AimsBehind part s l u t = (t ≡ unprepared s) ⊎ Waits part s l u t

pub record AimsLead (s : Session) (l : Link) (X : Rules) (u : Update) : Type 0 where
  pub at_rest : s.under_way ≡ None → IsAtRest s l → AreNumbered s l → AimsAtRest s l X (aimed u s)
  pub behind : (part : UnderWay) → IsRunning part s l → AimsBehind part s l u (aimed u s)

abbrev pub AimsAreKept : Type 0
AimsAreKept = (s : Session) (l : Link) (X : Rules) (u : Update) → CanAim s l X u → AimsLead s l X u

-- the fifth: a session that is accepted is in its first clearing
pub record CanBeAccepted (s : Session) (l : Link) : Type 0 where
  pub ready : s.ready ≡ false
  pub quiet : s.quiet ≡ false
  pub target : s.target ≡ no_rules
  pub clear : IsClear s l
  pub numbered : AreNumbered s l

pub record HasAccepted (s : Session) (u : Update) (l : Link) : Type 0 where
  pub part : UnderWay
  pub under : (accepted u s).under_way ≡ Some part
  pub lists : part.lists ≡ record { from = no_rules; to = no_rules }
  pub stage : IsFirstClearing part (accepted u s) l
  pub numbered : AreNumbered (accepted u s) l
  pub next : IfSome (accepted u s).next (IsPlanned (accepted u s))

abbrev pub AcceptedAreCleared : Type 0
AcceptedAreCleared = (s : Session) (l : Link) (X : Rules) (u : Update) → CanBeAccepted s l → IsUpdate s X u → HasAccepted s u l
