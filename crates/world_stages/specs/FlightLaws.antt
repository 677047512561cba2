-- What the steps of a switch, and of its session, do to the messages between them.
use Rattle.std.specs.Prelude.{◌≡◌, ◌⊎◌, ℕ, ◌+◌, Bool, true, false, List, [], ◌∷◌, ◌++◌, Contains}
use Rattle.std.specs.List.{AllByRecursion}
use Rattle.std.specs.List.Sorted.{IsPermutation}
use Rattle.maple_base.specs.declared.decision.TableMod.{TableMod}
use Rattle.of10_codec.specs.declared.message.Message.{Message}
use Rattle.of10_codec.specs.declared.message.Body.TheVariants.{BarrierReply}
use Rattle.flow_table.specs.Effects.{effect}
use Rattle.switch_session.specs.declared.part.Part.{Part}
use Rattle.switch_session.specs.Lists.{Lists}
use Rattle.switch_session.specs.Parts.{changes_of, barrier_of}
use Rattle.switch_session.specs.Sessions.{leaves}
use Rattle.device_port.specs.Switches.{Step, message}
use Rattle.machine_steps.specs.Machine.{Session}
use Rattle.world_steps.specs.Worlds.{Link, LinkDoes, unqueued}
use Rattle.world_stages.specs.Flights.{line_of, back_of, is_control, is_signal, controls, signals, AreNumbered, TellsItself, IsClear, IsRefusalIn, IsInFlight, StaysOrLoses}

-- ---- a step of the switch

-- the number stays, and so does what holds of every session and link
pub record KeepsTrue (s : Session) (l k : Link) : Type 0 where
  pub connection : k.connection ≡ l.connection
  pub dpid : k.switch.dpid ≡ l.switch.dpid
  pub numbered : AreNumbered s l → AreNumbered s k
  pub tells : TellsItself l → TellsItself k

abbrev pub StepsKeepTrue : Type 0
StepsKeepTrue = (step : Step) (s : Session) (l k : Link) → LinkDoes step l k → KeepsTrue s l k

-- where nothing of an update is under way, it stays so, and the table stays
pub record StaysClear (s : Session) (l k : Link) : Type 0 where
  pub way : IsClear s k
  pub table : StaysOrLoses l.switch.table k.switch.table

abbrev pub StepsStayClear : Type 0
StepsStayClear = (step : Step) (s : Session) (l k : Link) → LinkDoes step l k → IsClear s l → StaysClear s l k

-- one more change of the part was carried out
pub record CarriesOut (first barrier : ℕ) (changes : List TableMod) (quiet : Bool) (done : List TableMod) (s : Session) (l k : Link) : Type 0 where
  pub change : TableMod
  pub among : Contains changes change
  pub table : IsPermutation (effect change l.switch.table) k.switch.table
  pub flight : IsInFlight first barrier changes quiet (change ∷ done) (line_of s k) (back_of k)

-- none was: also where one was refused
pub record FliesOn (first barrier : ℕ) (changes : List TableMod) (quiet : Bool) (done : List TableMod) (s : Session) (l k : Link) : Type 0 where
  pub table : StaysOrLoses l.switch.table k.switch.table
  pub flight : IsInFlight first barrier changes quiet done (line_of s k) (back_of k)

abbrev pub StepsFlyOn : Type 0
StepsFlyOn =
    (first barrier : ℕ) (changes : List TableMod) (quiet : Bool) (done : List TableMod) (step : Step) (s : Session) (l k : Link)
    → LinkDoes step l k → IsInFlight first barrier changes quiet done (line_of s l) (back_of l)
    → CarriesOut first barrier changes quiet done s l k ⊎ FliesOn first barrier changes quiet done s l k

-- ---- messages that are heard

abbrev pub heard : Link → Link
heard l = record l { switch = unqueued l.switch }

-- what holds of every session and link still does
pub record HearingKeepsTrue (s : Session) (l : Link) : Type 0 where
  pub numbered : AreNumbered s l → AreNumbered s (heard l)
  pub tells : TellsItself l → TellsItself (heard l)

abbrev pub HearingKeeps : Type 0
HearingKeeps = (s : Session) (l : Link) → HearingKeepsTrue s l

-- one that is no signal leaves all as it is
abbrev pub OthersAreHeard : Type 0
OthersAreHeard =
    (s : Session) (l : Link) (m : Message) (later : List Message) → back_of l ≡ m ∷ later → is_signal m ≡ false → signals (back_of (heard l)) ≡ signals (back_of l)

-- while nothing of an update is under way no signal comes back
abbrev pub ClearIsSilent : Type 0
ClearIsSilent = (s : Session) (l : Link) (m : Message) (later : List Message) → IsClear s l → back_of l ≡ m ∷ later → is_signal m ≡ false

-- an ERROR of the part, and the session is quiet from then on
pub record HearsRefusal (first barrier : ℕ) (changes : List TableMod) (done : List TableMod) (s : Session) (l : Link) (m : Message) : Type 0 where
  pub refusal : IsRefusalIn first barrier m
  pub flight : IsInFlight first barrier changes true done (line_of s (heard l)) (back_of (heard l))

-- the reply to its barrier: nothing is under way any more, and all its changes were carried out, each once, unless the session is quiet
pub record HearsReplyOf (barrier : ℕ) (changes : List TableMod) (quiet : Bool) (done : List TableMod) (s : Session) (l : Link) (m : Message) : Type 0 where
  pub reply : m ≡ message barrier BarrierReply
  pub clear : IsClear s (heard l)
  pub all : quiet ≡ false → IsPermutation done changes

abbrev pub SignalsAreHeard : Type 0
SignalsAreHeard =
    (first barrier : ℕ) (changes : List TableMod) (quiet : Bool) (done : List TableMod) (s : Session) (l : Link) (m : Message) (later : List Message)
    → IsInFlight first barrier changes quiet done (line_of s l) (back_of l) → back_of l ≡ m ∷ later → is_signal m ≡ true
    → HearsRefusal first barrier changes done s l m ⊎ HearsReplyOf barrier changes quiet done s l m

-- ---- what a session sends

abbrev pub IsOther : Message → Type 0
IsOther m = is_control m ≡ false

-- messages that are neither changes nor barriers are put into the outbox: what is under way of an update stays so
abbrev pub with_messages : List Message → Session → Session
with_messages ms s = record s { outbox = s.outbox ++ ms }

pub record SendsOthers (s : Session) (l : Link) (ms : List Message) : Type 0 where
  pub line : controls (line_of (with_messages ms s) l) ≡ controls (line_of s l)
  pub numbered : AreNumbered s l → AreNumbered (with_messages ms s) l

abbrev pub OthersAreSent : Type 0
OthersAreSent = (s : Session) (l : Link) (ms : List Message) → AllByRecursion IsOther ms → SendsOthers s l ms

-- all messages are taken out: what is under way stays so
abbrev pub emptied : Session → Session
emptied s = record s { outbox = []; taken = s.used }

abbrev pub filled : List Message → Link → Link
filled ms l = record l { to = l.to ++ ms }

pub record TakesAllOut (s : Session) (l : Link) : Type 0 where
  pub line : line_of (emptied s) (filled s.outbox l) ≡ line_of s l
  pub numbered : AreNumbered s l → AreNumbered (emptied s) (filled s.outbox l)

abbrev pub AllAreTakenOut : Type 0
AllAreTakenOut = (s : Session) (l : Link) → TakesAllOut s l

-- where nothing of an update is under way a part leaves: all its changes are due
pub record Departs (lists : Lists) (part : Part) (parts : List Part) (quiet : Bool) (s : Session) (l : Link) : Type 0 where
  pub flight : IsInFlight (s.used + 1) (barrier_of s.used part) (changes_of part) quiet [] (line_of (leaves lists (part ∷ parts) s) l) (back_of l)
  pub numbered : AreNumbered s l → AreNumbered (leaves lists (part ∷ parts) s) l

abbrev pub PartsDepart : Type 0
PartsDepart = (lists : Lists) (part : Part) (parts : List Part) (quiet : Bool) (s : Session) (l : Link) → IsClear s l → Departs lists part parts quiet s l

-- what is in flight goes by what is under way and by what comes back alone
abbrev pub FlightsAgree : Type 0
FlightsAgree =
    (first barrier : ℕ) (changes : List TableMod) (quiet : Bool) (done : List TableMod) (line back line' back' : List Message)
    → controls line' ≡ controls line → signals back' ≡ signals back
    → IsInFlight first barrier changes quiet done line back → IsInFlight first barrier changes quiet done line' back'
