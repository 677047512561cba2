-- The messages between a session and its switch: which are under way, what comes back, and where a part of an update is among them.
use Rattle.std.specs.Prelude.{◌≡◌, ◌⊎◌, ℕ, ◌+◌, ◌≤◌, ◌<◌, Bool, true, false, not, ◌==◌, ◌||◌, filter, List, [], ◌∷◌, ◌++◌, length}
use Rattle.std.specs.List.{AllByRecursion, AllZip}
use Rattle.std.specs.List.Sorted.{IsPermutation}
use Rattle.maple_base.specs.declared.decision.Rule.{Rule}
use Rattle.maple_base.specs.declared.decision.TableMod.{TableMod}
use Rattle.of10_codec.specs.declared.message.Message.{Message}
use Rattle.of10_codec.specs.declared.message.Body.{Body}
use Rattle.of10_codec.specs.declared.message.Body.TheVariants.{Error, BarrierReply, FeaturesReply}
use Rattle.switch_session.specs.Parts.{change_body, changes_from, barrier_request}
use Rattle.device_port.specs.Switches.{is_barrier, is_flow_mod, message}
use Rattle.machine_steps.specs.Machine.{Session}
use Rattle.world_steps.specs.Worlds.{Link}

-- what is under way to a switch: what waits in it, what is on its way to it, what wasn't taken out yet, each behind the other
abbrev pub line_of : Session → Link → List Message
line_of s l = l.switch.pending ++ (l.to ++ s.outbox)

-- what comes back from it
abbrev pub back_of : Link → List Message
back_of l = l.switch.sent

-- a change of the flow table or a barrier
abbrev pub is_control : Message → Bool
is_control m = is_flow_mod m.body || is_barrier m.body

abbrev pub controls : List Message → List Message
controls ms = filter is_control ms

-- a reply to a barrier, or an ERROR that isn't of the switch's own accord
abbrev pub is_signal_body : ℕ → Body → Bool
is_signal_body xid (Error kind code bytes) = not (xid == 0)
is_signal_body xid BarrierReply = true
is_signal_body xid body = false

abbrev pub is_signal : Message → Bool
is_signal m = is_signal_body m.xid m.body

abbrev pub signals : List Message → List Message
signals ms = filter is_signal ms

-- ---- what holds of every open session and its link

-- what left the outbox has numbers up to the last that was taken out, and what is in it up to the last that was used
abbrev pub IsUpTo : ℕ → Message → Type 0
IsUpTo most m = m.xid ≤ most

pub record AreNumbered (s : Session) (l : Link) : Type 0 where
  pub taken : s.taken ≤ s.used
  pub pending : AllByRecursion (IsUpTo s.taken) (controls l.switch.pending)
  pub to : AllByRecursion (IsUpTo s.taken) (controls l.to)
  pub outbox : AllByRecursion (IsUpTo s.used) (controls s.outbox)
  pub back : AllByRecursion (IsUpTo s.taken) (signals (back_of l))

-- a FEATURES_REPLY has the switch's own number
abbrev pub TellsNumber : ℕ → Body → Type 0
TellsNumber dpid (FeaturesReply number ports) = number ≡ dpid
TellsNumber dpid body = Unit {0}

abbrev pub TellsItself : Link → Type 0
TellsItself l = AllByRecursion (λ (m : Message). TellsNumber l.switch.dpid m.body) (back_of l)

-- ---- nothing of an update is under way, and nothing of one comes back

pub record IsClear (s : Session) (l : Link) : Type 0 where
  pub line : controls (line_of s l) ≡ []
  pub back : signals (back_of l) ≡ []

-- ---- a part of an update is

-- the ERROR of a change of a part whose first number and whose barrier's number are these
pub record IsRefusalIn (first barrier : ℕ) (m : Message) : Type 0 where
  pub kind : ℕ
  pub code : ℕ
  pub bytes : List ℕ
  pub is : m ≡ message m.xid (Error kind code bytes)
  pub from : first ≤ m.xid
  pub below : m.xid < barrier

-- the changes that are due are under way, and the barrier behind them; or all were dealt with, and the barrier's reply comes back, behind the ERRORs
abbrev pub IsOnItsWay : ℕ → List Message → List Message → List Message → List Message → Type 0
IsOnItsWay barrier due errors line back =
    ((controls line ≡ due ++ barrier_request barrier ∷ []) × (signals back ≡ errors))
    ⊎ ((due ≡ []) × (controls line ≡ []) × (signals back ≡ errors ++ message barrier BarrierReply ∷ []))

-- a message that asks for a change
abbrev pub Asks : TableMod → Message → Type 0
Asks change m = m.body ≡ change_body change

-- the ERROR by which a message is refused: it has the message's number
pub record IsErrorOf (m error : Message) : Type 0 where
  pub kind : ℕ
  pub code : ℕ
  pub bytes : List ℕ
  pub is : error ≡ message m.xid (Error kind code bytes)

-- these changes, sent with the numbers from the first up to the barrier's: each of their messages, just once, was carried out, or was refused, or is due. Of each
-- that was refused either the ERROR was heard, and then the session is quiet, or it is among those that come back
pub record IsEachOnce (first barrier : ℕ) (changes : List TableMod) (quiet : Bool) (done : List TableMod) (due errors : List Message) : Type 0 where
  pub carried : List Message
  pub heard : List Message
  pub unheard : List Message
  pub above : 1 ≤ first
  pub numbers : first + length changes ≡ barrier
  pub once : IsPermutation (carried ++ (heard ++ (unheard ++ due))) (changes_from first changes)
  pub asked : AllZip Asks done carried
  pub noisy : quiet ≡ false → heard ≡ []
  pub told : AllZip IsErrorOf unheard errors

-- a part of an update, of which these changes were carried out: its messages that are under way, and what came back
pub record IsInFlight (first barrier : ℕ) (changes : List TableMod) (quiet : Bool) (done : List TableMod) (line back : List Message) : Type 0 where
  pub due : List Message
  pub errors : List Message
  pub each : IsEachOnce first barrier changes quiet done due errors
  pub way : IsOnItsWay barrier due errors line back

-- ---- what a step of the switch does to its table where it carries out no change

-- it stays, up to order
abbrev pub Stays : List Rule → List Rule → Type 0
Stays old new = IsPermutation old new

-- or a rule goes that has an idle time
pub record LosesOne (old new : List Rule) : Type 0 where
  pub gone : Rule
  pub idle : gone.idle ≡ 0 → ⊥
  pub there : IsPermutation (gone ∷ new) old

abbrev pub StaysOrLoses : List Rule → List Rule → Type 0
StaysOrLoses old new = Stays old new ⊎ LosesOne old new
