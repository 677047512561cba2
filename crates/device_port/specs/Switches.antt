-- The switch of the specification: what a switch may do (OpenFlow Switch Specification 1.0.0). Its messages are those of the codec, and its rules stand in no order.
use Rattle.std.specs.Prelude.{◌≡◌, ◌⊎◌, ℕ, Bool, true, false, ◌&&◌, ◌==◌, if◌then◌else◌, List, [], ◌∷◌, ◌++◌, Option, Some, None, MatchOption, Contains}
use Rattle.std.specs.List.{AllByRecursion}
use Rattle.std.specs.List.Sorted.{IsPermutation}
use Rattle.maple_base.specs.declared.cells.Port.{Port}
use Rattle.maple_base.specs.declared.key.Key.{Key}
use Rattle.maple_base.specs.declared.key.Match.{Match}
use Rattle.maple_base.specs.declared.decision.Rule.{Rule}
use Rattle.maple_base.specs.declared.decision.TableMod.{TableMod}
use Rattle.maple_base.specs.declared.decision.TableMod.TheVariants.{Add, DeleteStrict, DeleteAll}
use Rattle.maple_base.specs.Choice.{fits, MayChoose}
use Rattle.maple_base.specs.Keys.{valid_key, anything}
use Rattle.flow_table.specs.Effects.{effect, same_match}
use Rattle.of10_codec.specs.declared.message.Message.{Message}
use Rattle.of10_codec.specs.declared.message.Body.{Body}
use Rattle.of10_codec.specs.declared.message.Body.TheVariants.{Hello, Error, EchoRequest, EchoReply, FeaturesRequest, FeaturesReply, PacketIn, FlowRemoved, PortStatus, FlowMod, BarrierRequest, BarrierReply, Other}

-- a datapath id, the rules of the flow table, the messages that came in and wait, and those that were sent, each list in its order
pub record Switch : Type 0 where
  pub dpid : ℕ
  pub table : List Rule
  pub pending : List Message
  pub sent : List Message

-- ---- what a message asks of the flow table (5.3.3)

-- no buffered packet, no restriction to a port, no flags, and no time after which a rule goes though packets come
abbrev pub is_plain : ℕ → ℕ → ℕ → ℕ → Bool
is_plain hard buffer out_port flags = hard == 0 && buffer == 0xffffffff && out_port == 0xffff && flags == 0

-- command 0 adds a rule, 4 removes the rule of just this match and priority, and 3, where it matches everything, removes all rules
abbrev pub change_by : ℕ → Match → ℕ → Rule → Option TableMod
change_by command of priority r =
    if command == 0 then Some (Add r)
    else (if command == 4 then Some (DeleteStrict of priority)
    else (if command == 3 && same_match of anything then Some DeleteAll else None))

-- the change that a message asks for, of those that are told here
abbrev pub change_of : Body → Option TableMod
change_of (FlowMod of cookie command idle hard priority buffer out_port flags actions) =
    if is_plain hard buffer out_port flags then change_by command of priority (record { of = of; priority = priority; actions = actions; cookie = cookie; idle = idle }) else None
change_of body = None

abbrev pub is_flow_mod : Body → Bool
is_flow_mod (FlowMod of cookie command idle hard priority buffer out_port flags actions) = true
is_flow_mod body = false

abbrev pub is_barrier : Body → Bool
is_barrier BarrierRequest = true
is_barrier body = false

-- the table behind a change, up to order; behind what changes the table otherwise, of which nothing is told; and behind any other message
abbrev pub LeadsBy : Option TableMod → Bool → List Rule → List Rule → Type 0
LeadsBy (Some change) changes old new = IsPermutation (effect change old) new
LeadsBy None true old new = Unit {0}
LeadsBy None false old new = IsPermutation old new

abbrev pub Leads : Body → List Rule → List Rule → Type 0
Leads body old new = LeadsBy (change_of body) (is_flow_mod body) old new

-- ---- what is sent

-- a message of this id and body
abbrev pub message : ℕ → Body → Message
message xid body = record { xid = xid; body = body }

-- what a message is answered: a HELLO by a HELLO or by nothing, a request for the features by them, with any ports, an echo by its reply
abbrev pub AnswersBody : ℕ → ℕ → Body → List Message → Type 0
AnswersBody dpid xid (Hello version) sent = (sent ≡ []) ⊎ ((own : ℕ) × (spoken : ℕ) × (sent ≡ message own (Hello spoken) ∷ []))
AnswersBody dpid xid FeaturesRequest sent = (own : ℕ) × (ports : List Port) × (sent ≡ message own (FeaturesReply dpid ports) ∷ [])
AnswersBody dpid xid (EchoRequest bytes) sent = sent ≡ message xid (EchoReply bytes) ∷ []
AnswersBody dpid xid body sent = sent ≡ []

-- what a switch may send at any moment, of any content; an ERROR of its own has the id 0
abbrev pub IsFreeBody : ℕ → Body → Type 0
IsFreeBody xid (Hello version) = Unit {0}
IsFreeBody xid (PacketIn buffer total in_port reason bytes) = Unit {0}
IsFreeBody xid (PortStatus reason port) = Unit {0}
IsFreeBody xid (EchoRequest bytes) = Unit {0}
IsFreeBody xid (EchoReply bytes) = Unit {0}
IsFreeBody xid (FlowRemoved of cookie priority why idle) = Unit {0}
IsFreeBody xid (Other kind) = Unit {0}
IsFreeBody xid (Error kind code bytes) = xid ≡ 0
IsFreeBody xid body = ⊥

abbrev pub IsFree : Message → Type 0
IsFree m = IsFreeBody m.xid m.body

-- ---- the seven steps, each from one state to another

-- the message stands in the list behind these, none of which is a barrier, and ahead of those
pub record StandsFree (ahead : List Message) (m : Message) (behind pending : List Message) : Type 0 where
  pub place : pending ≡ ahead ++ m ∷ behind
  pub free : AllByRecursion (λ (x : Message). is_barrier x.body ≡ false) ahead

-- the next message of its stream comes in, and waits behind the others
abbrev pub Takes : Message → Switch → Switch → Type 0
Takes m s t = t ≡ record s { pending = s.pending ++ m ∷ [] }

-- a message that is no barrier, and that waits ahead of each barrier, is processed
pub record Processes (m : Message) (s t : Switch) : Type 0 where
  pub ahead : List Message
  pub behind : List Message
  pub stands : StandsFree ahead m behind s.pending
  pub no_barrier : is_barrier m.body ≡ false
  pub answers : List Message
  pub answered : AnswersBody s.dpid m.xid m.body answers
  pub table : List Rule
  pub leads : Leads m.body s.table table
  pub now_is : t ≡ record s { table = table; pending = ahead ++ behind; sent = s.sent ++ answers }

-- a change of the flow table that waits so is refused, by an ERROR with its id
pub record Refuses (m : Message) (s t : Switch) : Type 0 where
  pub ahead : List Message
  pub behind : List Message
  pub stands : StandsFree ahead m behind s.pending
  pub change : is_flow_mod m.body ≡ true
  pub kind : ℕ
  pub code : ℕ
  pub bytes : List ℕ
  pub now_is : t ≡ record s { pending = ahead ++ behind; sent = s.sent ++ message m.xid (Error kind code bytes) ∷ [] }

-- a barrier that waits first is answered, with its id
pub record AnswersBarrier (m : Message) (s t : Switch) : Type 0 where
  pub behind : List Message
  pub first : s.pending ≡ m ∷ behind
  pub barrier : is_barrier m.body ≡ true
  pub now_is : t ≡ record s { pending = behind; sent = s.sent ++ message m.xid BarrierReply ∷ [] }

-- a rule that goes where no packet comes for a time goes
pub record LetsGo (r : Rule) (s t : Switch) : Type 0 where
  pub rest : List Rule
  pub there : IsPermutation (r ∷ rest) s.table
  pub idle : r.idle ≡ 0 → ⊥
  pub now_is : t ≡ record s { table = rest }

-- a packet of this key is looked up: a rule is hit that may be chosen, or none fits; nothing changes
pub record LooksUp (k : Key) (hit : Option Rule) (s t : Switch) : Type 0 where
  pub valid : valid_key k ≡ true
  pub chosen : MatchOption hit ((r : Rule) → Contains s.table r → fits r k ≡ false) (MayChoose s.table k)
  pub now_is : t ≡ s

-- a message is sent of the switch's own accord
pub record Sends (m : Message) (s t : Switch) : Type 0 where
  pub free : IsFree m
  pub now_is : t ≡ record s { sent = s.sent ++ m ∷ [] }

-- one of the seven, each of one message, rule or key
pub data Step : Type 0 where
  Take : Message → Step
  Process : Message → Step
  Refuse : Message → Step
  Answer : Message → Step
  LetGo : Rule → Step
  Look : Key → Option Rule → Step
  Send : Message → Step

abbrev pub Does : Step → Switch → Switch → Type 0
Does (Take m) s t = Takes m s t
Does (Process m) s t = Processes m s t
Does (Refuse m) s t = Refuses m s t
Does (Answer m) s t = AnswersBarrier m s t
Does (LetGo r) s t = LetsGo r s t
Does (Look k hit) s t = LooksUp k hit s t
Does (Send m) s t = Sends m s t
