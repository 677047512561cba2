-- What a world does for each move, and what it answers: every answer but NotThere and NoMemory is just one step.
use Rattle.std.specs.Prelude.{◌≡◌, ◌⊎◌, ℕ, true, false, List, [], ◌∷◌, ◌++◌, length, Option, Some, None}
use Rattle.std.specs.List.{flat_map}
use Rattle.maple_base.specs.declared.key.Key.{Key}
use Rattle.maple_base.specs.declared.decision.Rule.{Rule}
use Rattle.maple_base.specs.declared.device.Seen.{Seen}
use Rattle.maple_base.specs.Keys.{valid_key}
use Rattle.of10_codec.specs.declared.message.Message.{Message}
use Rattle.of10_codec.specs.Written.{written}
use Rattle.device_port.specs.Switches.{Switch, is_barrier, is_flow_mod, StandsFree, IsFree}
use Rattle.device_port.specs.Switches.Step.{Take as Taking, Process as Processing, Refuse as Refusing, Answer as Answering, Look as Looking}
use Rattle.machine_steps.specs.declared.entry.Entry.{Entry}
use Rattle.machine_steps.specs.declared.entry.Entry.TheVariants as entries
use Rattle.machine_steps.specs.declared.entry.Input.TheVariants.{Message as Whole}
use Rattle.machine_steps.specs.declared.reply.Reply.TheVariants as replies
use Rattle.machine_steps.specs.declared.reply.Reply.TheVariants.{Out}
use Rattle.machine_steps.specs.Admitting.{Admits}
use Rattle.world_steps.specs.Worlds.{Link, World, Goes, IsFirstFrom, link_at, messages_for}
use Rattle.world_steps.specs.Worlds.WorldStep.{Enters, Acts}
use Rattle.world_places.specs.Answers.{answers_to, refusal_to, takes_memory, Tells}
use Rattle.world_model.specs.declared.moves.Move.{Move}
use Rattle.world_model.specs.declared.moves.Move.TheVariants as moves
use Rattle.world_model.specs.declared.moves.Moved.{Moved}
use Rattle.world_model.specs.declared.moves.Moved.TheVariants.{Done, Replied, Saw, NotThere, NoMemory}

-- the condition of a move: that of its entry
abbrev pub AdmitsMove : World → Move → Type 0
AdmitsMove w (moves.Machine entry) = Admits w.machine entry
AdmitsMove w move = Unit {0}

-- ---- which steps are there

-- a message on its way to the switch, before all others
pub record CanTake (c : ℕ) (w : World) (m : Message) : Type 0 where
  pub link : Link
  pub there : link_at c w.links ≡ Some link
  pub later : List Message
  pub first : link.to ≡ m ∷ later

-- a pending message at a place that is no barrier, with none ahead of it
pub record CanProcess (c at : ℕ) (w : World) (m : Message) : Type 0 where
  pub link : Link
  pub there : link_at c w.links ≡ Some link
  pub ahead : List Message
  pub behind : List Message
  pub stands : StandsFree ahead m behind link.switch.pending
  pub place : length ahead ≡ at
  pub no_barrier : is_barrier m.body ≡ false

-- and it asks for a change of the table
pub record CanRefuse (c at : ℕ) (w : World) (m : Message) : Type 0 where
  pub stands : CanProcess c at w m
  pub change : is_flow_mod m.body ≡ true

-- a barrier that is pending first
pub record CanAnswer (c : ℕ) (w : World) (m : Message) : Type 0 where
  pub link : Link
  pub there : link_at c w.links ≡ Some link
  pub behind : List Message
  pub first : link.switch.pending ≡ m ∷ behind
  pub barrier : is_barrier m.body ≡ true

-- a switch, and a valid key
pub record CanLook (c : ℕ) (k : Key) (w : World) : Type 0 where
  pub link : Link
  pub there : link_at c w.links ≡ Some link
  pub valid : valid_key k ≡ true

-- a message that is the first of its connection, or that a switch may send at any moment; any other entry is there
abbrev pub CanEnter : Entry → World → Type 0
CanEnter (entries.Heard c (Whole x)) w = IsFirstFrom c x w.links ⊎ IsFree x
CanEnter entry w = Unit {0}

-- ---- what the switches here do of what they may

-- a switch that is behind a connection as it is opened has the connection's number, and no rules
abbrev pub OpensPlain : World → World → Type 0
OpensPlain old new =
    (c : ℕ) (l : Link) → link_at c old.links ≡ None → link_at c new.links ≡ Some l → (l.switch.dpid ≡ c) × (l.switch.table ≡ [])

-- the link of a connection before and behind a step in which the message at this place went, and these were sent
pub record LosesPending (c at : ℕ) (sent : Switch → List Message) (old new : World) : Type 0 where
  pub link : Link
  pub there : link_at c old.links ≡ Some link
  pub behind : Link
  pub now_there : link_at c new.links ≡ Some behind
  pub ahead : List Message
  pub gone : Message
  pub rest : List Message
  pub place : length ahead ≡ at
  pub pending : link.switch.pending ≡ ahead ++ gone ∷ rest
  pub left : behind.switch.pending ≡ ahead ++ rest
  pub sends : behind.switch.sent ≡ link.switch.sent ++ sent link.switch

-- ---- the moves

pub record Processes (c at : ℕ) (old new : World) : Type 0 where
  pub message : Message
  pub there : CanProcess c at old message
  pub goes : Goes old (Acts c (Processing message)) new
  pub at_place : LosesPending c at (answers_to message) old new

-- memory runs out over a pending message that takes some
pub record LacksMemory (c at : ℕ) (w : World) : Type 0 where
  pub message : Message
  pub there : CanProcess c at w message
  pub takes : takes_memory message there.link.switch ≡ true

pub record Refuses (c at : ℕ) (old new : World) : Type 0 where
  pub message : Message
  pub there : CanRefuse c at old message
  pub goes : Goes old (Acts c (Refusing message)) new
  pub at_place : LosesPending c at (refusal_to message) old new

pub record LooksUp (c : ℕ) (k : Key) (seen : Seen) (old new : World) : Type 0 where
  pub hit : Option Rule
  pub goes : Goes old (Acts c (Looking k hit)) new
  pub tells : Tells hit seen

-- by the move and the answer. Memory doesn't run out where a move takes none. What is taken out goes on its way, and is told as done: the machine replied just the bytes of the messages that waited
abbrev pub Makes : Move → Moved → World → World → Type 0
Makes (moves.Process c at) NoMemory old new = (new ≡ old) × LacksMemory c at old
Makes (moves.Look c k) NoMemory old new = ⊥
Makes move NoMemory old new = new ≡ old
Makes (moves.Machine (entries.TakeOut c)) Done old new = Goes old (Enters (entries.TakeOut c) (Out (flat_map written (messages_for c old.machine)))) new
Makes (moves.Machine (entries.TakeOut c)) (Replied reply) old new = (reply ≡ replies.NoMemory) × Goes old (Enters (entries.TakeOut c) reply) new
Makes (moves.Machine entry) (Replied reply) old new = Goes old (Enters entry reply) new × OpensPlain old new
Makes (moves.Machine entry) NotThere old new = (new ≡ old) × (CanEnter entry old → ⊥)
Makes (moves.Take c) Done old new = (m : Message) × Goes old (Acts c (Taking m)) new
Makes (moves.Take c) NotThere old new = (new ≡ old) × ((m : Message) → CanTake c old m → ⊥)
Makes (moves.Process c at) Done old new = Processes c at old new
Makes (moves.Process c at) NotThere old new = (new ≡ old) × ((m : Message) → CanProcess c at old m → ⊥)
Makes (moves.Refuse c at) Done old new = Refuses c at old new
Makes (moves.Refuse c at) NotThere old new = (new ≡ old) × ((m : Message) → CanRefuse c at old m → ⊥)
Makes (moves.Answer c) Done old new = (m : Message) × Goes old (Acts c (Answering m)) new
Makes (moves.Answer c) NotThere old new = (new ≡ old) × ((m : Message) → CanAnswer c old m → ⊥)
Makes (moves.Look c k) (Saw seen) old new = LooksUp c k seen old new
Makes (moves.Look c k) NotThere old new = (new ≡ old) × (CanLook c k old → ⊥)
Makes move answer old new = ⊥
