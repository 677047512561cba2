-- What a switch here does when it is asked to.
use Rattle.std.specs.Prelude.{◌≡◌, ℕ, Bool, true, false, List, [], ◌∷◌, ◌++◌, length, Option}
use Rattle.maple_base.specs.declared.key.Key.{Key}
use Rattle.maple_base.specs.declared.device.Seen.{Seen}
use Rattle.maple_base.specs.declared.decision.Rule.{Rule}
use Rattle.maple_base.specs.Keys.{valid_key}
use Rattle.of10_codec.specs.declared.message.Message.{Message}
use Rattle.device_port.specs.Switches.{Switch, Does, StandsFree, is_barrier, is_flow_mod}
use Rattle.device_port.specs.Switches.Step.{Take as Taking, Process as Processing, Refuse as Refusing, Answer as Answering, Look as Looking}
use Rattle.world_places.specs.Answers.{answers_to, refusal_to, takes_memory, Tells}
use Rattle.world_places.specs.declared.acting.Act.{Act}
use Rattle.world_places.specs.declared.acting.Act.TheVariants.{Take, Process, Refuse, Answer, Look}
use Rattle.world_places.specs.declared.acting.Acted.{Acted}
use Rattle.world_places.specs.declared.acting.Acted.TheVariants.{Done, Saw, NotThere, NoMemory}
use Rattle.world_places.specs.declared.place.Place.{Place}
use Rattle.world_places.specs.Places.{Keeps, switch_of, to_of}

-- a barrier is pending first
abbrev pub begins_with_barrier : List Message → Bool
begins_with_barrier [] = false
begins_with_barrier (m ∷ ms) = is_barrier m.body

-- a message is pending at a place, and no barrier is there or ahead of it
pub record PendsFree (at : ℕ) (pending : List Message) (m : Message) : Type 0 where
  pub ahead : List Message
  pub behind : List Message
  pub stands : StandsFree ahead m behind pending
  pub place : length ahead ≡ at
  pub no_barrier : is_barrier m.body ≡ false

-- the message at a place is gone, and these were sent
pub record Loses (at : ℕ) (sent : List Message) (s t : Switch) : Type 0 where
  pub ahead : List Message
  pub gone : Message
  pub rest : List Message
  pub place : length ahead ≡ at
  pub pending : s.pending ≡ ahead ++ gone ∷ rest
  pub left : t.pending ≡ ahead ++ rest
  pub sends : t.sent ≡ s.sent ++ sent

pub record ProcessesAt (at : ℕ) (s t : Switch) : Type 0 where
  pub message : Message
  pub pends : PendsFree at s.pending message
  pub does : Does (Processing message) s t
  pub loses : Loses at (answers_to message s) s t

-- memory runs out over the message at a place
pub record LacksAt (at : ℕ) (s : Switch) : Type 0 where
  pub message : Message
  pub pends : PendsFree at s.pending message
  pub takes : takes_memory message s ≡ true

pub record RefusesAt (at : ℕ) (s t : Switch) : Type 0 where
  pub message : Message
  pub pends : PendsFree at s.pending message
  pub change : is_flow_mod message.body ≡ true
  pub does : Does (Refusing message) s t
  pub loses : Loses at (refusal_to message s) s t

pub record LooksAt (key : Key) (seen : Seen) (s t : Switch) : Type 0 where
  pub hit : Option Rule
  pub does : Does (Looking key hit) s t
  pub tells : Tells hit seen

-- the switch at a place makes a step, and no message comes in
abbrev pub Acts : (Switch → Switch → Type 0) → Place → Place → Type 0
Acts DoesSo old new = (to_of new ≡ to_of old) × DoesSo (switch_of old) (switch_of new)

-- the act is done; there is nothing to do; or memory ran out, which it doesn't where the act takes none
abbrev pub ActsBy : Act → Acted → Place → Place → Type 0
ActsBy (Process at) NoMemory old new = Keeps old new × LacksAt at (switch_of old)
ActsBy (Look key) NoMemory old new = ⊥
ActsBy act NoMemory old new = Keeps old new
ActsBy Take Done old new = (m : Message) × (to_of old ≡ m ∷ to_of new) × Does (Taking m) (switch_of old) (switch_of new)
ActsBy Take NotThere old new = Keeps old new × (to_of old ≡ [])
ActsBy (Process at) Done old new = Acts (ProcessesAt at) old new
ActsBy (Process at) NotThere old new = Keeps old new × ((m : Message) → PendsFree at (switch_of old).pending m → ⊥)
ActsBy (Refuse at) Done old new = Acts (RefusesAt at) old new
ActsBy (Refuse at) NotThere old new = Keeps old new × ((m : Message) → PendsFree at (switch_of old).pending m → is_flow_mod m.body ≡ true → ⊥)
ActsBy Answer Done old new = Acts (λ (s t : Switch). (m : Message) × Does (Answering m) s t) old new
ActsBy Answer NotThere old new = Keeps old new × (begins_with_barrier (switch_of old).pending ≡ false)
ActsBy (Look key) (Saw seen) old new = Acts (LooksAt key seen) old new
ActsBy (Look key) NotThere old new = Keeps old new × (valid_key key ≡ false)
ActsBy act answer old new = ⊥
