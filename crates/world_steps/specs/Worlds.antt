-- The world: the controller's machine, and behind each connection a switch, with what is on its way between the two.
use Rattle.std.specs.Prelude.{◌≡◌, ◌⊎◌, ℕ, Bool, true, false, ◌==◌, if◌then◌else◌, map, find, drop, List, [], ◌∷◌, ◌++◌, Option, Some, None}
use Rattle.maple_base.specs.declared.decision.Settings.{Settings}
use Rattle.policy_lang.specs.declared.Policy.{Policy}
use Rattle.of10_codec.specs.declared.message.Message.{Message}
use Rattle.device_port.specs.Switches.{Switch, Step, Does, IsFree}
use Rattle.device_port.specs.Switches.Step.{Take}
use Rattle.machine_steps.specs.declared.entry.Entry.{Entry}
use Rattle.machine_steps.specs.declared.entry.Entry.TheVariants as entries
use Rattle.machine_steps.specs.declared.entry.Input.TheVariants.{Message as Whole}
use Rattle.machine_steps.specs.declared.reply.Reply.{Reply}
use Rattle.machine_steps.specs.declared.reply.Reply.TheVariants.{NoMemory}
use Rattle.machine_steps.specs.Machine.{Session, State, opening, was_opened}
use Rattle.machine_steps.specs.Admitting.{Admits}
use Rattle.machine_steps.specs.Steps.{Steps, kept_at}

-- what belongs to a connection: the messages that were taken out for it and didn't come in at its other end yet, and the switch there. What the switch sent and
-- wasn't heard yet is its `sent`, the first one first
pub record Link : Type 0 where
  pub connection : ℕ
  pub to : List Message
  pub switch : Switch

pub record World : Type 0 where
  pub machine : State
  -- of each connection that was opened, also in vain, in the order of opening
  pub links : List Link

-- ahead of the first step
abbrev pub opening_world : Policy → Settings → World
opening_world policy settings = record { machine = opening policy settings; links = [] }

-- ---- links, by their connections

abbrev pub link_at : ℕ → List Link → Option Link
link_at c ls = find (λ (l : Link). l.connection == c) ls

-- the link of a connection is changed by f
abbrev pub at_link : ℕ → (Link → Link) → List Link → List Link
at_link c f ls = map (λ (l : Link). if l.connection == c then f l else l) ls

-- ---- the steps

-- the machine is given an entry and replies so; or the switch at the other end of a connection makes a step
pub data WorldStep : Type 0 where
  Enters : Entry → Reply → WorldStep
  Acts : ℕ → Step → WorldStep

abbrev pub lacks_memory : Reply → Bool
lacks_memory NoMemory = true
lacks_memory reply = false

-- a connection as it is opened: at its other end is any switch, with any datapath id and any rules, and nothing is on its way
pub record IsNew (c : ℕ) (l : Link) : Type 0 where
  pub connection : l.connection ≡ c
  pub to : l.to ≡ []
  pub pending : l.switch.pending ≡ []
  pub sent : l.switch.sent ≡ []

-- a connection is opened that wasn't opened before
abbrev pub OpensLink : Bool → ℕ → List Link → List Link → Type 0
OpensLink true c ls ks = ks ≡ ls
OpensLink false c ls ks = (l : Link) × IsNew c l × (ks ≡ ls ++ l ∷ [])

-- the message is the first that came from this connection and wasn't heard yet
pub record IsFirstFrom (c : ℕ) (m : Message) (ls : List Link) : Type 0 where
  pub link : Link
  pub there : link_at c ls ≡ Some link
  pub later : List Message
  pub first : link.switch.sent ≡ m ∷ later

-- the first message of a switch was heard
abbrev pub unqueued : Switch → Switch
unqueued s = record s { sent = drop 1 s.sent }

abbrev pub heard_from : ℕ → List Link → List Link
heard_from c ls = at_link c (λ l. record l { switch = unqueued l.switch }) ls

-- a message is heard: the first from its connection, which is gone then unless memory ran out; or one that a switch may send at any moment
abbrev pub HearsLink : ℕ → Message → Bool → List Link → List Link → Type 0
HearsLink c m lacks ls ks = (IsFirstFrom c m ls × (ks ≡ (if lacks then ls else heard_from c ls))) ⊎ (IsFree m × (ks ≡ ls))

abbrev pub outbox_of : Option Session → List Message
outbox_of None = []
outbox_of (Some s) = s.outbox

-- the messages that wait to be taken out for a connection
abbrev pub messages_for : ℕ → State → List Message
messages_for c m = outbox_of (kept_at c m)

-- these messages are on their way to the switch of a connection, behind the others
abbrev pub sent_to : ℕ → List Message → List Link → List Link
sent_to c ms ls = at_link c (λ l. record l { to = l.to ++ ms }) ls

-- what an entry does to the links
abbrev pub LinksBehind : State → Entry → Reply → List Link → List Link → Type 0
LinksBehind m (entries.Open c) NoMemory ls ks = ks ≡ ls
LinksBehind m (entries.Open c) reply ls ks = OpensLink (was_opened c m) c ls ks
LinksBehind m (entries.Heard c (Whole x)) reply ls ks = HearsLink c x (lacks_memory reply) ls ks
LinksBehind m (entries.TakeOut c) reply ls ks = ks ≡ (if lacks_memory reply then ls else sent_to c (messages_for c m) ls)
LinksBehind m entry reply ls ks = ks ≡ ls

-- the machine is given an entry, within its condition, and does it
pub record EntersWorld (entry : Entry) (reply : Reply) (w v : World) : Type 0 where
  pub admitted : Admits w.machine entry
  pub steps : Steps w.machine entry reply v.machine
  pub links : LinksBehind w.machine entry reply w.links v.links

-- a switch makes a step; what it takes in is the first message that is on its way to it
abbrev pub LinkDoes : Step → Link → Link → Type 0
LinkDoes (Take m) l k = (later : List Message) × (l.to ≡ m ∷ later) × (s : Switch) × Does (Take m) l.switch s × (k ≡ record l { to = later; switch = s })
LinkDoes step l k = (s : Switch) × Does step l.switch s × (k ≡ record l { switch = s })

pub record ActsAt (c : ℕ) (step : Step) (w v : World) : Type 0 where
  pub link : Link
  pub there : link_at c w.links ≡ Some link
  pub behind : Link
  pub does : LinkDoes step link behind
  pub now_is : v ≡ record w { links = at_link c (λ l. behind) w.links }

-- one step of the world
abbrev pub Goes : World → WorldStep → World → Type 0
Goes w (Enters entry reply) v = EntersWorld entry reply w v
Goes w (Acts c step) v = ActsAt c step w v
