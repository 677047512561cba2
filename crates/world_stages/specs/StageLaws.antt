-- Each step keeps each open session in a stage.
use Rattle.std.specs.Prelude.{◌≡◌, ◌⊎◌, ℕ, ◌==◌, Bool, true, false, if◌then◌else◌, List, ◌∷◌, Some}
use Rattle.of10_codec.specs.declared.message.Message.{Message}
use Rattle.switch_session.specs.Calls.{opened}
use Rattle.device_port.specs.Switches.{Step, IsFree}
use Rattle.machine_steps.specs.declared.entry.Entry.{Entry}
use Rattle.machine_steps.specs.declared.entry.Entry.TheVariants as entries
use Rattle.machine_steps.specs.declared.entry.Input.TheVariants.{Message as Whole}
use Rattle.machine_steps.specs.declared.reply.Reply.{Reply}
use Rattle.machine_steps.specs.Admitting.{Admits}
use Rattle.machine_steps.specs.Machine.{Session, State, session_at, state_number}
use Rattle.machine_steps.specs.Sound.{IsSound}
use Rattle.machine_steps.specs.Steps.{Steps}
use Rattle.world_steps.specs.Since.{Marks, marked_by}
use Rattle.world_steps.specs.Worlds.{Link, LinkDoes, IsNew, lacks_memory, messages_for}
use Rattle.world_stages.specs.Flights.{back_of}
use Rattle.world_stages.specs.FlightLaws.{heard, filled}
use Rattle.world_stages.specs.Stages.{IsLinked}

-- an open session of a sound machine, in a stage with its link
pub record IsPlaced (c : ℕ) (m : State) (marks : Marks) (s : Session) (l : Link) : Type 0 where
  pub sound : IsSound m
  pub there : session_at c m ≡ Some s
  pub linked : IsLinked m marks s l

-- a step of the switch
abbrev pub SwitchesKeepStages : Type 0
SwitchesKeepStages =
    (c : ℕ) (m : State) (marks : Marks) (s : Session) (l k : Link) (step : Step) → IsPlaced c m marks s l → LinkDoes step l k → IsLinked m marks s k

-- what an entry does to one link: a message is heard, which is the first one, or one that a switch may send at any moment; messages are taken out for it
abbrev pub HearsOwn : Bool → Message → Bool → Link → Link → Type 0
HearsOwn true x lacks l k = ((later : List Message) × (back_of l ≡ x ∷ later) × (k ≡ (if lacks then l else heard l))) ⊎ (IsFree x × (k ≡ l))
HearsOwn false x lacks l k = k ≡ l

abbrev pub TakesOwn : Bool → List Message → Bool → Link → Link → Type 0
TakesOwn true ms lacks l k = k ≡ (if lacks then l else filled ms l)
TakesOwn false ms lacks l k = k ≡ l

abbrev pub LinkBehind : ℕ → State → Entry → Reply → Link → Link → Type 0
LinkBehind c m (entries.Heard d (Whole x)) reply l k = HearsOwn (d == c) x (lacks_memory reply) l k
LinkBehind c m (entries.TakeOut d) reply l k = TakesOwn (d == c) (messages_for d m) (lacks_memory reply) l k
LinkBehind c m entry reply l k = k ≡ l

-- a turn of the machine, as far as one session stays open in it
pub record IsTurnAt (c : ℕ) (old : State) (entry : Entry) (reply : Reply) (new : State) (t : Session) (l k : Link) : Type 0 where
  pub admitted : Admits old entry
  pub steps : Steps old entry reply new
  pub sound : IsSound new
  pub there : session_at c new ≡ Some t
  pub link : LinkBehind c old entry reply l k

abbrev pub TurnsKeepStages : Type 0
TurnsKeepStages =
    (c : ℕ) (old new : State) (entry : Entry) (reply : Reply) (marks : Marks) (s t : Session) (l k : Link)
    → IsPlaced c old marks s l → IsTurnAt c old entry reply new t l k
    → IsLinked new (marked_by (Some s) (Some t) (state_number old) (state_number new) marks) t k

-- a session that is opened, with any switch at the other end
abbrev pub OpenedAreLinked : Type 0
OpenedAreLinked = (c capacity : ℕ) (m : State) (marks : Marks) (l : Link) → IsNew c l → IsLinked m marks (opened c capacity) l
