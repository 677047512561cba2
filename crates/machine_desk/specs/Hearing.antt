-- What one connection sends is heard at the desk.
use Rattle.std.specs.Prelude.{◌≡◌, ℕ, Bool, true, false, List, Option, Some, None, is_some}
use Rattle.of10_stream.specs.declared.reassembly.Next.{Next}
use Rattle.of10_stream.specs.declared.reassembly.Next.TheVariants as next
use Rattle.of10_stream.specs.Steps.{Held, Tells, fed}
use Rattle.machine_moves.specs.Told.{is_end}
use Rattle.machine_steps.specs.declared.entry.Entry.TheVariants as entries
use Rattle.machine_steps.specs.declared.entry.Input.{Input}
use Rattle.machine_steps.specs.declared.entry.Input.TheVariants.{Message, Bad}
use Rattle.machine_steps.specs.declared.reply.Reply.{Reply}
use Rattle.machine_steps.specs.declared.reply.Reply.TheVariants as replies
use Rattle.machine_steps.specs.Histories.{Leads, Turn}
use Rattle.machine_steps.specs.Machine.{State as MachineState, session_at, was_opened}
use Rattle.history_lock.specs.Histories.{AreAllowed}
use Rattle.machine_sharing.specs.Sharing.{Allows, Call}
use Rattle.machine_desk.specs.declared.hearing.Came.{Came}
use Rattle.machine_desk.specs.declared.hearing.Came.TheVariants as came
use Rattle.machine_desk.specs.declared.hearing.Heard.{Heard}
use Rattle.machine_desk.specs.declared.hearing.Heard.TheVariants.{Packet, Ended, State, Other}
use Rattle.machine_desk.specs.declared.inbound.Inbound.{Inbound}
use Rattle.machine_desk.specs.declared.inbound.Stage.{Stage}
use Rattle.machine_desk.specs.declared.inbound.Stage.TheVariants.{Unopened, Live, Over}
use Rattle.machine_desk.specs.Desks.{DeskView, Enters, calls_of}
use Rattle.machine_desk.specs.Orders.{Asks}

-- the next input of a stream, or that there is none yet, as the stream tells it
abbrev pub told_as : Option Input → Next
told_as None = next.More
told_as (Some (Message x)) = next.Message x
told_as (Some (Bad place bad)) = next.Bad place bad

-- by the stage of the session: what comes next, and that nothing does where it isn't open
abbrev pub ComesAt : Stage → Option Input → Held → Held → Type 0
ComesAt Live found old new = Tells (told_as found) old.stream new.stream
ComesAt stage found old new = (found ≡ None) × (new ≡ old)

-- bytes came, or were taken: it is the same connection, and its session stands as before
abbrev pub IsSameSession : Inbound → Inbound → Type 0
IsSameSession i j = (j.connection ≡ i.connection) × (j.stage ≡ i.stage)

-- these bytes came, behind those before
abbrev pub Feeds : List ℕ → Inbound → Inbound → Type 0
Feeds bytes i j = (j.from.stream ≡ fed bytes i.from.stream) × IsSameSession i j

abbrev pub Comes : Option Input → Inbound → Inbound → Type 0
Comes found i j = ComesAt i.stage found i.from j.from × IsSameSession i j

-- memory ran out for a message whose bytes are all there, on a session that is open; nothing was taken
pub record LacksMemoryFor (i j : Inbound) : Type 0 where
  pub live : i.stage ≡ Live
  pub tells : Tells next.NoMemory i.from.stream j.from.stream
  pub session : IsSameSession i j

-- what the machine's reply tells of an input
abbrev pub heard_by : Reply → Heard
heard_by (replies.Job item) = Packet item
heard_by (replies.Ended end) = Ended
heard_by (replies.NewState state pruned) = State
heard_by reply = Other

-- what is told of it to who hears one input after the other
abbrev pub came_of : Heard → Came
came_of Ended = came.Ended
came_of State = came.State
came_of heard = came.Message

-- more may be to be heard
abbrev pub goes_on : Came → Bool
goes_on came.Nothing = false
goes_on came.Ended = false
goes_on other = true

-- ---- what becomes of a session

abbrev pub stage_opened : Bool → Stage
stage_opened true = Over
stage_opened false = Live

abbrev pub stage_heard : Heard → Stage → Stage
stage_heard Ended stage = Over
stage_heard heard stage = stage

-- the session of a connection was opened, where the machine didn't end it at once
pub record Opens (a : DeskView) (i : Inbound) (b : DeskView) (j : Inbound) : Type 0 where
  pub reply : Reply
  pub asks : Asks (entries.Open i.connection) reply a b
  pub stage : j ≡ record i { stage = stage_opened (is_end reply) }

-- an input of a connection was heard, where memory sufficed
pub record Hears (input : Input) (heard : Heard) (a : DeskView) (i : Inbound) (b : DeskView) (j : Inbound) : Type 0 where
  pub reply : Reply
  pub asks : Asks (entries.Heard i.connection input) reply a b
  pub heard_is : heard ≡ heard_by reply
  pub stage : j ≡ record i { stage = stage_heard heard i.stage }

-- the session of a connection was ended, with a fault of its link or without
pub record Closes (fault : Bool) (a : DeskView) (i : Inbound) (b : DeskView) (j : Inbound) : Type 0 where
  pub reply : Reply
  pub enters : Enters a (entries.Gone i.connection fault) reply b
  pub stage : j ≡ record i { stage = Over }

-- ---- how it stands in the machine

abbrev pub is_live : Stage → Bool
is_live Live = true
is_live stage = false

abbrev pub was_begun : Stage → Bool
was_begun Unopened = false
was_begun stage = true

-- the stage of a connection is that of its session in the machine
pub record IsStaged (i : Inbound) (m : MachineState) : Type 0 where
  pub live : is_some (session_at i.connection m) ≡ is_live i.stage
  pub opened : was_opened i.connection m ≡ was_begun i.stage

-- it stays so, whatever others do
abbrev pub StagesStay : Type 0
StagesStay =
    (i : Inbound) (log : List Call) (others : List Turn) (m n : MachineState) → AreAllowed Allows log (calls_of others) → Leads m others n
    → IsStaged i m → IsStaged i n
