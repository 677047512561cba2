-- One message that is heard: room for the packet in it, the entry, and what is done about its reply.
use Rattle.std.specs.Prelude.{◌≡◌, ℕ, ◌<◌, true, false, List, [], ◌++◌, map, IfSome}
use Rattle.maple_io.specs.declared.act.Act.{Act}
use Rattle.machine_steps.specs.declared.entry.Entry.{Entry}
use Rattle.machine_steps.specs.declared.entry.Entry.TheVariants as entries
use Rattle.machine_steps.specs.declared.entry.Input.{Input}
use Rattle.machine_steps.specs.Waiting.{Waiting}
use Rattle.machine_desk.specs.Desks.{DeskView}
use Rattle.machine_desk.specs.declared.hearing.Came.{Came}
use Rattle.machine_desk.specs.Hearing.{Hears as HearsAtDesk, IsStaged, goes_on}
use Rattle.machine_desk.specs.declared.hearing.Heard.{Heard}
use Rattle.machine_desk.specs.declared.inbound.Inbound.{Inbound}
use Rattle.machine_desk.specs.Crews.{IsCrew}
use Rattle.machine_desk.specs.Connections.{Moves, rest_at as rest_at_index}
use Rattle.machine_desk.specs.Homes.{Attends as AttendsAt, Follows as FollowsAt, MakesRoom as MakesRoomAt, MakesRoomFor as MakesRoomForAt, IsTended}
use Rattle.sim_steps.specs.Agreeing.{AreCut}
use Rattle.serve_steps.specs.Deeds.{Past, bytes_of, inputs_of, is_open, was_accepted}
use Rattle.serve_channels.specs.declared.server.Server.{Server}
use Rattle.serve_channels.specs.Hearing.{UpTo}
use Rattle.serve_channels.specs.Keeping.{Goes}
use Rattle.serve_channels.specs.Servers.{IsAt, home, links, with_inbound}

-- ---- who works beside

-- the crew's pass, if there is one, is of its queue
abbrev pub HasCrew : Server → Type 0
HasCrew s = IfSome s.crew IsCrew

-- the server and others did what anybody may, of packets that wait, and nothing else changed but the crew's pass
abbrev pub Tends : Server → Server → Type 0
Tends old new = IsTended home old new

-- there is room for a packet, or nobody works beside the server
abbrev pub MakesRoom : Server → Server → Type 0
MakesRoom old new = MakesRoomAt home old new

-- the same where a packet came
abbrev pub MakesRoomFor : Input → Server → Server → Type 0
MakesRoomFor input old new = MakesRoomForAt home input old new

-- a packet that waits was answered, or handed over to who works beside
abbrev pub Attends : Waiting → Server → Server → Type 0
Attends item old new = AttendsAt home item old new

-- what is done about an input
abbrev pub Follows : Heard → Server → Server → Type 0
Follows heard old new = FollowsAt home heard old new

-- ---- a message

-- an input was heard at the desk, and the session stands as its stage says if it did so before
abbrev pub HearsStaged : Input → Heard → DeskView → Inbound → DeskView → Inbound → Type 0
HearsStaged input heard a i b j = HearsAtDesk input heard a i b j × (IsStaged i a.now → IsStaged j b.now)

-- an input of the connection with this index was heard; it alone changes, and its session may end
abbrev pub HearsInput : ℕ → Input → Heard → Server → Server → Type 0
HearsInput at input heard old new = Moves links with_inbound at (HearsStaged input heard) old new

-- how many bytes of a connection are to be heard yet
abbrev pub rest_at : ℕ → Server → ℕ
rest_at at s = rest_at_index links at s

-- some inputs were heard of a connection, none where its session wasn't open, and by what came no more is to be heard
pub record HearsSome (c : ℕ) (k : Came) (past : Past) (own : List Entry) (done : Past) : Type 0 where
  pub inputs : List Input
  pub rest : List ℕ
  pub entries_are : own ≡ map (entries.Heard c) inputs
  pub heard : inputs_of c (done ++ past) ≡ inputs_of c past ++ inputs
  pub bytes : bytes_of c (done ++ past) ≡ bytes_of c past
  pub accepted : was_accepted c (done ++ past) ≡ was_accepted c past
  pub silent : is_open c past ≡ false → inputs ≡ []
  pub cut : is_open c past ≡ true → AreCut 0 (inputs_of c past ++ inputs) (bytes_of c past) rest
  pub up_to : is_open c past ≡ true → UpTo k c (done ++ past) rest

-- what came next of the connection with this index was heard; where more may be to be heard fewer bytes are left
pub record HearsAt (at : ℕ) (k : Came) (old new : Server) : Type 0 where
  pub goes : (c : ℕ) → IsAt at c old.connections.items → (log : List Act) → Goes (HearsSome c k) old log new log
  pub fewer : goes_on k ≡ true → rest_at at new < rest_at at old
