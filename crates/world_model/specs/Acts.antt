-- What a switch does when it is asked to, as a move of the world, and what the taking out of messages does to a link.
use Rattle.std.specs.Prelude.{◌≡◌, ℕ, List, ◌++◌}
use Rattle.machine_steps.specs.declared.entry.Entry.TheVariants.{TakeOut}
use Rattle.machine_steps.specs.declared.reply.Reply.TheVariants.{Out}
use Rattle.machine_steps.specs.Machine.{State}
use Rattle.machine_steps.specs.Steps.{Steps}
use Rattle.world_steps.specs.Worlds.{Link, messages_for}
use Rattle.world_places.specs.declared.acting.Act.{Act}
use Rattle.world_places.specs.declared.acting.Act.TheVariants.{Take, Process, Refuse, Answer, Look}
use Rattle.world_places.specs.declared.acting.Acted.{Acted}
use Rattle.world_places.specs.declared.acting.Acted.TheVariants as acted
use Rattle.world_model.specs.declared.moves.Move.{Move}
use Rattle.world_model.specs.declared.moves.Move.TheVariants as moves
use Rattle.world_model.specs.declared.moves.Moved.{Moved}
use Rattle.world_model.specs.declared.moves.Moved.TheVariants.{Done, Replied, Saw, NotThere, NoMemory}

-- the move of a connection's switch
abbrev pub move_of : ℕ → Act → Move
move_of c Take = moves.Take c
move_of c (Process at) = moves.Process c at
move_of c (Refuse at) = moves.Refuse c at
move_of c Answer = moves.Answer c
move_of c (Look key) = moves.Look c key

-- what came of it
abbrev pub moved_of : Acted → Moved
moved_of acted.Done = Done
moved_of (acted.Saw seen) = Saw seen
moved_of acted.NotThere = NotThere
moved_of acted.NoMemory = NoMemory

-- messages are taken out for a connection, whose link this is; or the machine replied otherwise; or memory ran out ahead of that
abbrev pub TakesHere : ℕ → Moved → State → State → Link → Link → Type 0
TakesHere c NoMemory m n l k = (n ≡ m) × (k ≡ l)
TakesHere c Done m n l k = (bytes : List ℕ) × Steps m (TakeOut c) (Out bytes) n × (k ≡ record l { to = l.to ++ messages_for c m })
TakesHere c (Replied reply) m n l k = Steps m (TakeOut c) reply n × ((bytes : List ℕ) → reply ≡ Out bytes → ⊥) × (k ≡ l)
TakesHere c answer m n l k = ⊥
