-- A server that has done nothing yet, and the board's start.
use Rattle.std.specs.Prelude.{◌≡◌, ℕ, List, [], ◌∷◌}
use Rattle.maple_io.specs.declared.act.Act.{Act}
use Rattle.maple_io.specs.declared.act.Act.TheVariants as acts
use Rattle.maple_io.specs.declared.board.Started.{Started}
use Rattle.maple_io.specs.declared.board.Started.TheVariants as started
use Rattle.maple_io.specs.Boards.{BoardFailed, BoardView, NoBoardFailed}
use Rattle.machine_desk.specs.Openings.{IsOpenedAt}
use Rattle.machine_steps.specs.Machine.{opening}
use Rattle.machine_desk.specs.Homes.{IsStaffed}
use Rattle.serve_steps.specs.Deeds.{Past}
use Rattle.serve_steps.specs.Deeds.Deed.{Does}
use Rattle.serve_steps.specs.Parts.{Given}
use Rattle.serve_channels.specs.declared.server.Server.{Server}
use Rattle.serve_channels.specs.Servers.{home}
use Rattle.serve_channels.specs.Keeping.{IsKept}

-- ---- ahead of all

-- the machine is ahead of its first entry, and there is no connection
pub record IsFresh (s : Server) : Type 0 where
  pub opened : IsOpenedAt s.desk
  pub alone : s.connections.items ≡ []
  pub crew : IsStaffed home s

-- nothing was done, and so all is kept, whatever the board did before
abbrev pub FreshIsKept : Type 0
FreshIsKept =
    (g : Given) (log : List Act) (s : Server) → IsFresh s → s.desk.footing.start ≡ opening g.policy g.settings → IsKept g log [] log s

-- ---- the board's start

-- the deeds of a start; one that failed is none
abbrev pub started_deeds : ℕ → ℕ → Started → Past → Past
started_deeds listen control started.Ready past = Does (acts.Starts listen control) ∷ past
started_deeds listen control started.Failed past = past

-- it is one deed more, whatever was done before, and all is kept
abbrev pub Starts : ℕ → ℕ → Started → Server → List Act → List Act → Type 0
Starts listen control answer s old_log new_log =
    (g : Given) (before : List Act) (past : Past) → IsKept g before past old_log s → IsKept g before (started_deeds listen control answer past) new_log s

-- the board failed just where it wasn't started
abbrev pub StartsBy : Started → BoardView → BoardView → Type 0
StartsBy started.Ready old new = NoBoardFailed old new
StartsBy started.Failed old new = BoardFailed old new
