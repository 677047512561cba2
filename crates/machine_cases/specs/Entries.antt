-- Entries that the machine takes at any moment, and moves that a world does.
use Rattle.machine_steps.specs.declared.entry.Entry.{Entry}
use Rattle.machine_steps.specs.Admitting.{Admits}
use Rattle.machine_steps.specs.Machine.{State}
use Rattle.world_steps.specs.Worlds.{World}
use Rattle.world_model.specs.declared.moves.Move.{Move}
use Rattle.world_model.specs.Moves.{AdmitsMove}

-- an entry may come at any moment
abbrev pub IsPlain : Entry → Type 0
IsPlain e = (m : State) → Admits m e

-- a move may be asked for at any moment
abbrev pub IsPlainMove : Move → Type 0
IsPlainMove m = (w : World) → AdmitsMove w m
