-- An entry at a desk, with nothing done between.
use Rattle.std.specs.Prelude.{◌≡◌, [], ◌∷◌, ◌++◌}
use Rattle.machine_steps.specs.declared.entry.Entry.{Entry}
use Rattle.machine_steps.specs.declared.reply.Reply.{Reply}
use Rattle.machine_steps.specs.Histories.{IsTurn}
use Rattle.machine_desk.specs.Desks.{DeskView, turn}

-- the machine was given this entry, and replied so
pub record EntersNext (entry : Entry) (reply : Reply) (a b : DeskView) : Type 0 where
  pub made : IsTurn (turn a.now entry reply b.now)
  pub past : b.past ≡ a.past ++ turn a.now entry reply b.now ∷ []
  pub footing : b.footing ≡ a.footing
