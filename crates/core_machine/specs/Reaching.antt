-- How a next state is reached.
use Rattle.std.specs.Prelude.{◌≡◌, ◌⊎◌, None}
use Rattle.env_cells.specs.declared.updates.Update.{Update}
use Rattle.env_cells.specs.Refusals.{refusal_of}
use Rattle.policy_lang.specs.declared.Policy.{Policy}
use Rattle.machine_steps.specs.declared.reply.Reply.{Reply}
use Rattle.machine_steps.specs.Machine.{State}
use Rattle.machine_steps.specs.Steps.{Lacks, Reaches, reached, renewed, updated}

-- an accepted update makes the next state
pub record ReachesBy (u : Update) (old : State) (reply : Reply) (new : State) : Type 0 where
  pub accepted : refusal_of old.scene u ≡ None
  pub reply_is : reply ≡ reached old (updated u old)
  pub reaches : Reaches old (updated u old) new

-- another policy is in force
abbrev pub RenewsTo : Policy → State → Reply → State → Type 0
RenewsTo p old reply new = (reply ≡ reached old (renewed p old)) × Reaches old (renewed p old) new

abbrev pub Renews : Policy → State → Reply → State → Type 0
Renews p old reply new = RenewsTo p old reply new ⊎ Lacks old reply new
