-- What a pass of the controller's hall did.
use Rattle.std.specs.Prelude.{◌≡◌, List, ◌++◌, IsTrue}
use Rattle.history_lock.specs.declared.view.Known.{Known}
use Rattle.history_lock.specs.Histories.{Did, HasSeenLegal, IsAllowedSince}
use Rattle.machine_steps.specs.declared.entry.Entry.{Entry}
use Rattle.machine_steps.specs.declared.reply.Reply.{Reply}
use Rattle.machine_steps.specs.Machine.{State}
use Rattle.machine_sharing.specs.Sharing.{Allows, Call, Turns}

-- what a pass of the controller's hall knows
abbrev pub PassView : Type 0
PassView = Known State Entry Reply

-- these are the pass's own calls since `old`, in order, each at its position in what it has seen
pub record Adds (old : PassView) (calls : List Call) (new : PassView) : Type 0 where
  pub did : Did old calls new
  -- where it leads, all that it has seen since then was allowed
  pub led : IsTrue old.leads → IsAllowedSince Allows new.seen old.seen
  -- where it has all parts, these calls are all of it
  pub alone : old.parts ≡ 1024 → new.seen ≡ old.seen ++ calls
  -- what it has seen is a legal history, as it was before
  pub legal : HasSeenLegal Turns old → HasSeenLegal Turns new
  -- the hall's opening and what the pass is stay
  pub opening : new.opening ≡ old.opening
  pub parts : new.parts ≡ old.parts
  pub leads : new.leads ≡ old.leads
