-- What a prepared update outlasts, and when aiming changes nothing.
use Rattle.std.specs.Prelude.{◌≡◌, true, [], None}
use Rattle.std.specs.List.Sorted.{IsPermutation}
use Rattle.maple_base.specs.RuleLists.{Rules}
use Rattle.of10_codec.specs.declared.message.Message.{Message}
use Rattle.update_plan.specs.Batches.{rules_of, IsTarget}
use Rattle.switch_session.specs.Parts.{Update}
use Rattle.switch_session.specs.Sessions.{State, put, heading, aimed}
use Rattle.switch_session.specs.Calls.{IsUpdate, IsGood}

-- a good aim stays good when a message is put in, and when all are taken out
pub record KeepsAim (s : State) (update : Update) : Type 0 where
  pub put_in : (m : Message) → IsGood (put m s) update
  pub taken_out : IsGood (record s { outbox = []; taken = s.used }) update

abbrev pub AimLaw : Type 0
AimLaw = (s : State) (update : Update) → IsGood s update → KeepsAim s update

-- an update to these rules is settled just where the session heads for the same rules, in whatever order: then it changes nothing when it is aimed at
pub record SettlesInPlace (s : State) (X : Rules) (update : Update) : Type 0 where
  pub same : update.settled ≡ true → IsPermutation (rules_of (heading s)) (rules_of X)
  pub settled : IsPermutation (rules_of (heading s)) (rules_of X) → update.settled ≡ true
  pub unchanged : IsPermutation (rules_of (heading s)) (rules_of X) → aimed update s ≡ record s { prepared = None }

abbrev pub SettledLaw : Type 0
SettledLaw = (s : State) (X : Rules) (update : Update) → IsTarget s.capacity (heading s) → IsTarget s.capacity X → IsUpdate s X update → SettlesInPlace s X update
