-- What a walker's answers say: the answers that its asker gave lead through the meaning to them. Of a question that was not answered, and of want of memory, nothing is said.
use Rattle.std.specs.Prelude.{ℕ, List, Result, Ok, Err}
use Rattle.std.specs.declared.vec.Vec.{Vec}
use Rattle.std.specs.Global.{Global}
use Rattle.policy_meaning.specs.Asking.{End, Goes, Ends, Run}
use Rattle.policy_meaning.specs.Leads.{Saying, Leads}
use Rattle.policy_eval.specs.declared.datum.Datum.{Datum}
use Rattle.policy_eval.specs.Data.{datum_of}
use Rattle.policy_meaning.specs.Values.{Datum as Given, Scope}
use Rattle.policy_meaning.specs.Meaning.{Giving}
use Rattle.policy_eval.specs.declared.asker.Stop.{Stop}
use Rattle.policy_eval.specs.declared.asker.Stop.TheVariants.{Ended, Unanswered}
use Rattle.policy_eval.specs.declared.expression_walk.Walk.{Walk}
use Rattle.policy_eval.specs.declared.expression_walk.Local.{Local}

-- how a part ended, where each question was answered
pub data Told (A : Type 0) : Type 0 where
  Tells : End A → Told A
  Untold : Told A

abbrev pub Walked : {S A : Type 0} → Saying S → S → Run A → S → Told A → Type 0
Walked said s m t (Tells e) = Leads said s m t e
Walked said s m t Untold = Unit {0}

abbrev pub stopped : {A : Type 0} → Stop → Told A
stopped (Ended o) = Tells (Ends o)
stopped Unanswered = Untold

abbrev pub told : {R A : Type 0} → (R → A) → Result R Stop → Told A
told f (Ok r) = Tells (Goes (f r))
told f (Err e) = stopped e

-- a meaning by the switch and the names in force
abbrev pub InScope : Type 0 → Type 0
InScope A = ℕ → Scope → Giving A

-- of an expression: what it gives, with the steps that are left
abbrev pub GivesValue : {S : Type 0} → Saying S → Walk S → Local → InScope Given → Result Datum Stop → Walk S → Type 0
GivesValue said old at m r new = Walked said old.asker (m at.switch at.scope old.steps) new.asker (told (λ d. (datum_of d, new.steps)) r)

-- of several: their numbers
abbrev pub GivesNumbers : {S : Type 0} → Saying S → Walk S → Local → InScope (List ℕ) → Result (Vec ℕ Global) Stop → Walk S → Type 0
GivesNumbers said old at m r new = Walked said old.asker (m at.switch at.scope old.steps) new.asker (told (λ v. (v.items, new.steps)) r)
