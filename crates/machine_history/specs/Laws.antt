-- What holds of every legal history: from any policy and any settings, of entries that met their conditions, whatever the switches sent.
use Rattle.std.specs.Prelude.{◌≡◌, ℕ, List, [], ◌∷◌, ◌++◌, Some}
use Rattle.maple_base.specs.declared.key.Key.{Key}
use Rattle.maple_base.specs.declared.decision.Decision.{Decision}
use Rattle.maple_base.specs.declared.decision.Outcome.{Outcome}
use Rattle.maple_base.specs.declared.decision.Settings.{Settings}
use Rattle.policy_lang.specs.declared.Policy.{Policy}
use Rattle.report_text.specs.declared.line.Learnt.{Learnt}
use Rattle.machine_steps.specs.declared.reply.Reply.TheVariants.{Answered}
use Rattle.machine_steps.specs.Machine.{State, opening, traces_of}
use Rattle.machine_steps.specs.Histories.{Turn, Leads}
use Rattle.machine_steps.specs.Sound.{AreInRange}
use Rattle.machine_history.specs.Live.{live}
use Rattle.machine_history.specs.Jobs.{outcome_of, WasOpened, place_of, IsEvaluated}
use Rattle.machine_history.specs.Exact.{IsExact}

-- a legal history
pub record IsLegal (ts : List Turn) (m : State) : Type 0 where
  pub policy : Policy
  pub settings : Settings
  pub ranges : AreInRange settings
  pub leads : Leads (opening policy settings) ts m

-- the machine's list of a switch's traces is the live ones
abbrev pub ListsAreLive : Type 0
ListsAreLive = (ts : List Turn) (m : State) → IsLegal ts m → (switch : ℕ) → traces_of switch m ≡ live ts switch

-- a number is of one packet: what was opened with it was opened in the same turn, and came to the same switch with the same key
abbrev pub OpenedOnce : Type 0
OpenedOnce =
    (ts : List Turn) (m : State) → IsLegal ts m
    → (number s q : ℕ) (k l : Key) (was : WasOpened ts number s k) (again : WasOpened ts number q l) → (s ≡ q) × (k ≡ l) × (place_of was ≡ place_of again)

-- each outcome that the last reply of a legal history tells is for a job that was opened, and is plain evaluation's of its packet in the state now
abbrev pub AnswersAreEvaluation : Type 0
AnswersAreEvaluation =
    (ts : List Turn) (t : Turn) (m : State) → IsLegal (ts ++ t ∷ []) m
    → (o : Outcome) → outcome_of t.reply ≡ Some o → IsEvaluated ts t o

-- and what it says of learning is exactly so
abbrev pub LearningIsExact : Type 0
LearningIsExact =
    (ts : List Turn) (t : Turn) (m : State) → IsLegal (ts ++ t ∷ []) m
    → (d : Decision) (l : Learnt) → t.reply ≡ Answered d l → IsExact ts t d l
