-- The headline: a run of the world is right.
use Rattle.std.specs.Prelude.{◌≡◌, ◌⊎◌, ℕ, ◌≤◌, true, List, [], ◌∷◌, ◌++◌, length, Option, Some}
use Rattle.std.specs.List.{slice_get}
use Rattle.maple_base.specs.declared.key.Key.{Key}
use Rattle.maple_base.specs.declared.decision.Decision.{Decision}
use Rattle.maple_base.specs.declared.decision.Outcome.{Outcome}
use Rattle.maple_base.specs.declared.decision.Outcome.TheVariants.{Decided}
use Rattle.maple_base.specs.declared.decision.Rule.{Rule}
use Rattle.maple_base.specs.Decisions.{actions_at}
use Rattle.flow_table.specs.Shielding.{IsBarrier}
use Rattle.policy_lang.specs.declared.Policy.{Policy}
use Rattle.policy_lang.specs.PolicyTree.{policy_tree}
use Rattle.policy_meaning.specs.Meaning.{eval_of}
use Rattle.topo_paths.specs.Scenes.{cell_in}
use Rattle.device_port.specs.Switches.Step.{Look}
use Rattle.machine_steps.specs.Histories.{Turn}
use Rattle.machine_steps.specs.Machine.{PolicyState, Session, State, policy_at, session_at, state_number, this_state}
use Rattle.machine_history.specs.Jobs.{outcome_of, IsEvaluated}
use Rattle.world_steps.specs.Worlds.{Link, World, WorldStep, link_at}
use Rattle.world_steps.specs.Worlds.WorldStep.{Acts}
use Rattle.world_steps.specs.Runs.{Event, turns_of}
use Rattle.world_steps.specs.Since.{marks_of, since_by}

-- the state of this number, where it was reached
abbrev pub state_at : State → ℕ → Option PolicyState
state_at m n = slice_get (m.states ++ this_state m ∷ []) n

-- plain evaluation of a key at a switch, in the state of this number, decides so
pub record DecidesIn (m : State) (n switch : ℕ) (k : Key) (d : Decision) : Type 0 where
  pub state : PolicyState
  pub reached : state_at m n ≡ Some state
  pub policy : Policy
  pub in_force : policy_at m state.policy ≡ Some policy
  pub decides : eval_of (policy_tree policy).body m.settings.budget (cell_in state.scene) switch k ≡ Decided d

-- in a state from `since` to now plain evaluation decides as the rule does
pub record IsDecision (m : State) (since switch : ℕ) (k : Key) (r : Rule) : Type 0 where
  pub state : ℕ
  pub since_then : since ≤ state
  pub until_now : state ≤ state_number m
  pub decision : Decision
  pub decides : DecidesIn m state switch k decision
  pub does : r.actions ≡ actions_at decision switch

-- the hit sends to the controller, or it is plain evaluation's decision
abbrev pub IsRightHit : State → ℕ → ℕ → Key → Rule → Type 0
IsRightHit m since switch k r = IsBarrier r ⊎ IsDecision m since switch k r

-- a ready session of a connection and the switch at its other end
pub record IsReadyAt (c : ℕ) (w : World) (s : Session) (l : Link) : Type 0 where
  pub session : session_at c w.machine ≡ Some s
  pub ready : s.ready ≡ true
  pub link : link_at c w.links ≡ Some l

-- a look-up that hits a rule at a ready session's switch, behind these turns, is right
abbrev pub IsRightLook : List Turn → WorldStep → World → Type 0
IsRightLook ts (Acts c (Look k (Some r))) w =
    (s : Session) (l : Link) → IsReadyAt c w s l → IsRightHit w.machine (since_by s (state_number w.machine) (marks_of c ts)) l.switch.dpid k r
IsRightLook ts step w = Unit {0}

-- an outcome that a reply tells is plain evaluation's, of the packet that the job was opened for, in the state now
abbrev pub AreRightAnswers : List Turn → List Turn → Type 0
AreRightAnswers ts [] = Unit {0}
AreRightAnswers ts (t ∷ later) = (o : Outcome) → outcome_of t.reply ≡ Some o → IsEvaluated ts t o

-- the table of a ready session's switch keeps to the capacity
abbrev pub HasRoom : World → Type 0
HasRoom w = (c : ℕ) (s : Session) (l : Link) → IsReadyAt c w s l → length l.switch.table ≤ w.machine.settings.capacity

-- an event behind these
pub record IsRightEvent (es : List Event) (e : Event) : Type 0 where
  pub hits : IsRightLook (turns_of es) e.step e.before
  pub answers : AreRightAnswers (turns_of es) (turns_of (e ∷ []))
  pub room : HasRoom e.behind

-- a run is right: at each of its events, whatever came before
abbrev pub IsRight : List Event → Type 0
IsRight es = (before later : List Event) (e : Event) → es ≡ before ++ e ∷ later → IsRightEvent before e
