-- Rules that are those of a switch's traces in one state of the history.
use Rattle.std.specs.Prelude.{◌≡◌, ℕ, ◌≤◌, true, List, Some}
use Rattle.std.specs.List.{AllByRecursion}
use Rattle.maple_base.specs.declared.key.Key.{Key}
use Rattle.maple_base.specs.declared.decision.Outcome.TheVariants.{Decided}
use Rattle.maple_base.specs.RuleLists.{Rules}
use Rattle.policy_lang.specs.declared.Policy.{Policy}
use Rattle.policy_lang.specs.PolicyTree.{PolicyTree, policy_tree}
use Rattle.policy_meaning.specs.Meaning.{meaning}
use Rattle.policy_meaning.specs.PolicyLaws.{begins_at, decides_ports}
use Rattle.policy_meaning.specs.Cells.{Gives}
use Rattle.policy_meaning.specs.QuestionLaws.{IsTrace}
use Rattle.env_cells.specs.Environment.{Environment}
use Rattle.topo_paths.specs.Scenes.{cell_in}
use Rattle.trace_tree.specs.declared.node.Trace.{Trace}
use Rattle.trace_tree.specs.Apart.{AreApart}
use Rattle.switch_traces.specs.Lists.{AreRulesOf, AreFit}
use Rattle.machine_steps.specs.Machine.{PolicyState, State, policy_at, state_number}
use Rattle.world_steps.specs.Right.{state_at}

-- a trace of a switch keeps the law of runs, under a policy, and each recorded cell has its recorded value in a network
pub record IsTraceIn (budget : ℕ) (policy : PolicyTree) (scene : Environment) (switch : ℕ) (r : Trace) : Type 0 where
  pub key : Key
  pub run : IsTrace (meaning policy.body budget switch) key r.items r.cells (Decided r.decision)
  pub cells : Gives (cell_in scene) r.cells
  pub begins : begins_at switch (Decided r.decision) ≡ true
  pub ports : decides_ports (Decided r.decision) ≡ true

-- the rules are those of traces which are, in the state of this number, what the machine's own list of a switch's traces is now
pub record IsBacked (m : State) (n switch : ℕ) (X : Rules) : Type 0 where
  pub traces : List Trace
  pub rules : AreRulesOf traces X
  pub state : PolicyState
  pub reached : state_at m n ≡ Some state
  pub policy : Policy
  pub in_force : policy_at m state.policy ≡ Some policy
  pub each : AllByRecursion (IsTraceIn m.settings.budget (policy_tree policy) state.scene switch) traces
  pub apart : AreApart traces
  pub fit : AreFit m.settings.capacity traces

-- in a state from this one to now
pub record IsBackedSince (m : State) (base switch : ℕ) (X : Rules) : Type 0 where
  pub state : ℕ
  pub since_then : base ≤ state
  pub until_now : state ≤ state_number m
  pub backed : IsBacked m state switch X
