-- A recorded run, and what holds of it.
use Rattle.std.specs.Prelude.{◌≡◌, ℕ, ◌+◌, ◌≤◌, true, List, length}
use Rattle.std.specs.List.{list_all}
use Rattle.maple_base.specs.declared.key.Key.{Key}
use Rattle.maple_base.specs.declared.items.Item.{Item}
use Rattle.maple_base.specs.declared.cells.Cell.{Cell}
use Rattle.maple_base.specs.declared.cells.Value.{Value}
use Rattle.maple_base.specs.declared.decision.Outcome.{Outcome}
use Rattle.policy_lang.specs.declared.Policy.{Policy}
use Rattle.policy_lang.specs.TreeOf.{tree_of}
use Rattle.policy_meaning.specs.Asking.{Asking}
use Rattle.policy_meaning.specs.Cells.{is_of_kind}
use Rattle.policy_meaning.specs.QuestionLaws.{IsTrace}
use Rattle.policy_meaning.specs.Meaning.{meaning}
use Rattle.policy_meaning.specs.PolicyLaws.{begins_at, decides_ports}
use Rattle.policy_eval.specs.Answers.{IsBudget}

-- a run: its policy with the policy's number and the budget, its switch and key, and what was asked and decided
pub record Recorded : Type 0 where
  pub number : ℕ
  pub switch : ℕ
  pub key : Key
  pub items : List Item
  pub cells : List (Cell × Value)
  pub outcome : Outcome
  pub budget : ℕ
  pub policy : Policy

-- what its policy means at its switch, in at most so many steps as its budget has
abbrev pub meaning_of : Recorded → Asking Outcome
meaning_of run = meaning (tree_of run.policy.body) run.budget run.switch

-- the law of runs
pub record IsRun (run : Recorded) : Type 0 where
  -- each valid key that meets its items has, in each environment that gives its cells, exactly this trace, and its outcome is plain evaluation's; its own key is such a one
  pub trace : IsTrace (meaning_of run) run.key run.items run.cells run.outcome
  pub budget : IsBudget run.budget
  -- each cell has a value of its kind
  pub kinds : list_all is_of_kind run.cells ≡ true
  -- a decided path begins at its own switch, and each decided port is a physical one, or flood's alone
  pub begins : begins_at run.switch run.outcome ≡ true
  pub ports : decides_ports run.outcome ≡ true
  -- it has at most two items more than its budget
  pub few : length run.items ≤ run.budget + 2

-- the run has the call's policy, number, budget, switch and key
pub record IsOfCall (p : Policy) (n b s : ℕ) (k : Key) (run : Recorded) : Type 0 where
  pub policy : run.policy ≡ p
  pub number : run.number ≡ n
  pub budget : run.budget ≡ b
  pub switch : run.switch ≡ s
  pub key : run.key ≡ k
