-- The answers that an asker gave lead from a tree's root to its end.
use Rattle.std.specs.Prelude.{◌≡◌, ℕ, Bool}
use Rattle.maple_base.specs.declared.key.Field.{Field}
use Rattle.maple_base.specs.declared.cells.Cell.{Cell}
use Rattle.maple_base.specs.declared.cells.Value.{Value}
use Rattle.policy_meaning.specs.Asking.{Asking, Done, AsksField, AsksTest, AsksCell}

-- a question with its answer
pub data Answer : Type 0 where
  FieldIs : Field → ℕ → Answer
  TestIs : Field → ℕ → Bool → Answer
  CellIs : Cell → Value → Answer

-- an asker's state changes by an answer
abbrev pub Saying : Type 0 → Type 1
Saying S = S → Answer → S → Type 0

-- from this state the asker gave an answer, and what follows it holds from the state behind
pub record Said {S V : Type 0} (said : Saying S) (s : S) (answer : V → Answer) (rest : V → S → Type 0) : Type 0 where
  pub value : V
  pub behind : S
  pub told : said s (answer value) behind
  pub onward : rest value behind

-- from one state to the other, the answers that the asker gave, each to the question that the tree asks behind those before, lead to this end
abbrev pub Leads : {S A : Type 0} → Saying S → S → Asking A → S → A → Type 0
Leads said s (Done a) t e = (s ≡ t) × (a ≡ e)
Leads said s (AsksField f by) t e = Said said s (FieldIs f) (λ v u. Leads said u (by v) t e)
Leads said s (AsksTest f v by) t e = Said said s (TestIs f v) (λ b u. Leads said u (by b) t e)
Leads said s (AsksCell c by) t e = Said said s (CellIs c) (λ v u. Leads said u (by v) t e)
