-- A run as a tree of questions: it is done, or asks, and goes on by the answer.
use Rattle.std.specs.Prelude.{ℕ, zero, suc, Bool}
use Rattle.maple_base.specs.declared.key.Field.{Field}
use Rattle.maple_base.specs.declared.cells.Cell.{Cell}
use Rattle.maple_base.specs.declared.cells.Value.{Value}
use Rattle.maple_base.specs.declared.decision.Outcome.{Outcome}
use Rattle.maple_base.specs.declared.decision.Outcome.TheVariants.{Spent}

-- it asks the packet for a field, or whether a field has a value, and the environment what a cell has
pub data Asking (A : Type 0) : Type 0 where
  Done : A → Asking A
  AsksField : Field → (ℕ → Asking A) → Asking A
  AsksTest : Field → ℕ → (Bool → Asking A) → Asking A
  AsksCell : Cell → (Value → Asking A) → Asking A

-- how a part of a run ends: it goes on with a value, or the run ends with an outcome
pub data End (A : Type 0) : Type 0 where
  Goes : A → End A
  Ends : Outcome → End A

-- a part of a run
abbrev pub Run : Type 0 → Type 0
Run A = Asking (End A)

abbrev pub gives : {A : Type 0} → A → Run A
gives a = Done (Goes a)

abbrev pub ends : {A : Type 0} → Outcome → Run A
ends o = Done (Ends o)

abbrev pub onward : {A B : Type 0} → End A → (A → Run B) → Run B
onward (Goes a) next = next a
onward (Ends o) next = Done (Ends o)

infixl 10 ◌>>=◌
-- one part after the other, where the first did not end the run
abbrev pub ◌>>=◌ : {A B : Type 0} → Run A → (A → Run B) → Run B
◌>>=◌ (Done e) next = onward e next
◌>>=◌ (AsksField f by) next = AsksField f (λ v. ◌>>=◌ (by v) next)
◌>>=◌ (AsksTest f v by) next = AsksTest f v (λ b. ◌>>=◌ (by b) next)
◌>>=◌ (AsksCell c by) next = AsksCell c (λ v. ◌>>=◌ (by v) next)

-- the answer to a question is what a part gives
abbrev pub field : Field → Run ℕ
field f = AsksField f (λ v. gives v)

abbrev pub test : Field → ℕ → Run Bool
test f v = AsksTest f v (λ b. gives b)

abbrev pub cell : Cell → Run Value
cell c = AsksCell c (λ v. gives v)

-- counts a step, and gives how many are left; the run ends where none was
abbrev pub count : ℕ → Run ℕ
count zero = ends Spent
count (suc left) = gives left

-- a whole run: where no part ends it, it has this outcome
abbrev pub concluded : {A : Type 0} → Outcome → End A → Outcome
concluded o (Goes a) = o
concluded o (Ends p) = p

abbrev pub whole : {A : Type 0} → Outcome → Run A → Asking Outcome
whole o (Done e) = Done (concluded o e)
whole o (AsksField f by) = AsksField f (λ v. whole o (by v))
whole o (AsksTest f v by) = AsksTest f v (λ b. whole o (by b))
whole o (AsksCell c by) = AsksCell c (λ v. whole o (by v))
