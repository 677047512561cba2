-- What ends ahead of a token, and what a reader does behind an expression.
use Rattle.std.proofs.Common.{◌≡◌, ℕ, ◌<◌, ◌≤◌, cond, Bool, List, [], ◌∷◌, Option, refl, ap, arith}
use Rattle.std.proofs.lemmas.Bool.{lt-ltb, le-ltb}
use Rattle.policy_tokens.specs.declared.token.Token.{Token}
use Rattle.policy_tokens.specs.declared.token.Keyword.TheVariants as word
use Rattle.policy_tokens.specs.declared.token.Sign.TheVariants as mark
use Rattle.maple_base.specs.declared.operator.Operator.{Operator}
use Rattle.policy_grammar.specs.declared.stage.Around.{Around}
use Rattle.policy_grammar.specs.declared.stage.Base.{Base}
use Rattle.policy_grammar.specs.declared.stage.Shape.{Shape}
use Rattle.policy_grammar.specs.declared.stage.Block.{Block}
use Rattle.policy_grammar.specs.declared.stage.Stage.TheVariants as at
use Rattle.maple_base.specs.Operators.{level_of, left_level, right_level}
use Rattle.policy_grammar.specs.Grammar.{operator_token}
use Rattle.policy_grammar.specs.Automaton.{State, is_keyword, is_sign, operator_in, pull_of, pull, least, least_in, made, settle}

-- a state ahead of an expression, and one behind it
abbrev pub before : Base → List Around → List Block → State
before b as_ bs = record { stage = at.Ahead b; around = as_; blocks = bs }

abbrev pub past : Base → Shape → List Around → List Block → State
past b s as_ bs = record { stage = at.Behind b s; around = as_; blocks = bs }

pub settle_stays : (n : ℕ) (as_ : List Around) (s : Shape) → least_in as_ ≤ n → settle n as_ s ≡ record { around = as_; shape = s }
settle_stays n [] s h = refl
settle_stays n (a ∷ as_) s h = ap (λ v. cond v (settle n as_ (made a)) (record { around = a ∷ as_; shape = s })) (le-ltb n (least a) h)

pub settle_ends : (n : ℕ) (a : Around) (as_ : List Around) (s : Shape) → n < least a → settle n (a ∷ as_) s ≡ settle n as_ (made a)
settle_ends n a as_ s h = ap (λ v. cond v (settle n as_ (made a)) (record { around = a ∷ as_; shape = s })) (lt-ltb n (least a) h)

-- no operator is of the level of a negation
pull_of_gap : (o : Option Operator) → pull_of o ≤ 2 → pull_of o < 2
pull_of_gap o h = grind arith

tight_gap : (u v : Bool) (o : Option Operator) → cond u 5 (cond v 5 (pull_of o)) ≤ 2 → cond u 5 (cond v 5 (pull_of o)) < 2
tight_gap u v o h = grind (arith, pull_of_gap o)

pub pull_gap : (t : Token) → pull t ≤ 2 → pull t < 2
pull_gap t h = tight_gap (is_keyword word.Is t) (is_sign mark.OpenBracket t) (operator_in t) h

-- ---- operators

pub pull_operator : (o : Operator) → pull (operator_token o) ≡ level_of o
pull_operator o = grind arith

-- how the levels of an operator and its parts lie
pub record Levels (o : Operator) : Type 0 where
  pub left : level_of o ≤ left_level o
  pub right : level_of o < right_level o
  pub left_most : left_level o ≤ 5
  pub right_most : right_level o ≤ 5

pub levels : (o : Operator) → Levels o
levels o = record { left = grind arith; right = grind arith; left_most = grind arith; right_most = grind arith }
