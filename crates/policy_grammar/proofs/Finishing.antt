-- From each state the reader can be brought to the end of a policy, also by tokens that are no operators.
use Rattle.std.proofs.Common.{◌≡◌, ◌<◌, List, [], ◌∷◌, Some, None, refl, ap, ◌∙◌, arith}
use Rattle.std.specs.Prelude.{⊤}
use Rattle.std.specs.Option.{option_and_then}
use Rattle.policy_tokens.specs.declared.token.Token.{Token}
use Rattle.policy_tokens.specs.declared.token.Token.TheVariants.{Keyword as keyword, Name as name, Number, Sign as sign}
use Rattle.policy_tokens.specs.declared.token.Keyword.TheVariants as word
use Rattle.policy_tokens.specs.declared.token.Sign.TheVariants as mark
use Rattle.policy_grammar.specs.declared.stage.Around.{Around}
use Rattle.policy_grammar.specs.declared.stage.Around.TheVariants.{Left, Not, Is, Group, First, Second}
use Rattle.policy_grammar.specs.declared.stage.Base.{Base}
use Rattle.policy_grammar.specs.declared.stage.Base.TheVariants as base
use Rattle.policy_grammar.specs.declared.stage.Shape.{Shape}
use Rattle.policy_grammar.specs.declared.stage.Shape.TheVariants as shape
use Rattle.policy_grammar.specs.declared.stage.Block.{Block}
use Rattle.policy_grammar.specs.declared.stage.Block.TheVariants as block
use Rattle.policy_grammar.specs.declared.stage.Stage.{Stage}
use Rattle.policy_grammar.specs.declared.stage.Stage.TheVariants as at
use Rattle.policy_grammar.specs.Automaton.{State, operator_in, pull, least, made, step, closed, run, end}
use Rattle.policy_grammar.proofs.Settles.{before, past, levels}
use Rattle.policy_grammar.proofs.Phrases.{Read, read_ends}
use Rattle.policy_grammar.proofs.Statements.{standing}

abbrev state : Stage → List Around → List Block → State
state p as_ bs = record { stage = p; around = as_; blocks = bs }

abbrev pub NoOperators : List Token → Type 0
NoOperators [] = ⊤
NoOperators (t ∷ ts) = (operator_in t ≡ None) × NoOperators ts

-- tokens that are no operators bring the reader from here to the end
record Finishes (s : State) : Type 0 where
  rest : List Token
  last : State
  reached : run s rest ≡ Some last
  ended : last.stage ≡ at.End
  plain : NoOperators rest

-- one token, and what brings to the end from there
on : (s n : State) (t : Token) → operator_in t ≡ None → step s t ≡ Some n → Finishes n → Finishes s
on s n t p e f = record { rest = t ∷ f.rest; last = f.last; reached = ap (option_and_then (λ m. run m f.rest)) e ∙ f.reached; ended = f.ended; plain = (p, f.plain) }

-- ---- among statements

-- closing braces, where one closes the innermost block that is open
braces : (bs : List Block) (s : State) → step s (sign mark.CloseBrace) ≡ closed bs → Finishes s
braces [] s e = on s end (sign mark.CloseBrace) refl e (record { rest = []; last = end; reached = refl; ended = refl; plain = tt })
braces (block.First ∷ bs) s e = on s (standing at.Else bs) (sign mark.CloseBrace) refl e (braces bs (standing at.Else bs) refl)
braces (block.Second ∷ bs) s e = on s (standing at.Statement bs) (sign mark.CloseBrace) refl e (braces bs (standing at.Statement bs) refl)
braces (block.Loop ∷ bs) s e = on s (standing at.Statement bs) (sign mark.CloseBrace) refl e (braces bs (standing at.Statement bs) refl)

-- ahead of a statement, behind a token
statement : (bs : List Block) (s : State) (t : Token) → operator_in t ≡ None → step s t ≡ Some (standing at.Statement bs) → Finishes s
statement bs s t p e = on s (standing at.Statement bs) t p e (braces bs (standing at.Statement bs) refl)

bound : (bs : List Block) (s : State) (t : Token) → operator_in t ≡ None → step s t ≡ Some (standing at.Bound bs) → Finishes s
bound bs s t p e = on s (standing at.Bound bs) t p e (statement (block.First ∷ bs) (standing at.Bound bs) (sign mark.OpenBrace) refl refl)

asked : (as_ : List Around) (bs : List Block) → Finishes (state at.Asked as_ bs)
asked as_ bs = on (state at.Asked as_ bs) (standing at.As bs) (keyword word.As) refl refl (bound bs (standing at.As bs) (name (97 ∷ [])) refl refl)

-- ---- behind an expression

-- the same where an expression of any shape was read, by a first token that takes nothing as its left part
record Past (b : Base) (as_ : List Around) (bs : List Block) : Type 0 where
  token : Token
  more : List Token
  last : State
  low : pull token ≡ 0
  reached : (s : Shape) → run (past b s as_ bs) (token ∷ more) ≡ Some last
  ended : last.stage ≡ at.End
  plain : NoOperators (token ∷ more)

-- what the expression belongs to ends
ends : (b : Base) (as_ : List Around) (bs : List Block) (t : Token) (n : State) → pull t ≡ 0 → operator_in t ≡ None → ((s : Shape) → step (past b s as_ bs) t ≡ Some n) → Finishes n → Past b as_ bs
ends b as_ bs t n low p e f =
    record { token = t; more = f.rest; last = f.last; low = low; reached = λ s. ap (option_and_then (λ m. run m f.rest)) (e s) ∙ f.reached; ended = f.ended; plain = (p, f.plain) }

base_ends : (b : Base) (bs : List Block) → Past b [] bs
base_ends base.If bs =
    let inside = standing at.Statement (block.First ∷ bs) in
    ends base.If [] bs (sign mark.OpenBrace) inside refl refl (λ s. refl) (braces (block.First ∷ bs) inside refl)
base_ends base.While bs =
    let inside = standing at.Statement (block.Loop ∷ bs) in
    ends base.While [] bs (sign mark.OpenBrace) inside refl refl (λ s. refl) (braces (block.Loop ∷ bs) inside refl)
base_ends base.Host bs = ends base.Host [] bs (sign mark.CloseParenthesis) (standing at.Asked bs) refl refl (λ s. refl) (asked [] bs)
base_ends base.Hop bs = ends base.Hop [] bs (sign mark.CloseParenthesis) (standing at.Asked bs) refl refl (λ s. refl) (asked [] bs)
base_ends base.Lookup bs = ends base.Lookup [] bs (sign mark.CloseBracket) (standing at.Asked bs) refl refl (λ s. refl) (asked [] bs)
base_ends b bs = ends b [] bs (sign mark.Semicolon) (standing at.Statement bs) refl refl (λ s. refl) (braces bs (standing at.Statement bs) refl)

-- what stands around the expression ends ahead of the first token
settles : (b : Base) (a : Around) (as_ : List Around) (bs : List Block) → 0 < least a → Past b as_ bs → Past b (a ∷ as_) bs
settles b a as_ bs h f =
    record { token = f.token; more = f.more; last = f.last; low = f.low; reached = λ s. ap (λ (r : Read). r.state) (read_ends b s a as_ bs f.token f.more (omega (arith, f.low, h))) ∙ f.reached (made a); ended = f.ended; plain = f.plain }

past_finishes : (b : Base) (s : Shape) (as_ : List Around) (bs : List Block) → Past b as_ bs → Finishes (past b s as_ bs)
past_finishes b s as_ bs f = record { rest = f.token ∷ f.more; last = f.last; reached = f.reached s; ended = f.ended; plain = f.plain }

-- a closing parenthesis
closes : (b : Base) (a : Around) (as_ : List Around) (bs : List Block) → ((s : Shape) → step (past b s (a ∷ as_) bs) (sign mark.CloseParenthesis) ≡ Some (past b shape.Whole as_ bs)) → Past b as_ bs
    → Past b (a ∷ as_) bs
closes b a as_ bs e f = ends b (a ∷ as_) bs (sign mark.CloseParenthesis) (past b shape.Whole as_ bs) refl refl e (past_finishes b shape.Whole as_ bs f)

around_ends : (as_ : List Around) (b : Base) (bs : List Block) → Past b as_ bs
around_ends [] b bs = base_ends b bs
around_ends (Left o ∷ as_) b bs = settles b (Left o) as_ bs (omega (arith, (levels o).right)) (around_ends as_ b bs)
around_ends (Not ∷ as_) b bs = settles b Not as_ bs (omega arith) (around_ends as_ b bs)
around_ends (Is ∷ as_) b bs = settles b Is as_ bs (omega arith) (around_ends as_ b bs)
around_ends (Group ∷ as_) b bs = closes b Group as_ bs (λ s. refl) (around_ends as_ b bs)
around_ends (First ∷ as_) b bs =
    let second = past_finishes b shape.Whole (Second ∷ as_) bs (closes b Second as_ bs (λ s. refl) (around_ends as_ b bs)) in
    ends b (First ∷ as_) bs (sign mark.Comma) (before b (Second ∷ as_) bs) refl refl (λ s. refl)
    (on (before b (Second ∷ as_) bs) (past b shape.Whole (Second ∷ as_) bs) (Number 0) refl refl second)
around_ends (Second ∷ as_) b bs = closes b Second as_ bs (λ s. refl) (around_ends as_ b bs)

behind : (b : Base) (s : Shape) (as_ : List Around) (bs : List Block) → Finishes (past b s as_ bs)
behind b s as_ bs = past_finishes b s as_ bs (around_ends as_ b bs)

ahead : (b : Base) (as_ : List Around) (bs : List Block) → Finishes (before b as_ bs)
ahead b as_ bs = on (before b as_ bs) (past b shape.Whole as_ bs) (Number 0) refl refl (behind b shape.Whole as_ bs)

-- ---- from each stage

start : (as_ : List Around) (bs : List Block) → Finishes (state at.Start as_ bs)
start as_ bs = on (state at.Start as_ bs) (standing at.Policy bs) (keyword word.Policy) refl refl (statement bs (standing at.Policy bs) (sign mark.OpenBrace) refl refl)

name_ends : (as_ : List Around) (bs : List Block) → Finishes (state at.TableName as_ bs)
name_ends as_ bs = on (state at.TableName as_ bs) (standing at.Start bs) (sign mark.Semicolon) refl refl (start [] bs)

name_given : (as_ : List Around) (bs : List Block) → Finishes (state at.LetName as_ bs)
name_given as_ bs = on (state at.LetName as_ bs) (before base.Let [] bs) (sign mark.Assign) refl refl (ahead base.Let [] bs)

finishes_at : (p : Stage) (as_ : List Around) (bs : List Block) → Finishes (state p as_ bs)
finishes_at at.Start as_ bs = start as_ bs
finishes_at at.Table as_ bs = on (state at.Table as_ bs) (standing at.TableName bs) (name (97 ∷ [])) refl refl (name_ends [] bs)
finishes_at at.TableName as_ bs = name_ends as_ bs
finishes_at at.Policy as_ bs = statement bs (state at.Policy as_ bs) (sign mark.OpenBrace) refl refl
finishes_at at.Learning as_ bs = statement bs (state at.Learning as_ bs) (sign mark.OpenBrace) refl refl
finishes_at at.Statement as_ bs = braces bs (state at.Statement as_ bs) refl
finishes_at at.Else as_ bs = braces bs (state at.Else as_ bs) refl
finishes_at at.Decided as_ bs = statement bs (state at.Decided as_ bs) (sign mark.Semicolon) refl refl
finishes_at at.Let as_ bs = on (state at.Let as_ bs) (standing at.LetName bs) (name (97 ∷ [])) refl refl (name_given [] bs)
finishes_at at.LetName as_ bs = name_given as_ bs
finishes_at at.Assigned as_ bs = on (state at.Assigned as_ bs) (before base.Assign [] bs) (sign mark.Assign) refl refl (ahead base.Assign [] bs)
finishes_at at.If as_ bs = on (state at.If as_ bs) (past base.If shape.Whole [] bs) (Number 0) refl refl (behind base.If shape.Whole [] bs)
finishes_at (at.Asks b) as_ bs = on (state (at.Asks b) as_ bs) (before b [] bs) (sign mark.OpenParenthesis) refl refl (ahead b [] bs)
finishes_at (at.Ahead b) as_ bs = ahead b as_ bs
finishes_at (at.Callee b) as_ bs = on (state (at.Callee b) as_ bs) (before b (First ∷ as_) bs) (sign mark.OpenParenthesis) refl refl (ahead b (First ∷ as_) bs)
finishes_at (at.Behind b s) as_ bs = behind b s as_ bs
finishes_at at.Asked as_ bs = asked as_ bs
finishes_at at.As as_ bs = bound bs (state at.As as_ bs) (name (97 ∷ [])) refl refl
finishes_at at.Bound as_ bs = statement (block.First ∷ bs) (state at.Bound as_ bs) (sign mark.OpenBrace) refl refl
finishes_at at.ElseBlock as_ bs = statement (block.Second ∷ bs) (state at.ElseBlock as_ bs) (sign mark.OpenBrace) refl refl
finishes_at at.End as_ bs = record { rest = []; last = state at.End as_ bs; reached = refl; ended = refl; plain = tt }

pub finishes_plainly : (s : State) → (rest : List Token) × (n : State) × (run s rest ≡ Some n) × (n.stage ≡ at.End) × NoOperators rest
finishes_plainly s = let f = finishes_at s.stage s.around s.blocks in (f.rest, f.last, f.reached, f.ended, f.plain)

pub finishes : (s : State) → (rest : List Token) × (n : State) × (run s rest ≡ Some n) × (n.stage ≡ at.End)
finishes s = let f = finishes_plainly s in (f.0, f.1, f.2, f.3)
