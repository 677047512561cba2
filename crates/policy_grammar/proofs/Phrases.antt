-- An expression's tokens are read as an expression of its shape, and what is read of them is what its events are.
use Rattle.std.proofs.Common.{◌≡◌, ℕ, ◌<◌, ◌≤◌, cond, true, List, [], ◌∷◌, ◌++◌, Option, None, refl, ap, ◌∙◌, arith, append_assoc}
use Rattle.std.specs.Option.{option_and_then}
use Rattle.std.proofs.lemmas.Bool.{lt-ltb, le-ltb, le-leb}
use Rattle.maple_base.specs.declared.key.Field.{Field}
use Rattle.policy_tokens.specs.declared.token.Token.{Token}
use Rattle.policy_tokens.specs.declared.token.Token.TheVariants.{Keyword as keyword, Name as name, Field as field, Sign as sign}
use Rattle.policy_tokens.specs.declared.token.Keyword.TheVariants as word
use Rattle.policy_tokens.specs.declared.token.Sign.TheVariants as mark
use Rattle.maple_base.specs.declared.operator.Operator.{Operator}
use Rattle.policy_grammar.specs.declared.event.Event.{Event}
use Rattle.policy_grammar.specs.declared.event.Event.TheVariants as event
use Rattle.policy_grammar.specs.declared.stage.Around.{Around}
use Rattle.policy_grammar.specs.declared.stage.Around.TheVariants as around
use Rattle.policy_grammar.specs.declared.stage.Base.{Base}
use Rattle.policy_grammar.specs.declared.stage.Shape.{Shape}
use Rattle.policy_grammar.specs.declared.stage.Shape.TheVariants as shape
use Rattle.policy_grammar.specs.declared.stage.Block.{Block}
use Rattle.policy_grammar.specs.declared.stage.Stage.TheVariants as at
use Rattle.maple_base.specs.Operators.{level_of, left_level, right_level}
use Rattle.policy_grammar.specs.Grammar.{Phrase, Callee, Single, Call, Group, Negation, Test, Pair, callee_token, operator_token, phrase_tokens, is_single, IsPhrase}
use Rattle.policy_grammar.specs.Automaton.{State, Settled, pull, least, least_in, made, settle, shape_level, within, behind, behind_operator, run}
use Rattle.policy_grammar.specs.Events.{callee_event, phrase_events, ended, endings, behind_events, events_onto, trace}
use Rattle.policy_grammar.proofs.Settles.{before, past, settle_stays, settle_ends, pull_gap, pull_operator, levels}

-- ---- what is read of tokens, and where the reader stands then

pub record Read : Type 0 where
  pub events : List Event
  pub state : Option State

abbrev pub read : State → List Token → Read
read s ts = record { events = trace s ts; state = run s ts }

-- the same from the state behind a token, if there is one
abbrev pub onward : Option State → List Token → Read
onward o ts = record { events = events_onto o (λ n. trace n ts); state = option_and_then (λ n. run n ts) o }

-- behind what was read before
abbrev pub onto : List Event → Read → Read
onto es r = record { events = es ++ r.events; state = r.state }

-- ---- shapes

abbrev pub single_shape : Token → Shape
single_shape (name x) = shape.Name
single_shape (field f) = shape.Field
single_shape t = shape.Whole

-- what a reader knows of an expression that it has read
abbrev pub shape_of : Phrase → Shape
shape_of (Single t) = single_shape t
shape_of (Call c a b) = shape.Whole
shape_of (Group a) = shape.Whole
shape_of (Negation a) = shape.Negation
shape_of (Test f a) = shape.Test
shape_of (Pair o a b) = shape.Pair o

single_level : (t : Token) → shape_level (single_shape t) ≡ 5
single_level t = grind arith

-- an expression of a level has a shape of it
pub shape_of_level : (k : ℕ) (a : Phrase) → k ≤ 5 → IsPhrase k a → k ≤ shape_level (shape_of a)
shape_of_level k a le h = grind (arith, single_level)

-- ---- what ends ahead of a token

endings_none : (n : ℕ) (as_ : List Around) → least_in as_ ≤ n → endings n as_ ≡ []
endings_none n [] h = refl
endings_none n (a ∷ as_) h = ap (λ v. cond v (ended a ∷ endings n as_) []) (le-ltb n (least a) h)

-- an expression that ends ahead of the next token
pub read_ends : (b : Base) (s : Shape) (a : Around) (as_ : List Around) (bs : List Block) (t : Token) (rest : List Token) → pull t < least a
    → read (past b s (a ∷ as_) bs) (t ∷ rest) ≡ onto (ended a ∷ []) (read (past b (made a) as_ bs) (t ∷ rest))
read_ends b s a as_ bs t rest h =
    let next : List Event → Settled → Read = λ es x. onto (es ++ behind_events b x.around t) (onward (behind b x bs t) rest) in
    ap (λ v. next (cond v (ended a ∷ endings (pull t) as_) []) (settle (pull t) (a ∷ as_) s)) (lt-ltb (pull t) (least a) h)
    ∙ ap (next (ended a ∷ endings (pull t) as_)) (settle_ends (pull t) a as_ s h)

-- nothing ends ahead of it
read_stays : (b : Base) (s : Shape) (as_ : List Around) (bs : List Block) (t : Token) (rest : List Token) → least_in as_ ≤ pull t
    → read (past b s as_ bs) (t ∷ rest) ≡ onto (behind_events b as_ t) (onward (behind b (record { around = as_; shape = s }) bs t) rest)
read_stays b s as_ bs t rest h =
    let next : List Event → Settled → Read = λ es x. onto (es ++ behind_events b x.around t) (onward (behind b x bs t) rest) in
    ap (λ es. next es (settle (pull t) as_ s)) (endings_none (pull t) as_ h) ∙ ap (next []) (settle_stays (pull t) as_ s h)

-- an operator is read as an operator
pub at_operator : (o : Operator) (b : Base) (s : Settled) (bs : List Block)
    → (behind_events b s.around (operator_token o) ≡ event.Operator o ∷ []) × (behind b s bs (operator_token o) ≡ behind_operator b s.around s.shape bs o)
at_operator o b s bs = (grind arith, grind arith)

-- an operator behind its left part
operator_read : (o : Operator) (b : Base) (s : Shape) (as_ : List Around) (bs : List Block) (rest : List Token) → least_in as_ ≤ level_of o → left_level o ≤ shape_level s
    → read (past b s as_ bs) (operator_token o ∷ rest) ≡ onto (event.Operator o ∷ []) (read (before b (around.Left o ∷ as_) bs) rest)
operator_read o b s as_ bs rest h l =
    let settled : Settled = record { around = as_; shape = s } in
    let one = event.Operator o ∷ [] in
    read_stays b s as_ bs (operator_token o) rest (omega (arith, h, pull_operator o))
    ∙ ap (λ es. onto es (onward (behind b settled bs (operator_token o)) rest)) (at_operator o b settled bs).0
    ∙ ap (λ x. onto one (onward x rest)) (at_operator o b settled bs).1
    ∙ ap (λ v. onto one (onward (cond v (within (at.Ahead b) (around.Left o ∷ as_) bs) None) rest)) (le-leb (left_level o) (shape_level s) l)

-- ---- the first tokens

single_read : (t : Token) (b : Base) (as_ : List Around) (bs : List Block) (rest : List Token) → is_single t ≡ true
    → read (before b as_ bs) (t ∷ rest) ≡ onto (event.Single t ∷ []) (read (past b (single_shape t) as_ bs) rest)
single_read t b as_ bs rest h = grind arith

callee_read : (c : Callee) (b : Base) (as_ : List Around) (bs : List Block) (rest : List Token)
    → read (before b as_ bs) (callee_token c ∷ sign mark.OpenParenthesis ∷ rest) ≡ onto (callee_event c ∷ []) (read (before b (around.First ∷ as_) bs) rest)
callee_read c b as_ bs rest = grind arith

not_read : (b : Base) (as_ : List Around) (bs : List Block) (rest : List Token) → least_in as_ ≤ 2
    → read (before b as_ bs) (keyword word.Not ∷ rest) ≡ onto (event.Not ∷ []) (read (before b (around.Not ∷ as_) bs) rest)
not_read b as_ bs rest h = ap (λ v. onto (event.Not ∷ []) (onward (cond v (within (at.Ahead b) (around.Not ∷ as_) bs) None) rest)) (le-leb (least_in as_) 2 h)

is_read : (b : Base) (f : Field) (as_ : List Around) (bs : List Block) (rest : List Token) → least_in as_ ≤ 3
    → read (before b as_ bs) (field f ∷ keyword word.Is ∷ rest) ≡ onto (event.Single (field f) ∷ event.Is ∷ []) (read (before b (around.Is ∷ as_) bs) rest)
is_read b f as_ bs rest h =
    ap (onto (event.Single (field f) ∷ [])) (read_stays b shape.Field as_ bs (keyword word.Is) rest (omega arith))
    ∙ ap (λ v. onto (event.Single (field f) ∷ event.Is ∷ []) (onward (cond v (within (at.Ahead b) (around.Is ∷ as_) bs) None) rest)) (le-leb (least_in as_) 3 h)

-- an expression where one of a level is asked, ahead of a token that takes nothing of a higher level
pub phrase_read : (a : Phrase) (k : ℕ) (b : Base) (as_ : List Around) (bs : List Block) (t : Token) (rest : List Token) → IsPhrase k a → least_in as_ ≤ k → pull t ≤ k
    → read (before b as_ bs) (phrase_tokens a ++ t ∷ rest) ≡ onto (phrase_events a) (read (past b (shape_of a) as_ bs) (t ∷ rest))
phrase_read (Single u) k b as_ bs t rest h l p = single_read u b as_ bs (t ∷ rest) h
phrase_read (Call c x y) k b as_ bs t rest h l p =
    let close = sign mark.CloseParenthesis ∷ [] in
    let second = phrase_tokens y ++ close in
    let next = t ∷ rest in
    let start = callee_event c in
    ap (λ ts. read (before b as_ bs) (callee_token c ∷ sign mark.OpenParenthesis ∷ ts)) (append_assoc (phrase_tokens x) (sign mark.Comma ∷ second) next)
    ∙ callee_read c b as_ bs (phrase_tokens x ++ sign mark.Comma ∷ (second ++ next))
    ∙ ap (onto (start ∷ [])) (phrase_read x 0 b (around.First ∷ as_) bs (sign mark.Comma) (second ++ next) h.0 (omega arith) (omega arith))
    ∙ ap (λ ts. onto (start ∷ phrase_events x) (read (before b (around.Second ∷ as_) bs) ts)) (append_assoc (phrase_tokens y) close next)
    ∙ ap (onto (start ∷ phrase_events x)) (phrase_read y 0 b (around.Second ∷ as_) bs (sign mark.CloseParenthesis) next h.1 (omega arith) (omega arith))
    ∙ simp append_assoc
phrase_read (Group x) k b as_ bs t rest h l p =
    ap (λ ts. onto (event.Group ∷ []) (read (before b (around.Group ∷ as_) bs) ts)) (append_assoc (phrase_tokens x) (sign mark.CloseParenthesis ∷ []) (t ∷ rest))
    ∙ ap (onto (event.Group ∷ [])) (phrase_read x 0 b (around.Group ∷ as_) bs (sign mark.CloseParenthesis) (t ∷ rest) h (omega arith) (omega arith))
    ∙ simp append_assoc
phrase_read (Negation x) k b as_ bs t rest h l p =
    let least : k ≤ 2 = h.0 in
    not_read b as_ bs (phrase_tokens x ++ t ∷ rest) (omega arith)
    ∙ ap (onto (event.Not ∷ [])) (phrase_read x 2 b (around.Not ∷ as_) bs t rest h.1 (omega arith) (omega arith))
    ∙ ap (onto (event.Not ∷ phrase_events x)) (read_ends b (shape_of x) around.Not as_ bs t rest (pull_gap t (omega arith)))
    ∙ simp append_assoc
phrase_read (Test f x) k b as_ bs t rest h l p =
    let least : k ≤ 3 = h.0 in
    is_read b f as_ bs (phrase_tokens x ++ t ∷ rest) (omega arith)
    ∙ ap (onto (event.Single (field f) ∷ event.Is ∷ [])) (phrase_read x 4 b (around.Is ∷ as_) bs t rest h.1 (omega arith) (omega arith))
    ∙ ap (onto (event.Single (field f) ∷ event.Is ∷ phrase_events x)) (read_ends b (shape_of x) around.Is as_ bs t rest (omega arith))
    ∙ simp append_assoc
phrase_read (Pair o x y) k b as_ bs t rest h l p =
    let least : k ≤ level_of o = h.0 in
    let lv = levels o in
    let pulls : pull (operator_token o) ≤ left_level o = omega (arith, pull_operator o, lv.left) in
    ap (read (before b as_ bs)) (append_assoc (phrase_tokens x) (operator_token o ∷ phrase_tokens y) (t ∷ rest))
    ∙ phrase_read x (left_level o) b as_ bs (operator_token o) (phrase_tokens y ++ t ∷ rest) h.1 (omega (arith, lv.left)) pulls
    ∙ ap (onto (phrase_events x)) (operator_read o b (shape_of x) as_ bs (phrase_tokens y ++ t ∷ rest) (omega arith) (shape_of_level (left_level o) x lv.left_most h.1))
    ∙ ap (λ r. onto (phrase_events x) (onto (event.Operator o ∷ []) r)) (phrase_read y (right_level o) b (around.Left o ∷ as_) bs t rest h.2 (omega arith) (omega (arith, lv.right)))
    ∙ ap (λ r. onto (phrase_events x) (onto (event.Operator o ∷ phrase_events y) r)) (read_ends b (shape_of y) (around.Left o) as_ bs t rest (omega (arith, lv.right)))
    ∙ simp append_assoc
