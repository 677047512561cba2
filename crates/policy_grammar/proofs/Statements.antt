-- The tokens of statements are read as statements, and what is read of them is what their events are.
use Rattle.std.proofs.Common.{◌≡◌, ℕ, ◌+◌, ◌≤◌, cond, true, List, [], ◌∷◌, ◌++◌, length, None, refl, sym, ap, ◌∙◌, arith, append_assoc}
use Rattle.std.specs.Prelude.{All}
use Rattle.std.proofs.lemmas.Bool.{lt-ltb}
use Rattle.std.proofs.lemmas.List.Elements.{All-head, All-tail}
use Rattle.policy_tokens.specs.declared.token.Token.{Token}
use Rattle.policy_tokens.specs.declared.token.Token.TheVariants.{Keyword as keyword, Name as name, Sign as sign}
use Rattle.policy_tokens.specs.declared.token.Keyword.TheVariants as word
use Rattle.policy_tokens.specs.declared.token.Sign.TheVariants as mark
use Rattle.policy_grammar.specs.declared.event.Event.TheVariants as event
use Rattle.policy_grammar.specs.declared.stage.Base.{Base}
use Rattle.policy_grammar.specs.declared.stage.Base.TheVariants as base
use Rattle.policy_grammar.specs.declared.stage.Block.{Block}
use Rattle.policy_grammar.specs.declared.stage.Block.TheVariants as block
use Rattle.policy_grammar.specs.declared.stage.Stage.{Stage}
use Rattle.policy_grammar.specs.declared.stage.Stage.TheVariants as at
use Rattle.maple_base.specs.Operators.{left_level}
use Rattle.policy_grammar.specs.Grammar.{Phrase, Single, Call, Pair, operator_token, phrase_tokens, is_single, IsPhrase, Question, Host, Hop, Lookup, Holds, question_tokens, IsQuestion, Action, Drop, Flood, Out, Route, Let, Assign, more_tokens, action_tokens, IsAction, Statements, Nothing, Plain, If, IfElse, While, in_braces, if_tokens, while_tokens, statements_tokens, AreStatements}
use Rattle.policy_grammar.specs.Automaton.{State, pull, to, closed}
use Rattle.policy_grammar.specs.Events.{phrase_events, question_events, phrases_events, action_events, statements_events, closed_events}
use Rattle.policy_grammar.proofs.Settles.{before, past}
use Rattle.policy_grammar.proofs.Phrases.{Read, read, onward, onto, shape_of, phrase_read}

-- a state without an expression
abbrev pub standing : Stage → List Block → State
standing p bs = record { stage = p; around = []; blocks = bs }

whole_read : (a : Phrase) (b : Base) (bs : List Block) (t : Token) (rest : List Token) → IsPhrase 0 a → pull t ≤ 0
    → read (before b [] bs) (phrase_tokens a ++ t ∷ rest) ≡ onto (phrase_events a) (read (past b (shape_of a) [] bs) (t ∷ rest))
whole_read a b bs t rest h p = phrase_read a 0 b [] bs t rest h (omega arith) p

-- the same, with what the expression stands in ahead of other tokens
front_read : (a : Phrase) (b : Base) (bs : List Block) (t : Token) (ts rest : List Token) → IsPhrase 0 a → pull t ≤ 0
    → read (before b [] bs) ((phrase_tokens a ++ t ∷ ts) ++ rest) ≡ onto (phrase_events a) (read (past b (shape_of a) [] bs) (t ∷ (ts ++ rest)))
front_read a b bs t ts rest h p = ap (read (before b [] bs)) (append_assoc (phrase_tokens a) (t ∷ ts) rest) ∙ whole_read a b bs t (ts ++ rest) h p

-- ---- what an `if` asks

if_single : (t : Token) (bs : List Block) (rest : List Token) → is_single t ≡ true → read (standing at.If bs) (t ∷ rest) ≡ read (before base.If [] bs) (t ∷ rest)
if_single t bs rest h = grind arith

-- no expression begins with `host` or `hop`
if_phrase : (a : Phrase) (k : ℕ) (bs : List Block) (rest : List Token) → IsPhrase k a → read (standing at.If bs) (phrase_tokens a ++ rest) ≡ read (before base.If [] bs) (phrase_tokens a ++ rest)
if_phrase (Single t) k bs rest h = if_single t bs rest h
if_phrase (Call c x y) k bs rest h = grind arith
if_phrase (Pair o x y) k bs rest h =
    let behind = operator_token o ∷ phrase_tokens y in
    ap (read (standing at.If bs)) (append_assoc (phrase_tokens x) behind rest)
    ∙ if_phrase x (left_level o) bs (behind ++ rest) h.1
    ∙ ap (read (before base.If [] bs)) (sym (append_assoc (phrase_tokens x) behind rest))
if_phrase a k bs rest h = refl

question_read : (q : Question) (bs : List Block) (rest : List Token) → IsQuestion q
    → read (standing at.If bs) (question_tokens q ++ sign mark.OpenBrace ∷ rest) ≡ onto (question_events q) (onto (event.Open ∷ []) (read (standing at.Statement (block.First ∷ bs)) rest))
question_read (Host a x) bs rest h =
    ap (onto (event.Begin ∷ [])) (front_read a base.Host bs (sign mark.CloseParenthesis) (keyword word.As ∷ name x ∷ []) (sign mark.OpenBrace ∷ rest) h (omega arith)) ∙ simp append_assoc
question_read (Hop a x) bs rest h =
    ap (onto (event.Begin ∷ [])) (front_read a base.Hop bs (sign mark.CloseParenthesis) (keyword word.As ∷ name x ∷ []) (sign mark.OpenBrace ∷ rest) h (omega arith)) ∙ simp append_assoc
question_read (Lookup t a x) bs rest h =
    ap (onto (event.Single (name t) ∷ event.Index ∷ [])) (front_read a base.Lookup bs (sign mark.CloseBracket) (keyword word.As ∷ name x ∷ []) (sign mark.OpenBrace ∷ rest) h (omega arith))
    ∙ simp append_assoc
question_read (Holds a) bs rest h =
    if_phrase a 0 bs (sign mark.OpenBrace ∷ rest) h ∙ whole_read a base.If bs (sign mark.OpenBrace) rest h (omega arith) ∙ simp append_assoc

-- ---- statements without a block

-- the expressions of an `out`, of which n stand ahead
outs_read : (a : Phrase) (more : List Phrase) (n : ℕ) (bs : List Block) (rest : List Token) → IsPhrase 0 a → All (IsPhrase 0) more → n + length more ≤ 15
    → read (before (base.Out n) [] bs) (phrase_tokens a ++ (more_tokens more ++ sign mark.Semicolon ∷ rest))
    ≡ onto (phrase_events a) (onto (phrases_events more) (onto (event.Out (n + length more + 1) ∷ []) (read (standing at.Statement bs) rest)))
outs_read a [] n bs rest h all few =
    let same : n + 1 ≡ n + 0 + 1 = omega arith in
    whole_read a (base.Out n) bs (sign mark.Semicolon) rest h (omega arith) ∙ ap (λ m. onto (phrase_events a) (onto (event.Out m ∷ []) (read (standing at.Statement bs) rest))) same
outs_read a (x ∷ xs) n bs rest h all few =
    let end = sign mark.Semicolon ∷ rest in
    let ts = phrase_tokens x ++ more_tokens xs ++ end in
    let same : n + 1 + length xs + 1 ≡ n + length (x ∷ xs) + 1 = omega arith in
    whole_read a (base.Out n) bs (sign mark.Comma) ts h (omega arith)
    ∙ ap (λ v. onto (phrase_events a) (onward (cond v (to (at.Ahead (base.Out (n + 1))) bs) None) ts)) (lt-ltb n 15 (omega (arith, few)))
    ∙ ap (λ us. onto (phrase_events a) (read (before (base.Out (n + 1)) [] bs) us)) (append_assoc (phrase_tokens x) (more_tokens xs) end)
    ∙ ap (onto (phrase_events a)) (outs_read x xs (n + 1) bs rest (All-head (IsPhrase 0) x xs all) (All-tail (IsPhrase 0) x xs all) (omega (arith, few)))
    ∙ ap (λ m. onto (phrase_events a) (onto (phrase_events x) (onto (phrases_events xs) (onto (event.Out m ∷ []) (read (standing at.Statement bs) rest))))) same
    ∙ simp append_assoc

action_read : (s : Action) (bs : List Block) (rest : List Token) → IsAction s
    → read (standing at.Statement bs) (action_tokens s ++ rest) ≡ onto (event.Begin ∷ action_events s) (read (standing at.Statement bs) rest)
action_read Drop bs rest h = refl
action_read Flood bs rest h = refl
action_read (Out a more) bs rest h =
    let close = sign mark.Semicolon ∷ [] in
    let same : 0 + length more + 1 ≡ length more + 1 = omega arith in
    ap (λ ts. onto (event.Begin ∷ []) (read (before (base.Out 0) [] bs) ts))
    (append_assoc (phrase_tokens a) (more_tokens more ++ close) rest ∙ ap (λ ts. phrase_tokens a ++ ts) (append_assoc (more_tokens more) close rest))
    ∙ ap (onto (event.Begin ∷ [])) (outs_read a more 0 bs rest h.0 h.1 (omega (arith, h.2)))
    ∙ ap (λ m. onto (event.Begin ∷ phrase_events a) (onto (phrases_events more) (onto (event.Out m ∷ []) (read (standing at.Statement bs) rest)))) same
    ∙ simp append_assoc
action_read (Route a) bs rest h = ap (onto (event.Begin ∷ [])) (front_read a base.Route bs (sign mark.Semicolon) [] rest h (omega arith)) ∙ simp append_assoc
action_read (Let x a) bs rest h = ap (onto (event.Begin ∷ event.Name x ∷ [])) (front_read a base.Let bs (sign mark.Semicolon) [] rest h (omega arith)) ∙ simp append_assoc
action_read (Assign x a) bs rest h = ap (onto (event.Begin ∷ event.Name x ∷ [])) (front_read a base.Assign bs (sign mark.Semicolon) [] rest h (omega arith)) ∙ simp append_assoc

-- ---- statements with blocks

if_opens : (q : Question) (first : List Token) (bs : List Block) (rest : List Token) → IsQuestion q
    → read (standing at.Statement bs) (if_tokens q first ++ rest)
    ≡ onto (event.Begin ∷ question_events q) (onto (event.Open ∷ []) (read (standing at.Statement (block.First ∷ bs)) (first ++ sign mark.CloseBrace ∷ rest)))
if_opens q first bs rest h =
    let close = sign mark.CloseBrace ∷ [] in
    ap (λ ts. onto (event.Begin ∷ []) (read (standing at.If bs) ts)) (append_assoc (question_tokens q) (in_braces first) rest)
    ∙ ap (onto (event.Begin ∷ [])) (question_read q bs ((first ++ close) ++ rest) h)
    ∙ ap (λ ts. onto (event.Begin ∷ question_events q) (onto (event.Open ∷ []) (read (standing at.Statement (block.First ∷ bs)) ts))) (append_assoc first close rest)

while_opens : (a : Phrase) (body : List Token) (bs : List Block) (rest : List Token) → IsPhrase 0 a
    → read (standing at.Statement bs) (while_tokens a body ++ rest)
    ≡ onto (event.Begin ∷ phrase_events a) (onto (event.Open ∷ []) (read (standing at.Statement (block.Loop ∷ bs)) (body ++ sign mark.CloseBrace ∷ rest)))
while_opens a body bs rest h =
    let close = sign mark.CloseBrace ∷ [] in
    ap (onto (event.Begin ∷ [])) (front_read a base.While bs (sign mark.OpenBrace) (body ++ close) rest h (omega arith))
    ∙ ap (λ ts. onto (event.Begin ∷ phrase_events a) (onto (event.Open ∷ []) (read (standing at.Statement (block.Loop ∷ bs)) ts))) (append_assoc body close rest)

-- no statement begins with `else`: an `if` without one ends ahead of each
if_ended : (ss : Statements) (bs : List Block) (rest : List Token)
    → read (standing at.Else bs) (statements_tokens ss ++ sign mark.CloseBrace ∷ rest) ≡ onto (event.If ∷ []) (read (standing at.Statement bs) (statements_tokens ss ++ sign mark.CloseBrace ∷ rest))
if_ended (Plain s ss) bs rest = grind arith
if_ended ss bs rest = refl

-- statements up to the brace that closes their block
pub statements_read : (ss : Statements) (bs : List Block) (rest : List Token) → AreStatements ss
    → read (standing at.Statement bs) (statements_tokens ss ++ sign mark.CloseBrace ∷ rest)
    ≡ onto (statements_events ss) (onto (closed_events bs) (onward (closed bs) rest))
statements_read Nothing bs rest h = refl
statements_read (Plain s ss) bs rest h =
    let end = sign mark.CloseBrace ∷ rest in
    ap (read (standing at.Statement bs)) (append_assoc (action_tokens s) (statements_tokens ss) end)
    ∙ action_read s bs (statements_tokens ss ++ end) h.0
    ∙ ap (onto (event.Begin ∷ action_events s)) (statements_read ss bs rest h.1)
    ∙ simp append_assoc
statements_read (If q first ss) bs rest h =
    let end = sign mark.CloseBrace ∷ rest in
    let more = statements_tokens ss ++ end in
    let begun : Read → Read = λ r. onto (event.Begin ∷ question_events q) (onto (event.Open ∷ []) r) in
    let within : Read → Read = λ r. begun (onto (statements_events first) (onto (event.Close ∷ []) r)) in
    ap (read (standing at.Statement bs)) (append_assoc (if_tokens q (statements_tokens first)) (statements_tokens ss) end)
    ∙ if_opens q (statements_tokens first) bs more h.0
    ∙ ap begun (statements_read first (block.First ∷ bs) more h.1)
    ∙ ap within (if_ended ss bs rest)
    ∙ ap (λ r. within (onto (event.If ∷ []) r)) (statements_read ss bs rest h.2)
    ∙ simp append_assoc
statements_read (IfElse q first second ss) bs rest h =
    let end = sign mark.CloseBrace ∷ rest in
    let more = statements_tokens ss ++ end in
    let head = if_tokens q (statements_tokens first) in
    let other = keyword word.Else ∷ in_braces (statements_tokens second) in
    let begun : Read → Read = λ r. onto (event.Begin ∷ question_events q) (onto (event.Open ∷ []) r) in
    let within : Read → Read = λ r. begun (onto (statements_events first) (onto (event.Close ∷ event.Open ∷ []) r)) in
    ap (read (standing at.Statement bs)) (append_assoc (head ++ other) (statements_tokens ss) end ∙ append_assoc head other more)
    ∙ if_opens q (statements_tokens first) bs (other ++ more) h.0
    ∙ ap begun (statements_read first (block.First ∷ bs) (other ++ more) h.1)
    ∙ ap (λ ts. within (read (standing at.Statement (block.Second ∷ bs)) ts)) (append_assoc (statements_tokens second) (sign mark.CloseBrace ∷ []) more)
    ∙ ap within (statements_read second (block.Second ∷ bs) more h.2)
    ∙ ap (λ r. within (onto (statements_events second) (onto (event.Close ∷ event.IfElse ∷ []) r))) (statements_read ss bs rest h.3)
    ∙ simp append_assoc
statements_read (While a body ss) bs rest h =
    let end = sign mark.CloseBrace ∷ rest in
    let more = statements_tokens ss ++ end in
    let begun : Read → Read = λ r. onto (event.Begin ∷ phrase_events a) (onto (event.Open ∷ []) r) in
    ap (read (standing at.Statement bs)) (append_assoc (while_tokens a (statements_tokens body)) (statements_tokens ss) end)
    ∙ while_opens a (statements_tokens body) bs more h.0
    ∙ ap begun (statements_read body (block.Loop ∷ bs) more h.1)
    ∙ ap (λ r. begun (onto (statements_events body) (onto (event.Close ∷ event.While ∷ []) r))) (statements_read ss bs rest h.2)
    ∙ simp append_assoc
