-- What is counted of the tokens of a file is what the file's counts are.
use Rattle.std.proofs.Common.{◌≡◌, ℕ, suc, ◌-◌, ◌<◌, ◌≤◌, cond, true, List, [], ◌∷◌, ◌++◌, length, Option, None, refl, ap, ◌∙◌, arith, append_assoc, length-append, ◌+◌, sym, append-nil, Bool, false}
use Rattle.std.specs.Prelude.{All}
use Rattle.std.proofs.lemmas.Bool.{lt-ltb, le-ltb, le-leb}
use Rattle.maple_base.specs.declared.key.Field.{Field}
use Rattle.policy_tokens.specs.declared.token.Token.{Token}
use Rattle.policy_tokens.specs.declared.token.Token.TheVariants.{Keyword as keyword, Name as name, Field as field, PacketSwitch, SwitchOf, PortOf, Number, Sign as sign}
use Rattle.policy_tokens.specs.declared.token.Keyword.TheVariants as word
use Rattle.policy_tokens.specs.declared.token.Sign.TheVariants as mark
use Rattle.maple_base.specs.declared.operator.Operator.{Operator}
use Rattle.policy_grammar.specs.declared.event.Event.{Event}
use Rattle.policy_grammar.specs.declared.event.Event.TheVariants as event
use Rattle.policy_grammar.specs.declared.stage.Around.{Around}
use Rattle.policy_grammar.specs.declared.stage.Around.TheVariants as around
use Rattle.policy_grammar.specs.declared.stage.Base.{Base}
use Rattle.policy_grammar.specs.declared.stage.Shape.{Shape}
use Rattle.policy_grammar.specs.declared.stage.Shape.TheVariants as shape
use Rattle.policy_grammar.specs.declared.stage.Block.{Block}
use Rattle.policy_grammar.specs.declared.stage.Stage.TheVariants as at
use Rattle.maple_base.specs.Operators.{level_of, left_level, right_level}
use Rattle.policy_grammar.specs.Grammar.{Phrase, Callee, Up, At, Single, Call, Group, Negation, Test, Pair, callee_token, operator_token, phrase_tokens, is_single, IsPhrase, Question, Host, Hop, Lookup, Holds, question_tokens, IsQuestion, Action}
use Rattle.policy_grammar.specs.Grammar.{Drop, Flood, Out, Route, Let, Assign, more_tokens, action_tokens, IsAction, Statements, Nothing, Plain, If, IfElse, While, in_braces, if_tokens, while_tokens, statements_tokens, AreStatements, File, tables_tokens, learning_tokens, file_tokens}
use Rattle.policy_grammar.specs.Automaton.{State, Settled, pull, least, least_in, made, settle, shape_level, within, behind, to, start}
use Rattle.policy_grammar.specs.Events.{ended, endings, behind_events}
use Rattle.policy_grammar.proofs.Settles.{before, past, settle_stays, settle_ends, pull_gap, pull_operator, levels}
use Rattle.policy_grammar.proofs.Phrases.{at_operator, single_shape, shape_of, shape_of_level}
use Rattle.policy_outline.proofs.CountedNodes.{nameless_both, phrase_nameless, phrase_reads, IsNameless}
use Rattle.policy_outline.specs.Counts.{Count, of_none, of_first, of_whole, of_opening, one_ended, begin_first, change_last, end_last, phrase_counts, of_last, of_statement, of_decision, more_counts, question_counts, action_counts, statements_counts, of_table, tables_counts, learning_counts, file_counts}
use Rattle.policy_outline.specs.Counting.{Counter, begin_at, one_less, go_on_last, name_at, begins_pair, counted, counted_all, passed, counted_onto, counted_from, nothing_counted}
use Rattle.std.proofs.lemmas.List.Elements.{All-head, All-tail}
use Rattle.policy_grammar.specs.declared.stage.Base.TheVariants as base
use Rattle.policy_grammar.specs.declared.stage.Block.TheVariants as block
use Rattle.policy_grammar.proofs.Statements.{standing}

-- a counter between two tokens
abbrev counting : List Count → ℕ → List ℕ → ℕ → ℕ → ℕ → Counter
counting cs operand firsts head parentheses tables =
    record { counts = cs; current = of_none; operand = operand; firsts = firsts; head = head; parentheses = parentheses; tables = tables }

-- ---- the parts of a step, behind other counts

last_behind : (g : Count → Count) (cs : List Count) (d : Count) (ds : List Count) → change_last g (cs ++ d ∷ ds) ≡ cs ++ change_last g (d ∷ ds)
last_behind g [] d ds = refl
last_behind g (c ∷ []) d ds = refl
last_behind g (c ∷ e ∷ cs) d ds = ap (λ es. c ∷ es) (last_behind g (e ∷ cs) d ds)

ended_behind : (cs : List Count) (d : Count) (ds : List Count) → end_last (cs ++ d ∷ ds) ≡ cs ++ end_last (d ∷ ds)
ended_behind cs d ds = last_behind (λ c. one_ended c) cs d ds

goes_on_behind : (cs : List Count) (c : Count) → go_on_last (cs ++ c ∷ []) ≡ cs ++ one_less c ∷ []
goes_on_behind cs c = last_behind (λ d. one_less d) cs c []

ended_behind_some : (cs ds : List Count) → IsNameless ds → end_last (cs ++ ds) ≡ cs ++ end_last ds
ended_behind_some cs [] h = absurd h
ended_behind_some cs (d ∷ ds) h = ended_behind cs d ds

-- an expression's last token
phrase_ended : (cs : List Count) (n : ℕ) (a : Phrase) → end_last (cs ++ phrase_counts n a) ≡ cs ++ end_last (phrase_counts n a)
phrase_ended cs n a = ended_behind_some cs (phrase_counts n a) (phrase_nameless n a)

named_behind : (cs : List Count) (v : ℕ) (c : Count) (ds : List Count) → name_at (length cs) v (cs ++ c ∷ ds) ≡ cs ++ record c { name = v } ∷ ds
named_behind [] v c ds = refl
named_behind (b ∷ cs) v c ds = ap (λ es. b ∷ es) (named_behind cs v c ds)

begun_behind : (cs ds : List Count) → begin_at (length cs) (cs ++ ds) ≡ cs ++ begin_first ds
begun_behind [] [] = refl
begun_behind [] (d ∷ ds) = refl
begun_behind (c ∷ cs) ds = ap (λ es. c ∷ es) (begun_behind cs ds)

-- ---- what ends ahead of a token

-- a token that adds these events, and the tokens behind it
abbrev read_by : List Event → Counter → Option State → List Token → Counter
read_by es c o rest = counted_onto o (passed (counted_all es c)) (λ n. counted_from n (passed (counted_all es c)) rest)

endings_none : (n : ℕ) (as_ : List Around) → least_in as_ ≤ n → endings n as_ ≡ []
endings_none n [] h = refl
endings_none n (a ∷ as_) h = ap (λ v. cond v (ended a ∷ endings n as_) []) (le-ltb n (least a) h)

-- an expression that ends ahead of the next token
counted_ends : (b : Base) (s : Shape) (a : Around) (as_ : List Around) (bs : List Block) (c : Counter) (t : Token) (rest : List Token) → pull t < least a
    → counted_from (past b s (a ∷ as_) bs) c (t ∷ rest) ≡ counted_from (past b (made a) as_ bs) (counted (ended a) c) (t ∷ rest)
counted_ends b s a as_ bs c t rest h =
    ap (λ v. read_by (cond v (ended a ∷ endings (pull t) as_) [] ++ behind_events b (settle (pull t) (a ∷ as_) s).around t) c (behind b (settle (pull t) (a ∷ as_) s) bs t) rest)
    (lt-ltb (pull t) (least a) h)
    ∙ ap (λ x. read_by (ended a ∷ (endings (pull t) as_ ++ behind_events b x.around t)) c (behind b x bs t) rest) (settle_ends (pull t) a as_ s h)

-- nothing ends ahead of it
counted_stays : (b : Base) (s : Shape) (as_ : List Around) (bs : List Block) (c : Counter) (t : Token) (rest : List Token) → least_in as_ ≤ pull t
    → counted_from (past b s as_ bs) c (t ∷ rest) ≡ read_by (behind_events b as_ t) c (behind b (record { around = as_; shape = s }) bs t) rest
counted_stays b s as_ bs c t rest h =
    ap (λ es. read_by (es ++ behind_events b (settle (pull t) as_ s).around t) c (behind b (settle (pull t) as_ s) bs t) rest) (endings_none (pull t) as_ h)
    ∙ ap (λ x. read_by (behind_events b x.around t) c (behind b x bs t) rest) (settle_stays (pull t) as_ s h)

-- an operator behind its left part
counted_operator : (o : Operator) (b : Base) (s : Shape) (as_ : List Around) (bs : List Block) (c : Counter) (rest : List Token) → least_in as_ ≤ level_of o → left_level o ≤ shape_level s
    → counted_from (past b s as_ bs) c (operator_token o ∷ rest) ≡ counted_from (before b (around.Left o ∷ as_) bs) (passed (begins_pair c)) rest
counted_operator o b s as_ bs c rest h l =
    let settled : Settled = record { around = as_; shape = s } in
    counted_stays b s as_ bs c (operator_token o) rest (omega (arith, h, pull_operator o))
    ∙ ap (λ es. read_by es c (behind b settled bs (operator_token o)) rest) (at_operator o b settled bs).0
    ∙ ap (λ x. read_by (event.Operator o ∷ []) c x rest) (at_operator o b settled bs).1
    ∙ ap (λ v. read_by (event.Operator o ∷ []) c (cond v (within (at.Ahead b) (around.Left o ∷ as_) bs) None) rest) (le-leb (left_level o) (shape_level s) l)

-- ---- the first tokens

-- an expression of one token, where one may stand, and where an `if` asks it
single_counted : (t : Token) (b : Base) (as_ : List Around) (bs : List Block) (cs : List Count) (k : ℕ) (fs : List ℕ) (g n m : ℕ) (c : Counter) (rest : List Token) → is_single t ≡ true
    → (counted_from (before b as_ bs) (counting cs k fs g n m) (t ∷ rest) ≡ counted_from (past b (single_shape t) as_ bs) (counting (cs ++ of_whole ∷ []) (length cs) fs g n m) rest)
    × (counted_from (standing at.If bs) c (t ∷ rest) ≡ counted_from (before base.If [] bs) c (t ∷ rest))
single_counted (keyword w) b as_ bs cs k fs g n m c rest h = absurd (cc)
single_counted (name x) b as_ bs cs k fs g n m c rest h = (refl, refl)
single_counted (field f) b as_ bs cs k fs g n m c rest h = (refl, refl)
single_counted PacketSwitch b as_ bs cs k fs g n m c rest h = (refl, refl)
single_counted (SwitchOf x) b as_ bs cs k fs g n m c rest h = (refl, refl)
single_counted (PortOf x) b as_ bs cs k fs g n m c rest h = (refl, refl)
single_counted (Number v) b as_ bs cs k fs g n m c rest h = (refl, refl)
single_counted (sign s) b as_ bs cs k fs g n m c rest h = absurd (cc)

callee_counted : (c : Callee) (b : Base) (as_ : List Around) (bs : List Block) (cs : List Count) (k : ℕ) (fs : List ℕ) (g n m : ℕ) (rest : List Token)
    → counted_from (before b as_ bs) (counting cs k fs g n m) (callee_token c ∷ sign mark.OpenParenthesis ∷ rest)
    ≡ counted_from (before b (around.First ∷ as_) bs) (counting ((cs ++ of_first ∷ []) ++ of_none ∷ []) k (length cs ∷ fs) g n m) rest
callee_counted Up b as_ bs cs k fs g n m rest = refl
callee_counted At b as_ bs cs k fs g n m rest = refl

is_counted : (b : Base) (f : Field) (as_ : List Around) (bs : List Block) (cs : List Count) (k : ℕ) (fs : List ℕ) (g n m : ℕ) (rest : List Token) → least_in as_ ≤ 3
    → counted_from (before b as_ bs) (counting cs k fs g n m) (field f ∷ keyword word.Is ∷ rest)
    ≡ counted_from (before b (around.Is ∷ as_) bs) (counting ((cs ++ of_first ∷ []) ++ of_none ∷ []) (length cs) (length cs ∷ fs) g n m) rest
is_counted b f as_ bs cs k fs g n m rest h =
    let c = counting (cs ++ of_whole ∷ []) (length cs) fs g n m in
    counted_stays b shape.Field as_ bs c (keyword word.Is) rest (omega arith)
    ∙ ap (λ v. read_by (event.Is ∷ []) c (cond v (within (at.Ahead b) (around.Is ∷ as_) bs) None) rest) (le-leb (least_in as_) 3 h)
    ∙ ap (λ es. counted_from (before b (around.Is ∷ as_) bs) (counting (es ++ of_none ∷ []) (length cs) (length cs ∷ fs) g n m) rest) (goes_on_behind cs of_whole)

-- an expression where one of a level is asked, ahead of a token that takes nothing of a higher level
phrase_counted : (a : Phrase) (l : ℕ) (b : Base) (as_ : List Around) (bs : List Block) (cs : List Count) (k : ℕ) (fs : List ℕ) (g n m : ℕ) (t : Token) (rest : List Token)
    → IsPhrase l a → least_in as_ ≤ l → pull t ≤ l
    → counted_from (before b as_ bs) (counting cs k fs g n m) (phrase_tokens a ++ t ∷ rest)
    ≡ counted_from (past b (shape_of a) as_ bs) (counting (cs ++ phrase_counts n a) (length cs) fs g n m) (t ∷ rest)
phrase_counted (Single u) l b as_ bs cs k fs g n m t rest h w p = (single_counted u b as_ bs cs k fs g n m nothing_counted (t ∷ rest) h).0
phrase_counted (Call c x y) l b as_ bs cs k fs g n m t rest h w p =
    let close = sign mark.CloseParenthesis ∷ [] in
    let second = phrase_tokens y ++ close in
    let next = t ∷ rest in
    let xs = (cs ++ of_first ∷ []) ++ of_none ∷ [] in
    let ys = (xs ++ phrase_counts n x) ++ of_none ∷ [] in
    ap (λ ts. counted_from (before b as_ bs) (counting cs k fs g n m) (callee_token c ∷ sign mark.OpenParenthesis ∷ ts)) (append_assoc (phrase_tokens x) (sign mark.Comma ∷ second) next)
    ∙ callee_counted c b as_ bs cs k fs g n m (phrase_tokens x ++ sign mark.Comma ∷ (second ++ next))
    ∙ phrase_counted x 0 b (around.First ∷ as_) bs xs k (length cs ∷ fs) g n m (sign mark.Comma) (second ++ next) h.0 (omega arith) (omega arith)
    ∙ ap (counted_from (before b (around.Second ∷ as_) bs) (counting ys (length xs) (length cs ∷ fs) g n m)) (append_assoc (phrase_tokens y) close next)
    ∙ phrase_counted y 0 b (around.Second ∷ as_) bs ys (length xs) (length cs ∷ fs) g n m (sign mark.CloseParenthesis) next h.1 (omega arith) (omega arith)
    ∙ ap (λ es. counted_from (past b shape.Whole as_ bs) (counting es (length cs) fs g n m) next) (simp append_assoc)
phrase_counted (Group x) l b as_ bs cs k fs g n m t rest h w p =
    let next = t ∷ rest in
    let xs = cs ++ of_opening (suc n) ∷ [] in
    let fewer : suc n - 1 ≡ n = omega arith in
    ap (counted_from (before b (around.Group ∷ as_) bs) (counting xs k (length cs ∷ fs) g (suc n) m)) (append_assoc (phrase_tokens x) (sign mark.CloseParenthesis ∷ []) next)
    ∙ phrase_counted x 0 b (around.Group ∷ as_) bs xs k (length cs ∷ fs) g (suc n) m (sign mark.CloseParenthesis) next h (omega arith) (omega arith)
    ∙ ap (λ i. counted_from (past b shape.Whole as_ bs) (counting ((xs ++ phrase_counts (suc n) x) ++ of_none ∷ []) (length cs) fs g i m) next) fewer
    ∙ ap (λ es. counted_from (past b shape.Whole as_ bs) (counting es (length cs) fs g n m) next) (simp append_assoc)
phrase_counted (Negation x) l b as_ bs cs k fs g n m t rest h w p =
    let level : l ≤ 2 = h.0 in
    let xs = cs ++ of_first ∷ [] in
    ap (λ v. read_by (event.Not ∷ []) (counting cs k fs g n m) (cond v (within (at.Ahead b) (around.Not ∷ as_) bs) None) (phrase_tokens x ++ t ∷ rest)) (le-leb (least_in as_) 2 (omega arith))
    ∙ phrase_counted x 2 b (around.Not ∷ as_) bs xs k (length cs ∷ fs) g n m t rest h.1 (omega arith) (omega arith)
    ∙ counted_ends b (shape_of x) around.Not as_ bs (counting (xs ++ phrase_counts n x) (length xs) (length cs ∷ fs) g n m) t rest (pull_gap t (omega arith))
    ∙ ap (λ es. counted_from (past b shape.Negation as_ bs) (counting es (length cs) fs g n m) (t ∷ rest)) (phrase_ended xs n x ∙ simp append_assoc)
phrase_counted (Test f x) l b as_ bs cs k fs g n m t rest h w p =
    let level : l ≤ 3 = h.0 in
    let xs = (cs ++ of_first ∷ []) ++ of_none ∷ [] in
    is_counted b f as_ bs cs k fs g n m (phrase_tokens x ++ t ∷ rest) (omega arith)
    ∙ phrase_counted x 4 b (around.Is ∷ as_) bs xs (length cs) (length cs ∷ fs) g n m t rest h.1 (omega arith) (omega arith)
    ∙ counted_ends b (shape_of x) around.Is as_ bs (counting (xs ++ phrase_counts n x) (length xs) (length cs ∷ fs) g n m) t rest (omega arith)
    ∙ ap (λ es. counted_from (past b shape.Test as_ bs) (counting es (length cs) fs g n m) (t ∷ rest)) (phrase_ended xs n x ∙ simp append_assoc)
phrase_counted (Pair o x y) l b as_ bs cs k fs g n m t rest h w p =
    let level : l ≤ level_of o = h.0 in
    let left : level_of o ≤ left_level o = (levels o).left in
    let right : level_of o < right_level o = (levels o).right in
    let pulls : pull (operator_token o) ≤ left_level o = omega (arith, pull_operator o) in
    let px = phrase_counts n x in
    let ys = (cs ++ begin_first px) ++ of_none ∷ [] in
    ap (counted_from (before b as_ bs) (counting cs k fs g n m)) (append_assoc (phrase_tokens x) (operator_token o ∷ phrase_tokens y) (t ∷ rest))
    ∙ phrase_counted x (left_level o) b as_ bs cs k fs g n m (operator_token o) (phrase_tokens y ++ t ∷ rest) h.1 (omega arith) pulls
    ∙ counted_operator o b (shape_of x) as_ bs (counting (cs ++ px) (length cs) fs g n m) (phrase_tokens y ++ t ∷ rest) (omega arith) (shape_of_level (left_level o) x (levels o).left_most h.1)
    ∙ ap (λ es. counted_from (before b (around.Left o ∷ as_) bs) (counting (es ++ of_none ∷ []) (length cs) (length cs ∷ fs) g n m) (phrase_tokens y ++ t ∷ rest)) (begun_behind cs px)
    ∙ phrase_counted y (right_level o) b (around.Left o ∷ as_) bs ys (length cs) (length cs ∷ fs) g n m t rest h.2 (omega arith) (omega arith)
    ∙ counted_ends b (shape_of y) (around.Left o) as_ bs (counting (ys ++ phrase_counts n y) (length ys) (length cs ∷ fs) g n m) t rest (omega arith)
    ∙ ap (λ es. counted_from (past b (shape.Pair o) as_ bs) (counting es (length cs) fs g n m) (t ∷ rest)) (phrase_ended ys n y ∙ simp append_assoc)

-- a counter outside of expressions
abbrev resting : List Count → ℕ → Counter
resting cs tables = counting cs 0 [] 0 0 tables

whole_counted : (a : Phrase) (b : Base) (bs : List Block) (cs : List Count) (k g m : ℕ) (t : Token) (rest : List Token) → IsPhrase 0 a → pull t ≤ 0
    → counted_from (before b [] bs) (counting cs k [] g 0 m) (phrase_tokens a ++ t ∷ rest)
    ≡ counted_from (past b (shape_of a) [] bs) (counting (cs ++ phrase_counts 0 a) (length cs) [] g 0 m) (t ∷ rest)
whole_counted a b bs cs k g m t rest h p = phrase_counted a 0 b [] bs cs k [] g 0 m t rest h (omega arith) p

-- ---- what an `if` asks

-- no expression begins with `host` or `hop`
if_phrase : (a : Phrase) (k : ℕ) (bs : List Block) (c : Counter) (rest : List Token) → IsPhrase k a
    → counted_from (standing at.If bs) c (phrase_tokens a ++ rest) ≡ counted_from (before base.If [] bs) c (phrase_tokens a ++ rest)
if_phrase (Single t) k bs c rest h = (single_counted t base.If [] bs [] 0 [] 0 0 0 c rest h).1
if_phrase (Call Up x y) k bs c rest h = refl
if_phrase (Call At x y) k bs c rest h = refl
if_phrase (Group x) k bs c rest h = refl
if_phrase (Negation x) k bs c rest h = refl
if_phrase (Test f x) k bs c rest h = refl
if_phrase (Pair o x y) k bs c rest h =
    let behind = operator_token o ∷ phrase_tokens y in
    ap (counted_from (standing at.If bs) c) (append_assoc (phrase_tokens x) behind rest)
    ∙ if_phrase x (left_level o) bs c (behind ++ rest) h.1
    ∙ ap (counted_from (before base.If [] bs) c) (sym (append_assoc (phrase_tokens x) behind rest))

-- the counts of a head ahead of the brace that follows it, behind others
abbrev head_ahead : List Count → Count → Phrase → List Count
head_ahead cs c a = (((((cs ++ c ∷ []) ++ of_none ∷ []) ++ phrase_counts 0 a) ++ of_none ∷ []) ++ of_none ∷ []) ++ of_none ∷ []

-- its last token is the name that it binds
bound_counts : (cs : List Count) (c : Count) (a : Phrase) → end_last (name_at (length cs) (length (head_ahead cs c a) - 1 - length cs) (head_ahead cs c a))
    ≡ cs ++ record c { name = 4 + length (phrase_tokens a) } ∷ of_none ∷ (phrase_counts 0 a ++ of_none ∷ of_none ∷ of_last ∷ [])
bound_counts cs c a =
    let v = 4 + length (phrase_tokens a) in
    let d : Count = record c { name = v } in
    let behind = of_none ∷ (phrase_counts 0 a ++ of_none ∷ of_none ∷ of_none ∷ []) in
    let count : length (head_ahead cs c a) - 1 - length cs ≡ v = omega (arith, length-append {A = Count}, (phrase_reads a 0 0 0 0).behind) in
    let ahead : head_ahead cs c a ≡ cs ++ c ∷ behind = simp append_assoc in
    let named : cs ++ d ∷ behind ≡ head_ahead cs d a = simp append_assoc in
    ap (λ n. end_last (name_at (length cs) n (head_ahead cs c a))) count
    ∙ ap (λ es. end_last (name_at (length cs) v es)) ahead
    ∙ ap end_last (named_behind cs v c behind ∙ named)
    ∙ ended_behind (((((cs ++ d ∷ []) ++ of_none ∷ []) ++ phrase_counts 0 a) ++ of_none ∷ []) ++ of_none ∷ []) of_none []
    ∙ simp append_assoc

question_counted : (q : Question) (bs : List Block) (cs : List Count) (g m : ℕ) (rest : List Token) → IsQuestion q
    → counted_from (standing at.If bs) (counting cs 0 [] g 0 m) (question_tokens q ++ sign mark.OpenBrace ∷ rest)
    ≡ counted_from (standing at.Statement (block.First ∷ bs)) (resting ((cs ++ question_counts q) ++ of_none ∷ []) m) rest
question_counted (Host a x) bs cs g m rest h =
    let more = sign mark.OpenBrace ∷ rest in
    let xs = (cs ++ of_statement ∷ []) ++ of_none ∷ [] in
    ap (counted_from (before base.Host [] bs) (counting xs 0 [] (length cs) 0 m)) (append_assoc (phrase_tokens a) (sign mark.CloseParenthesis ∷ keyword word.As ∷ name x ∷ []) more)
    ∙ whole_counted a base.Host bs xs 0 (length cs) m (sign mark.CloseParenthesis) (keyword word.As ∷ name x ∷ more) h (omega arith)
    ∙ ap (λ es. counted_from (standing at.Statement (block.First ∷ bs)) (resting (es ++ of_none ∷ []) m) rest) (bound_counts cs of_statement a)
question_counted (Hop a x) bs cs g m rest h =
    let more = sign mark.OpenBrace ∷ rest in
    let xs = (cs ++ of_statement ∷ []) ++ of_none ∷ [] in
    ap (counted_from (before base.Hop [] bs) (counting xs 0 [] (length cs) 0 m)) (append_assoc (phrase_tokens a) (sign mark.CloseParenthesis ∷ keyword word.As ∷ name x ∷ []) more)
    ∙ whole_counted a base.Hop bs xs 0 (length cs) m (sign mark.CloseParenthesis) (keyword word.As ∷ name x ∷ more) h (omega arith)
    ∙ ap (λ es. counted_from (standing at.Statement (block.First ∷ bs)) (resting (es ++ of_none ∷ []) m) rest) (bound_counts cs of_statement a)
question_counted (Lookup t a x) bs cs g m rest h =
    let more = sign mark.OpenBrace ∷ rest in
    let ts = (phrase_tokens a ++ sign mark.CloseBracket ∷ keyword word.As ∷ name x ∷ []) ++ more in
    let xs = (cs ++ of_first ∷ []) ++ of_none ∷ [] in
    ap (λ es. counted_from (before base.Lookup [] bs) (counting (es ++ of_none ∷ []) (length cs) [] (length cs) 0 m) ts) (goes_on_behind cs of_whole)
    ∙ ap (counted_from (before base.Lookup [] bs) (counting xs (length cs) [] (length cs) 0 m)) (append_assoc (phrase_tokens a) (sign mark.CloseBracket ∷ keyword word.As ∷ name x ∷ []) more)
    ∙ whole_counted a base.Lookup bs xs (length cs) (length cs) m (sign mark.CloseBracket) (keyword word.As ∷ name x ∷ more) h (omega arith)
    ∙ ap (λ es. counted_from (standing at.Statement (block.First ∷ bs)) (resting (es ++ of_none ∷ []) m) rest) (bound_counts cs of_first a)
question_counted (Holds a) bs cs g m rest h =
    if_phrase a 0 bs (counting cs 0 [] g 0 m) (sign mark.OpenBrace ∷ rest) h ∙ whole_counted a base.If bs cs 0 g m (sign mark.OpenBrace) rest h (omega arith)

-- ---- statements without a block

-- the expressions of an `out`, of which n stand ahead
outs_counted : (a : Phrase) (more : List Phrase) (n : ℕ) (bs : List Block) (cs : List Count) (k g m : ℕ) (rest : List Token) → IsPhrase 0 a → All (IsPhrase 0) more → n + length more ≤ 15
    → counted_from (before (base.Out n) [] bs) (counting cs k [] g 0 m) (phrase_tokens a ++ (more_tokens more ++ sign mark.Semicolon ∷ rest))
    ≡ counted_from (standing at.Statement bs) (resting (end_last (cs ++ (phrase_counts 0 a ++ more_counts more)) ++ of_none ∷ []) m) rest
outs_counted a [] n bs cs k g m rest h all few =
    whole_counted a (base.Out n) bs cs k g m (sign mark.Semicolon) rest h (omega arith)
    ∙ ap (λ es. counted_from (standing at.Statement bs) (resting (end_last (cs ++ es) ++ of_none ∷ []) m) rest) (sym (append-nil (phrase_counts 0 a)))
outs_counted a (x ∷ xs) n bs cs k g m rest h all few =
    let end = sign mark.Semicolon ∷ rest in
    let ts = phrase_tokens x ++ more_tokens xs ++ end in
    let ds = (cs ++ phrase_counts 0 a) ++ of_none ∷ [] in
    let c = counting ds (length cs) [] g 0 m in
    whole_counted a (base.Out n) bs cs k g m (sign mark.Comma) ts h (omega arith)
    ∙ ap (λ v. counted_onto (cond v (to (at.Ahead (base.Out (n + 1))) bs) None) c (λ s. counted_from s c ts)) (lt-ltb n 15 (omega (arith, few)))
    ∙ ap (counted_from (before (base.Out (n + 1)) [] bs) c) (append_assoc (phrase_tokens x) (more_tokens xs) end)
    ∙ outs_counted x xs (n + 1) bs ds (length cs) g m rest (All-head (IsPhrase 0) x xs all) (All-tail (IsPhrase 0) x xs all) (omega (arith, few))
    ∙ ap (λ es. counted_from (standing at.Statement bs) (resting (end_last es ++ of_none ∷ []) m) rest) (simp append_assoc)

-- an expression and a semicolon
value_counts : (cs ds : List Count) (n : ℕ) (a : Phrase) → end_last ((cs ++ ds) ++ phrase_counts n a) ++ of_none ∷ [] ≡ cs ++ (ds ++ (end_last (phrase_counts n a) ++ of_none ∷ []))
value_counts cs ds n a = ap (λ es. es ++ of_none ∷ []) (phrase_ended (cs ++ ds) n a) ∙ simp append_assoc

action_counted : (s : Action) (bs : List Block) (cs : List Count) (m : ℕ) (rest : List Token) → IsAction s
    → counted_from (standing at.Statement bs) (resting cs m) (action_tokens s ++ rest) ≡ counted_from (standing at.Statement bs) (resting (cs ++ action_counts s) m) rest
action_counted Drop bs cs m rest h = ap (λ es. counted_from (standing at.Statement bs) (resting es m) rest) (append_assoc cs (of_decision ∷ []) (of_none ∷ []))
action_counted Flood bs cs m rest h = ap (λ es. counted_from (standing at.Statement bs) (resting es m) rest) (append_assoc cs (of_decision ∷ []) (of_none ∷ []))
action_counted (Out a more) bs cs m rest h =
    let close = sign mark.Semicolon ∷ [] in
    let xs = cs ++ of_statement ∷ [] in
    let ds = phrase_counts 0 a ++ more_counts more in
    ap (counted_from (before (base.Out 0) [] bs) (counting xs 0 [] (length cs) 0 m))
    (append_assoc (phrase_tokens a) (more_tokens more ++ close) rest ∙ ap (λ ts. phrase_tokens a ++ ts) (append_assoc (more_tokens more) close rest))
    ∙ outs_counted a more 0 bs xs 0 (length cs) m rest h.0 h.1 (omega (arith, h.2))
    ∙ ap (λ es. counted_from (standing at.Statement bs) (resting es m) rest)
    (ap (λ es. es ++ of_none ∷ []) (ended_behind_some xs ds (nameless_both (phrase_counts 0 a) (more_counts more) (phrase_nameless 0 a))) ∙ simp append_assoc)
action_counted (Route a) bs cs m rest h =
    let xs = cs ++ of_statement ∷ [] in
    ap (counted_from (before base.Route [] bs) (counting xs 0 [] (length cs) 0 m)) (append_assoc (phrase_tokens a) (sign mark.Semicolon ∷ []) rest)
    ∙ whole_counted a base.Route bs xs 0 (length cs) m (sign mark.Semicolon) rest h (omega arith)
    ∙ ap (λ es. counted_from (standing at.Statement bs) (resting es m) rest) (value_counts cs (of_statement ∷ []) 0 a)
action_counted (Let x a) bs cs m rest h =
    let xs = ((cs ++ of_statement ∷ []) ++ of_none ∷ []) ++ of_none ∷ [] in
    ap (counted_from (before base.Let [] bs) (counting xs 0 [] (length cs) 0 m)) (append_assoc (phrase_tokens a) (sign mark.Semicolon ∷ []) rest)
    ∙ whole_counted a base.Let bs xs 0 (length cs) m (sign mark.Semicolon) rest h (omega arith)
    ∙ ap (λ es. counted_from (standing at.Statement bs) (resting es m) rest) (value_counts ((cs ++ of_statement ∷ []) ++ of_none ∷ []) (of_none ∷ []) 0 a ∙ simp append_assoc)
action_counted (Assign x a) bs cs m rest h =
    let xs = (cs ++ of_statement ∷ []) ++ of_none ∷ [] in
    ap (counted_from (before base.Assign [] bs) (counting xs 0 [] (length cs) 0 m)) (append_assoc (phrase_tokens a) (sign mark.Semicolon ∷ []) rest)
    ∙ whole_counted a base.Assign bs xs 0 (length cs) m (sign mark.Semicolon) rest h (omega arith)
    ∙ ap (λ es. counted_from (standing at.Statement bs) (resting es m) rest) (value_counts (cs ++ of_statement ∷ []) (of_none ∷ []) 0 a ∙ simp append_assoc)

-- ---- statements with blocks

if_opened : (q : Question) (first : List Token) (bs : List Block) (cs : List Count) (m : ℕ) (rest : List Token) → IsQuestion q
    → counted_from (standing at.Statement bs) (resting cs m) (if_tokens q first ++ rest)
    ≡ counted_from (standing at.Statement (block.First ∷ bs)) (resting (((cs ++ of_statement ∷ []) ++ question_counts q) ++ of_none ∷ []) m) (first ++ sign mark.CloseBrace ∷ rest)
if_opened q first bs cs m rest h =
    let close = sign mark.CloseBrace ∷ [] in
    let xs = cs ++ of_statement ∷ [] in
    ap (counted_from (standing at.If bs) (counting xs 0 [] (length cs) 0 m)) (append_assoc (question_tokens q) (in_braces first) rest)
    ∙ question_counted q bs xs (length cs) m ((first ++ close) ++ rest) h
    ∙ ap (counted_from (standing at.Statement (block.First ∷ bs)) (resting ((xs ++ question_counts q) ++ of_none ∷ []) m)) (append_assoc first close rest)

-- no statement begins with `else`: an `if` without one ends ahead of each
if_ended : (ss : Statements) (bs : List Block) (cs : List Count) (m : ℕ) (rest : List Token)
    → counted_from (standing at.Else bs) (resting cs m) (statements_tokens ss ++ sign mark.CloseBrace ∷ rest)
    ≡ counted_from (standing at.Statement bs) (resting (end_last cs) m) (statements_tokens ss ++ sign mark.CloseBrace ∷ rest)
if_ended Nothing bs cs m rest = refl
if_ended (Plain Drop ss) bs cs m rest = refl
if_ended (Plain Flood ss) bs cs m rest = refl
if_ended (Plain (Out a more) ss) bs cs m rest = refl
if_ended (Plain (Route a) ss) bs cs m rest = refl
if_ended (Plain (Let x a) ss) bs cs m rest = refl
if_ended (Plain (Assign x a) ss) bs cs m rest = refl
if_ended (If q first ss) bs cs m rest = refl
if_ended (IfElse q first second ss) bs cs m rest = refl
if_ended (While a body ss) bs cs m rest = refl

-- statements up to the brace that closes their block
statements_counted : (ss : Statements) (bs : List Block) (cs : List Count) (m : ℕ) (rest : List Token) → AreStatements ss
    → counted_from (standing at.Statement bs) (resting cs m) (statements_tokens ss ++ sign mark.CloseBrace ∷ rest)
    ≡ counted_from (standing at.Statement bs) (resting (cs ++ statements_counts ss) m) (sign mark.CloseBrace ∷ rest)
statements_counted Nothing bs cs m rest h =
    ap (λ es. counted_from (standing at.Statement bs) (resting es m) (sign mark.CloseBrace ∷ rest)) (sym (append-nil cs))
statements_counted (Plain s ss) bs cs m rest h =
    let end = sign mark.CloseBrace ∷ rest in
    ap (counted_from (standing at.Statement bs) (resting cs m)) (append_assoc (action_tokens s) (statements_tokens ss) end)
    ∙ action_counted s bs cs m (statements_tokens ss ++ end) h.0
    ∙ statements_counted ss bs (cs ++ action_counts s) m rest h.1
    ∙ ap (λ es. counted_from (standing at.Statement bs) (resting es m) end) (append_assoc cs (action_counts s) (statements_counts ss))
statements_counted (If q first ss) bs cs m rest h =
    let end = sign mark.CloseBrace ∷ rest in
    let more = statements_tokens ss ++ end in
    let xs = ((cs ++ of_statement ∷ []) ++ question_counts q) ++ of_none ∷ [] in
    let ys = xs ++ statements_counts first in
    ap (counted_from (standing at.Statement bs) (resting cs m)) (append_assoc (if_tokens q (statements_tokens first)) (statements_tokens ss) end)
    ∙ if_opened q (statements_tokens first) bs cs m more h.0
    ∙ statements_counted first (block.First ∷ bs) xs m more h.1
    ∙ if_ended ss bs (ys ++ of_none ∷ []) m rest
    ∙ ap (λ es. counted_from (standing at.Statement bs) (resting es m) more) (ended_behind ys of_none [])
    ∙ statements_counted ss bs (ys ++ of_last ∷ []) m rest h.2
    ∙ ap (λ es. counted_from (standing at.Statement bs) (resting es m) end) (simp append_assoc)
statements_counted (IfElse q first second ss) bs cs m rest h =
    let end = sign mark.CloseBrace ∷ rest in
    let more = statements_tokens ss ++ end in
    let head = if_tokens q (statements_tokens first) in
    let other = keyword word.Else ∷ in_braces (statements_tokens second) in
    let xs = ((cs ++ of_statement ∷ []) ++ question_counts q) ++ of_none ∷ [] in
    let ys = (((xs ++ statements_counts first) ++ of_none ∷ []) ++ of_none ∷ []) ++ of_none ∷ [] in
    ap (counted_from (standing at.Statement bs) (resting cs m)) (append_assoc (head ++ other) (statements_tokens ss) end ∙ append_assoc head other more)
    ∙ if_opened q (statements_tokens first) bs cs m (other ++ more) h.0
    ∙ statements_counted first (block.First ∷ bs) xs m (other ++ more) h.1
    ∙ ap (counted_from (standing at.Statement (block.Second ∷ bs)) (resting ys m)) (append_assoc (statements_tokens second) (sign mark.CloseBrace ∷ []) more)
    ∙ statements_counted second (block.Second ∷ bs) ys m more h.2
    ∙ statements_counted ss bs ((ys ++ statements_counts second) ++ of_last ∷ []) m rest h.3
    ∙ ap (λ es. counted_from (standing at.Statement bs) (resting es m) end) (simp append_assoc)
statements_counted (While a body ss) bs cs m rest h =
    let end = sign mark.CloseBrace ∷ rest in
    let more = statements_tokens ss ++ end in
    let close = sign mark.CloseBrace ∷ [] in
    let ws = cs ++ of_statement ∷ [] in
    let xs = ((cs ++ of_statement ∷ []) ++ phrase_counts 0 a) ++ of_none ∷ [] in
    ap (counted_from (standing at.Statement bs) (resting cs m)) (append_assoc (while_tokens a (statements_tokens body)) (statements_tokens ss) end)
    ∙ ap (counted_from (before base.While [] bs) (counting ws 0 [] (length cs) 0 m)) (append_assoc (phrase_tokens a) (in_braces (statements_tokens body)) more)
    ∙ whole_counted a base.While bs ws 0 (length cs) m (sign mark.OpenBrace) ((statements_tokens body ++ close) ++ more) h.0 (omega arith)
    ∙ ap (counted_from (standing at.Statement (block.Loop ∷ bs)) (resting xs m)) (append_assoc (statements_tokens body) close more)
    ∙ statements_counted body (block.Loop ∷ bs) xs m more h.1
    ∙ statements_counted ss bs ((xs ++ statements_counts body) ++ of_last ∷ []) m rest h.2
    ∙ ap (λ es. counted_from (standing at.Statement bs) (resting es m) end) (simp append_assoc)

-- so many tables are named behind these
abbrev named : ℕ → List (List ℕ) → ℕ
named m [] = m
named m (x ∷ xs) = named (suc m) xs

tables_counted : (names : List (List ℕ)) (cs : List Count) (m : ℕ) (rest : List Token)
    → counted_from start (resting cs m) (tables_tokens names ++ rest) ≡ counted_from start (resting (cs ++ tables_counts m names) (named m names)) rest
tables_counted [] cs m rest = ap (λ es. counted_from start (resting es m) rest) (sym (append-nil cs))
tables_counted (x ∷ xs) cs m rest =
    let ds = ((cs ++ of_none ∷ []) ++ of_table (suc m) ∷ []) ++ of_none ∷ [] in
    tables_counted xs ds (suc m) rest ∙ ap (λ es. counted_from start (resting es (named (suc m) xs)) rest) (simp append_assoc)

learning_counted : (learning : Bool) (cs : List Count) (m : ℕ) (rest : List Token)
    → counted_from start (resting cs m) (keyword word.Policy ∷ (learning_tokens learning ++ sign mark.OpenBrace ∷ rest))
    ≡ counted_from (standing at.Statement []) (resting (cs ++ of_none ∷ (learning_counts learning ++ of_none ∷ [])) m) rest
learning_counted true cs m rest = ap (λ es. counted_from (standing at.Statement []) (resting es m) rest) (simp append_assoc)
learning_counted false cs m rest = ap (λ es. counted_from (standing at.Statement []) (resting es m) rest) (simp append_assoc)

pub file_counted : (f : File) → AreStatements f.body → (counted_from start nothing_counted (file_tokens f)).counts ≡ file_counts f
file_counted f h =
    let body = statements_tokens f.body in
    let tables = tables_counts 0 f.tables in
    let m = named 0 f.tables in
    let ahead = tables ++ of_none ∷ (learning_counts f.learning ++ of_none ∷ []) in
    ap (λ (c : Counter). c.counts)
    (tables_counted f.tables [] 0 (keyword word.Policy ∷ (learning_tokens f.learning ++ in_braces body))
    ∙ learning_counted f.learning tables m (body ++ sign mark.CloseBrace ∷ [])
    ∙ statements_counted f.body [] ahead m [] h)
    ∙ simp append_assoc
