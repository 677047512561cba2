-- One more token at each stage.
use Rattle.std.proofs.Common.{◌≡◌, ℕ, true, false, List, [], ◌∷◌, ◌++◌, Option, refl, ap, ◌∙◌, subst, append_assoc, append-nil, arith}
use Rattle.std.proofs.lemmas.List.Elements.{All-nil}
use Rattle.policy_tokens.specs.declared.token.Token.{Token}
use Rattle.policy_tokens.specs.declared.token.Token.TheVariants.{Keyword as keyword, Name as name, Sign as sign}
use Rattle.policy_tokens.specs.declared.token.Keyword.TheVariants as word
use Rattle.policy_tokens.specs.declared.token.Sign.TheVariants as mark
use Rattle.policy_grammar.specs.declared.stage.Around.{Around}
use Rattle.policy_grammar.specs.declared.stage.Around.TheVariants.{First}
use Rattle.policy_grammar.specs.declared.stage.Base.TheVariants as base
use Rattle.policy_grammar.specs.declared.stage.Block.{Block}
use Rattle.policy_grammar.specs.declared.stage.Block.TheVariants as block
use Rattle.policy_grammar.specs.declared.stage.Stage.{Stage}
use Rattle.policy_grammar.specs.declared.stage.Stage.TheVariants as at
use Rattle.policy_grammar.specs.Grammar.{IsPhrase, phrase_tokens, Drop, Flood, Nothing, If, IfElse, While, statements_tokens, if_tokens, tables_tokens}
use Rattle.policy_grammar.specs.Automaton.{State, pull, settle, to, statement, closed, step_at, step}
use Rattle.policy_grammar.proofs.Told.{row}
use Rattle.policy_grammar.proofs.Written.{StatementsOf, OpenOf, open_tokens, StageOf, stage_tokens, around_tokens, OuterOf, outer_tokens, Written, Outer, Inner, inner_tokens, tokens_of, Leads}
use Rattle.policy_grammar.proofs.Moves.{on_keyword, on_sign, on_name, only_keyword, only_sign, only_name, nowhere, no_statements, added, added_tokens, goes, adds, acts, opens}
use Rattle.policy_grammar.proofs.Settling.{settled}
use Rattle.policy_grammar.proofs.Expressions.{ahead_leads, behind_leads}

-- ---- ahead of the statements

tables_more : (xs : List (List ℕ)) (x : List ℕ) → tables_tokens (xs ++ x ∷ []) ≡ tables_tokens xs ++ keyword word.Table ∷ name x ∷ sign mark.Semicolon ∷ []
tables_more [] x = refl
tables_more (y ∷ xs) x = ap (λ ts. keyword word.Table ∷ name y ∷ sign mark.Semicolon ∷ ts) (tables_more xs x)

stays : (p : Stage) (bs : List Block) (w : OuterOf p bs) (ts : List Token) (t : Token) → outer_tokens p bs w ≡ ts ++ t ∷ [] → Leads ts t (to p bs)
stays p bs w ts t e = record { led = record { written = Outer w; same = e } }

-- the policy's brace
begins : (bs : List Block) (o : OpenOf bs) (ts : List Token) (t : Token) → open_tokens bs o ≡ ts ++ t ∷ [] → Leads ts t (to at.Statement bs)
begins bs o ts t e = record { led = record { written = Inner o no_statements tt; same = append-nil (open_tokens bs o) ∙ e } }

outer_leads : (p : Stage) (as_ : List Around) (bs : List Block) (t : Token) (w : OuterOf p bs) → Leads (outer_tokens p bs w) t (step_at p as_ bs t)
outer_leads at.Start as_ bs t w =
    let P : Option State → Type 0 = λ next. Leads (tables_tokens w.1) t next in
    row P (on_keyword word.Table (stays at.Table bs w (tables_tokens w.1) (keyword word.Table) refl))
    (row P (on_keyword word.Policy (stays at.Policy bs w (tables_tokens w.1) (keyword word.Policy) refl)) nowhere)
outer_leads at.Table as_ bs t w = only_name (λ x. stays at.TableName bs (w.0, w.1, x) _ (name x) (simp append_assoc))
outer_leads at.TableName as_ bs t w = only_sign mark.Semicolon (stays at.Start bs (w.0, w.1 ++ w.2 ∷ []) _ (sign mark.Semicolon) (rw tables_more (simp append_assoc)))
outer_leads at.Policy as_ [] t w =
    let ts = outer_tokens at.Policy [] w in
    let P : Option State → Type 0 = λ next. Leads ts t next in
    row P (on_keyword word.Learning (stays at.Learning [] w ts (keyword word.Learning) (simp append_assoc)))
    (row P (on_sign mark.OpenBrace (begins [] (record { tables = w.1; learning = false }) ts (sign mark.OpenBrace) (simp append_assoc))) nowhere)
outer_leads at.Policy as_ (b ∷ bs) t w = absurd w.0
outer_leads at.Learning as_ [] t w = only_sign mark.OpenBrace (begins [] (record { tables = w.1; learning = true }) _ (sign mark.OpenBrace) (simp append_assoc))
outer_leads at.Learning as_ (b ∷ bs) t w = absurd w.0
outer_leads at.End as_ bs t w = nowhere
outer_leads p as_ bs t w = absurd w

-- ---- among the statements

closed_leads : (bs : List Block) (o : OpenOf bs) (ss : StatementsOf) → Leads (inner_tokens bs o ss []) (sign mark.CloseBrace) (closed bs)
closed_leads [] o ss =
    stays at.End [] (record { file = record { tables = o.tables; learning = o.learning; body = ss.statements }; right = ss.right }) (inner_tokens [] o ss []) (sign mark.CloseBrace)
    (simp (append_assoc, append-nil))
closed_leads (block.First ∷ bs) o ss = record { led = record { written = Inner o.0 o.1 (o.2, ss); same = simp (append_assoc, append-nil) } }
closed_leads (block.Second ∷ bs) o ss =
    adds bs o.0 o.1 (IfElse o.2.question o.3.statements ss.statements Nothing) (o.2.right, o.3.right, ss.right, tt) (inner_tokens (block.Second ∷ bs) o ss []) (sign mark.CloseBrace)
    (simp (append_assoc, append-nil))
closed_leads (block.Loop ∷ bs) o ss =
    adds bs o.0 o.1 (While o.2.phrase ss.statements Nothing) (o.2.right, ss.right, tt) (inner_tokens (block.Loop ∷ bs) o ss []) (sign mark.CloseBrace)
    (simp (append_assoc, append-nil))

statement_leads : (bs : List Block) (o : OpenOf bs) (ss : StatementsOf) (t : Token) → Leads (inner_tokens bs o ss []) t (statement bs t)
statement_leads bs o ss t =
    let P : Option State → Type 0 = λ next. Leads (inner_tokens bs o ss []) t next in
    row P (on_keyword word.Drop (goes bs o ss [] (keyword word.Drop) at.Decided [] (record { front = keyword word.Drop ∷ []; action = Drop; right = tt; same = refl }) refl))
    (row P (on_keyword word.Flood (goes bs o ss [] (keyword word.Flood) at.Decided [] (record { front = keyword word.Flood ∷ []; action = Flood; right = tt; same = refl }) refl))
    (row P (on_keyword word.Out (goes bs o ss [] (keyword word.Out) (at.Ahead (base.Out 0)) [] (record { ahead = []; right = All-nil (IsPhrase 0); count = refl; few = omega arith }, tt) refl))
    (row P (on_keyword word.Route (goes bs o ss [] (keyword word.Route) (at.Ahead base.Route) [] (tt, tt) refl))
    (row P (on_keyword word.Let (goes bs o ss [] (keyword word.Let) at.Let [] tt refl))
    (row P (on_keyword word.If (goes bs o ss [] (keyword word.If) at.If [] tt refl))
    (row P (on_keyword word.While (goes bs o ss [] (keyword word.While) (at.Ahead base.While) [] (tt, tt) refl))
    (row P (on_name (λ x. goes bs o ss [] (name x) at.Assigned [] x refl))
    (row P (on_sign mark.CloseBrace (closed_leads bs o ss)) nowhere))))))))

inner_leads : (p : Stage) (as_ : List Around) (bs : List Block) (o : OpenOf bs) (ss : StatementsOf) (w : StageOf p as_) (t : Token)
    → Leads (inner_tokens bs o ss (stage_tokens p as_ w)) t (step_at p as_ bs t)
inner_leads at.Statement as_ bs o ss w t = statement_leads bs o ss t
inner_leads at.Else as_ bs o ss w t =
    let ts = if_tokens w.0.question (statements_tokens w.1.statements) in
    let past = added ss (If w.0.question w.1.statements Nothing) (w.0.right, w.1.right, tt) in
    let same : inner_tokens bs o past [] ≡ inner_tokens bs o ss ts =
    added_tokens bs o ss (If w.0.question w.1.statements Nothing) (w.0.right, w.1.right, tt) [] ∙ ap (inner_tokens bs o ss) (append-nil (ts ++ []) ∙ append-nil ts) in
    row (λ next. Leads (inner_tokens bs o ss ts) t next) (on_keyword word.Else (goes bs o ss ts (keyword word.Else) at.ElseBlock [] w refl))
    (subst (λ us. Leads us t (statement bs t)) same (statement_leads bs o past t))
inner_leads at.Decided as_ bs o ss w t =
    only_sign mark.Semicolon (acts bs o ss w.front (sign mark.Semicolon) w.action w.right w.same)
inner_leads at.Let as_ bs o ss w t = only_name (λ x. goes bs o ss _ (name x) at.LetName [] x refl)
inner_leads at.LetName as_ bs o ss w t = only_sign mark.Assign (goes bs o ss _ (sign mark.Assign) (at.Ahead base.Let) [] (w, tt) refl)
inner_leads at.Assigned as_ bs o ss w t = only_sign mark.Assign (goes bs o ss _ (sign mark.Assign) (at.Ahead base.Assign) [] (w, tt) refl)
inner_leads at.If as_ bs o ss w t =
    let ts = stage_tokens at.If as_ w in
    let P : Option State → Type 0 = λ next. Leads (inner_tokens bs o ss ts) t next in
    row P (on_keyword word.Host (goes bs o ss ts (keyword word.Host) (at.Asks base.Host) [] tt refl))
    (row P (on_keyword word.Hop (goes bs o ss ts (keyword word.Hop) (at.Asks base.Hop) [] tt refl)) (ahead_leads bs o ss base.If tt [] tt t))
inner_leads (at.Asks base.Host) as_ bs o ss w t = only_sign mark.OpenParenthesis (goes bs o ss _ (sign mark.OpenParenthesis) (at.Ahead base.Host) [] (tt, tt) refl)
inner_leads (at.Asks base.Hop) as_ bs o ss w t = only_sign mark.OpenParenthesis (goes bs o ss _ (sign mark.OpenParenthesis) (at.Ahead base.Hop) [] (tt, tt) refl)
inner_leads (at.Asks b) as_ bs o ss w t = absurd w
inner_leads (at.Ahead b) as_ bs o ss w t = ahead_leads bs o ss b w.0 as_ w.1 t
inner_leads (at.Callee b) as_ bs o ss w t =
    only_sign mark.OpenParenthesis (goes bs o ss _ (sign mark.OpenParenthesis) (at.Ahead b) (First ∷ as_) (w.0, (w.1, w.2)) (simp append_assoc))
inner_leads (at.Behind b s) as_ bs o ss w t =
    behind_leads bs o ss b w.0 (settle (pull t) as_ s) t (around_tokens as_ w.1 ++ phrase_tokens w.2.phrase) (settled (pull t) as_ s w.1 w.2)
inner_leads at.Asked as_ bs o ss w t = only_keyword word.As (goes bs o ss _ (keyword word.As) at.As [] w refl)
inner_leads at.As as_ bs o ss w t =
    only_name (λ x. goes bs o ss _ (name x) at.Bound [] (record { question = w.question x; right = w.right x }) (ap (λ us. keyword word.If ∷ us) (w.same x) ∙ simp append_assoc))
inner_leads at.Bound as_ bs o ss w t = only_sign mark.OpenBrace (opens bs o ss _ (sign mark.OpenBrace) block.First (o, ss, w) refl)
inner_leads at.ElseBlock as_ bs o ss w t = only_sign mark.OpenBrace (opens bs o ss _ (sign mark.OpenBrace) block.Second (o, ss, w.0, w.1) (simp append_assoc))
inner_leads p as_ bs o ss w t = absurd w

-- what is read with one more token
pub step_leads : (s : State) (w : Written s) (t : Token) → Leads (tokens_of s w) t (step s t)
step_leads s (Outer w) t = outer_leads s.stage s.around s.blocks t w
step_leads s (Inner o ss w) t = inner_leads s.stage s.around s.blocks o ss w t
