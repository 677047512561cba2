-- One more token ahead of an expression, or behind one.
use Rattle.std.proofs.Common.{◌≡◌, ℕ, ◌+◌, ◌≤◌, true, List, [], ◌∷◌, ◌++◌, length, Option, refl, sym, ap, ◌∙◌, subst, append_assoc, append-nil, arith, length-append}
use Rattle.std.specs.Prelude.{All, nat_le, nat_lt}
use Rattle.std.proofs.lemmas.Bool.{and_parts, leb-true, ltb-true}
use Rattle.std.proofs.lemmas.List.Elements.{All-nil, All-cons, All-append, All-head, All-tail}
use Rattle.policy_tokens.specs.declared.token.Token.{Token}
use Rattle.policy_tokens.specs.declared.token.Token.TheVariants.{Keyword as keyword, Name as name, Field as field, Sign as sign}
use Rattle.policy_tokens.specs.declared.token.Keyword.TheVariants as word
use Rattle.policy_tokens.specs.declared.token.Sign.TheVariants as mark
use Rattle.maple_base.specs.declared.operator.Operator.{Operator}
use Rattle.policy_grammar.specs.declared.stage.Around.{Around}
use Rattle.policy_grammar.specs.declared.stage.Around.TheVariants.{Left, Not, Is, Group, First, Second}
use Rattle.policy_grammar.specs.declared.stage.Base.{Base}
use Rattle.policy_grammar.specs.declared.stage.Base.TheVariants as base
use Rattle.policy_grammar.specs.declared.stage.Shape.{Shape}
use Rattle.policy_grammar.specs.declared.stage.Shape.TheVariants as shape
use Rattle.policy_grammar.specs.declared.stage.Block.{Block}
use Rattle.policy_grammar.specs.declared.stage.Block.TheVariants as block
use Rattle.policy_grammar.specs.declared.stage.Stage.TheVariants as at
use Rattle.maple_base.specs.Operators.{left_level}
use Rattle.policy_grammar.specs.Grammar.{Phrase, Single, Call, Group as grouped, Up, At, operator_token, phrase_tokens, IsPhrase, more_tokens, Question, question_tokens, IsQuestion, Host, Hop, Lookup, Holds, Out, Route, Let, Assign}
use Rattle.policy_grammar.specs.Automaton.{State, is_keyword, least_in, shape_level, pull, Settled, ahead, behind, behind_operator, behind_is, behind_bracket, behind_parenthesis, behind_comma, behind_semicolon, behind_brace, behind_index}
use Rattle.policy_grammar.proofs.Told.{row, value_single}
use Rattle.policy_grammar.proofs.Settles.{pull_operator, levels}
use Rattle.policy_grammar.proofs.Written.{PhraseOf, AroundOf, around_tokens, ShapedOf, BaseOf, base_tokens, ahead_tokens, StatementsOf, AskingOf, OpenOf, inner_tokens, Leads}
use Rattle.policy_grammar.proofs.Moves.{on_keyword, on_sign, on_name, on_field, on_operator, nowhere, goes, acts, opens}
use Rattle.policy_grammar.proofs.Settling.{IsPhrase-lesser, SettledOf}

-- ---- ahead of an expression

least_small : (as_ : List Around) → least_in as_ ≤ 5
least_small as_ = grind (arith, levels)

pub ahead_leads : (bs : List Block) (o : OpenOf bs) (ss : StatementsOf) (b : Base) (x : BaseOf b) (as_ : List Around) (w : AroundOf as_) (t : Token)
    → Leads (inner_tokens bs o ss (base_tokens b x ++ around_tokens as_ w)) t (ahead b as_ bs t)
ahead_leads bs o ss b x as_ w t =
    let ts = base_tokens b x ++ around_tokens as_ w in
    let P : Option State → Type 0 = λ next. Leads (inner_tokens bs o ss ts) t next in
    let further : (more : List Token) → base_tokens b x ++ (around_tokens as_ w ++ more) ≡ ts ++ more = λ more. sym (append_assoc (base_tokens b x) (around_tokens as_ w) more) in
    row P (on_sign mark.OpenParenthesis (goes bs o ss ts (sign mark.OpenParenthesis) (at.Ahead b) (Group ∷ as_) (x, w) (further _)))
    (row P (λ h.
    let (is, low) = and_parts (is_keyword word.Not t) (nat_le (least_in as_) 2) h in
    on_keyword word.Not (goes bs o ss ts (keyword word.Not) (at.Ahead b) (Not ∷ as_) (x, (w, leb-true (least_in as_) 2 low)) (further _)) is)
    (row P (on_keyword word.Up (goes bs o ss ts (keyword word.Up) (at.Callee b) as_ (x, w, Up) (further _)))
    (row P (on_keyword word.At (goes bs o ss ts (keyword word.At) (at.Callee b) as_ (x, w, At) (further _)))
    (row P (on_name (λ n. goes bs o ss ts (name n) (at.Behind b shape.Name) as_ (x, w, record { phrase = Single (name n); right = refl; alone = (n, refl); room = least_small as_ }) (further _)))
    (row P (on_field (λ f. goes bs o ss ts (field f) (at.Behind b shape.Field) as_ (x, w, record { phrase = Single (field f); right = refl; alone = (f, refl); room = least_small as_ }) (further _)))
    (row P (λ h. goes bs o ss ts t (at.Behind b shape.Whole) as_ (x, w, record { phrase = Single t; right = value_single t h; alone = tt; room = least_small as_ }) (further _)) nowhere))))))

-- ---- behind an expression

-- what is written up to the end of the expression
abbrev pub behind_tokens : (b : Base) → BaseOf b → (as_ : List Around) → AroundOf as_ → Phrase → List Token
behind_tokens b x as_ w a = base_tokens b x ++ (around_tokens as_ w ++ phrase_tokens a)

abbrev whole : {s : Shape} {level : ℕ} → ShapedOf s level → PhraseOf 0
whole {s} a = record { phrase = a.phrase; right = IsPhrase-lesser (shape_level s) 0 a.phrase (omega arith) a.right }

-- the token leads on from behind each expression
abbrev LeadsOn : Token → (Base → List Around → Shape → List Block → Option State) → Type 0
LeadsOn t next =
    (bs : List Block) (o : OpenOf bs) (ss : StatementsOf) (b : Base) (x : BaseOf b) (as_ : List Around) (w : AroundOf as_) (s : Shape) (a : ShapedOf s (least_in as_))
    → Leads (inner_tokens bs o ss (behind_tokens b x as_ w a.phrase)) t (next b as_ s bs)

by_is : LeadsOn (keyword word.Is) behind_is
by_is bs o ss b x as_ w shape.Field a =
    let (f, is) = a.alone in
    let P : Option State → Type 0 = λ next. Leads (inner_tokens bs o ss (behind_tokens b x as_ w a.phrase)) (keyword word.Is) next in
    row P (λ low. goes bs o ss _ _ (at.Ahead b) (Is ∷ as_) (x, (w, f, leb-true (least_in as_) 3 low)) (rw is (simp append_assoc))) nowhere
by_is bs o ss b x as_ w s a = nowhere

by_bracket : LeadsOn (sign mark.OpenBracket) behind_bracket
by_bracket bs o ss base.If x [] w shape.Name a =
    let (n, is) = a.alone in
    goes bs o ss (behind_tokens base.If x [] w a.phrase) (sign mark.OpenBracket) (at.Ahead base.Lookup) [] (n, tt) (rw is)
by_bracket bs o ss b x as_ w s a = nowhere

-- what an `if` asks, as `host(a)`
abbrev asking : (t u v : Token) (a : Phrase) (q : List ℕ → Question) → ((x : List ℕ) → IsQuestion (q x)) → ((x : List ℕ) → question_tokens (q x) ≡ t ∷ u ∷ (phrase_tokens a ++ v ∷ keyword word.As ∷ name x ∷ []))
    → AskingOf
asking t u v a q right same =
    record { front = t ∷ u ∷ (phrase_tokens a ++ v ∷ []); question = q; right = right; same = λ x. same x ∙ ap (λ ts. t ∷ u ∷ ts) (sym (append_assoc (phrase_tokens a) (v ∷ []) (keyword word.As ∷ name x ∷ []))) }

by_parenthesis : LeadsOn (sign mark.CloseParenthesis) (λ b as_ s bs. behind_parenthesis b as_ bs)
by_parenthesis bs o ss b x (Group ∷ as_) w s a =
    goes bs o ss (behind_tokens b x (Group ∷ as_) w a.phrase) (sign mark.CloseParenthesis) (at.Behind b shape.Whole) as_
    (x, w, record { phrase = grouped a.phrase; right = (whole a).right; alone = tt; room = least_small as_ }) (simp append_assoc)
by_parenthesis bs o ss b x (Second ∷ as_) w s a =
    goes bs o ss (behind_tokens b x (Second ∷ as_) w a.phrase) (sign mark.CloseParenthesis) (at.Behind b shape.Whole) as_
    (x, w.0, record { phrase = Call w.1 w.2.phrase a.phrase; right = (w.2.right, (whole a).right); alone = tt; room = least_small as_ }) (simp append_assoc)
by_parenthesis bs o ss base.Host x [] w s a =
    goes bs o ss (behind_tokens base.Host x [] w a.phrase) (sign mark.CloseParenthesis) at.Asked []
    (asking (keyword word.Host) (sign mark.OpenParenthesis) (sign mark.CloseParenthesis) a.phrase (Host a.phrase) (λ n. (whole a).right) (λ n. refl)) refl
by_parenthesis bs o ss base.Hop x [] w s a =
    goes bs o ss (behind_tokens base.Hop x [] w a.phrase) (sign mark.CloseParenthesis) at.Asked []
    (asking (keyword word.Hop) (sign mark.OpenParenthesis) (sign mark.CloseParenthesis) a.phrase (Hop a.phrase) (λ n. (whole a).right) (λ n. refl)) refl
by_parenthesis bs o ss b x as_ w s a = nowhere

by_index : LeadsOn (sign mark.CloseBracket) (λ b as_ s bs. behind_index b as_ bs)
by_index bs o ss base.Lookup x [] w s a =
    goes bs o ss (behind_tokens base.Lookup x [] w a.phrase) (sign mark.CloseBracket) at.Asked []
    (asking (name x) (sign mark.OpenBracket) (sign mark.CloseBracket) a.phrase (Lookup x a.phrase) (λ n. (whole a).right) (λ n. refl)) refl
by_index bs o ss b x as_ w s a = nowhere

ahead_more : (as_ : List Phrase) (a : Phrase) → ahead_tokens (as_ ++ a ∷ []) ≡ ahead_tokens as_ ++ (phrase_tokens a ++ sign mark.Comma ∷ [])
ahead_more [] a = refl
ahead_more (b ∷ as_) a = rw (ahead_more as_ a) (simp append_assoc)

by_comma : LeadsOn (sign mark.Comma) (λ b as_ s bs. behind_comma b as_ bs)
by_comma bs o ss b x (First ∷ as_) w s a =
    goes bs o ss (behind_tokens b x (First ∷ as_) w a.phrase) (sign mark.Comma) (at.Ahead b) (Second ∷ as_) (x, (w.0, w.1, whole a)) (simp append_assoc)
by_comma bs o ss (base.Out n) x [] w s a =
    let ts = behind_tokens (base.Out n) x [] w a.phrase in
    let P : Option State → Type 0 = λ next. Leads (inner_tokens bs o ss ts) (sign mark.Comma) next in
    row P (λ (fits : nat_lt n 15 ≡ true).
    goes bs o ss ts (sign mark.Comma) (at.Ahead (base.Out (n + 1))) [] (
      record {
        ahead = x.ahead ++ a.phrase ∷ [];
        right = All-append (IsPhrase 0) x.ahead (a.phrase ∷ []) x.right (All-cons (IsPhrase 0) a.phrase [] (whole a).right (All-nil (IsPhrase 0)));
        count = length-append x.ahead (a.phrase ∷ []) ∙ ap (λ k. k + 1) x.count;
        few = omega (arith, ltb-true n 15 fits);
      },
      tt,
    )
    (rw (ahead_more x.ahead a.phrase) (simp (append_assoc, append-nil)))) nowhere
by_comma bs o ss b x as_ w s a = nowhere

-- the expressions of an `out`, with the last
record OutsOf (n : ℕ) (ts : List Token) : Type 0 where
  first : Phrase
  more : List Phrase
  right : IsPhrase 0 first × All (IsPhrase 0) more × (length more ≤ n)
  same : phrase_tokens first ++ more_tokens more ≡ ts

outs_more : (as_ : List Phrase) (a b : Phrase) → phrase_tokens a ++ more_tokens (as_ ++ b ∷ []) ≡ ahead_tokens (a ∷ as_) ++ phrase_tokens b
outs_more [] a b = simp (append_assoc, append-nil)
outs_more (c ∷ as_) a b = simp (outs_more as_ c b, append_assoc)

outs : (as_ : List Phrase) (a : PhraseOf 0) → All (IsPhrase 0) as_ → OutsOf (length as_) (ahead_tokens as_ ++ phrase_tokens a.phrase)
outs [] a h = record { first = a.phrase; more = []; right = (a.right, All-nil (IsPhrase 0), omega arith); same = append-nil (phrase_tokens a.phrase) }
outs (b ∷ as_) a h =
    record {
      first = b;
      more = as_ ++ a.phrase ∷ [];
      right = (All-head (IsPhrase 0) b as_ h, All-append (IsPhrase 0) as_ (a.phrase ∷ []) (All-tail (IsPhrase 0) b as_ h) (All-cons (IsPhrase 0) a.phrase [] a.right (All-nil (IsPhrase 0))), grind (arith, length-append as_ (a.phrase ∷ [])));
      same = outs_more as_ b a.phrase;
    }

by_semicolon : LeadsOn (sign mark.Semicolon) (λ b as_ s bs. behind_semicolon b as_ bs)
by_semicolon bs o ss (base.Out n) x [] w s a =
    let y = outs x.ahead (whole a) x.right in
    acts bs o ss (behind_tokens (base.Out n) x [] w a.phrase) (sign mark.Semicolon) (Out y.first y.more) (y.right.0, y.right.1, omega (arith, y.right.2, x.count, x.few))
    (ap (λ ts. keyword word.Out ∷ ts) (sym (append_assoc (phrase_tokens y.first) (more_tokens y.more) (sign mark.Semicolon ∷ [])) ∙ ap (λ ts. ts ++ sign mark.Semicolon ∷ []) y.same))
by_semicolon bs o ss base.Route x [] w s a = acts bs o ss (behind_tokens base.Route x [] w a.phrase) (sign mark.Semicolon) (Route a.phrase) (whole a).right refl
by_semicolon bs o ss base.Let x [] w s a = acts bs o ss (behind_tokens base.Let x [] w a.phrase) (sign mark.Semicolon) (Let x a.phrase) (whole a).right refl
by_semicolon bs o ss base.Assign x [] w s a = acts bs o ss (behind_tokens base.Assign x [] w a.phrase) (sign mark.Semicolon) (Assign x a.phrase) (whole a).right refl
by_semicolon bs o ss b x as_ w s a = nowhere

by_brace : LeadsOn (sign mark.OpenBrace) (λ b as_ s bs. behind_brace b as_ bs)
by_brace bs o ss base.If x [] w s a =
    opens bs o ss (behind_tokens base.If x [] w a.phrase) (sign mark.OpenBrace) block.First (o, ss, record { question = Holds a.phrase; right = (whole a).right }) refl
by_brace bs o ss base.While x [] w s a =
    opens bs o ss (behind_tokens base.While x [] w a.phrase) (sign mark.OpenBrace) block.Loop (o, ss, whole a) refl
by_brace bs o ss b x as_ w s a = nowhere

by_operator : (bs : List Block) (o : OpenOf bs) (ss : StatementsOf) (b : Base) (x : BaseOf b) (as_ : List Around) (w : AroundOf as_) (s : Shape) (a : ShapedOf s (least_in as_)) (t : Token) (k : Operator)
    → least_in as_ ≤ pull t → t ≡ operator_token k → Leads (inner_tokens bs o ss (behind_tokens b x as_ w a.phrase)) t (behind_operator b as_ s bs k)
by_operator bs o ss b x as_ w s a t k low is =
    let P : Option State → Type 0 = λ next. Leads (inner_tokens bs o ss (behind_tokens b x as_ w a.phrase)) t next in
    row P (λ fits.
    goes bs o ss (behind_tokens b x as_ w a.phrase) t (at.Ahead b) (Left k ∷ as_)
    (x, (w, record { phrase = a.phrase; right = IsPhrase-lesser (shape_level s) (left_level k) a.phrase (leb-true _ _ fits) a.right }, subst (λ n. least_in as_ ≤ n) (ap pull is ∙ pull_operator k) low))
    (rw is (simp append_assoc))) nowhere

pub behind_leads : (bs : List Block) (o : OpenOf bs) (ss : StatementsOf) (b : Base) (x : BaseOf b) (r : Settled) (t : Token) (ts : List Token) → SettledOf (pull t) r ts
    → Leads (inner_tokens bs o ss (base_tokens b x ++ ts)) t (behind b r bs t)
behind_leads bs o ss b x r t ts y =
    let P : Option State → Type 0 = λ next. Leads (inner_tokens bs o ss (behind_tokens b x r.around y.around y.shaped.phrase)) t next in
    let all : P (behind b r bs t) =
    row P (on_keyword word.Is (by_is bs o ss b x r.around y.around r.shape y.shaped))
    (row P (on_sign mark.OpenBracket (by_bracket bs o ss b x r.around y.around r.shape y.shaped))
    (row P (on_sign mark.CloseParenthesis (by_parenthesis bs o ss b x r.around y.around r.shape y.shaped))
    (row P (on_sign mark.Comma (by_comma bs o ss b x r.around y.around r.shape y.shaped))
    (row P (on_sign mark.Semicolon (by_semicolon bs o ss b x r.around y.around r.shape y.shaped))
    (row P (on_sign mark.OpenBrace (by_brace bs o ss b x r.around y.around r.shape y.shaped))
    (row P (on_sign mark.CloseBracket (by_index bs o ss b x r.around y.around r.shape y.shaped))
    (on_operator t (behind_operator b r.around r.shape bs) (λ k is. by_operator bs o ss b x r.around y.around r.shape y.shaped t k y.low is)))))))) in
    subst (λ us. Leads (inner_tokens bs o ss (base_tokens b x ++ us)) t (behind b r bs t)) y.same all
