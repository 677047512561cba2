-- How one more token leads from what was read to what is read with it.
use Rattle.std.proofs.Common.{◌≡◌, ℕ, true, List, [], ◌∷◌, ◌++◌, Option, Some, None, refl, sym, ap, ◌∙◌, subst, append_assoc, append-nil}
use Rattle.std.specs.Option.{option_and_then}
use Rattle.maple_base.specs.declared.key.Field.{Field}
use Rattle.policy_tokens.specs.declared.token.Token.{Token}
use Rattle.policy_tokens.specs.declared.token.Token.TheVariants.{Keyword as keyword, Name as name, Field as field, Sign as sign}
use Rattle.policy_tokens.specs.declared.token.Keyword.{Keyword}
use Rattle.policy_tokens.specs.declared.token.Sign.{Sign}
use Rattle.maple_base.specs.declared.operator.Operator.{Operator}
use Rattle.policy_grammar.specs.declared.stage.Around.{Around}
use Rattle.policy_grammar.specs.declared.stage.Block.{Block}
use Rattle.policy_grammar.specs.declared.stage.Stage.{Stage}
use Rattle.policy_grammar.specs.declared.stage.Stage.TheVariants as at
use Rattle.policy_grammar.specs.Grammar.{operator_token, Action, action_tokens, IsAction, Statements, Nothing, Plain, If, IfElse, While, statements_tokens, AreStatements}
use Rattle.policy_grammar.specs.Automaton.{State, is_keyword, is_sign, is_name, is_field, operator_in, only, to, within}
use Rattle.policy_grammar.proofs.Told.{row, keyword_is, sign_is, name_is, field_is, operator_is}
use Rattle.policy_grammar.proofs.Written.{StatementsOf, OpenOf, open_tokens, StageOf, stage_tokens, inner_tokens, Inner, Leads}

-- ---- rows of tables

pub on_keyword : {ts : List Token} {t : Token} {x : Option State} (k : Keyword) → Leads ts (keyword k) x → is_keyword k t ≡ true → Leads ts t x
on_keyword {ts} {t} {x} k l h = subst (λ u. Leads ts u x) (sym (keyword_is k t h)) l

pub on_sign : {ts : List Token} {t : Token} {x : Option State} (s : Sign) → Leads ts (sign s) x → is_sign s t ≡ true → Leads ts t x
on_sign {ts} {t} {x} s l h = subst (λ u. Leads ts u x) (sym (sign_is s t h)) l

pub on_name : {ts : List Token} {t : Token} {x : Option State} → ((n : List ℕ) → Leads ts (name n) x) → is_name t ≡ true → Leads ts t x
on_name {ts} {t} {x} l h = let (n, is) = name_is t h in subst (λ u. Leads ts u x) (sym is) (l n)

pub on_field : {ts : List Token} {t : Token} {x : Option State} → ((f : Field) → Leads ts (field f) x) → is_field t ≡ true → Leads ts t x
on_field {ts} {t} {x} l h = let (f, is) = field_is t h in subst (λ u. Leads ts u x) (sym is) (l f)

pub on_operator : {ts : List Token} (t : Token) (f : Operator → Option State) → ((o : Operator) → t ≡ operator_token o → Leads ts t (f o)) → Leads ts t (option_and_then f (operator_in t))
on_operator {ts} t f l = go (operator_in t) refl
  where
    go : (x : Option Operator) → operator_in t ≡ x → Leads ts t (option_and_then f x)
    go None e = record { led = tt }
    go (Some o) e = l o (operator_is t o e)

pub nowhere : {ts : List Token} {t : Token} → Leads ts t None
nowhere = record { led = tt }

-- where one token alone may stand
pub only_keyword : {ts : List Token} {t : Token} {x : Option State} (k : Keyword) → Leads ts (keyword k) x → Leads ts t (only (is_keyword k t) x)
only_keyword {ts} {t} k l = row (λ next. Leads ts t next) (on_keyword k l) nowhere

pub only_sign : {ts : List Token} {t : Token} {x : Option State} (s : Sign) → Leads ts (sign s) x → Leads ts t (only (is_sign s t) x)
only_sign {ts} {t} s l = row (λ next. Leads ts t next) (on_sign s l) nowhere

pub only_name : {ts : List Token} {t : Token} {x : Option State} → ((n : List ℕ) → Leads ts (name n) x) → Leads ts t (only (is_name t) x)
only_name {ts} {t} l = row (λ next. Leads ts t next) (on_name l) nowhere

-- ---- statements one behind the other

pub then_ : Statements → Statements → Statements
then_ Nothing b = b
then_ (Plain s rest) b = Plain s (then_ rest b)
then_ (If q first rest) b = If q first (then_ rest b)
then_ (IfElse q first second rest) b = IfElse q first second (then_ rest b)
then_ (While a body rest) b = While a body (then_ rest b)

pub then_tokens : (a b : Statements) → statements_tokens (then_ a b) ≡ statements_tokens a ++ statements_tokens b
unfolding then_
then_tokens Nothing b = refl
then_tokens (Plain s rest) b = simp (then_tokens rest b, append_assoc)
then_tokens (If q first rest) b = simp (then_tokens rest b, append_assoc)
then_tokens (IfElse q first second rest) b = simp (then_tokens rest b, append_assoc)
then_tokens (While a body rest) b = simp (then_tokens rest b, append_assoc)

pub then_right : (a b : Statements) → AreStatements a → AreStatements b → AreStatements (then_ a b)
unfolding then_
then_right Nothing b h r = r
then_right (Plain s rest) b h r = (h.0, then_right rest b h.1 r)
then_right (If q first rest) b h r = (h.0, h.1, then_right rest b h.2 r)
then_right (IfElse q first second rest) b h r = (h.0, h.1, h.2, then_right rest b h.3 r)
then_right (While a body rest) b h r = (h.0, h.1, then_right rest b h.2 r)

abbrev pub no_statements : StatementsOf
no_statements = record { statements = Nothing; right = tt }

abbrev pub added : StatementsOf → (more : Statements) → AreStatements more → StatementsOf
added ss more right = record { statements = then_ ss.statements more; right = then_right ss.statements more ss.right right }

pub added_tokens : (bs : List Block) (o : OpenOf bs) (ss : StatementsOf) (more : Statements) (right : AreStatements more) (ts : List Token)
    → inner_tokens bs o (added ss more right) ts ≡ inner_tokens bs o ss (statements_tokens more ++ ts)
added_tokens bs o ss more right ts = rw then_tokens (simp append_assoc)

-- ---- moves

-- on in the statement
pub goes : (bs : List Block) (o : OpenOf bs) (ss : StatementsOf) (ts : List Token) (t : Token) (p : Stage) (as_ : List Around) (w : StageOf p as_) → stage_tokens p as_ w ≡ ts ++ t ∷ []
    → Leads (inner_tokens bs o ss ts) t (within p as_ bs)
goes bs o ss ts t p as_ w e = record { led = record { written = Inner o ss w; same = ap (inner_tokens bs o ss) e ∙ simp append_assoc } }

-- to the end of one more statement
pub adds : (bs : List Block) (o : OpenOf bs) (ss : StatementsOf) (more : Statements) → AreStatements more → (ts : List Token) (t : Token)
    → inner_tokens bs o ss (statements_tokens more) ≡ ts ++ t ∷ [] → Leads ts t (to at.Statement bs)
adds bs o ss more right ts t e =
    record {
      led = record {
        written = Inner o (added ss more right) tt;
        same = added_tokens bs o ss more right [] ∙ ap (inner_tokens bs o ss) (append-nil (statements_tokens more)) ∙ e;
      };
    }

pub acts : (bs : List Block) (o : OpenOf bs) (ss : StatementsOf) (ts : List Token) (t : Token) (s : Action) → IsAction s → action_tokens s ≡ ts ++ t ∷ []
    → Leads (inner_tokens bs o ss ts) t (to at.Statement bs)
acts bs o ss ts t s right e =
    adds bs o ss (Plain s Nothing) (right, tt) (inner_tokens bs o ss ts) t (ap (inner_tokens bs o ss) (append-nil (action_tokens s) ∙ e) ∙ simp append_assoc)

-- into a block
pub opens : (bs : List Block) (o : OpenOf bs) (ss : StatementsOf) (ts : List Token) (t : Token) (b : Block) (w : OpenOf (b ∷ bs)) → open_tokens (b ∷ bs) w ≡ inner_tokens bs o ss (ts ++ t ∷ [])
    → Leads (inner_tokens bs o ss ts) t (to at.Statement (b ∷ bs))
opens bs o ss ts t b w e =
    record { led = record { written = Inner w no_statements tt; same = append-nil (open_tokens (b ∷ bs) w) ∙ e ∙ simp append_assoc } }
