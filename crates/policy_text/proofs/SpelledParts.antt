-- The printed expressions, heads and lines read as the tokens of what is written.
use Rattle.std.proofs.Common.{◌≡◌, ℕ, zero, suc, ◌^◌, true, false, Bool, not, ◌&&◌, length, arith, map, List, [], ◌∷◌, ◌++◌, append-nil, refl, sym, ap, ◌∙◌}
use Rattle.std.specs.Prelude.{nat_lt, nat_le, if◌then◌else◌, codes}
use Rattle.std.specs.List.{list_all}
use Rattle.std.proofs.lemmas.Bool.{and_parts, and_from, ltb-true}
use Rattle.std.proofs.lemmas.Bool.Decides.{nat_tests}
use Rattle.std.proofs.lemmas.List.Folds.{list_all-append}
use Rattle.maple_base.specs.Names.{is_name, is_name_byte, begins_name, is_keyword}
use Rattle.maple_base.specs.Operators.{left_level, right_level}
use Rattle.maple_base.specs.declared.key.Field.{Field}
use Rattle.maple_base.specs.declared.key.Field.TheVariants.{InPort, DlSrc, DlDst, DlVlan, DlType, NwTos, NwProto, NwSrc, NwDst, TpSrc, TpDst}
use Rattle.maple_base.specs.declared.operator.Operator.{Operator}
use Rattle.maple_base.specs.declared.operator.Operator.TheVariants.{Or, And, Equal, NotEqual, Less, LessEqual, Add, Sub}
use Rattle.policy_tokens.specs.declared.token.Token.{Token}
use Rattle.policy_tokens.specs.declared.token.Token.TheVariants.{Keyword as keyword, Name as name, Field as field, PacketSwitch as packet_switch, SwitchOf as switch_of, PortOf as port_of, Sign as sign}
use Rattle.policy_tokens.specs.declared.token.Keyword.TheVariants as key
use Rattle.policy_tokens.specs.declared.token.Sign.TheVariants as mark
use Rattle.policy_tokens.specs.Bytes.{is_word_byte}
use Rattle.policy_tokens.proofs.Readings.{fields_read, names_read, switches_read, ports_read}
use Rattle.policy_grammar.specs.Grammar.{Phrase, Group, callee_token, operator_token, phrase_tokens, question_tokens, more_tokens}
use Rattle.policy_lang.specs.Nodes.{level_of}
use Rattle.policy_lang.specs.Sound.{sound_atom, sound_term, sound_ask}
use Rattle.policy_lang.specs.Tree.{Atom, Number, Var, SwitchOf, PortOf, PacketSwitch, Packet, Callee, Up, At, Term, Single, Call, Is, Not, Pair, Host, Hop, Table, Ask, Binds, Holds}
use Rattle.policy_text.specs.Printed.{in_place, field_text, around, sign_of, call_text, callee_text, atom_text, expr_text, more_text, exprs_text, head_text, indent, line}
use Rattle.policy_text.specs.Written.{atom_token, callee_written, in_group, phrase_of, question_of}
use Rattle.policy_text.proofs.Pieces.{Apart, Reads, joins, ahead, beside, empty, reads_at, space, feed, all_weaker, is_word, word, keyword_reads, closed, less}
use Rattle.policy_text.proofs.Numbers.{number_reads}

-- ---- names and fields

name_word : (b : ℕ) → is_name_byte b ≡ true → is_word_byte b ≡ true
name_word b h = grind (arith, nat_tests)

all_word : (n more : List ℕ) → begins_name n ≡ true → list_all is_word_byte (n ++ more) ≡ true → is_word (n ++ more) ≡ true
all_word [] more f h = absurd (cc)
all_word (b ∷ bs) more f h = h

-- a name, and what may follow it in its word
dotted_word : (n more : List ℕ) → is_name n ≡ true → list_all is_word_byte more ≡ true → is_word (n ++ more) ≡ true
dotted_word n more h m =
    let whole = and_parts (nat_le (length n) 31 && begins_name n && list_all is_name_byte n) (not (is_keyword n)) h in
    let bytes = and_parts (nat_le (length n) 31 && begins_name n) (list_all is_name_byte n) whole.0 in
    let all = all_weaker is_name_byte is_word_byte n name_word bytes.1 in
    all_word n more (and_parts (nat_le (length n) 31) (begins_name n) bytes.0).1 (list_all-append is_word_byte n more ∙ and_from (list_all is_word_byte n) (list_all is_word_byte more) all m)

pub name_reads : (x : List ℕ) → is_name x ≡ true → Reads false x (name x ∷ [])
name_reads x h = word x (name x) (ap is_word (sym (append-nil x)) ∙ dotted_word x [] h refl) (names_read x h)

field_word : (f : Field) → is_word (field_text f) ≡ true
field_word InPort = refl
field_word DlSrc = refl
field_word DlDst = refl
field_word DlVlan = refl
field_word DlType = refl
field_word NwTos = refl
field_word NwProto = refl
field_word NwSrc = refl
field_word NwDst = refl
field_word TpSrc = refl
field_word TpDst = refl

field_reads : (f : Field) → Reads false (field_text f) (field f ∷ [])
field_reads f = word (field_text f) (field f) (field_word f) (fields_read f)

-- ---- expressions

around_reads : {left right : List ℕ} {ts us : List Token} (middle : List ℕ) (t : Token) → Reads false middle (t ∷ []) → Reads false left ts → Reads false right us → Reads false (around middle left right) (ts ++ t ∷ us)
around_reads middle t m l r = beside l refl (ahead (space true) (beside m refl (ahead (space true) r)))

call_reads : {left right : List ℕ} {ts us : List Token} (called : List ℕ) (t : Token) → Reads false called (t ∷ []) → Reads false left ts → Reads false right us
    → Reads false (call_text called left right) (t ∷ sign mark.OpenParenthesis ∷ (ts ++ sign mark.Comma ∷ (us ++ sign mark.CloseParenthesis ∷ [])))
call_reads called t c l r =
    beside c refl (ahead (closed true mark.OpenParenthesis refl) (beside l refl (ahead (closed true mark.Comma refl) (ahead (space true) (beside r refl (closed false mark.CloseParenthesis refl))))))

grouped : (v : Bool) (text : List ℕ) (a : Phrase) → Reads false text (phrase_tokens a) → Reads false (if v then codes "(" ++ (text ++ codes ")") else text) (phrase_tokens (if v then Group a else a))
grouped true text a x = ahead (closed true mark.OpenParenthesis refl) (beside x refl (closed false mark.CloseParenthesis refl))
grouped false text a x = x

-- an expression at a place
placed : (least : ℕ) (e : Term) → Reads false (expr_text e) (phrase_tokens (phrase_of e)) → Reads false (in_place least (level_of e) (expr_text e)) (phrase_tokens (in_group least (level_of e) (phrase_of e)))
placed least e x = grouped (nat_lt (level_of e) least) (expr_text e) (phrase_of e) x

atom_reads : (a : Atom) → sound_atom a ≡ true → Reads false (atom_text a) (atom_token a ∷ [])
atom_reads (Number n) h = number_reads n (ltb-true n (2 ^ 64) h)
atom_reads (Var x) h = name_reads x h
atom_reads (SwitchOf x) h = word (x ++ codes ".switch") (switch_of x) (dotted_word x (codes ".switch") h refl) (switches_read x h)
atom_reads (PortOf x) h = word (x ++ codes ".port") (port_of x) (dotted_word x (codes ".port") h refl) (ports_read x h)
atom_reads PacketSwitch h = word (codes "pkt.switch") packet_switch refl refl
atom_reads (Packet f) h = field_reads f

callee_reads : (c : Callee) → Reads false (callee_text c) (callee_token (callee_written c) ∷ [])
callee_reads Up = keyword_reads key.Up refl
callee_reads At = keyword_reads key.At refl

operator_reads : (o : Operator) → Reads false (sign_of o) (operator_token o ∷ [])
operator_reads Or = keyword_reads key.Or refl
operator_reads And = keyword_reads key.And refl
operator_reads Equal = closed false mark.Equal refl
operator_reads NotEqual = closed false mark.NotEqual refl
operator_reads Less = less
operator_reads LessEqual = closed false mark.LessEqual refl
operator_reads Add = closed false mark.Plus refl
operator_reads Sub = closed false mark.Minus refl

pub expr_reads : (e : Term) → sound_term e ≡ true → Reads false (expr_text e) (phrase_tokens (phrase_of e))
expr_reads (Single a) h = atom_reads a h
expr_reads (Call c l r) h =
    let s = and_parts (sound_term l) (sound_term r) h in
    call_reads (callee_text c) (callee_token (callee_written c)) (callee_reads c) (expr_reads l s.0) (expr_reads r s.1)
expr_reads (Is f e) h = around_reads (codes "is") (keyword key.Is) (keyword_reads key.Is refl) (field_reads f) (placed 4 e (expr_reads e h))
expr_reads (Not e) h = beside (keyword_reads key.Not refl) refl (ahead (space true) (placed 2 e (expr_reads e h)))
expr_reads (Pair o l r) h =
    let s = and_parts (sound_term l) (sound_term r) h in
    around_reads (sign_of o) (operator_token o) (operator_reads o) (placed (left_level o) l (expr_reads l s.0)) (placed (right_level o) r (expr_reads r s.1))

-- ---- lists of expressions, and heads

more_apart : (es : List Term) (rest : List ℕ) → Apart rest → Apart (more_text es ++ rest)
more_apart [] rest h = h
more_apart (e ∷ es) rest h = refl

more_reads : (es : List Term) → list_all sound_term es ≡ true → Reads false (more_text es) (more_tokens (map phrase_of es))
more_reads [] h = empty false
more_reads (e ∷ es) h =
    let s = and_parts (sound_term e) (list_all sound_term es) h in
    ahead (closed true mark.Comma refl) (ahead (space true) (joins (expr_reads e s.0) (more_reads es s.1) (more_apart es)))

pub exprs_reads : (e : Term) (es : List Term) → list_all sound_term (e ∷ es) ≡ true → Reads false (exprs_text (e ∷ es)) (phrase_tokens (phrase_of e) ++ more_tokens (map phrase_of es))
exprs_reads e es h =
    let s = and_parts (sound_term e) (list_all sound_term es) h in
    joins (expr_reads e s.0) (more_reads es s.1) (more_apart es)

-- a name behind `as`
as_reads : (x : List ℕ) → is_name x ≡ true → Reads false (codes " as " ++ x) (keyword key.As ∷ name x ∷ [])
as_reads x h = ahead (space true) (beside (keyword_reads key.As refl) refl (ahead (space true) (name_reads x h)))

pub head_reads : (q : Ask) → sound_ask q ≡ true → Reads false (head_text q) (question_tokens (question_of q))
head_reads (Binds Host e x) h =
    let s = and_parts (sound_term e) (is_name x) h in
    beside (keyword_reads key.Host refl) refl (ahead (closed true mark.OpenParenthesis refl) (beside (expr_reads e s.0) refl (ahead (closed true mark.CloseParenthesis refl) (as_reads x s.1))))
head_reads (Binds Hop e x) h =
    let s = and_parts (sound_term e) (is_name x) h in
    beside (keyword_reads key.Hop refl) refl (ahead (closed true mark.OpenParenthesis refl) (beside (expr_reads e s.0) refl (ahead (closed true mark.CloseParenthesis refl) (as_reads x s.1))))
head_reads (Binds (Table t) e x) h =
    let both = and_parts (is_name t && sound_term e) (is_name x) h in
    let front = and_parts (is_name t) (sound_term e) both.0 in
    ahead (beside (name_reads t front.0) refl (closed true mark.OpenBracket refl)) (beside (expr_reads e front.1) refl (ahead (closed true mark.CloseBracket refl) (as_reads x both.1)))
head_reads (Holds e) h = expr_reads e h

-- ---- lines

indent_reads : (n : ℕ) → Reads true (indent n) []
indent_reads zero = empty true
indent_reads (suc n) = ahead (space true) (ahead (space true) (indent_reads n))

pub line_reads : {text : List ℕ} {ts : List Token} (n : ℕ) → Reads false text ts → Reads true (line n text) ts
line_reads {text} {ts} n x = reads_at (line n text) ts refl (append-nil ts) (ahead (indent_reads n) (beside x refl (feed true)))
