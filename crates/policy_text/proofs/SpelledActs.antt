-- The printed statements and policies read as the tokens of what is written.
use Rattle.std.proofs.Common.{◌≡◌, ℕ, suc, ◌≤◌, true, false, Bool, ◌&&◌, map, List, [], ◌∷◌, ◌++◌, length, append-nil, append_assoc, Ok, refl, ap, ◌∙◌, subst}
use Rattle.std.specs.Prelude.{nat_le, codes}
use Rattle.std.specs.Result.{result_ok, is_ok}
use Rattle.std.specs.List.{list_all, filter_map, flat_map}
use Rattle.std.proofs.lemmas.Bool.{and_parts, false≢true}
use Rattle.maple_base.specs.Names.{is_name}
use Rattle.maple_base.specs.PolicyLimits.{most_bytes}
use Rattle.policy_tokens.specs.declared.token.Token.{Token}
use Rattle.policy_tokens.specs.declared.token.Token.TheVariants.{Keyword as keyword, Name as name, Sign as sign}
use Rattle.policy_tokens.specs.declared.token.Keyword.{Keyword}
use Rattle.policy_tokens.specs.declared.token.Keyword.TheVariants as key
use Rattle.policy_tokens.specs.declared.token.Sign.TheVariants as mark
use Rattle.policy_tokens.specs.Faults.{faults}
use Rattle.policy_tokens.specs.Spellings.{keyword_text}
use Rattle.policy_tokens.specs.Tokens.{tokens_of}
use Rattle.policy_tokens.specs.Words.{token_of}
use Rattle.policy_tokens.specs.Laws.{words_of}
use Rattle.policy_tokens.proofs.LaidOut.{words_decide, is_faultless}
use Rattle.policy_grammar.specs.Grammar as written
use Rattle.policy_grammar.specs.Grammar.{Statements, Plain, phrase_tokens, question_tokens, more_tokens, action_tokens, if_tokens, while_tokens, in_braces, statements_tokens, tables_tokens, learning_tokens, file_tokens}
use Rattle.policy_lang.specs.PolicyTree.{PolicyTree}
use Rattle.policy_lang.specs.Sound.{sound_term, sound_ask, sound_act, sound_acts, IsSound}
use Rattle.policy_lang.specs.Tree.{Term, Ask, Act, Acts, Drop, Flood, Out, Route, Let, Assign, If, IfElse, While, Done, Then}
use Rattle.policy_text.specs.Printed.{expr_text, exprs_text, line, Lines, act_text, acts_text, table_text, opening, text_of}
use Rattle.policy_text.specs.Written.{phrase_of, question_of, put, statements_of, file_of}
use Rattle.policy_text.proofs.Pieces.{Spells, Reads, ahead, beside, empty, reads_at, space, feed, is_word, keyword_reads, closed, assign_sign}
use Rattle.policy_text.proofs.SpelledParts.{name_reads, expr_reads, exprs_reads, head_reads, line_reads}

-- ---- lines

out_reads : (e : Term) (es : List Term) → list_all sound_term (e ∷ es) ≡ true → Reads false (codes "out " ++ (exprs_text (e ∷ es) ++ codes ";")) (action_tokens (written.Out (phrase_of e) (map phrase_of es)))
out_reads e es h =
    let a = phrase_of e in
    let more = map phrase_of es in
    reads_at (codes "out " ++ (exprs_text (e ∷ es) ++ codes ";")) (action_tokens (written.Out a more)) refl
    (ap (λ ts. keyword key.Out ∷ ts) (append_assoc (phrase_tokens a) (more_tokens more) (sign mark.Semicolon ∷ [])))
    (beside (keyword_reads key.Out refl) refl (ahead (space true) (beside (exprs_reads e es h) refl (closed false mark.Semicolon refl))))

route_reads : (e : Term) → sound_term e ≡ true → Reads false (codes "route " ++ (expr_text e ++ codes ";")) (action_tokens (written.Route (phrase_of e)))
route_reads e h = beside (keyword_reads key.Route refl) refl (ahead (space true) (beside (expr_reads e h) refl (closed false mark.Semicolon refl)))

-- a name that is set to an expression
set_reads : (x : List ℕ) (e : Term) → is_name x && sound_term e ≡ true → Reads false (x ++ (codes " = " ++ (expr_text e ++ codes ";"))) (action_tokens (written.Assign x (phrase_of e)))
set_reads x e h =
    let s = and_parts (is_name x) (sound_term e) h in
    beside (name_reads x s.0) refl (ahead (space true) (beside assign_sign refl (ahead (space true) (beside (expr_reads e s.1) refl (closed false mark.Semicolon refl)))))

let_reads : (x : List ℕ) (e : Term) → is_name x && sound_term e ≡ true → Reads false (codes "let " ++ (x ++ (codes " = " ++ (expr_text e ++ codes ";")))) (action_tokens (written.Let x (phrase_of e)))
let_reads x e h = beside (keyword_reads key.Let refl) refl (ahead (space true) (set_reads x e h))

closing_line : (n : ℕ) → Reads true (line n (codes "}")) (sign mark.CloseBrace ∷ [])
closing_line n = line_reads n (closed false mark.CloseBrace refl)

-- a word, what is asked, and an opening brace
asking_line : {text : List ℕ} {ts : List Token} (n : ℕ) (k : Keyword) → is_word (keyword_text k) ≡ true → Reads false text ts
    → Reads true (line n (keyword_text k ++ (32 ∷ (text ++ codes " {")))) (keyword k ∷ (ts ++ sign mark.OpenBrace ∷ []))
asking_line n k h x = line_reads n (beside (keyword_reads k h) refl (ahead (space true) (beside x refl (ahead (space true) (closed false mark.OpenBrace refl)))))

else_line : (n : ℕ) → Reads true (line n (codes "} else {")) (sign mark.CloseBrace ∷ keyword key.Else ∷ sign mark.OpenBrace ∷ [])
else_line n = line_reads n (ahead (closed true mark.CloseBrace refl) (ahead (space true) (beside (keyword_reads key.Else refl) refl (ahead (space true) (closed false mark.OpenBrace refl)))))

-- ---- statements

-- lines read as these tokens, in however many blocks they stand
abbrev Are : Lines → List Token → Type 0
Are lines ts = (n : ℕ) → Reads true (lines n) ts

-- the tokens of a line that opens a block, of the block, and of what closes it
braced_tokens : (t : Token) (asked inner behind : List Token) → (t ∷ (asked ++ sign mark.OpenBrace ∷ [])) ++ (inner ++ sign mark.CloseBrace ∷ behind) ≡ (t ∷ (asked ++ in_braces inner)) ++ behind
braced_tokens t asked inner behind = ap (λ ts. t ∷ ts) (simp append_assoc)

if_reads : (q : Ask) (b : Acts) (ts : List Token) → sound_ask q ≡ true → Are (acts_text b) ts → Are (act_text (If q b)) (if_tokens (question_of q) ts)
if_reads q b ts h f n =
    let all = if_tokens (question_of q) ts in
    reads_at (act_text (If q b) n) all refl (braced_tokens (keyword key.If) (question_tokens (question_of q)) ts [] ∙ append-nil all)
    (ahead (asking_line n key.If refl (head_reads q h)) (ahead (f (suc n)) (closing_line n)))

if_else_reads : (q : Ask) (b c : Acts) (ts us : List Token) → sound_ask q ≡ true → Are (acts_text b) ts → Are (acts_text c) us
    → Are (act_text (IfElse q b c)) (if_tokens (question_of q) ts ++ (keyword key.Else ∷ in_braces us))
if_else_reads q b c ts us h f g n =
    let other = keyword key.Else ∷ in_braces us in
    reads_at (act_text (IfElse q b c) n) (if_tokens (question_of q) ts ++ other) refl (braced_tokens (keyword key.If) (question_tokens (question_of q)) ts other)
    (ahead (asking_line n key.If refl (head_reads q h)) (ahead (f (suc n)) (ahead (else_line n) (ahead (g (suc n)) (closing_line n)))))

while_reads : (e : Term) (b : Acts) (ts : List Token) → sound_term e ≡ true → Are (acts_text b) ts → Are (act_text (While e b)) (while_tokens (phrase_of e) ts)
while_reads e b ts h f n =
    let all = while_tokens (phrase_of e) ts in
    reads_at (act_text (While e b) n) all refl (braced_tokens (keyword key.While) (phrase_tokens (phrase_of e)) ts [] ∙ append-nil all)
    (ahead (asking_line n key.While refl (expr_reads e h)) (ahead (f (suc n)) (closing_line n)))

mutual
  -- a statement, and text behind it that reads as statements
  act_reads : (s : Act) → sound_act s ≡ true → (n : ℕ) (more : List ℕ) (rest : Statements) → Reads true more (statements_tokens rest) → Reads true (act_text s n ++ more) (statements_tokens (put s rest))
  act_reads Drop h n more rest r = ahead (line_reads n (beside (keyword_reads key.Drop refl) refl (closed false mark.Semicolon refl))) r
  act_reads Flood h n more rest r = ahead (line_reads n (beside (keyword_reads key.Flood refl) refl (closed false mark.Semicolon refl))) r
  act_reads (Out []) h n more rest r = absurd (false≢true h)
  act_reads (Out (e ∷ es)) h n more rest r =
      ahead (line_reads n (out_reads e es (and_parts (nat_le 1 (length (e ∷ es)) && nat_le (length (e ∷ es)) 16) (list_all sound_term (e ∷ es)) h).1)) r
  act_reads (Route e) h n more rest r = ahead (line_reads n (route_reads e h)) r
  act_reads (Let x e) h n more rest r = ahead (line_reads n (let_reads x e h)) r
  act_reads (Assign x e) h n more rest r = ahead (line_reads n (set_reads x e h)) r
  act_reads (If q b) h n more rest r =
      let s = and_parts (sound_ask q) (sound_acts b) h in
      ahead (if_reads q b (statements_tokens (statements_of b)) s.0 (acts_read b s.1) n) r
  act_reads (IfElse q b c) h n more rest r =
      let all = and_parts (sound_ask q && sound_acts b) (sound_acts c) h in
      let s = and_parts (sound_ask q) (sound_acts b) all.0 in
      ahead (if_else_reads q b c (statements_tokens (statements_of b)) (statements_tokens (statements_of c)) s.0 (acts_read b s.1) (acts_read c all.1) n) r
  act_reads (While e b) h n more rest r =
      let s = and_parts (sound_term e) (sound_acts b) h in
      ahead (while_reads e b (statements_tokens (statements_of b)) s.0 (acts_read b s.1) n) r

  acts_read : (b : Acts) → sound_acts b ≡ true → Are (acts_text b) (statements_tokens (statements_of b))
  acts_read Done h n = empty true
  acts_read (Then s b) h n =
      let both = and_parts (sound_act s) (sound_acts b) h in
      act_reads s both.0 n (acts_text b n) (statements_of b) (acts_read b both.1 n)

-- ---- policies

table_reads : (x : List ℕ) → is_name x ≡ true → Reads true (table_text x) (keyword key.Table ∷ name x ∷ sign mark.Semicolon ∷ [])
table_reads x h = beside (keyword_reads key.Table refl) refl (ahead (space true) (beside (name_reads x h) refl (ahead (closed true mark.Semicolon refl) (feed true))))

tables_read : (xs : List (List ℕ)) → list_all is_name xs ≡ true → Reads true (flat_map table_text xs) (tables_tokens xs)
tables_read [] h = empty true
tables_read (x ∷ xs) h =
    let both = and_parts (is_name x) (list_all is_name xs) h in
    ahead (table_reads x both.0) (tables_read xs both.1)

opening_reads : (v : Bool) → Reads true (opening v) (keyword key.Policy ∷ (learning_tokens v ++ sign mark.OpenBrace ∷ []))
opening_reads true =
    beside (keyword_reads key.Policy refl) refl (ahead (space true)
    (beside (keyword_reads key.Learning refl) refl (ahead (space true) (ahead (closed true mark.OpenBrace refl) (feed true)))))
opening_reads false = beside (keyword_reads key.Policy refl) refl (ahead (space true) (ahead (closed true mark.OpenBrace refl) (feed true)))

policy_reads : (p : PolicyTree) → IsSound p.tables p.body → Reads true (text_of p) (file_tokens (file_of p))
policy_reads p h =
    let inner = statements_tokens (statements_of p.body) in
    reads_at (text_of p) (file_tokens (file_of p)) refl
    (ap (λ ts. tables_tokens p.tables ++ keyword key.Policy ∷ ts) (append_assoc (learning_tokens p.learning) (sign mark.OpenBrace ∷ []) (inner ++ sign mark.CloseBrace ∷ [])))
    (ahead (tables_read p.tables h.named) (ahead (opening_reads p.learning) (ahead (acts_read p.body h.parts 1) (ahead (closed true mark.CloseBrace refl) (feed true)))))

policy_spells : (p : PolicyTree) → IsSound p.tables p.body → Spells (text_of p) (file_tokens (file_of p))
policy_spells p h =
    let whole = (policy_reads p h).on [] [] tt (record { bytes = refl; words = refl }) in
    subst (λ t. Spells t (file_tokens (file_of p))) (append-nil (text_of p)) (subst (Spells (text_of p ++ [])) (append-nil (file_tokens (file_of p))) whole)

-- words that are all tokens
record IsRead (ws : List (List ℕ)) (ts : List Token) : Type 0 where
  all : list_all (λ w. is_ok (token_of w)) ws ≡ true
  same : filter_map (λ w. result_ok (token_of w)) ws ≡ ts

words_read : (ws : List (List ℕ)) (ts : List Token) → map token_of ws ≡ map (λ t. Ok t) ts → IsRead ws ts
words_read [] [] h = record { all = refl; same = refl }
words_read [] (t ∷ ts) h = absurd (cc)
words_read (w ∷ ws) [] h = absurd (cc)
words_read (w ∷ ws) (t ∷ ts) h =
    let here : token_of w ≡ Ok t = cc in
    let there : map token_of ws ≡ map (λ t. Ok t) ts = cc in
    let rest = words_read ws ts there in
    record { all = rw here rest.all; same = rw here (ap (λ us. t ∷ us) rest.same) }

-- a short text has no fault, and the tokens of what is written
pub spelled : (p : PolicyTree) → IsSound p.tables p.body → length (text_of p) ≤ most_bytes
    → (faults (text_of p) ≡ []) × (map (λ t. t.token) (tokens_of (text_of p)).tokens ≡ file_tokens (file_of p))
spelled p h short =
    let s = policy_spells p h in
    let r = words_read (words_of (text_of p)) (file_tokens (file_of p)) s.words in
    (is_faultless (text_of p) s.bytes short r.all, words_decide (text_of p) ∙ r.same)
