-- One byte further in a text.
use Rattle.std.proofs.Common.{◌≡◌, ℕ, ◌+◌, ◌-◌, ◌<◌, cond, true, false, Bool, List, [], ◌∷◌, ◌++◌, length, take, drop, get_or, Option, Some, None, Result, Ok, Err, refl, sym, ap, subst, ◌∙◌, inl, inr, ⊎_elim, append_assoc}
use Rattle.std.specs.Prelude.{◌⊎◌}
use Rattle.std.specs.Option.{option_map, option_to_list}
use Rattle.std.specs.Result.{result_ok, result_err}
use Rattle.std.specs.List.{filter_map, cons_option}
use Rattle.std.proofs.lemmas.Bool.{cases_Bool}
use Rattle.std.proofs.lemmas.List.{take_rest, drop_more}
use Rattle.policy_tokens.specs.declared.token.Token.{Token}
use Rattle.policy_tokens.specs.declared.token.Position.{Position}
use Rattle.policy_tokens.specs.declared.token.PlacedToken.{PlacedToken}
use Rattle.maple_base.specs.declared.policy_fault.PolicyFault.{PolicyFault}
use Rattle.maple_base.specs.declared.policy_fault.PolicyFault.TheVariants.{NotAscii}
use Rattle.policy_tokens.specs.Bytes.{is_text_byte}
use Rattle.policy_tokens.specs.Lexemes.{Lexeme, lexeme, begun, past_behind, lexemes_from}
use Rattle.policy_tokens.specs.Positions.{position_at}
use Rattle.policy_tokens.specs.Words.{token_of}
use Rattle.policy_tokens.specs.Faults.{Fault, fault_at, strange_bytes, too_long, lexeme_fault}
use Rattle.policy_tokens.specs.Tokens.{placed, placed_at}
use Rattle.policy_tokens.specs.Reading.{some_token, token_begun, front_token}

-- the faults of words and signs from an offset on
abbrev pub word_faults : ℕ → ℕ → List ℕ → List Fault
word_faults past offset rest = filter_map lexeme_fault (lexemes_from past offset rest)

-- the faults from an offset on
abbrev pub faults_from : List ℕ → ℕ → ℕ → List ℕ → List Fault
faults_from text past offset rest = (strange_bytes offset rest ++ too_long text) ++ word_faults past offset rest

-- what holds with one thing more, and without it, holds where the thing may be missing
pub cons_cases : {A B : Type 0} (make : A → B) (o : Option A) (xs : List B) (P : List B → Type 0) → P xs → ((a : A) → P (make a ∷ xs)) → P (cons_option (option_map make o) xs)
cons_cases make None xs P without more = without
cons_cases make (Some a) xs P without more = more a

-- what is read at a byte is what begins there, or the byte may not stand in a text
pub front_cases : (past b : ℕ) (bs : List ℕ) (r : Result (Option Token) PolicyFault) → front_token past b bs ≡ r
    → ((is_text_byte b ≡ true) × (token_begun (begun past (b ∷ bs)) ≡ r)) ⊎ ((is_text_byte b ≡ false) × (Err NotAscii ≡ r))
front_cases past b bs r e =
    let same = λ (v : Bool). cond v (token_begun (begun past (b ∷ bs))) (Err NotAscii) in
    ⊎_elim (λ t. inl (t, sym (ap same t) ∙ e)) (λ f. inr (f, sym (ap same f) ∙ e)) (cases_Bool (is_text_byte b))

right : (r : Result Token PolicyFault) (t : Option Token) → some_token r ≡ Ok t → (result_ok r ≡ t) × (result_err r ≡ None)
right (Ok x) t h = (cc, refl)
right (Err k) t h = absurd (cc)

-- what begins with a byte that is right: its token, and no fault
record Adds (text : List ℕ) (offset : ℕ) (o : Option (List ℕ)) (ls : List Lexeme) (token : Option Token) : Type 0 where
  faults : filter_map lexeme_fault (cons_option (option_map (lexeme offset) o) ls) ≡ filter_map lexeme_fault ls
  tokens : filter_map (placed text) (cons_option (option_map (lexeme offset) o) ls) ≡ cons_option (option_map (placed_at (position_at text offset)) token) (filter_map (placed text) ls)

adds : (text : List ℕ) (offset : ℕ) (o : Option (List ℕ)) (ls : List Lexeme) (t : Option Token) → token_begun o ≡ Ok t → Adds text offset o ls t
adds text offset None ls t h =
    let e : None ≡ t = cc in
    record { faults = refl; tokens = ap (λ o. cons_option (option_map (placed_at (position_at text offset)) o) (filter_map (placed text) ls)) e }
adds text offset (Some w) ls t h =
    let e = right (token_of w) t h in
    record {
      faults = ap (λ o. cons_option (option_map (fault_at offset) o) (filter_map lexeme_fault ls)) e.1;
      tokens = ap (λ o. cons_option (option_map (placed_at (position_at text offset)) o) (filter_map (placed text) ls)) e.0;
    }

-- a byte that is right leaves the faults to those behind it, and puts its token ahead of those behind it
pub record Step (text : List ℕ) (past offset b : ℕ) (bs : List ℕ) (token : Option Token) : Type 0 where
  pub faults : faults_from text past offset (b ∷ bs) ≡ faults_from text (past_behind past b bs) (offset + 1) bs
  pub tokens : filter_map (placed text) (lexemes_from past offset (b ∷ bs))
      ≡ cons_option (option_map (placed_at (position_at text offset)) token) (filter_map (placed text) (lexemes_from (past_behind past b bs) (offset + 1) bs))

pub step : (text : List ℕ) (past offset b : ℕ) (bs : List ℕ) (token : Option Token) → front_token past b bs ≡ Ok token → Step text past offset b bs token
step text past offset b bs token e =
    let rest = strange_bytes (offset + 1) bs in
    ⊎_elim
    (λ h.
    let new = adds text offset (begun past (b ∷ bs)) (lexemes_from (past_behind past b bs) (offset + 1) bs) token h.1 in
    record {
      faults = ap (λ t. (cond t rest (fault_at offset NotAscii ∷ rest) ++ too_long text) ++ word_faults past offset (b ∷ bs)) h.0 ∙ ap (λ fs. (rest ++ too_long text) ++ fs) new.faults;
      tokens = new.tokens;
    })
    (λ h. absurd (cc))
    (front_cases past b bs (Ok token) e)

-- the text from a byte on, as the code reads it
pub read_rest : (text : List ℕ) (offset : ℕ) → offset < length text → take (length text - offset) (drop offset text) ≡ get_or text offset 0 ∷ drop (offset + 1) text
read_rest text offset lt = take_rest text offset ∙ drop_more text offset 0 lt

pub read_here : (text : List ℕ) (past offset : ℕ) (r : Result (Option Token) PolicyFault) → offset < length text
    → front_token past (get_or (take (length text - offset) (drop offset text)) 0 0) (drop 1 (take (length text - offset) (drop offset text))) ≡ r
    → front_token past (get_or text offset 0) (drop (offset + 1) text) ≡ r
read_here text past offset r lt e = subst (λ s. front_token past (get_or s 0 0) (drop 1 s) ≡ r) (read_rest text offset lt) e

kept : {A : Type 0} (xs : List A) (o : Option A) (ys : List A) → (xs ++ option_to_list o) ++ ys ≡ xs ++ cons_option o ys
kept xs None ys = append_assoc xs [] ys
kept xs (Some a) ys = append_assoc xs (a ∷ []) ys

-- the tokens that are read, and those behind them, stay the same
pub tokens_next : (text : List ℕ) (past offset : ℕ) (token : Option Token) (position : Position) (whole ts us : List PlacedToken) → offset < length text
    → Step text past offset (get_or text offset 0) (drop (offset + 1) text) token → position ≡ position_at text offset → us ≡ ts ++ option_to_list (option_map (placed_at position) token)
    → ts ++ filter_map (placed text) (lexemes_from past offset (drop offset text)) ≡ whole
    → us ++ filter_map (placed text) (lexemes_from (past_behind past (get_or text offset 0) (drop (offset + 1) text)) (offset + 1) (drop (offset + 1) text)) ≡ whole
tokens_next text past offset token position whole ts us lt s p m same =
    let rest = filter_map (placed text) (lexemes_from (past_behind past (get_or text offset 0) (drop (offset + 1) text)) (offset + 1) (drop (offset + 1) text)) in
    ap (λ xs. xs ++ rest) (m ∙ ap (λ q. ts ++ option_to_list (option_map (placed_at q) token)) p)
    ∙ kept ts (option_map (placed_at (position_at text offset)) token) rest
    ∙ ap (λ xs. ts ++ xs) (sym s.tokens ∙ ap (λ r. filter_map (placed text) (lexemes_from past offset r)) (sym (drop_more text offset 0 lt)))
    ∙ same
