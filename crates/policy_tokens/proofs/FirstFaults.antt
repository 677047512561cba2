-- The first fault of a text, where it is found.
use Rattle.std.proofs.Common.{◌≡◌, ℕ, ◌+◌, ◌<◌, ◌≤◌, cond, ltb, true, false, List, [], ◌∷◌, ◌++◌, length, Option, Some, None, Result, Err, refl, sym, ap, ◌∙◌, arith, append_assoc, ⊎_elim}
use Rattle.std.specs.Option.{option_map}
use Rattle.std.specs.Result.{result_err}
use Rattle.std.specs.List.{filter_map, cons_option}
use Rattle.std.proofs.lemmas.Bool.{cond_both, le-ltb, lt-ltb}
use Rattle.std.proofs.lemmas.Bool.Decides.{nat_tests}
use Rattle.policy_tokens.specs.declared.token.Token.{Token}
use Rattle.policy_tokens.specs.declared.token.Position.{Position}
use Rattle.maple_base.specs.declared.policy_fault.PolicyFault.{PolicyFault}
use Rattle.maple_base.specs.declared.policy_fault.PolicyFault.TheVariants.{NotAscii, TooLong}
use Rattle.policy_tokens.specs.declared.fault.TokensError.TheVariants.{Fault as fault}
use Rattle.policy_tokens.specs.Bytes.{is_text_byte}
use Rattle.maple_base.specs.PolicyFaults.{number_of}
use Rattle.policy_tokens.specs.Lexemes.{lexeme, begun, past_behind, lexemes_from}
use Rattle.policy_tokens.specs.Positions.{position_at}
use Rattle.policy_tokens.specs.Words.{token_of}
use Rattle.policy_tokens.specs.Faults.{Fault, fault_at, strange_bytes, too_long, lexeme_fault, faults, earliest, told, is_of_tokens}
use Rattle.policy_tokens.specs.Reading.{some_token, token_begun, front_token}
use Rattle.policy_tokens.proofs.Firsts.{Each, each, each_append, From, NotBefore, Before, from_later, not_before, before, first}
use Rattle.policy_tokens.proofs.Steps.{word_faults, faults_from, cons_cases, front_cases, Step}
use Rattle.policy_tokens.proofs.WordFaults.{kind_of_words}

strange_from : (offset : ℕ) (bs : List ℕ) → Each (From offset) (strange_bytes offset bs)
strange_from offset [] = tt
strange_from offset (b ∷ bs) =
    let rest = strange_bytes (offset + 1) bs in
    let later = from_later offset rest (strange_from (offset + 1) bs) in
    cond_both (is_text_byte b) rest (fault_at offset NotAscii ∷ rest) (Each (From offset)) (λ _. later) (λ _. (omega arith, later))

words_from : (past offset : ℕ) (bs : List ℕ) → Each (From offset) (word_faults past offset bs)
words_from past offset [] = tt
words_from past offset (b ∷ bs) =
    let next = past_behind past b bs in
    let rest = word_faults next (offset + 1) bs in
    let later = from_later offset rest (words_from next (offset + 1) bs) in
    cons_cases (lexeme offset) (begun past (b ∷ bs)) (lexemes_from next (offset + 1) bs) (λ ls. Each (From offset) (filter_map lexeme_fault ls)) later
    (λ w. cons_cases (fault_at offset) (result_err (token_of w)) rest (Each (From offset)) later (λ k. (omega arith, later)))

-- no kind has a lesser number than a byte that may not stand in a text
number_above : (k : PolicyFault) → 1 ≤ number_of k
number_above k = grind arith

strange_none : (offset : ℕ) (fs : List Fault) → Each (From offset) fs → Each (NotBefore (fault_at offset NotAscii)) fs
strange_none offset fs h =
    each (From offset) (NotBefore (fault_at offset NotAscii)) fs (λ g le. let above = number_above g.kind in grind (arith, nat_tests)) h

long_each : (P : Fault → Type 0) (text : List ℕ) → P (fault_at 65536 TooLong) → Each P (too_long text)
long_each P text h = cond_both (ltb 65536 (length text)) (fault_at 65536 TooLong ∷ []) [] (Each P) (λ _. (h, tt)) (λ _. tt)

strange_first : (text : List ℕ) (past offset b : ℕ) (bs : List ℕ) → is_text_byte b ≡ false → offset ≤ 65536 → earliest (faults_from text past offset (b ∷ bs)) ≡ Some (fault_at offset NotAscii)
strange_first text past offset b bs f le =
    let this = fault_at offset NotAscii in
    let rest = strange_bytes (offset + 1) bs in
    let words = word_faults past offset (b ∷ bs) in
    ap (λ t. earliest ((cond t rest (this ∷ rest) ++ too_long text) ++ words)) f
    ∙ first [] this ((rest ++ too_long text) ++ words) tt
    (strange_none offset ((rest ++ too_long text) ++ words)
    (each_append (From offset) (rest ++ too_long text) words
    (each_append (From offset) rest (too_long text) (from_later offset rest (strange_from (offset + 1) bs)) (long_each (From offset) text le))
    (words_from past offset (b ∷ bs))))

record IsNoToken (o : Option (List ℕ)) (k : PolicyFault) : Type 0 where
  bytes : List ℕ
  begins : o ≡ Some bytes
  fails : token_of bytes ≡ Err k

failed : (r : Result Token PolicyFault) (k : PolicyFault) → some_token r ≡ Err k → r ≡ Err k
failed r k h = grind arith

no_token_begun : (o : Option (List ℕ)) (k : PolicyFault) → token_begun o ≡ Err k → IsNoToken o k
no_token_begun None k h = absurd (cc)
no_token_begun (Some w) k h = record { bytes = w; begins = refl; fails = failed (token_of w) k h }

-- a fault of a word or a sign comes before the text is too long
word_before : (offset : ℕ) (k : PolicyFault) → offset ≤ 65536 → number_of k < 10 → Before (fault_at offset k) (fault_at 65536 TooLong)
word_before offset k le few = grind (arith, nat_tests)

word_first : (text : List ℕ) (past offset b : ℕ) (bs : List ℕ) (k : PolicyFault) → is_text_byte b ≡ true → token_begun (begun past (b ∷ bs)) ≡ Err k → offset ≤ 65536
    → earliest (faults_from text past offset (b ∷ bs)) ≡ Some (fault_at offset k)
word_first text past offset b bs k t e le =
    let h = no_token_begun (begun past (b ∷ bs)) k e in
    let this = fault_at offset k in
    let rest = strange_bytes (offset + 1) bs in
    let next = past_behind past b bs in
    let words = word_faults next (offset + 1) bs in
    ap (λ v. earliest ((cond v rest (fault_at offset NotAscii ∷ rest) ++ too_long text) ++ word_faults past offset (b ∷ bs))) t
    ∙ ap (λ o. earliest ((rest ++ too_long text) ++ filter_map lexeme_fault (cons_option (option_map (lexeme offset) o) (lexemes_from next (offset + 1) bs)))) h.begins
    ∙ ap (λ r. earliest ((rest ++ too_long text) ++ cons_option (option_map (fault_at offset) (result_err r)) words)) h.fails
    ∙ first (rest ++ too_long text) this words
    (each_append (Before this) rest (too_long text)
    (before this rest (strange_from (offset + 1) bs))
    (long_each (Before this) text (word_before offset k le (kind_of_words h.bytes k h.fails).0)))
    (not_before this words (words_from next (offset + 1) bs))

-- what is wrong at a byte is the first fault from there on
pub error_first : (text : List ℕ) (past offset b : ℕ) (bs : List ℕ) (k : PolicyFault) → offset ≤ 65536 → front_token past b bs ≡ Err k
    → earliest (faults_from text past offset (b ∷ bs)) ≡ Some (fault_at offset k)
error_first text past offset b bs k le e =
    ⊎_elim
    (λ h. word_first text past offset b bs k h.0 h.1 le)
    (λ h. let kind : NotAscii ≡ k = cc in strange_first text past offset b bs h.0 le ∙ ap (λ x. Some (fault_at offset x)) kind)
    (front_cases past b bs (Err k) e)

-- where nothing is wrong with the 65,537th byte but that it stands there, that is the first fault from there on
pub too_long_first : (text : List ℕ) (past b : ℕ) (bs : List ℕ) (token : Option Token) → 65536 < length text → Step text past 65536 b bs token
    → earliest (faults_from text past 65536 (b ∷ bs)) ≡ Some (fault_at 65536 TooLong)
too_long_first text past b bs token long s =
    let this = fault_at 65536 TooLong in
    let next = past_behind past b bs in
    let strange = strange_bytes (65536 + 1) bs in
    let words = word_faults next (65536 + 1) bs in
    ap earliest s.faults
    ∙ ap (λ v. earliest ((strange ++ cond v (this ∷ []) []) ++ words)) (lt-ltb 65536 (length text) long)
    ∙ ap earliest (append_assoc strange (this ∷ []) words)
    ∙ first strange this words (before this strange (strange_from (65536 + 1) bs)) (not_before this words (words_from next (65536 + 1) bs))

-- the error with the fault's kind and position tells it
pub error_told : (text : List ℕ) (fs : List Fault) (offset : ℕ) (kind : PolicyFault) (position : Position) → position ≡ position_at text offset → fs ≡ faults text → earliest fs ≡ Some (fault_at offset kind)
    → option_map (told text) (earliest (faults text)) ≡ Some (fault position kind)
error_told text fs offset kind position p same e =
    ap (λ x. option_map (told text) (earliest x)) (sym same) ∙ ap (option_map (told text)) e ∙ ap (λ q. Some (fault q kind)) (sym p)

-- a text of at most 65,536 bytes is not too long
pub not_long : (text : List ℕ) → length text ≤ 65536 → too_long text ≡ []
not_long text le = ap (λ v. cond v (fault_at 65536 TooLong ∷ []) []) (le-ltb 65536 (length text) le)

-- what is wrong at a byte is of a kind that bytes, words and signs have
pub front_kind : (past b : ℕ) (bs : List ℕ) (k : PolicyFault) → front_token past b bs ≡ Err k → is_of_tokens k ≡ true
front_kind past b bs k e =
    ⊎_elim
    (λ h. let n = no_token_begun (begun past (b ∷ bs)) k h.1 in (kind_of_words n.bytes k n.fails).1)
    (λ h. let kind : NotAscii ≡ k = cc in ap is_of_tokens (sym kind))
    (front_cases past b bs (Err k) e)
