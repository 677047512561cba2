-- The words and signs of a text, however it is laid out.
use Rattle.std.proofs.Common.{◌≡◌, ℕ, zero, suc, ◌+◌, cond, true, false, Bool, not, ◌&&◌, map, List, [], ◌∷◌, ◌++◌, length, take, drop, append-nil, Option, Some, None, Result, Ok, Err, refl, sym, ap, ◌∙◌, arith, ⊎_elim}
use Rattle.std.specs.Option.{option_map}
use Rattle.std.specs.Result.{result_ok, result_err, is_ok}
use Rattle.std.specs.List.{filter_map, cons_option, prefix_len, list_all, All}
use Rattle.std.proofs.Math.Seq.{take-append_seam}
use Rattle.std.proofs.lemmas.Bool.{cases_Bool, and_parts, not-true, eq-eqb}
use Rattle.std.proofs.lemmas.Bool.Decides.{nat_tests}
use Rattle.std.proofs.lemmas.List.{drop-drop}
use Rattle.std.proofs.lemmas.List.Elements.{All-nil, All-cons}
use Rattle.std.proofs.lemmas.List.Folds.{prefix_len-append}
use Rattle.policy_tokens.specs.declared.token.Token.{Token}
use Rattle.policy_tokens.specs.declared.token.Position.{Position}
use Rattle.policy_tokens.specs.declared.token.PlacedToken.{PlacedToken}
use Rattle.maple_base.specs.declared.policy_fault.PolicyFault.{PolicyFault}
use Rattle.maple_base.specs.declared.policy_fault.PolicyFault.TheVariants.{NotAscii}
use Rattle.policy_tokens.specs.Bytes.{is_word_byte, is_blank, is_text_byte, begins_lexeme, begins_comment, begins_equal, may_pair, ends_line}
use Rattle.policy_tokens.specs.Lexemes.{Lexeme, lexeme, more, begun, past_behind, lexemes_from, lexemes_of}
use Rattle.policy_tokens.specs.Laws.{words_of, goes_on, EndsAt, LexemesAreRead, BlanksAddNothing, CommentsAddNothing, LastCommentsAddNothing, LexemesStandThere, WordsDecide, IsFaultless}
use Rattle.policy_tokens.specs.Words.{token_of}
use Rattle.policy_tokens.specs.Faults.{Fault, fault_at, strange_bytes, lexeme_fault}
use Rattle.policy_tokens.specs.Positions.{position_at}
use Rattle.policy_tokens.specs.Tokens.{placed, placed_at}
use Rattle.policy_tokens.proofs.FirstFaults.{not_long}

-- the words and signs from an offset on
abbrev words_at : ℕ → ℕ → List ℕ → List (List ℕ)
words_at past offset rest = map (λ l. l.bytes) (lexemes_from past offset rest)

begun_words : (m n : ℕ) (o : Option (List ℕ)) (ls ks : List Lexeme) → map (λ l. l.bytes) ls ≡ map (λ l. l.bytes) ks
    → map (λ l. l.bytes) (cons_option (option_map (lexeme m) o) ls) ≡ map (λ l. l.bytes) (cons_option (option_map (lexeme n) o) ks)
begun_words m n None ls ks h = h
begun_words m n (Some w) ls ks h = ap (λ ws. w ∷ ws) h

-- they do not depend on the offset
anywhere : (past m n : ℕ) (rest : List ℕ) → words_at past m rest ≡ words_at past n rest
anywhere past m n [] = refl
anywhere past m n (b ∷ bs) =
    let next = past_behind past b bs in
    begun_words m n (begun past (b ∷ bs)) (lexemes_from next (m + 1) bs) (lexemes_from next (n + 1) bs) (anywhere next (m + 1) (n + 1) bs)

-- bytes that belong to what began before add nothing
pub past_words : (bs text : List ℕ) (n : ℕ) → words_at (length bs) n (bs ++ text) ≡ words_of text
past_words [] text n = anywhere 0 n 0 text
past_words (b ∷ bs) text n = past_words bs text (n + 1)

no_comment : (b : ℕ) → begins_lexeme b ≡ true → begins_comment b ≡ false
no_comment b h = not-true (begins_comment b) ((and_parts _ _ h).1)

more_word : (b : ℕ) (x : List ℕ) → is_word_byte b ≡ true → more b x ≡ prefix_len is_word_byte x
more_word b x t = grind arith

more_sign : (b : ℕ) (x : List ℕ) → is_word_byte b ≡ false → begins_comment b ≡ false → more b x ≡ cond (may_pair b && begins_equal x) 1 0
more_sign b x f g = grind arith

-- a prefix that is whole goes no further where the next byte fails
prefix_ends : (p : ℕ → Bool) (bs text : List ℕ) → prefix_len p bs ≡ length bs → prefix_len p text ≡ 0 → prefix_len p (bs ++ text) ≡ length bs
prefix_ends p bs text e z =
    prefix_len-append p bs text
    ∙ ap (λ v. cond v (length bs + prefix_len p text) (prefix_len p bs)) (eq-eqb (prefix_len p bs) (length bs) e)
    ∙ omega (arith, z)

word_goes : (b : ℕ) (bs : List ℕ) (c : ℕ) → is_word_byte b ≡ true → goes_on (b ∷ bs) c ≡ false → is_word_byte c ≡ false
word_goes b bs c t h = grind arith

word_ends : (b : ℕ) (bs text : List ℕ) → is_word_byte b ≡ true → EndsAt (b ∷ bs) text → prefix_len is_word_byte text ≡ 0
word_ends b bs text t h = grind (arith, word_goes b bs)

sign_ends : (b : ℕ) (text : List ℕ) → is_word_byte b ≡ false → EndsAt (b ∷ []) text → (may_pair b && begins_equal text) ≡ false
sign_ends b text f h = grind arith

sign_more : (b : ℕ) (bs text : List ℕ) → is_word_byte b ≡ false → begins_comment b ≡ false → more b bs ≡ length bs → EndsAt (b ∷ bs) text → more b (bs ++ text) ≡ length bs
sign_more b [] text f g m h = more_sign b text f g ∙ ap (λ v. cond v 1 0) (sign_ends b text f h)
sign_more b (d ∷ ds) text f g m h = more_sign b (d ∷ (ds ++ text)) f g ∙ sym (more_sign b (d ∷ ds) f g) ∙ m

same_more : (b : ℕ) (bs text : List ℕ) → begins_lexeme b ≡ true → more b bs ≡ length bs → EndsAt (b ∷ bs) text → more b (bs ++ text) ≡ length bs
same_more b bs text l m h =
    ⊎_elim
    (λ t. more_word b (bs ++ text) t ∙ prefix_ends is_word_byte bs text (sym (more_word b bs t) ∙ m) (word_ends b bs text t h))
    (λ f. sign_more b bs text f (no_comment b l) m h)
    (cases_Bool (is_word_byte b))

pub lexemes_read : LexemesAreRead
lexemes_read [] text w h = absurd w
lexemes_read (b ∷ bs) text w h =
    let m = same_more b bs text w.0 w.1 h in
    ap (λ v. map (λ l. l.bytes) (cons_option (option_map (lexeme 0) (cond v (Some (b ∷ take (more b (bs ++ text)) (bs ++ text))) None)) (lexemes_from (more b (bs ++ text)) 1 (bs ++ text)))) w.0
    ∙ ap (λ n. (b ∷ take n (bs ++ text)) ∷ words_at n 1 (bs ++ text)) m
    ∙ ap (λ s. (b ∷ s) ∷ words_at (length bs) 1 (bs ++ text)) (take-append_seam bs text)
    ∙ ap (λ ws. (b ∷ bs) ∷ ws) (past_words bs text 1)

blank_begins : (b : ℕ) (text : List ℕ) → is_blank b ≡ true → (begins_lexeme b ≡ false) × (more b text ≡ 0)
blank_begins b text h = grind (arith, nat_tests)

pub blanks_add : BlanksAddNothing
blanks_add b text h =
    let none = blank_begins b text h in
    ap (λ v. map (λ l. l.bytes) (cons_option (option_map (lexeme 0) (cond v (Some (b ∷ take (more b text) text)) None)) (lexemes_from (more b text) 1 text))) none.0
    ∙ ap (λ n. words_at n 1 text) none.1
    ∙ anywhere 0 1 0 text

whole_prefix : (p : ℕ → Bool) (bs : List ℕ) → list_all p bs ≡ true → prefix_len p bs ≡ length bs
whole_prefix p [] h = refl
whole_prefix p (b ∷ bs) h =
    let both = and_parts (p b) (list_all p bs) h in
    ap (λ v. cond v (1 + prefix_len p bs) 0) both.0 ∙ omega (arith, whole_prefix p bs both.1)

pub comments_add : CommentsAddNothing
comments_add comment text h =
    let p = λ (b : ℕ). not (ends_line b) in
    ap (λ n. words_at n 1 (comment ++ 10 ∷ text)) (prefix_ends p comment (10 ∷ text) (whole_prefix p comment h) refl)
    ∙ past_words comment (10 ∷ text) 1
    ∙ anywhere 0 1 0 text

pub last_comments_add : LastCommentsAddNothing
last_comments_add comment h =
    ap (λ n. words_at n 1 comment) (whole_prefix (λ b. not (ends_line b)) comment h)
    ∙ ap (λ s. words_at (length comment) 1 s) (sym (append-nil comment))
    ∙ past_words comment [] 1

take_taken : (n : ℕ) (xs : List ℕ) → take (length (take n xs)) xs ≡ take n xs
take_taken zero xs = refl
take_taken (suc n) [] = refl
take_taken (suc n) (x ∷ xs) = ap (λ ys. x ∷ ys) (take_taken n xs)

abbrev StandsIn : List ℕ → Lexeme → Type 0
StandsIn text l = take (length l.bytes) (drop l.offset text) ≡ l.bytes

begun_stands : (text : List ℕ) (offset past b : ℕ) (bs : List ℕ) (ls : List Lexeme) → drop offset text ≡ b ∷ bs → All (StandsIn text) ls
    → All (StandsIn text) (cons_option (option_map (lexeme offset) (begun past (b ∷ bs))) ls)
begun_stands text offset (suc past) b bs ls e h = h
begun_stands text offset zero b bs ls e h =
    let w = b ∷ take (more b bs) bs in
    let here : StandsIn text (lexeme offset w) = ap (take (length w)) e ∙ ap (λ ys. b ∷ ys) (take_taken (more b bs) bs) in
    elim (begins_lexeme b) as (λ v. All (StandsIn text) (cons_option (option_map (lexeme offset) (cond v (Some w) None)) ls)) [
      | true ↦ All-cons (StandsIn text) (lexeme offset w) ls here h
      | false ↦ h
    ]

stands_from : (text : List ℕ) (past offset : ℕ) (rest : List ℕ) → drop offset text ≡ rest → All (StandsIn text) (lexemes_from past offset rest)
stands_from text past offset [] e = All-nil (StandsIn text)
stands_from text past offset (b ∷ bs) e =
    let next = past_behind past b bs in
    begun_stands text offset past b bs (lexemes_from next (offset + 1) bs) e
    (stands_from text next (offset + 1) bs (sym (drop-drop 1 offset text) ∙ ap (drop 1) e))

pub stand_there : LexemesStandThere
stand_there text = stands_from text 0 0 text refl

token_kept : (p : Position) (r : Result Token PolicyFault) (ts : List PlacedToken) (us : List Token) → map (λ t. t.token) ts ≡ us
    → map (λ t. t.token) (cons_option (option_map (placed_at p) (result_ok r)) ts) ≡ cons_option (result_ok r) us
token_kept p (Ok t) ts us h = ap (λ ws. t ∷ ws) h
token_kept p (Err k) ts us h = h

tokens_kept : (text : List ℕ) (ls : List Lexeme) → map (λ t. t.token) (filter_map (placed text) ls) ≡ filter_map (λ w. result_ok (token_of w)) (map (λ l. l.bytes) ls)
tokens_kept text [] = refl
tokens_kept text (l ∷ ls) =
    token_kept (position_at text l.offset) (token_of l.bytes) (filter_map (placed text) ls) (filter_map (λ w. result_ok (token_of w)) (map (λ l. l.bytes) ls)) (tokens_kept text ls)

pub words_decide : WordsDecide
words_decide text = tokens_kept text (lexemes_of text)

no_strange : (offset : ℕ) (bs : List ℕ) → list_all is_text_byte bs ≡ true → strange_bytes offset bs ≡ []
no_strange offset [] h = refl
no_strange offset (b ∷ bs) h =
    let both = and_parts (is_text_byte b) (list_all is_text_byte bs) h in
    ap (λ v. cond v (strange_bytes (offset + 1) bs) (fault_at offset NotAscii ∷ strange_bytes (offset + 1) bs)) both.0 ∙ no_strange (offset + 1) bs both.1

right_word : (offset : ℕ) (r : Result Token PolicyFault) (fs : List Fault) → is_ok r ≡ true → cons_option (option_map (fault_at offset) (result_err r)) fs ≡ fs
right_word offset (Ok t) fs h = refl
right_word offset (Err k) fs h = absurd (cc)

right_words : (ls : List Lexeme) → list_all (λ w. is_ok (token_of w)) (map (λ l. l.bytes) ls) ≡ true → filter_map lexeme_fault ls ≡ []
right_words [] h = refl
right_words (l ∷ ls) h =
    let both = and_parts (is_ok (token_of l.bytes)) (list_all (λ w. is_ok (token_of w)) (map (λ l. l.bytes) ls)) h in
    right_word l.offset (token_of l.bytes) (filter_map lexeme_fault ls) both.0 ∙ right_words ls both.1

pub is_faultless : IsFaultless
is_faultless text strange short words = rw (no_strange 0 text strange, not_long text short, right_words (lexemes_of text) words) refl
