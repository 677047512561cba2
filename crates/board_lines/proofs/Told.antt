-- The first fault of what is kept of a text is that of the text.
use Rattle.std.proofs.Common.{lit≤, ◌≡◌, ◌⊎◌, ℕ, ◌+◌, ◌<◌, ◌≤◌, zero, suc, Bool, true, false, cond, List, [], ◌∷◌, ◌++◌, length, take, drop, Option, Some, None, Result, Ok, Err, refl, sym, ap, ◌∙◌, subst, inl, inr, arith, ⊎_elim, append-nil, append_assoc, length-append, length-drop, one-add, take-append-drop}
use Rattle.std.specs.Prelude.{fold, nat_lt, not, ◌&&◌}
use Rattle.std.specs.List.{list_all, prefix_len}
use Rattle.std.specs.Option.{option_map}
use Rattle.std.specs.Result.{result_err}
use Rattle.std.proofs.lemmas.Bool.{and_parts}
use Rattle.std.proofs.lemmas.Bool.Decides.{nat_tests}
use Rattle.std.proofs.lemmas.Grind.{fold-append}
use Rattle.std.proofs.lemmas.List.{drop_at, take-append-le}
use Rattle.maple_base.specs.declared.policy_fault.PolicyFault.{PolicyFault}
use Rattle.maple_base.specs.declared.policy_fault.PolicyFault.TheVariants.{NotAscii, TooLong}
use Rattle.maple_base.specs.PolicyLimits.{most_bytes}
use Rattle.maple_text.specs.Numbers.{is_digit}
use Rattle.policy_tokens.specs.declared.fault.TokensError.TheVariants.{Fault as fault}
use Rattle.policy_tokens.specs.declared.token.Token.{Token}
use Rattle.policy_tokens.specs.Bytes.{begins_comment, begins_equal, begins_lexeme, ends_line, is_text_byte, is_visible, is_word_byte, may_pair}
use Rattle.policy_tokens.specs.Faults.{Fault, earliest, fault_at, faults, told}
use Rattle.policy_tokens.specs.Lexemes.{begun, more, past_behind}
use Rattle.policy_tokens.specs.Positions.{behind, first_position, position_at}
use Rattle.policy_tokens.specs.Reading.{front_token, some_token, token_begun}
use Rattle.policy_tokens.specs.Words.{token_of}
use Rattle.policy_tokens.proofs.FirstFaults.{error_first, too_long_first}
use Rattle.policy_tokens.proofs.Steps.{faults_from, step}
use Rattle.board_lines.specs.KeptTexts.{Kept, is_zero, keep, keep_behind, keep_digit, keep_other, kept_text, nothing_kept}
use Rattle.board_lines.specs.Laws.{KeepsFaults}
use Rattle.board_lines.proofs.Kept.{all_kept, bytes_add}
use Rattle.board_lines.proofs.Tails.{IsTail, IsWord, SameWord, tail_kept, word, word_all, word_fault}

-- ---- words at the end of the front

-- how many bytes at the front of a text pass a test: where all ahead of a place do, at least so many, and else as many whatever comes behind
prefix_cases : (p : ℕ → Bool) (bs x y : List ℕ)
    → ((length bs ≤ prefix_len p (bs ++ x)) × (length bs ≤ prefix_len p (bs ++ y))) ⊎ (prefix_len p (bs ++ x) ≡ prefix_len p (bs ++ y))
prefix_cases p [] x y = inl (omega arith, omega arith)
prefix_cases p (b ∷ bs) x y =
    let rec = prefix_cases p bs x y in
    elim (p b) as (λ t. ((length (b ∷ bs) ≤ cond t (1 + prefix_len p (bs ++ x)) 0) × (length (b ∷ bs) ≤ cond t (1 + prefix_len p (bs ++ y)) 0)) ⊎ (cond t (1 + prefix_len p (bs ++ x)) 0 ≡ cond t (1 + prefix_len p (bs ++ y)) 0)) [
      | true ↦ ⊎_elim (λ h. inl (omega (arith, h.0), omega (arith, h.1))) (λ e. inr (ap (λ n. 1 + n) e)) rec
      | false ↦ inr refl
    ]

word_taken : (y : List ℕ) → take (prefix_len is_word_byte y) y ≡ word y
word_taken [] = refl
word_taken (b ∷ bs) =
    let rec = word_taken bs in
    elim (is_word_byte b) as (λ t. take (cond t (1 + prefix_len is_word_byte bs) 0) (b ∷ bs) ≡ cond t (b ∷ word bs) []) [ true ↦ taken rec | false ↦ refl ]
  where
    taken : take (prefix_len is_word_byte bs) bs ≡ word bs → take (1 + prefix_len is_word_byte bs) (b ∷ bs) ≡ b ∷ word bs
    taken e = rw one-add (ap (λ x. b ∷ x) e)

-- the bytes of words behind a place are those at it, or the same whatever comes behind
word_cases : (bs x y : List ℕ) → (list_all is_word_byte bs ≡ true) ⊎ (word (bs ++ x) ≡ word (bs ++ y))
word_cases [] x y = inl refl
word_cases (b ∷ bs) x y =
    let rec = word_cases bs x y in
    elim (is_word_byte b) as (λ t. ((t && list_all is_word_byte bs) ≡ true) ⊎ (cond t (b ∷ word (bs ++ x)) [] ≡ cond t (b ∷ word (bs ++ y)) [])) [
      | true ↦ ⊎_elim (λ h. inl h) (λ e. inr (ap (λ w. b ∷ w) e)) rec
      | false ↦ inr refl
    ]

-- ---- two texts with one front

-- what comes behind the front is alike: behind a word that goes on, and behind a sign of one byte
record AreLike (x y : List ℕ) : Type 0 where
  words : SameWord x y
  equals : begins_equal x ≡ begins_equal y

equal_behind : (bs x y : List ℕ) → begins_equal x ≡ begins_equal y → begins_equal (bs ++ x) ≡ begins_equal (bs ++ y)
equal_behind [] x y e = e
equal_behind (b ∷ bs) x y e = refl

-- two counts are the same, or both pass the front
abbrev AreCounts : List ℕ → ℕ → ℕ → Type 0
AreCounts bs m n = (m ≡ n) ⊎ ((length bs ≤ m) × (length bs ≤ n))

counts : (p : ℕ → Bool) (bs x y : List ℕ) → AreCounts bs (prefix_len p (bs ++ x)) (prefix_len p (bs ++ y))
counts p bs x y = ⊎_elim (λ h. inr h) (λ e. inl e) (prefix_cases p bs x y)

more_counts : (b : ℕ) (bs x y : List ℕ) → AreLike x y → AreCounts bs (more b (bs ++ x)) (more b (bs ++ y))
more_counts b bs x y h =
    elim (is_word_byte b) as (λ t. AreCounts bs
    (cond t (prefix_len is_word_byte (bs ++ x)) (cond (begins_comment b) (prefix_len (λ c. not (ends_line c)) (bs ++ x)) (cond (may_pair b && begins_equal (bs ++ x)) 1 0)))
    (cond t (prefix_len is_word_byte (bs ++ y)) (cond (begins_comment b) (prefix_len (λ c. not (ends_line c)) (bs ++ y)) (cond (may_pair b && begins_equal (bs ++ y)) 1 0)))) [
      | true ↦ counts is_word_byte bs x y
      | false ↦ elim (begins_comment b) as (λ t. AreCounts bs
          (cond t (prefix_len (λ c. not (ends_line c)) (bs ++ x)) (cond (may_pair b && begins_equal (bs ++ x)) 1 0))
          (cond t (prefix_len (λ c. not (ends_line c)) (bs ++ y)) (cond (may_pair b && begins_equal (bs ++ y)) 1 0))) [
            | true ↦ counts (λ c. not (ends_line c)) bs x y
            | false ↦ inl (ap (λ t. cond (may_pair b && t) 1 0) (equal_behind bs x y h.equals))
          ]
    ]

-- a byte that may be the second of a sign
taken_pair : (bs x y : List ℕ) → begins_equal x ≡ begins_equal y → (t : Bool) → (t ≡ true → begins_equal (bs ++ x) ≡ true) → take (cond t 1 0) (bs ++ x) ≡ take (cond t 1 0) (bs ++ y)
taken_pair bs x y e false h = refl
taken_pair (b ∷ bs) x y e true h = refl
taken_pair [] x y e true h = equal_first x (h refl) ∙ sym (equal_first y (sym e ∙ h refl))
  where
    equal_first : (z : List ℕ) → begins_equal z ≡ true → take 1 z ≡ 61 ∷ []
    equal_first [] k = absurd (cc)
    equal_first (c ∷ cs) k = let is : c ≡ 61 = grind (arith, nat_tests) in ap (λ n. n ∷ []) is

lexeme_like : (b : ℕ) (bs x y : List ℕ) → AreLike x y → begins_lexeme b ≡ true → word_fault (b ∷ take (more b (bs ++ x)) (bs ++ x)) ≡ word_fault (b ∷ take (more b (bs ++ y)) (bs ++ y))
lexeme_like b bs x y h begins = go (is_word_byte b) refl
  where
    none : begins_comment b ≡ false
    none = is_false (begins_comment b) (and_parts (is_visible b) (not (begins_comment b)) begins).1
      where
        is_false : (t : Bool) → not t ≡ true → t ≡ false
        is_false true e = absurd (cc e)
        is_false false e = refl

    of_word : is_word_byte b ≡ true → (z : List ℕ) → word_fault (b ∷ take (more b z) z) ≡ word_fault (b ∷ word z)
    of_word e z =
        ap (λ t. word_fault (b ∷ take (cond t (prefix_len is_word_byte z) (cond (begins_comment b) (prefix_len (λ c. not (ends_line c)) z) (cond (may_pair b && begins_equal z) 1 0))) z)) e
        ∙ ap (λ w. word_fault (b ∷ w)) (word_taken z)

    same_word : is_word_byte b ≡ true → word_fault (b ∷ word (bs ++ x)) ≡ word_fault (b ∷ word (bs ++ y))
    same_word e =
        ⊎_elim
        (λ all.
        let is : IsWord (b ∷ bs) = record { bytes = ap (λ t. t && list_all is_word_byte bs) e ∙ all; some = omega arith } in
        ap (λ w. word_fault (b ∷ w)) (word_all bs x all) ∙ h.words (b ∷ bs) is ∙ sym (ap (λ w. word_fault (b ∷ w)) (word_all bs y all)))
        (λ same. ap (λ w. word_fault (b ∷ w)) same)
        (word_cases bs x y)

    of_sign : is_word_byte b ≡ false → (z : List ℕ) → word_fault (b ∷ take (more b z) z) ≡ word_fault (b ∷ take (cond (may_pair b && begins_equal z) 1 0) z)
    of_sign e z =
        ap (λ t. word_fault (b ∷ take (cond t (prefix_len is_word_byte z) (cond (begins_comment b) (prefix_len (λ c. not (ends_line c)) z) (cond (may_pair b && begins_equal z) 1 0))) z)) e
        ∙ ap (λ t. word_fault (b ∷ take (cond t (prefix_len (λ c. not (ends_line c)) z) (cond (may_pair b && begins_equal z) 1 0)) z)) none

    same_sign : word_fault (b ∷ take (cond (may_pair b && begins_equal (bs ++ x)) 1 0) (bs ++ x)) ≡ word_fault (b ∷ take (cond (may_pair b && begins_equal (bs ++ y)) 1 0) (bs ++ y))
    same_sign =
        ap (λ w. word_fault (b ∷ w)) (taken_pair bs x y h.equals (may_pair b && begins_equal (bs ++ x)) (λ e. (and_parts (may_pair b) (begins_equal (bs ++ x)) e).1))
        ∙ ap (λ t. word_fault (b ∷ take (cond (may_pair b && t) 1 0) (bs ++ y))) (equal_behind bs x y h.equals)

    go : (t : Bool) → is_word_byte b ≡ t → word_fault (b ∷ take (more b (bs ++ x)) (bs ++ x)) ≡ word_fault (b ∷ take (more b (bs ++ y)) (bs ++ y))
    go true e = of_word e (bs ++ x) ∙ same_word e ∙ sym (of_word e (bs ++ y))
    go false e = of_sign e (bs ++ x) ∙ same_sign ∙ sym (of_sign e (bs ++ y))

begun_fault : (r : Result Token PolicyFault) → result_err (some_token r) ≡ result_err r
begun_fault (Ok t) = refl
begun_fault (Err k) = refl

-- what is wrong at a byte of the front
front_like : (past b : ℕ) (bs x y : List ℕ) → AreLike x y → result_err (front_token past b (bs ++ x)) ≡ result_err (front_token past b (bs ++ y))
front_like (suc past) b bs x y h = refl
front_like zero b bs x y h =
    elim (is_text_byte b) as (λ t. result_err (cond t (token_begun (begun zero (b ∷ (bs ++ x)))) (Err NotAscii)) ≡ result_err (cond t (token_begun (begun zero (b ∷ (bs ++ y)))) (Err NotAscii))) [
      | true ↦ go (begins_lexeme b) refl
      | false ↦ refl
    ]
  where
    go : (t : Bool) → begins_lexeme b ≡ t → result_err (token_begun (cond t (Some (b ∷ take (more b (bs ++ x)) (bs ++ x))) None)) ≡ result_err (token_begun (cond t (Some (b ∷ take (more b (bs ++ y)) (bs ++ y))) None))
    go true e =
        begun_fault (token_of (b ∷ take (more b (bs ++ x)) (bs ++ x))) ∙ lexeme_like b bs x y h e ∙ sym (begun_fault (token_of (b ∷ take (more b (bs ++ y)) (bs ++ y))))
    go false e = refl

like_at : (m n b : ℕ) (bs x y : List ℕ) → AreLike x y → AreCounts (b ∷ bs) m n → result_err (front_token m b (bs ++ x)) ≡ result_err (front_token n b (bs ++ y))
like_at zero zero b bs x y h c = front_like zero b bs x y h
like_at (suc m) (suc n) b bs x y h c = refl
like_at zero (suc n) b bs x y h c = ⊎_elim (λ e. absurd (omega (arith, e))) (λ p. absurd (omega (arith, p.0))) c
like_at (suc m) zero b bs x y h c = ⊎_elim (λ e. absurd (omega (arith, e))) (λ p. absurd (omega (arith, p.1))) c

counts_behind : (m n b : ℕ) (bs x y : List ℕ) → AreLike x y → AreCounts (b ∷ bs) m n → AreCounts bs (past_behind m b (bs ++ x)) (past_behind n b (bs ++ y))
counts_behind zero zero b bs x y h c = more_counts b bs x y h
counts_behind (suc m) (suc n) b bs x y h c = ⊎_elim (λ e. inl (omega (arith, e))) (λ p. inr (omega (arith, p.0), omega (arith, p.1))) c
counts_behind zero (suc n) b bs x y h c = ⊎_elim (λ e. absurd (omega (arith, e))) (λ p. absurd (omega (arith, p.0))) c
counts_behind (suc m) zero b bs x y h c = ⊎_elim (λ e. absurd (omega (arith, e))) (λ p. absurd (omega (arith, p.1))) c

-- both have this fault first, at a byte of the front
record FaultsAt (fs gs : List Fault) : Type 0 where
  offset : ℕ
  kind : PolicyFault
  within : offset ≤ most_bytes
  of_first : earliest fs ≡ Some (fault_at offset kind)
  of_second : earliest gs ≡ Some (fault_at offset kind)

decide : (tx ty : List ℕ) (o m n b : ℕ) (r s : List ℕ) (p q : Result (Option Token) PolicyFault) → front_token m b r ≡ p → front_token n b s ≡ q → result_err p ≡ result_err q → o ≤ most_bytes
    → ((t u : Option Token) → front_token m b r ≡ Ok t → front_token n b s ≡ Ok u → FaultsAt (faults_from tx m o (b ∷ r)) (faults_from ty n o (b ∷ s)))
    → FaultsAt (faults_from tx m o (b ∷ r)) (faults_from ty n o (b ∷ s))
decide tx ty o m n b r s (Ok t) (Ok u) e f g le go = go t u e f
decide tx ty o m n b r s (Err k) (Err j) e f g le go =
    let same : j ≡ k = cc in
    record {
      offset = o;
      kind = k;
      within = le;
      of_first = error_first tx m o b r k le e;
      of_second = error_first ty n o b s j le f ∙ ap (λ i. Some (fault_at o i)) same;
    }
decide tx ty o m n b r s (Ok t) (Err j) e f g le go = absurd (cc g)
decide tx ty o m n b r s (Err k) (Ok u) e f g le go = absurd (cc g)

-- at the last byte of the front
last_like : (tx ty : List ℕ) (m n b : ℕ) (x y : List ℕ) → AreLike x y → most_bytes < length tx → most_bytes < length ty → AreCounts (b ∷ []) m n
    → FaultsAt (faults_from tx m 65536 (b ∷ x)) (faults_from ty n 65536 (b ∷ y))
last_like tx ty m n b x y h lx ly c =
    decide tx ty 65536 m n b x y (front_token m b x) (front_token n b y) refl refl (like_at m n b [] x y h c) (lit≤ tt)
    (λ t u e f. record {
      offset = 65536;
      kind = TooLong;
      within = lit≤ tt;
      of_first = too_long_first tx m b x t lx (step tx m 65536 b x t e);
      of_second = too_long_first ty n b y u ly (step ty n 65536 b y u f);
    })

front_faults : (g x y tx ty : List ℕ) (o m n : ℕ) → AreLike x y → most_bytes < length tx → most_bytes < length ty → o + length g ≡ most_bytes + 1 → 0 < length g → AreCounts g m n
    → FaultsAt (faults_from tx m o (g ++ x)) (faults_from ty n o (g ++ y))
front_faults [] x y tx ty o m n h lx ly e some c = absurd (omega (arith, some))
front_faults (b ∷ []) x y tx ty o m n h lx ly e some c =
    let last : o ≡ 65536 = omega (arith, e) in
    subst (λ k. FaultsAt (faults_from tx m k (b ∷ x)) (faults_from ty n k (b ∷ y))) (sym last) (last_like tx ty m n b x y h lx ly c)
front_faults (b ∷ d ∷ ds) x y tx ty o m n h lx ly e some c =
    let r = (d ∷ ds) ++ x in
    let s = (d ∷ ds) ++ y in
    let rec = front_faults (d ∷ ds) x y tx ty (o + 1) (past_behind m b r) (past_behind n b s) h lx ly (omega (arith, e)) (omega arith) (counts_behind m n b (d ∷ ds) x y h c) in
    decide tx ty o m n b r s (front_token m b r) (front_token n b s) refl refl (like_at m n b (d ∷ ds) x y h c) (omega (arith, e))
    (λ t u i j. record {
      offset = rec.offset;
      kind = rec.kind;
      within = rec.within;
      of_first = ap earliest (step tx m o b r t i).faults ∙ rec.of_first;
      of_second = ap earliest (step ty n o b s u j).faults ∙ rec.of_second;
    })

-- ---- what is kept

abbrev front_kept : List ℕ → Kept
front_kept f = record nothing_kept { bytes = f }

first_tail : (f : List ℕ) → IsTail [] (front_kept f)
first_tail f = record { words = refl; count = refl; ahead = []; zs = []; ds = []; split = refl; zeros_are = refl; zeros_count = refl; digits_are = refl; digits_count = refl; high = refl }

first_byte : (f : List ℕ) (b : ℕ) → most_bytes < length f → (keep (front_kept f) b).bytes ≡ f ++ b ∷ []
first_byte f b many =
    let t : nat_lt most_bytes (length f) ≡ true = grind (arith, nat_tests) in
    ap (λ v. (cond v (keep_behind (front_kept f) b) (record (front_kept f) { bytes = f ++ b ∷ [] })).bytes) t
    ∙ elim (is_digit b) as (λ v. (cond v (keep_digit (front_kept f) b) (keep_other (front_kept f) b)).bytes ≡ f ++ b ∷ []) [ true ↦ digit | false ↦ refl ]
  where
    digit : (keep_digit (front_kept f) b).bytes ≡ f ++ b ∷ []
    digit =
        elim (is_zero b && true) as (λ v. (cond v (record (front_kept f) { bytes = f ++ b ∷ []; zeros = 0 + 1 }) (record (front_kept f) { bytes = f ++ b ∷ []; digits = 0 + 1 })).bytes ≡ f ++ b ∷ []) [ true ↦ refl | false ↦ refl ]

equal_kept : (x f t : List ℕ) → most_bytes < length f → (fold keep (front_kept f) x).bytes ≡ f ++ t → begins_equal x ≡ begins_equal t
equal_kept [] f [] many e = refl
equal_kept [] f (c ∷ cs) many e = absurd (let same = ap length e in omega (arith, same, length-append f (c ∷ cs)))
equal_kept (b ∷ z) f t many e =
    let more = bytes_add (keep (front_kept f) b) z in
    let all : f ++ t ≡ f ++ b ∷ more.0 = sym e ∙ more.1 ∙ ap (λ k. k ++ more.0) (first_byte f b many) ∙ append_assoc f (b ∷ []) more.0 in
    let same : t ≡ b ∷ more.0 = sym (drop_at f t (length f) refl) ∙ ap (drop (length f)) all ∙ drop_at f (b ∷ more.0) (length f) refl in
    sym (ap begins_equal same)

position_same : (f x y : List ℕ) (o : ℕ) → o ≤ length f → position_at (f ++ x) o ≡ position_at (f ++ y) o
position_same f x y o le = ap (fold behind first_position) (take-append-le o f x le ∙ sym (take-append-le o f y le))

told_same : (f x y : List ℕ) → most_bytes < length f → FaultsAt (faults (f ++ x)) (faults (f ++ y))
    → option_map (told (f ++ y)) (earliest (faults (f ++ y))) ≡ option_map (told (f ++ x)) (earliest (faults (f ++ x)))
told_same f x y many h =
    ap (option_map (told (f ++ y))) h.of_second ∙ ap (λ p. Some (fault p h.kind)) (sym (position_same f x y h.offset (omega (arith, h.within, many)))) ∙ sym (ap (option_map (told (f ++ x))) h.of_first)

-- a text of more than 65,537 bytes
long_kept : (f x : List ℕ) → length f ≡ most_bytes + 1 → option_map (told (kept_text (f ++ x))) (earliest (faults (kept_text (f ++ x)))) ≡ option_map (told (f ++ x)) (earliest (faults (f ++ x)))
long_kept f x e =
    let many : most_bytes < length f = omega (arith, e) in
    let tail = tail_kept x f [] (front_kept f) many (sym (append-nil f)) (first_tail f) in
    let y = tail.0 in
    let kept : kept_text (f ++ x) ≡ f ++ y =
    ap (λ (k : Kept). k.bytes) (fold-append keep nothing_kept f x) ∙ ap (λ k. (fold keep k x).bytes) (all_kept nothing_kept f (omega (arith, e))) ∙ tail.1 in
    let like : AreLike x y = record { words = tail.2; equals = equal_kept x f y many tail.1 } in
    let same : FaultsAt (faults (f ++ x)) (faults (f ++ y)) =
    front_faults f x y (f ++ x) (f ++ y) 0 0 0 like (omega (arith, length-append f x, many)) (omega (arith, length-append f y, many)) (omega (arith, e)) (omega (arith, many)) (inl refl) in
    subst (λ k. option_map (told k) (earliest (faults k)) ≡ option_map (told (f ++ x)) (earliest (faults (f ++ x)))) (sym kept) (told_same f x y many same)

pub keeps_faults : KeepsFaults
keeps_faults text = go (nat_lt (most_bytes + 1) (length text)) refl
  where
    go : (t : Bool) → nat_lt (most_bytes + 1) (length text) ≡ t → option_map (told (kept_text text)) (earliest (faults (kept_text text))) ≡ option_map (told text) (earliest (faults text))
    go false e =
        let few : length text ≤ most_bytes + 1 = grind (arith, nat_tests) in
        let same : kept_text text ≡ text = ap (λ (k : Kept). k.bytes) (all_kept nothing_kept text (omega (arith, few))) in
        subst (λ k. option_map (told k) (earliest (faults k)) ≡ option_map (told text) (earliest (faults text))) (sym same) refl
    go true e =
        let many : most_bytes + 1 < length text = grind (arith, nat_tests) in
        let f = take (most_bytes + 1) text in
        let x = drop (most_bytes + 1) text in
        let whole : f ++ x ≡ text = take-append-drop (most_bytes + 1) text in
        let all = ap length whole in
        let long : length f ≡ most_bytes + 1 = omega (arith, all, length-append f x, length-drop (most_bytes + 1) text, many) in
        subst (λ k. option_map (told (kept_text k)) (earliest (faults (kept_text k))) ≡ option_map (told k) (earliest (faults k))) whole (long_kept f x long)
