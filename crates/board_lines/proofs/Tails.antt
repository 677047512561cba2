-- What is kept of a word that goes on behind the first 65,537 bytes is told as the word is.
use Rattle.std.proofs.Common.{◌≡◌, ◌⊎◌, ℕ, ◌+◌, ◌-◌, ◌<◌, ◌≤◌, Bool, true, false, cond, eqb, List, [], ◌∷◌, ◌++◌, length, zero, suc, ◌*◌, ◌^◌, Option, Some, refl, sym, ap, ◌∙◌, subst, inl, inr, arith, ⊎_elim, append-nil, append_assoc, length-append}
use Rattle.std.specs.Prelude.{fold, nat_lt, not, ◌&&◌}
use Rattle.std.specs.List.{list_all}
use Rattle.std.specs.Result.{result_err}
use Rattle.std.proofs.lemmas.Bool.{and_parts}
use Rattle.std.proofs.lemmas.Bool.Decides.{nat_tests}
use Rattle.std.proofs.lemmas.List.Folds.{list_all-append}
use Rattle.maple_base.specs.declared.policy_fault.PolicyFault.{PolicyFault}
use Rattle.maple_base.specs.declared.policy_fault.PolicyFault.TheVariants.{Token as no_token}
use Rattle.maple_base.specs.PolicyLimits.{most_bytes}
use Rattle.maple_text.specs.Numbers.{digits_onto, is_digit}
use Rattle.policy_tokens.specs.Bytes.{is_word_byte}
use Rattle.policy_tokens.specs.Words.{sign_of, token_of, word_token}
use Rattle.board_lines.specs.KeptTexts.{Kept, is_zero, keep, keep_behind, keep_digit, keep_other, long_word}
use Rattle.board_lines.proofs.LongWords.{long_numeral, long_word_is}
use Rattle.board_lines.proofs.Stuck.{others, others_append, stuck}
use Rattle.board_lines.proofs.Worths.{AreWorth, IsSettled, fault_of, long_alike, onto_append, parts, parts_worth, settled_worth, too_great, worth_behind}

-- ---- words

-- the bytes of words at the front of a text
abbrev pub word : List ℕ → List ℕ
word [] = []
word (b ∷ bs) = cond (is_word_byte b) (b ∷ word bs) []

pub word_all : (s z : List ℕ) → list_all is_word_byte s ≡ true → word (s ++ z) ≡ s ++ word z
word_all [] z h = refl
word_all (b ∷ bs) z h =
    let p = and_parts (is_word_byte b) (list_all is_word_byte bs) h in
    ap (λ t. cond t (b ∷ word (bs ++ z)) []) p.0 ∙ ap (λ x. b ∷ x) (word_all bs z p.1)

-- what is wrong with a word
abbrev pub word_fault : List ℕ → Option PolicyFault
word_fault w = result_err (token_of w)

pub record IsWord (u : List ℕ) : Type 0 where
  pub bytes : list_all is_word_byte u ≡ true
  pub some : 0 < length u

-- behind any word that begins before, the same is told of both
abbrev pub SameWord : List ℕ → List ℕ → Type 0
SameWord x y = (u : List ℕ) → IsWord u → word_fault (u ++ word x) ≡ word_fault (u ++ word y)

long_told : (u v : List ℕ) → IsWord u → 39 ≤ length (u ++ v) → word_fault (u ++ v) ≡ fault_of (long_numeral (u ++ v))
long_told [] v h long = absurd (omega (arith, h.some))
long_told (c ∷ cs) v h long =
    let p = and_parts (is_word_byte c) (list_all is_word_byte cs) h.bytes in
    ap (λ t. result_err (cond t (word_token ((c ∷ cs) ++ v)) (sign_of ((c ∷ cs) ++ v)))) p.0 ∙ ap result_err (long_word_is ((c ∷ cs) ++ v) long)

-- ---- bytes that change nothing

few_others : (xs : List ℕ) → others xs ≤ length xs
few_others [] = omega arith
few_others (x ∷ xs) = let h = few_others xs in elim (is_digit x) as (λ t. cond t (others xs) (1 + others xs) ≤ length (x ∷ xs)) [ true ↦ omega (arith, h) | false ↦ omega (arith, h) ]

stuck_told : (u s x : List ℕ) → IsWord u → 39 ≤ others s → word_fault (u ++ (s ++ x)) ≡ Some no_token
stuck_told u s x h many =
    let all = others_append u (s ++ x) in
    let behind = others_append s x in
    let long : 39 ≤ length (u ++ (s ++ x)) = omega (arith, length-append u (s ++ x), length-append s x, few_others s, many) in
    long_told u (s ++ x) h long ∙ stuck (u ++ (s ++ x)) (omega (arith, all, behind, many))

-- behind 39 bytes that are no digits no byte changes anything
stuck_word : (s r : List ℕ) (b : ℕ) → list_all is_word_byte s ≡ true → 39 ≤ others s → SameWord (s ++ b ∷ r) (s ++ r)
stuck_word s r b words many u h =
    ap (λ x. word_fault (u ++ x)) (word_all s (b ∷ r) words) ∙ stuck_told u s (word (b ∷ r)) h many
    ∙ sym (ap (λ x. word_fault (u ++ x)) (word_all s r words) ∙ stuck_told u s (word r) h many)

digit_dropped : (u a ds v : List ℕ) (b : ℕ) → IsWord u → IsSettled ds b → 39 ≤ length ds → word_fault (u ++ (a ++ (ds ++ b ∷ v))) ≡ word_fault (u ++ (a ++ (ds ++ v)))
digit_dropped u a ds v b h settled many =
    let first = a ++ (ds ++ b ∷ v) in
    let second = a ++ (ds ++ v) in
    let long : 39 ≤ length (u ++ first) = omega (arith, length-append u first, length-append a (ds ++ b ∷ v), length-append ds (b ∷ v), many) in
    let long' : 39 ≤ length (u ++ second) = omega (arith, length-append u second, length-append a (ds ++ v), length-append ds v, many) in
    let worth = worth_behind u first second (worth_behind a (ds ++ b ∷ v) (ds ++ v) (settled_worth ds b v settled)) in
    let shares : AreWorth (parts (u ++ first)) (parts (u ++ second)) =
    subst (λ x. AreWorth (parts x) (parts (u ++ second))) (append_assoc u a (ds ++ b ∷ v)) (subst (λ x. AreWorth (parts ((u ++ a) ++ (ds ++ b ∷ v))) (parts x)) (append_assoc u a (ds ++ v)) (parts_worth (u ++ a) ds b v settled)) in
    long_told u first h long ∙ long_alike (u ++ first) (u ++ second) worth shares ∙ sym (long_told u second h long')

settled_word : (s a ds r : List ℕ) (b : ℕ) → list_all is_word_byte s ≡ true → is_word_byte b ≡ true → s ≡ a ++ ds → IsSettled ds b → 39 ≤ length ds → SameWord (s ++ b ∷ r) (s ++ r)
settled_word s a ds r b words byte e settled many u h =
    ap (λ x. word_fault (u ++ x)) (word_all s (b ∷ r) words) ∙ ap (λ t. word_fault (u ++ (s ++ cond t (b ∷ word r) []))) byte
    ∙ ap (λ x. word_fault (u ++ (x ++ b ∷ word r))) e ∙ ap (λ x. word_fault (u ++ x)) (append_assoc a ds (b ∷ word r))
    ∙ digit_dropped u a ds (word r) b h settled many
    ∙ sym (ap (λ x. word_fault (u ++ x)) (word_all s r words) ∙ ap (λ x. word_fault (u ++ (x ++ word r))) e ∙ ap (λ x. word_fault (u ++ x)) (append_assoc a ds (word r)))

-- ---- zeros and other digits

is_48 : (b : ℕ) → is_zero b ≡ true → b ≡ 48
is_48 b h = grind (arith, nat_tests)

zero_digit : (b : ℕ) → is_zero b ≡ true → is_digit b ≡ true
zero_digit b h = grind (arith, nat_tests)

zeros_digits : (zs : List ℕ) → list_all is_zero zs ≡ true → list_all is_digit zs ≡ true
zeros_digits [] h = refl
zeros_digits (z ∷ zs) h = let p = and_parts (is_zero z) (list_all is_zero zs) h in ap (λ t. t && list_all is_digit zs) (zero_digit z p.0) ∙ zeros_digits zs p.1

zeros_nothing : (zs : List ℕ) → list_all is_zero zs ≡ true → digits_onto 0 zs ≡ 0
zeros_nothing [] h = refl
zeros_nothing (z ∷ zs) h =
    let p = and_parts (is_zero z) (list_all is_zero zs) h in
    ap (λ b. digits_onto (10 * 0 + (b - 48)) zs) (is_48 z p.0) ∙ zeros_nothing zs p.1

settled_zeros : (zs : List ℕ) (b : ℕ) → list_all is_zero zs ≡ true → is_zero b ≡ true → 39 ≤ length zs → IsSettled zs b
settled_zeros zs b h z many = record {
  digits = zeros_digits zs h;
  digit = zero_digit b z;
  some = omega (arith, many);
  worth = λ m. go m;
}
  where
    nothing : digits_onto 0 (zs ++ b ∷ []) ≡ digits_onto 0 zs
    nothing = onto_append 0 zs (b ∷ []) ∙ ap (λ n. digits_onto n (b ∷ [])) (zeros_nothing zs h) ∙ ap (λ c. 10 * 0 + (c - 48)) (is_48 b z) ∙ sym (zeros_nothing zs h)

    go : (m : ℕ) → (digits_onto m (zs ++ b ∷ []) ≡ digits_onto m zs) ⊎ (2 ^ 64 ≤ digits_onto m zs)
    go zero = inl nothing
    go (suc m) = inr (too_great (suc m) zs (omega arith) (omega (arith, many)))

-- the first of these digits is no zero
abbrev pub begins_high : List ℕ → Bool
begins_high [] = true
begins_high (d ∷ ds) = not (is_zero d)

settled_digits : (ds : List ℕ) (b : ℕ) → list_all is_digit ds ≡ true → begins_high ds ≡ true → is_digit b ≡ true → 39 ≤ length ds → IsSettled ds b
settled_digits [] b h high digit many = absurd (omega (arith, many))
settled_digits (d ∷ ds) b h high digit many =
    let p = and_parts (is_digit d) (list_all is_digit ds) h in
    let above : 1 ≤ d - 48 = above_48 d p.0 high in
    record {
      digits = h;
      digit = digit;
      some = omega arith;
      worth = λ m. inr (too_great (10 * m + (d - 48)) ds (omega (arith, above)) (omega (arith, many)));
    }
  where
    above_48 : (d : ℕ) → is_digit d ≡ true → not (is_zero d) ≡ true → 1 ≤ d - 48
    above_48 d digit high = grind (arith, nat_tests)

-- ---- what is kept behind the front

-- the bytes that are kept behind a front are of a word, and these are their last digits
pub record IsTail (s : List ℕ) (k : Kept) : Type 0 where
  pub words : list_all is_word_byte s ≡ true
  pub count : others s + k.spare ≡ long_word
  pub ahead : List ℕ
  pub zs : List ℕ
  pub ds : List ℕ
  pub split : s ≡ ahead ++ (zs ++ ds)
  pub zeros_are : list_all is_zero zs ≡ true
  pub zeros_count : length zs ≡ k.zeros
  pub digits_are : list_all is_digit ds ≡ true
  pub digits_count : length ds ≡ k.digits
  pub high : begins_high ds ≡ true

-- a byte is kept; or it changes nothing, and is dropped; or it ends the word
abbrev Kept_of : List ℕ → Kept → ℕ → Kept → Type 0
Kept_of s k b m = (m.bytes ≡ k.bytes ++ b ∷ []) × IsTail (s ++ b ∷ []) m

abbrev Dropped : List ℕ → Kept → ℕ → Kept → Type 0
Dropped s k b m = (m ≡ k) × ((r : List ℕ) → SameWord (s ++ b ∷ r) (s ++ r))

abbrev Ended : List ℕ → Kept → ℕ → Kept → Type 0
Ended s k b m = (m.bytes ≡ k.bytes ++ b ∷ []) × (m.spare ≡ 0) × (is_word_byte b ≡ false)

abbrev Steps : List ℕ → Kept → ℕ → Kept → Type 0
Steps s k b m = Kept_of s k b m ⊎ (Dropped s k b m ⊎ Ended s k b m)

digit_word : (b : ℕ) → is_digit b ≡ true → is_word_byte b ≡ true
digit_word b h = grind (arith, nat_tests)

word_more : (s : List ℕ) (b : ℕ) → list_all is_word_byte s ≡ true → is_word_byte b ≡ true → list_all is_word_byte (s ++ b ∷ []) ≡ true
word_more s b h e = list_all-append is_word_byte s (b ∷ []) ∙ ap (λ t. t && (is_word_byte b && true)) h ∙ ap (λ t. t && true) e

digit_count : (s : List ℕ) (b n : ℕ) → is_digit b ≡ true → others s + n ≡ long_word → others (s ++ b ∷ []) + n ≡ long_word
digit_count s b n h e = let one : others (b ∷ []) ≡ 0 = ap (λ t. cond t 0 1) h in omega (arith, others_append s (b ∷ []), one, e)

none_of : (ds : List ℕ) (n : ℕ) → length ds ≡ n → n ≡ 0 → ds ≡ []
none_of [] n e f = refl
none_of (d ∷ ds) n e f = absurd (omega (arith, e, f))

zero_kept : (s : List ℕ) (k : Kept) (b : ℕ) → IsTail s k → is_zero b ≡ true → k.digits ≡ 0 → IsTail (s ++ b ∷ []) (record k { bytes = k.bytes ++ b ∷ []; zeros = k.zeros + 1 })
zero_kept s k b h z none =
    let no_digits = none_of h.ds k.digits h.digits_count none in
    record {
      words = word_more s b h.words (digit_word b (zero_digit b z));
      count = digit_count s b k.spare (zero_digit b z) h.count;
      ahead = h.ahead;
      zs = h.zs ++ b ∷ [];
      ds = [];
      split = ap (λ x. x ++ b ∷ []) (h.split ∙ ap (λ x. h.ahead ++ (h.zs ++ x)) no_digits ∙ ap (λ x. h.ahead ++ x) (append-nil h.zs)) ∙ append_assoc h.ahead h.zs (b ∷ []) ∙ ap (λ x. h.ahead ++ x) (sym (append-nil (h.zs ++ b ∷ [])));
      zeros_are = list_all-append is_zero h.zs (b ∷ []) ∙ ap (λ t. t && (is_zero b && true)) h.zeros_are ∙ ap (λ t. t && true) z;
      zeros_count = omega (arith, length-append h.zs (b ∷ []), h.zeros_count);
      digits_are = refl;
      digits_count = sym none;
      high = refl;
    }

high_more : (ds : List ℕ) (b : ℕ) → begins_high ds ≡ true → (length ds ≡ 0 → is_zero b ≡ false) → begins_high (ds ++ b ∷ []) ≡ true
high_more [] b h apart = ap not (apart refl)
high_more (d ∷ ds) b h apart = h

digit_kept : (s : List ℕ) (k : Kept) (b : ℕ) → IsTail s k → is_digit b ≡ true → (k.digits ≡ 0 → is_zero b ≡ false) → IsTail (s ++ b ∷ []) (record k { bytes = k.bytes ++ b ∷ []; digits = k.digits + 1 })
digit_kept s k b h digit apart = record {
  words = word_more s b h.words (digit_word b digit);
  count = digit_count s b k.spare digit h.count;
  ahead = h.ahead;
  zs = h.zs;
  ds = h.ds ++ b ∷ [];
  split = ap (λ x. x ++ b ∷ []) h.split ∙ append_assoc h.ahead (h.zs ++ h.ds) (b ∷ []) ∙ ap (λ x. h.ahead ++ x) (append_assoc h.zs h.ds (b ∷ []));
  zeros_are = h.zeros_are;
  zeros_count = h.zeros_count;
  digits_are = list_all-append is_digit h.ds (b ∷ []) ∙ ap (λ t. t && (is_digit b && true)) h.digits_are ∙ ap (λ t. t && true) digit;
  digits_count = omega (arith, length-append h.ds (b ∷ []), h.digits_count);
  high = high_more h.ds b h.high (λ e. apart (sym h.digits_count ∙ e));
}

digit_step : (s : List ℕ) (k : Kept) (b : ℕ) → IsTail s k → is_digit b ≡ true → Steps s k b (keep_digit k b)
digit_step s k b h digit = go (is_zero b && eqb k.digits 0) refl
  where
    zero_kept_of : (t : Bool) → nat_lt k.zeros long_word ≡ t → is_zero b ≡ true → k.digits ≡ 0 → Steps s k b (cond t (record k { bytes = k.bytes ++ b ∷ []; zeros = k.zeros + 1 }) k)
    zero_kept_of true e z none = inl (refl, zero_kept s k b h z none)
    zero_kept_of false e z none =
        let many : 39 ≤ length h.zs = let past : 39 ≤ k.zeros = grind (arith, nat_tests) in omega (arith, past, h.zeros_count) in
        let split : s ≡ h.ahead ++ h.zs = h.split ∙ ap (λ x. h.ahead ++ (h.zs ++ x)) (none_of h.ds k.digits h.digits_count none) ∙ ap (λ x. h.ahead ++ x) (append-nil h.zs) in
        inr (inl (refl, λ r. settled_word s h.ahead h.zs r b h.words (digit_word b digit) split (settled_zeros h.zs b h.zeros_are z many) many))

    other_kept_of : (t : Bool) → nat_lt k.digits long_word ≡ t → (k.digits ≡ 0 → is_zero b ≡ false) → Steps s k b (cond t (record k { bytes = k.bytes ++ b ∷ []; digits = k.digits + 1 }) k)
    other_kept_of true e apart = inl (refl, digit_kept s k b h digit apart)
    other_kept_of false e apart =
        let many : 39 ≤ length h.ds = let past : 39 ≤ k.digits = grind (arith, nat_tests) in omega (arith, past, h.digits_count) in
        let split : s ≡ (h.ahead ++ h.zs) ++ h.ds = h.split ∙ sym (append_assoc h.ahead h.zs h.ds) in
        inr (inl (refl, λ r. settled_word s (h.ahead ++ h.zs) h.ds r b h.words (digit_word b digit) split (settled_digits h.ds b h.digits_are h.high digit many) many))

    no_zero : (is_zero b && eqb k.digits 0) ≡ false → k.digits ≡ 0 → is_zero b ≡ false
    no_zero e none = and_first (is_zero b) (sym (ap (λ n. is_zero b && eqb n 0) none) ∙ e)
      where
        and_first : (t : Bool) → (t && true) ≡ false → t ≡ false
        and_first false e = refl
        and_first true e = absurd (cc)

    go : (t : Bool) → (is_zero b && eqb k.digits 0) ≡ t
        → Steps s k b (cond t (cond (nat_lt k.zeros long_word) (record k { bytes = k.bytes ++ b ∷ []; zeros = k.zeros + 1 }) k) (cond (nat_lt k.digits long_word) (record k { bytes = k.bytes ++ b ∷ []; digits = k.digits + 1 }) k))
    go true e =
        let p = and_parts (is_zero b) (eqb k.digits 0) e in
        let none : k.digits ≡ 0 = grind (arith, nat_tests, p.1) in
        zero_kept_of (nat_lt k.zeros long_word) refl p.0 none
    go false e = other_kept_of (nat_lt k.digits long_word) refl (no_zero e)

other_step : (s : List ℕ) (k : Kept) (b : ℕ) → IsTail s k → is_digit b ≡ false → 0 < k.spare → Steps s k b (keep_other k b)
other_step s k b h apart some = go (is_word_byte b) refl
  where
    go : (t : Bool) → is_word_byte b ≡ t → Steps s k b (record k { bytes = k.bytes ++ b ∷ []; spare = cond t (k.spare - 1) 0; zeros = 0; digits = 0 })
    go true e =
        let one : others (b ∷ []) ≡ 1 = ap (λ t. cond t 0 1) apart in
        inl (
          refl,
          record {
            words = word_more s b h.words e;
            count = omega (arith, others_append s (b ∷ []), one, h.count, some);
            ahead = s ++ b ∷ [];
            zs = [];
            ds = [];
            split = sym (append-nil (s ++ b ∷ []));
            zeros_are = refl;
            zeros_count = refl;
            digits_are = refl;
            digits_count = refl;
            high = refl;
          },
        )
    go false e = inr (inr (refl, refl, e))

step : (s : List ℕ) (k : Kept) (b : ℕ) → IsTail s k → most_bytes < length k.bytes → Steps s k b (keep k b)
step s k b h many = subst (Steps s k b) (sym past) (go (eqb k.spare 0) refl)
  where
    past : keep k b ≡ keep_behind k b
    past = let t : nat_lt most_bytes (length k.bytes) ≡ true = grind (arith, nat_tests) in ap (λ v. cond v (keep_behind k b) (record k { bytes = k.bytes ++ b ∷ [] })) t

    by_digit : (t : Bool) → is_digit b ≡ t → 0 < k.spare → Steps s k b (cond t (keep_digit k b) (keep_other k b))
    by_digit true e some = digit_step s k b h e
    by_digit false e some = other_step s k b h e some

    go : (t : Bool) → eqb k.spare 0 ≡ t → Steps s k b (cond t k (cond (is_digit b) (keep_digit k b) (keep_other k b)))
    go true e =
        let none : k.spare ≡ 0 = grind (arith, nat_tests) in
        inr (inl (refl, λ r. stuck_word s r b h.words (omega (arith, h.count, none))))
    go false e = by_digit (is_digit b) refl (grind (arith, nat_tests))

closed : (z : List ℕ) (k : Kept) → most_bytes < length k.bytes → k.spare ≡ 0 → fold keep k z ≡ k
closed [] k many none = refl
closed (b ∷ bs) k many none =
    let t : nat_lt most_bytes (length k.bytes) ≡ true = grind (arith, nat_tests) in
    let same : keep k b ≡ k =
    ap (λ v. cond v (keep_behind k b) (record k { bytes = k.bytes ++ b ∷ [] })) t ∙ ap (λ n. cond (eqb n 0) k (cond (is_digit b) (keep_digit k b) (keep_other k b))) none in
    ap (λ m. fold keep m bs) same ∙ closed bs k many none

-- what is kept of some bytes behind a front, and these bytes, are told alike
abbrev pub KeepsTail : List ℕ → List ℕ → Kept → List ℕ → Type 0
KeepsTail f s k z = (t : List ℕ) × ((fold keep k z).bytes ≡ f ++ t) × SameWord (s ++ z) t

pub tail_kept : (z f s : List ℕ) (k : Kept) → most_bytes < length f → k.bytes ≡ f ++ s → IsTail s k → KeepsTail f s k z
tail_kept [] f s k many e h = (s, e, λ u w. ap (λ x. word_fault (u ++ word x)) (append-nil s))
tail_kept (b ∷ z) f s k many e h =
    let long : most_bytes < length k.bytes = let same = ap length e in omega (arith, same, length-append f s, many) in
    ⊎_elim
    (λ i.
    let rec = tail_kept z f (s ++ b ∷ []) (keep k b) many (i.0 ∙ ap (λ x. x ++ b ∷ []) e ∙ append_assoc f s (b ∷ [])) i.1 in
    (rec.0, rec.1, subst (λ x. SameWord x rec.0) (append_assoc s (b ∷ []) z) rec.2))
    (λ i. ⊎_elim
    (λ j.
    let rec = tail_kept z f s k many e h in
    (rec.0, ap (λ m. (fold keep m z).bytes) j.0 ∙ rec.1, λ u w. j.1 z u w ∙ rec.2 u w))
    (λ j.
    let grown = ap length j.0 in
    let longer : most_bytes < length (keep k b).bytes = omega (arith, grown, length-append k.bytes (b ∷ []), long) in (
      s ++ b ∷ [],
      ap (λ (m : Kept). m.bytes) (closed z (keep k b) longer j.1) ∙ j.0 ∙ ap (λ x. x ++ b ∷ []) e ∙ append_assoc f s (b ∷ []),
      λ u w. ap (λ x. word_fault (u ++ x)) (word_all s (b ∷ z) h.words ∙ ap (λ t. s ++ cond t (b ∷ word z) []) j.2 ∙ sym (word_all s (b ∷ []) h.words ∙ ap (λ t. s ++ cond t (b ∷ []) []) j.2)),
    ))
    i)
    (step s k b h long)
