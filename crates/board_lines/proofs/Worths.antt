-- Digits that change no refusal.
use Rattle.std.proofs.Common.{lit≤, ◌≡◌, ◌⊎◌, ℕ, ◌+◌, ◌-◌, ◌*◌, ◌^◌, ◌<◌, ◌≤◌, zero, suc, Bool, true, false, cond, eqb, List, [], ◌∷◌, ◌++◌, length, Option, Some, None, refl, sym, ap, ◌∙◌, subst, inl, inr, arith, ⊎_elim, append_assoc, length-append}
use Rattle.std.specs.Prelude.{nat_lt, ◌&&◌}
use Rattle.std.specs.List.{list_all, onto_first, slice_split}
use Rattle.std.specs.Result.{result_err}
use Rattle.std.specs.Slice.Scan.{big_endian}
use Rattle.std.proofs.lemmas.Bool.{and_parts}
use Rattle.std.proofs.lemmas.Bool.Decides.{nat_tests}
use Rattle.maple_base.specs.declared.policy_fault.PolicyFault.{PolicyFault}
use Rattle.maple_text.proofs.PartsOf.{some_part}
use Rattle.maple_text.specs.Numbers.{digits_onto, dotted, is_byte, is_digit, is_digits}
use Rattle.maple_text.specs.declared.number.Numeral.{Numeral}
use Rattle.maple_text.specs.declared.number.Numeral.TheVariants.{Number, TooGreat}
use Rattle.policy_tokens.specs.Words.{numeral_token}
use Rattle.board_lines.proofs.LongWords.{long_numeral}

-- ---- the number that digits spell

pub onto_append : (n : ℕ) (xs ys : List ℕ) → digits_onto n (xs ++ ys) ≡ digits_onto (digits_onto n xs) ys
onto_append n [] ys = refl
onto_append n (x ∷ xs) ys = onto_append (10 * n + (x - 48)) xs ys

pub onto_grows : (n : ℕ) (xs : List ℕ) → n ≤ digits_onto n xs
onto_grows n [] = omega arith
onto_grows n (x ∷ xs) = omega (arith, onto_grows (10 * n + (x - 48)) xs)

-- ten times a number, so many times
tens : ℕ → ℕ → ℕ
tens k zero = k
tens k (suc f) = tens (10 * k) f

onto_tens : (f k n : ℕ) (xs : List ℕ) → f ≤ length xs → k ≤ n → tens k f ≤ digits_onto n xs
unfolding tens
onto_tens zero k n xs h e = omega (arith, e, onto_grows n xs)
onto_tens (suc f) k n [] h e = absurd (omega (arith, h))
onto_tens (suc f) k n (x ∷ xs) h e = onto_tens f (10 * k) (10 * n + (x - 48)) xs (omega (arith, h)) (omega (arith, e))

-- twenty digits behind a number that isn't 0 make it too great
pub too_great : (n : ℕ) (xs : List ℕ) → 1 ≤ n → 20 ≤ length xs → 2 ^ 64 ≤ digits_onto n xs
unfolding tens
too_great n xs some many =
    let most : tens 1 20 ≤ digits_onto n xs = onto_tens 20 1 n xs many some in
    let bound : 2 ^ 64 ≤ tens 1 20 = lit≤ tt in
    omega (arith, most, bound)

-- ---- texts of the same worth

-- two numbers are the same, or both are too great
abbrev pub AreAlike : ℕ → ℕ → Type 0
AreAlike m n = (m ≡ n) ⊎ ((2 ^ 64 ≤ m) × (2 ^ 64 ≤ n))

-- both are digits or neither is, and behind any digits they spell numbers that are alike
pub record SameWorth (p q : List ℕ) : Type 0 where
  pub digits : list_all is_digit p ≡ list_all is_digit q
  pub some : nat_lt 0 (length p) ≡ nat_lt 0 (length q)
  pub worth : (m : ℕ) → AreAlike (digits_onto m p) (digits_onto m q)

pub worth_refl : (p : List ℕ) → SameWorth p p
worth_refl p = record { digits = refl; some = refl; worth = λ m. inl refl }

some_of : (xs : List ℕ) → 0 < length xs → nat_lt 0 (length xs) ≡ true
some_of xs k = grind (arith, nat_tests)

pub worth_more : (b : ℕ) (p q : List ℕ) → SameWorth p q → SameWorth (b ∷ p) (b ∷ q)
worth_more b p q h = record {
  digits = ap (λ t. is_digit b && t) h.digits;
  some = some_of (b ∷ p) (omega arith) ∙ sym (some_of (b ∷ q) (omega arith));
  worth = λ m. h.worth (10 * m + (b - 48));
}

pub worth_behind : (x p q : List ℕ) → SameWorth p q → SameWorth (x ++ p) (x ++ q)
worth_behind [] p q h = h
worth_behind (b ∷ bs) p q h = worth_more b (bs ++ p) (bs ++ q) (worth_behind bs p q h)

-- a digit that changes no number behind these digits
pub record IsSettled (ds : List ℕ) (b : ℕ) : Type 0 where
  pub digits : list_all is_digit ds ≡ true
  pub digit : is_digit b ≡ true
  pub some : 0 < length ds
  pub worth : (m : ℕ) → (digits_onto m (ds ++ b ∷ []) ≡ digits_onto m ds) ⊎ (2 ^ 64 ≤ digits_onto m ds)

alike_behind : (m n : ℕ) (v : List ℕ) → (m ≡ n) ⊎ ((2 ^ 64 ≤ m) × (2 ^ 64 ≤ n)) → AreAlike (digits_onto m v) (digits_onto n v)
alike_behind m n v h =
    ⊎_elim (λ e. inl (ap (λ k. digits_onto k v) e)) (λ k. inr (omega (arith, k.0, onto_grows m v), omega (arith, k.1, onto_grows n v))) h

all_append : (xs ys : List ℕ) → list_all is_digit xs ≡ true → list_all is_digit (xs ++ ys) ≡ list_all is_digit ys
all_append [] ys h = refl
all_append (x ∷ xs) ys h = let p = and_parts (is_digit x) (list_all is_digit xs) h in ap (λ t. t && list_all is_digit (xs ++ ys)) p.0 ∙ all_append xs ys p.1

pub settled_worth : (ds : List ℕ) (b : ℕ) (v : List ℕ) → IsSettled ds b → SameWorth (ds ++ b ∷ v) (ds ++ v)
settled_worth ds b v h = record {
  digits = all_append ds (b ∷ v) h.digits ∙ ap (λ t. t && list_all is_digit v) h.digit ∙ sym (all_append ds v h.digits);
  some = some_of (ds ++ b ∷ v) (omega (arith, h.some, length-append ds (b ∷ v))) ∙ sym (some_of (ds ++ v) (omega (arith, h.some, length-append ds v)));
  worth = λ m.
      let one : digits_onto m (ds ++ b ∷ v) ≡ digits_onto (digits_onto m (ds ++ b ∷ [])) v =
      ap (digits_onto m) (sym (append_assoc ds (b ∷ []) v)) ∙ onto_append m (ds ++ b ∷ []) v in
      let two : digits_onto m (ds ++ v) ≡ digits_onto (digits_onto m ds) v = onto_append m ds v in
      subst (λ x. AreAlike x (digits_onto m (ds ++ v))) (sym one) (subst (λ x. AreAlike (digits_onto (digits_onto m (ds ++ b ∷ [])) v) x) (sym two) (
      alike_behind (digits_onto m (ds ++ b ∷ [])) (digits_onto m ds) v (
      ⊎_elim (λ e. inl e) (λ k. inr (subst (λ x. 2 ^ 64 ≤ x) (sym (onto_append m ds (b ∷ []))) (omega (arith, k, onto_grows (digits_onto m ds) (b ∷ []))), k)) (h.worth m)
      )
      ));
}

-- ---- parts

abbrev pub AreWorth : List (List ℕ) → List (List ℕ) → Type 0
AreWorth [] [] = Unit {0}
AreWorth (p ∷ ps) (q ∷ qs) = SameWorth p q × AreWorth ps qs
AreWorth ps qs = ⊥

are_refl : (ps : List (List ℕ)) → AreWorth ps ps
are_refl [] = tt
are_refl (p ∷ ps) = (worth_refl p, are_refl ps)

onto_worth : (b : ℕ) (ps qs : List (List ℕ)) → AreWorth ps qs → AreWorth (onto_first b ps) (onto_first b qs)
onto_worth b [] [] h = (worth_refl (b ∷ []), tt)
onto_worth b (p ∷ ps) (q ∷ qs) h = (worth_more b p q h.0, h.1)
onto_worth b [] (q ∷ qs) h = absurd h
onto_worth b (p ∷ ps) [] h = absurd h

abbrev pub parts : List ℕ → List (List ℕ)
parts = slice_split (λ b. eqb b 46)

no_dot : (d : ℕ) → is_digit d ≡ true → eqb d 46 ≡ false
no_dot d h = grind (arith, nat_tests)

-- digits stand at the front of the first part
digits_first : (ds v c : List ℕ) (cs : List (List ℕ)) → list_all is_digit ds ≡ true → parts v ≡ c ∷ cs → parts (ds ++ v) ≡ (ds ++ c) ∷ cs
digits_first [] v c cs h e = e
digits_first (d ∷ ds) v c cs h e =
    let p = and_parts (is_digit d) (list_all is_digit ds) h in
    ap (λ t. cond t ([] ∷ parts (ds ++ v)) (onto_first d (parts (ds ++ v)))) (no_dot d p.0) ∙ ap (onto_first d) (digits_first ds v c cs p.1 e)

pub parts_worth : (x ds : List ℕ) (b : ℕ) (v : List ℕ) → IsSettled ds b → AreWorth (parts (x ++ (ds ++ b ∷ v))) (parts (x ++ (ds ++ v)))
parts_worth [] ds b v h =
    let p = some_part 46 v in
    let one : parts (b ∷ v) ≡ (b ∷ p.first) ∷ p.others = digits_first (b ∷ []) v p.first p.others (ap (λ t. t && true) h.digit) p.is in
    let long : parts (ds ++ b ∷ v) ≡ (ds ++ b ∷ p.first) ∷ p.others = digits_first ds (b ∷ v) (b ∷ p.first) p.others h.digits one in
    let short : parts (ds ++ v) ≡ (ds ++ p.first) ∷ p.others = digits_first ds v p.first p.others h.digits p.is in
    subst (λ ps. AreWorth ps (parts (ds ++ v))) (sym long) (subst (λ qs. AreWorth ((ds ++ b ∷ p.first) ∷ p.others) qs) (sym short) (settled_worth ds b p.first h, are_refl p.others))
parts_worth (e ∷ es) ds b v h =
    let rec = parts_worth es ds b v h in
    elim (eqb e 46) as (λ t. AreWorth (cond t ([] ∷ parts (es ++ (ds ++ b ∷ v))) (onto_first e (parts (es ++ (ds ++ b ∷ v))))) (cond t ([] ∷ parts (es ++ (ds ++ v))) (onto_first e (parts (es ++ (ds ++ v)))))) [
      | true ↦ (worth_refl [], rec)
      | false ↦ onto_worth e (parts (es ++ (ds ++ b ∷ v))) (parts (es ++ (ds ++ v))) rec
    ]

-- ---- what is told of numbers

abbrev pub fault_of : Option Numeral → Option PolicyFault
fault_of o = result_err (numeral_token o)

-- the tests of a number alone decide
by_tests : (t u : Bool) (m n : ℕ) → fault_of (cond t (Some (cond u (Number m) TooGreat)) None) ≡ fault_of (cond t (Some (cond u (Number n) TooGreat)) None)
by_tests true true m n = refl
by_tests true false m n = refl
by_tests false u m n = refl

below_alike : (bound m n : ℕ) → bound ≤ 2 ^ 64 → AreAlike m n → nat_lt m bound ≡ nat_lt n bound
below_alike bound m n few h =
    ⊎_elim (λ e. ap (λ k. nat_lt k bound) e) (λ k. past m (omega (arith, k.0, few)) ∙ sym (past n (omega (arith, k.1, few)))) h
  where
    past : (k : ℕ) → bound ≤ k → nat_lt k bound ≡ false
    past k e = grind (arith, nat_tests)

digits_alike : (p q : List ℕ) → SameWorth p q → is_digits p ≡ is_digits q
digits_alike p q h = ap (λ t. t && list_all is_digit p) h.some ∙ ap (λ t. nat_lt 0 (length q) && t) h.digits

byte_alike : (p q : List ℕ) → SameWorth p q → is_byte (digits_onto 0 p) ≡ is_byte (digits_onto 0 q)
byte_alike p q h = below_alike 256 (digits_onto 0 p) (digits_onto 0 q) (lit≤ tt) (h.worth 0)

and_alike : (a x b y c z d w : Bool) → a ≡ x → b ≡ y → c ≡ z → d ≡ w → (a && b && c && d) ≡ (x && y && z && w)
and_alike a x b y c z d w e f g h = cc

abbrev are_digits : List ℕ → List ℕ → List ℕ → List ℕ → Bool
are_digits a b c d = is_digits a && is_digits b && is_digits c && is_digits d

abbrev are_bytes : List ℕ → List ℕ → List ℕ → List ℕ → Bool
are_bytes a b c d = is_byte (digits_onto 0 a) && is_byte (digits_onto 0 b) && is_byte (digits_onto 0 c) && is_byte (digits_onto 0 d)

abbrev joined : List ℕ → List ℕ → List ℕ → List ℕ → ℕ
joined a b c d = big_endian 0 (digits_onto 0 a ∷ digits_onto 0 b ∷ digits_onto 0 c ∷ digits_onto 0 d ∷ [])

four_alike : (a b c d x y z w : List ℕ) → SameWorth a x → SameWorth b y → SameWorth c z → SameWorth d w
    → fault_of (dotted (a ∷ b ∷ c ∷ d ∷ [])) ≡ fault_of (dotted (x ∷ y ∷ z ∷ w ∷ []))
four_alike a b c d x y z w ha hb hc hd =
    let digits : are_digits a b c d ≡ are_digits x y z w =
    and_alike (is_digits a) (is_digits x) (is_digits b) (is_digits y) (is_digits c) (is_digits z) (is_digits d) (is_digits w) (digits_alike a x ha) (digits_alike b y hb) (digits_alike c z hc) (digits_alike d w hd) in
    let bytes : are_bytes a b c d ≡ are_bytes x y z w =
    and_alike (is_byte (digits_onto 0 a)) (is_byte (digits_onto 0 x)) (is_byte (digits_onto 0 b)) (is_byte (digits_onto 0 y)) (is_byte (digits_onto 0 c)) (is_byte (digits_onto 0 z)) (is_byte (digits_onto 0 d)) (is_byte (digits_onto 0 w))
    (byte_alike a x ha) (byte_alike b y hb) (byte_alike c z hc) (byte_alike d w hd) in
    by_tests (are_digits a b c d) (are_bytes a b c d) (joined a b c d) (joined x y z w)
    ∙ ap (λ t. fault_of (cond t (Some (cond (are_bytes a b c d) (Number (joined x y z w)) TooGreat)) None)) digits
    ∙ ap (λ u. fault_of (cond (are_digits x y z w) (Some (cond u (Number (joined x y z w)) TooGreat)) None)) bytes

dotted_alike : (ps qs : List (List ℕ)) → AreWorth ps qs → fault_of (dotted ps) ≡ fault_of (dotted qs)
dotted_alike [] [] h = refl
dotted_alike (a ∷ []) (x ∷ []) h = refl
dotted_alike (a ∷ b ∷ []) (x ∷ y ∷ []) h = refl
dotted_alike (a ∷ b ∷ c ∷ []) (x ∷ y ∷ z ∷ []) h = refl
dotted_alike (a ∷ b ∷ c ∷ d ∷ []) (x ∷ y ∷ z ∷ w ∷ []) h = four_alike a b c d x y z w h.0 h.1.0 h.1.1.0 h.1.1.1.0
dotted_alike (a ∷ b ∷ c ∷ d ∷ e ∷ ps) (x ∷ y ∷ z ∷ w ∷ v ∷ qs) h = refl
dotted_alike [] (x ∷ qs) h = absurd h
dotted_alike (a ∷ ps) [] h = absurd h
dotted_alike (a ∷ []) (x ∷ y ∷ qs) h = absurd h.1
dotted_alike (a ∷ b ∷ ps) (x ∷ []) h = absurd h.1
dotted_alike (a ∷ b ∷ []) (x ∷ y ∷ z ∷ qs) h = absurd h.1.1
dotted_alike (a ∷ b ∷ c ∷ ps) (x ∷ y ∷ []) h = absurd h.1.1
dotted_alike (a ∷ b ∷ c ∷ []) (x ∷ y ∷ z ∷ w ∷ qs) h = absurd h.1.1.1
dotted_alike (a ∷ b ∷ c ∷ d ∷ ps) (x ∷ y ∷ z ∷ []) h = absurd h.1.1.1
dotted_alike (a ∷ b ∷ c ∷ d ∷ []) (x ∷ y ∷ z ∷ w ∷ v ∷ qs) h = absurd h.1.1.1.1
dotted_alike (a ∷ b ∷ c ∷ d ∷ e ∷ ps) (x ∷ y ∷ z ∷ w ∷ []) h = absurd h.1.1.1.1

either_way : (t u : Bool) (m n : ℕ) (o r : Option Numeral) → fault_of o ≡ fault_of r
    → fault_of (cond t (Some (cond u (Number m) TooGreat)) o) ≡ fault_of (cond t (Some (cond u (Number n) TooGreat)) r)
either_way true true m n o r h = refl
either_way true false m n o r h = refl
either_way false u m n o r h = h

-- long words of the same worth are told alike
pub long_alike : (v w : List ℕ) → SameWorth v w → AreWorth (parts v) (parts w) → fault_of (long_numeral v) ≡ fault_of (long_numeral w)
long_alike v w h i =
    either_way (is_digits v) (nat_lt (digits_onto 0 v) (2 ^ 64)) (digits_onto 0 v) (digits_onto 0 w) (dotted (parts v)) (dotted (parts w)) (dotted_alike (parts v) (parts w) i)
    ∙ ap (λ t. fault_of (cond t (Some (cond (nat_lt (digits_onto 0 v) (2 ^ 64)) (Number (digits_onto 0 w)) TooGreat)) (dotted (parts w)))) (digits_alike v w h)
    ∙ ap (λ u. fault_of (cond (is_digits w) (Some (cond u (Number (digits_onto 0 w)) TooGreat)) (dotted (parts w)))) (below_alike (2 ^ 64) (digits_onto 0 v) (digits_onto 0 w) (lit≤ tt) (h.worth 0))
