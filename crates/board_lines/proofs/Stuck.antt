-- A long word with four bytes that are no digits is no token.
use Rattle.std.proofs.Common.{◌≡◌, ℕ, ◌+◌, ◌<◌, ◌≤◌, Bool, true, false, cond, List, [], ◌∷◌, ◌++◌, length, Some, None, refl, sym, ap, ◌∙◌, arith}
use Rattle.std.specs.Prelude.{nat_lt, ◌&&◌, ◌^◌}
use Rattle.std.specs.List.{join_with_byte, list_all}
use Rattle.std.proofs.lemmas.Bool.{and_parts}
use Rattle.std.proofs.lemmas.List.Splits.{join_with_byte-slice_split}
use Rattle.maple_base.specs.declared.policy_fault.PolicyFault.TheVariants.{Token as no_token}
use Rattle.maple_text.specs.Numbers.{digits_onto, dotted, four_bytes, is_digit, is_digits, numeral_within}
use Rattle.board_lines.proofs.LongWords.{long_numeral}
use Rattle.board_lines.proofs.Worths.{fault_of, parts}

-- how many bytes are no digits
abbrev pub others : List ℕ → ℕ
others [] = 0
others (b ∷ bs) = cond (is_digit b) (others bs) (1 + others bs)

pub others_append : (xs ys : List ℕ) → others (xs ++ ys) ≡ others xs + others ys
others_append [] ys = omega arith
others_append (x ∷ xs) ys =
    let h = others_append xs ys in
    elim (is_digit x) as (λ t. cond t (others (xs ++ ys)) (1 + others (xs ++ ys)) ≡ cond t (others xs) (1 + others xs) + others ys) [ true ↦ h | false ↦ omega (arith, h) ]

none_of_digits : (xs : List ℕ) → list_all is_digit xs ≡ true → others xs ≡ 0
none_of_digits [] h = refl
none_of_digits (x ∷ xs) h =
    let p = and_parts (is_digit x) (list_all is_digit xs) h in
    ap (λ t. cond t (others xs) (1 + others xs)) p.0 ∙ none_of_digits xs p.1

none_of_number : (xs : List ℕ) → is_digits xs ≡ true → others xs ≡ 0
none_of_number xs h = none_of_digits xs (and_parts (nat_lt 0 (length xs)) (list_all is_digit xs) h).1

no_number : (xs : List ℕ) → 0 < others xs → is_digits xs ≡ false
no_number xs h = go (is_digits xs) refl
  where
    go : (t : Bool) → is_digits xs ≡ t → t ≡ false
    go false e = refl
    go true e = let none = none_of_number xs e in absurd (omega (arith, none, h))

no_address : (w : List ℕ) (ps : List (List ℕ)) → parts w ≡ ps → 4 ≤ others w → dotted ps ≡ None
no_address w [] e h = refl
no_address w (a ∷ []) e h = refl
no_address w (a ∷ b ∷ []) e h = refl
no_address w (a ∷ b ∷ c ∷ []) e h = refl
no_address w (a ∷ b ∷ c ∷ d ∷ f ∷ ps) e h = refl
no_address w (a ∷ b ∷ c ∷ d ∷ []) e h = go (is_digits a && is_digits b && is_digits c && is_digits d) refl
  where
    count : others w ≡ others a + (1 + (others b + (1 + (others c + (1 + others d)))))
    count =
        let same : others w ≡ others (a ++ 46 ∷ (b ++ 46 ∷ (c ++ 46 ∷ d))) =
        ap others (sym (join_with_byte-slice_split 46 w)) ∙ ap (λ ps. others (join_with_byte 46 ps)) e in
        let one = others_append a (46 ∷ (b ++ 46 ∷ (c ++ 46 ∷ d))) in
        let two = others_append b (46 ∷ (c ++ 46 ∷ d)) in
        let three = others_append c (46 ∷ d) in
        omega (arith, same, one, two, three)

    go : (t : Bool) → (is_digits a && is_digits b && is_digits c && is_digits d) ≡ t → dotted (a ∷ b ∷ c ∷ d ∷ []) ≡ None
    go false n = ap (λ t. cond t (Some (four_bytes (digits_onto 0 a) (digits_onto 0 b) (digits_onto 0 c) (digits_onto 0 d))) None) n
    go true n =
        let to_c = and_parts (is_digits a && is_digits b && is_digits c) (is_digits d) n in
        let to_b = and_parts (is_digits a && is_digits b) (is_digits c) to_c.0 in
        let to_a = and_parts (is_digits a) (is_digits b) to_b.0 in
        absurd (omega (arith, h, count, none_of_number a to_a.0, none_of_number b to_a.1, none_of_number c to_b.1, none_of_number d to_c.1))

pub stuck : (w : List ℕ) → 4 ≤ others w → fault_of (long_numeral w) ≡ Some no_token
stuck w h =
    ap (λ t. fault_of (cond t (Some (numeral_within (2 ^ 64) (digits_onto 0 w))) (dotted (parts w)))) (no_number w (omega (arith, h)))
    ∙ ap fault_of (no_address w (parts w) refl h)
