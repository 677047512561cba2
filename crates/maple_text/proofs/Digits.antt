-- What the digits of a word spell, one after the other.
use Rattle.std.proofs.Common.{◌≡◌, ℕ, ◌+◌, ◌-◌, ◌*◌, ◌^◌, ◌<◌, ◌≤◌, true, List, [], ◌∷◌, length, drop, get_or, Some, None, arith}
use Rattle.std.specs.List.{list_all}
use Rattle.std.proofs.lemmas.List.{drop_all, drop_more}
use Rattle.std.proofs.lemmas.Grind.{common_steps}
use Rattle.maple_text.specs.Numbers.{is_digit, digits_onto, number_of}

-- further digits make no number less
pub digits_grow : (n : ℕ) (bs : List ℕ) → n ≤ digits_onto n bs
digits_grow n [] = omega arith
digits_grow n (b ∷ bs) = let h = digits_grow (10 * n + (b - 48)) bs in omega (arith, h)

-- a number that a front of the word reaches is reached by the word
pub digits_at : (n i : ℕ) (word : List ℕ) → i < length word → digits_onto n (drop i word) ≡ digits_onto 0 word → 10 * n + (get_or word i 0 - 48) ≤ digits_onto 0 word
digits_at n i word lt e =
    let h = digits_grow (10 * n + (get_or word i 0 - 48)) (drop (i + 1) word) in
    let s : digits_onto n (drop i word) ≡ digits_onto (10 * n + (get_or word i 0 - 48)) (drop (i + 1) word) = rw (drop_more word i 0 lt) in
    omega (arith, h, s, e)

pub too_great : (n i : ℕ) (word : List ℕ) → i < length word → digits_onto n (drop i word) ≡ digits_onto 0 word → 2 ^ 64 ≤ 10 * n + (get_or word i 0 - 48) → None ≡ number_of word
too_great n i word lt e big = let h = digits_at n i word lt e in let g : 2 ^ 64 ≤ digits_onto 0 word = omega (arith, h) in grind (arith, common_steps)

whole : (n : ℕ) (word : List ℕ) → 0 < length word → true ≡ list_all is_digit word → n ≡ digits_onto 0 word → n < 2 ^ 64 → Some n ≡ number_of word
whole n word some all e small = grind (arith, common_steps)

pub ended : (n i : ℕ) (word : List ℕ) → length word ≤ i → 0 < length word → list_all is_digit (drop i word) ≡ list_all is_digit word → digits_onto n (drop i word) ≡ digits_onto 0 word → n < 2 ^ 64 → Some n ≡ number_of word
ended n i word past some all e small =
    let none : drop i word ≡ [] = drop_all i word past in
    whole n word some (rw none at all) (rw none at e) small
