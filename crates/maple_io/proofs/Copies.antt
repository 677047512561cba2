-- What stands in a slice after the front of another was copied to it.
use Rattle.std.proofs.Common.{ℕ, ◌≡◌, ◌≤◌, ◌+◌, ◌-◌, List, ◌++◌, length, take, drop, sym, ap, ◌∙◌, length-drop, rules}
use Rattle.std.proofs.lemmas.List.{take-append-le, take-append-drop, drop-drop, length-take-le}
use Rattle.std.proofs.Math.Seq.{take-length, take-append_seam}

-- all from a place on is what a slice from there has
pub all_from : (xs : List ℕ) (at : ℕ) → take (length xs - at) (drop at xs) ≡ drop at xs
all_from xs at = ap (λ n. take n (drop at xs)) (sym (length-drop at xs)) ∙ take-length (drop at xs)

-- a front that is followed by anything is still there
pub front_of_copy : (xs ys : List ℕ) (n : ℕ) → n ≤ length xs → take n (take n xs ++ ys) ≡ take n xs
front_of_copy xs ys n fits = search (rules, take-append_seam, length-take-le, take-append-le)

-- the copied front and the rest are all from a place on
pub copied : (xs ys : List ℕ) (at n : ℕ) → n ≤ length (drop at xs) → drop at xs ≡ take n (take n (drop at xs) ++ ys) ++ drop (at + n) xs
copied xs ys at n fits =
    sym (ap (λ front. front ++ drop (at + n) xs) (front_of_copy (drop at xs) ys n fits)
    ∙ ap (λ back. take n (drop at xs) ++ back) (sym (drop-drop n at xs))
    ∙ take-append-drop n (drop at xs))
