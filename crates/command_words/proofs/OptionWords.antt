-- The settings that options choose, a word further.
use Rattle.std.proofs.Common.{◌≡◌, ℕ, zero, suc, ◌-◌, ◌≤◌, List, [], ◌∷◌, take, drop, length, get_or, Some, None, refl, sym, ap, ◌∙◌, arith}
use Rattle.std.specs.Option.{option_and_then}
use Rattle.command_words.specs.declared.options.Setting.{Setting}
use Rattle.command_words.specs.declared.options.Chosen.{Chosen}
use Rattle.command_words.specs.Options.{with_setting, setting_given, setting_named, options, option_first}

all_taken : {A : Type 0} (xs : List A) (n : ℕ) → n ≡ length xs → take n xs ≡ xs
all_taken [] zero h = refl
all_taken [] (suc n) h = absurd (omega (arith, h))
all_taken (x ∷ xs) zero h = absurd (omega (arith, h))
all_taken (x ∷ xs) (suc n) h = ap (λ l. x ∷ l) (all_taken xs n (omega (arith, h)))

-- what is behind so many words
abbrev behind : ℕ → List (List ℕ) → List (List ℕ)
behind n ws = take (length ws - n) (drop n ws)

-- of two words and more the first is an option, or the first and the second are
first_two : (ws : List (List ℕ)) (w v : List ℕ) (c : Chosen) → 2 ≤ length ws → w ≡ get_or ws 0 w → v ≡ get_or ws 1 v
    → options ws c ≡ option_first (setting_given w) (setting_named w) v c (options (behind 1 ws)) (options (behind 2 ws))
first_two [] w v c h p q = absurd (omega (arith, h))
first_two (x ∷ []) w v c h p q = absurd (omega (arith, h))
first_two (x ∷ y ∷ ws) w v c h p q =
    ap (λ z. option_first (setting_given z) (setting_named z) y c (options (y ∷ ws)) (options ws)) (sym p)
    ∙ ap (λ z. option_first (setting_given w) (setting_named w) z c (options (y ∷ ws)) (options ws)) (sym q)
    ∙ ap (λ l. option_first (setting_given w) (setting_named w) v c (options l) (options ws)) (sym (all_taken (y ∷ ws) (length (x ∷ y ∷ ws) - 1) (omega arith)))
    ∙ ap (λ l. option_first (setting_given w) (setting_named w) v c (options (behind 1 (x ∷ y ∷ ws))) (options l)) (sym (all_taken ws (length (x ∷ y ∷ ws) - 2) (omega arith)))

pub one_word : (ws : List (List ℕ)) (w v : List ℕ) (c d : Chosen) (s : Setting) (value : List ℕ) → 2 ≤ length ws → w ≡ get_or ws 0 w → v ≡ get_or ws 1 v
    → setting_given w ≡ Some (s, value) → with_setting s value c ≡ Some d → options ws c ≡ options (behind 1 ws) d
one_word ws w v c d s value h p q g e =
    first_two ws w v c h p q ∙ ap (λ o. option_first o (setting_named w) v c (options (behind 1 ws)) (options (behind 2 ws))) g ∙ ap (λ o. option_and_then (options (behind 1 ws)) o) e

pub two_words : (ws : List (List ℕ)) (w v : List ℕ) (c d : Chosen) (s : Setting) → 2 ≤ length ws → w ≡ get_or ws 0 w → v ≡ get_or ws 1 v
    → setting_given w ≡ None → setting_named w ≡ Some s → with_setting s v c ≡ Some d → options ws c ≡ options (behind 2 ws) d
two_words ws w v c d s h p q g n e =
    first_two ws w v c h p q ∙ ap (λ o. option_first o (setting_named w) v c (options (behind 1 ws)) (options (behind 2 ws))) g
    ∙ ap (λ o. option_first None o v c (options (behind 1 ws)) (options (behind 2 ws))) n ∙ ap (λ o. option_and_then (options (behind 2 ws)) o) e
