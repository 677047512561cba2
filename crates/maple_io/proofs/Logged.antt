-- What a log has with one more act.
use Rattle.std.proofs.Common.{◌≡◌, ℕ, Bool, true, false, List, [], ◌∷◌, ◌++◌, append-nil, refl, ap, ◌∙◌}
use Rattle.std.proofs.lemmas.Grind.{flat_map-append}
use Rattle.std.proofs.lemmas.List.Folds.{list_any-append}
use Rattle.std.specs.Prelude.{◌||◌}
use Rattle.maple_io.specs.declared.act.Act.{Act}
use Rattle.maple_io.specs.Boards.{is_closing, is_opening, sent, sent_in, was_closed, was_opened}

pub sent_more : (c : ℕ) (log : List Act) (a : Act) → sent c (log ++ a ∷ []) ≡ sent c log ++ sent_in c a
sent_more c log a = flat_map-append (sent_in c) log (a ∷ []) ∙ ap (λ b. sent c log ++ b) (append-nil (sent_in c a))

or_none : (a b : Bool) → b ≡ false → (a || (b || false)) ≡ a
or_none true b e = refl
or_none false b e = ap (λ x. x || false) e

pub opened_more : (c : ℕ) (log : List Act) (a : Act) → was_opened c (log ++ a ∷ []) ≡ (was_opened c log || (is_opening c a || false))
opened_more c log a = list_any-append (is_opening c) log (a ∷ [])

pub closed_more : (c : ℕ) (log : List Act) (a : Act) → was_closed c (log ++ a ∷ []) ≡ (was_closed c log || (is_closing c a || false))
closed_more c log a = list_any-append (is_closing c) log (a ∷ [])

pub not_opened : (c : ℕ) (log : List Act) (a : Act) → is_opening c a ≡ false → was_opened c (log ++ a ∷ []) ≡ was_opened c log
not_opened c log a e = opened_more c log a ∙ or_none (was_opened c log) (is_opening c a) e

pub not_closed : (c : ℕ) (log : List Act) (a : Act) → is_closing c a ≡ false → was_closed c (log ++ a ∷ []) ≡ was_closed c log
not_closed c log a e = closed_more c log a ∙ or_none (was_closed c log) (is_closing c a) e
