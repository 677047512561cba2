-- The first line of a text and the others.
use Rattle.std.proofs.Common.{◌≡◌, ℕ, ◌+◌, ◌<◌, Bool, true, false, cond, eqb, List, [], ◌∷◌, length, take, drop, refl, ap, ◌∙◌, arith, one-add}
use Rattle.script_text.specs.Lines.{onto_first, ended_lines, line_len, without_end}

pub line_len_some : (text : List ℕ) → 0 < length text → 0 < line_len text
line_len_some [] h = absurd (omega arith)
line_len_some (b ∷ bs) h = elim (eqb b 10) as (λ v. 0 < cond v 1 (1 + line_len bs)) [ true ↦ omega arith | false ↦ omega arith ]

behind_other : (b : ℕ) (bs : List ℕ) → (0 < length bs → ended_lines bs ≡ take (line_len bs) bs ∷ ended_lines (drop (line_len bs) bs)) →
    onto_first b (ended_lines bs) ≡ take (1 + line_len bs) (b ∷ bs) ∷ ended_lines (drop (1 + line_len bs) (b ∷ bs))
behind_other b [] h = refl
behind_other b (c ∷ cs) h = rw one-add (ap (onto_first b) (h (omega arith)))

pub first_line : (text : List ℕ) → 0 < length text → ended_lines text ≡ take (line_len text) text ∷ ended_lines (drop (line_len text) text)
first_line [] h = absurd (omega arith)
first_line (b ∷ bs) h =
    elim (eqb b 10) as (λ v. cond v ((b ∷ []) ∷ ended_lines bs) (onto_first b (ended_lines bs)) ≡ take (cond v 1 (1 + line_len bs)) (b ∷ bs) ∷ ended_lines (drop (cond v 1 (1 + line_len bs)) (b ∷ bs))) [
      | true ↦ refl
      | false ↦ behind_other b bs (first_line bs)
    ]

ended_at : (b : ℕ) (bs : List ℕ) → without_end (take (line_len bs) bs) ≡ without_end bs → (v : Bool) → eqb b 10 ≡ v
    → without_end (take (cond v 1 (1 + line_len bs)) (b ∷ bs)) ≡ cond v [] (b ∷ without_end bs)
ended_at b bs h true e = ap (λ w. cond w [] (b ∷ [])) e
ended_at b bs h false e = rw one-add (ap (λ w. cond w [] (b ∷ without_end (take (line_len bs) bs))) e ∙ ap (λ l. b ∷ l) h)

-- without its line feed a text's first line is what comes ahead of the first line feed
pub first_ended : (text : List ℕ) → without_end (take (line_len text) text) ≡ without_end text
first_ended [] = refl
first_ended (b ∷ bs) = ended_at b bs (first_ended bs) (eqb b 10) refl
