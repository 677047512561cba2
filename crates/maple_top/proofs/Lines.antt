-- The lines of a text, put together again.
use Rattle.std.proofs.Common.{◌≡◌, ℕ, true, false, cond, eqb, List, [], ◌∷◌, refl, ap, ◌∙◌}
use Rattle.std.specs.List.{concat}
use Rattle.script_text.specs.Lines.{ended_lines, onto_first}
use Rattle.maple_top.specs.Texts.{Texts, input_texts}

onto_joined : (b : ℕ) (lines : List (List ℕ)) → concat (onto_first b lines) ≡ b ∷ concat lines
onto_joined b [] = refl
onto_joined b (l ∷ ls) = refl

pub lines_joined : (text : List ℕ) → concat (ended_lines text) ≡ text
lines_joined [] = refl
lines_joined (b ∷ bs) =
    elim (eqb b 10) as (λ v. concat (cond v ((b ∷ []) ∷ ended_lines bs) (onto_first b (ended_lines bs))) ≡ b ∷ bs) [
      | true ↦ ap (λ t. b ∷ t) (lines_joined bs)
      | false ↦ onto_joined b (ended_lines bs) ∙ ap (λ t. b ∷ t) (lines_joined bs)
    ]

abbrev texts_of_parts : List ℕ → List ℕ → ℕ → Texts
texts_of_parts policy script first_line = record { policy = policy; script = script; first_line = first_line }

-- texts that are those of an input, part by part
pub texts_are : (input policy script : List ℕ) (first_line : ℕ) → policy ≡ (input_texts input).policy → script ≡ (input_texts input).script
    → first_line ≡ (input_texts input).first_line → texts_of_parts policy script first_line ≡ input_texts input
texts_are input policy script first_line e f g =
    ap (λ p. texts_of_parts p script first_line) e ∙ ap (λ s. texts_of_parts (input_texts input).policy s first_line) f
    ∙ ap (λ n. texts_of_parts (input_texts input).policy (input_texts input).script n) g
