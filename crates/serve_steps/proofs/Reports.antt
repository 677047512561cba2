-- The report is what was taken, and the lines that weren't taken yet.
use Rattle.std.proofs.Common.{◌≡◌, [], ◌∷◌, ◌++◌, append-nil, refl, sym, ap, ◌∙◌}
use Rattle.std.proofs.lemmas.Grind.{flat_map-append}
use Rattle.sim_steps.proofs.Told.{taken_by_turn, taken_by_turns, told_of}
use Rattle.serve_steps.specs.Deeds.{Past, turns_of}
use Rattle.serve_steps.specs.Deeds.Deed.{Enters, Does}
use Rattle.serve_steps.specs.Runs.{taken_report}
use Rattle.serve_steps.specs.Laws.{ReportIsTold}

taken_is : (past : Past) → taken_report past ≡ taken_by_turns (turns_of past)
taken_is [] = refl
taken_is (Does act ∷ past) = append-nil (taken_report past) ∙ taken_is past ∙ ap taken_by_turns (sym (append-nil (turns_of past)))
taken_is (Enters t ∷ past) =
    ap (λ xs. xs ++ taken_by_turn t) (taken_is past)
    ∙ sym (flat_map-append taken_by_turn (turns_of past) (t ∷ []) ∙ ap (λ xs. taken_by_turns (turns_of past) ++ xs) (append-nil (taken_by_turn t)))

pub report_is_told : ReportIsTold
report_is_told = told_of turns_of taken_report taken_is
