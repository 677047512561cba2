-- The report is what was taken, and the lines that weren't taken yet.
use Rattle.std.proofs.Common.{◌≡◌, List, [], ◌∷◌, ◌++◌, ap, ap₂, refl}
use Rattle.sim_steps.specs.Agreeing.{taken_report, taken_text}
use Rattle.sim_steps.specs.Deeds.{Deed, Event, entry_in, reply_in, turns_of}
use Rattle.sim_steps.specs.Deeds.Deed.{Enters, Calls}
use Rattle.sim_steps.proofs.Told.{taken_by_turns, told_of}
use Rattle.sim_laws.specs.Laws.{ReportLaw}

deed_taken : (deed : Deed) → taken_text deed ≡ taken_text (Enters (entry_in deed) (reply_in deed))
deed_taken (Enters entry reply) = refl
deed_taken (Calls c call reply) = refl

taken_is : (es : List Event) → taken_report es ≡ taken_by_turns (turns_of es)
taken_is [] = refl
taken_is (e ∷ es) = ap₂ (λ xs ys. xs ++ ys) (deed_taken e.deed) (taken_is es)

pub report_law : ReportLaw
report_law = told_of turns_of taken_report taken_is
