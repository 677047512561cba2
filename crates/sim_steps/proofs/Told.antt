-- The report of a legal history is what was taken of it, and the lines that weren't taken yet.
use Rattle.std.proofs.Common.{◌≡◌, ℕ, List, [], ◌∷◌, ◌++◌, append-nil, sym, ap, ◌∙◌, inl, inr, ⊎_elim}
use Rattle.std.specs.Prelude.{length, drop}
use Rattle.std.specs.List.{flat_map}
use Rattle.std.proofs.lemmas.Grind.{flat_map-append}
use Rattle.std.proofs.lemmas.List.{append_assoc}
use Rattle.std.proofs.Math.Seq.{drop-append_seam}
use Rattle.report_text.specs.declared.line.Line.{Line}
use Rattle.report_text.specs.Report.{spelled}
use Rattle.machine_steps.specs.declared.entry.Entry.{Entry}
use Rattle.machine_steps.specs.declared.entry.Entry.TheVariants as entries
use Rattle.machine_steps.specs.declared.reply.Reply.{Reply}
use Rattle.machine_steps.specs.Histories.{Leads, Turn, report_of, said}
use Rattle.machine_steps.specs.Machine.{State, opening}
use Rattle.machine_steps.specs.Steps.{Steps}
use Rattle.machine_steps.proofs.Changes.{changes}
use Rattle.sim_steps.specs.Agreeing.{taken_text}
use Rattle.sim_steps.specs.Deeds.Deed.{Enters}
use Rattle.sim_steps.specs.Ends.{ReportIsTold}

-- the lines that an entry gives stand behind those that were there
text_behind : (old new more : List Line) → new ≡ old ++ more → flat_map spelled old ++ flat_map spelled (drop (length old) new) ≡ flat_map spelled new
text_behind old new more e =
    ap (λ ls. flat_map spelled old ++ flat_map spelled (drop (length old) ls)) e
    ∙ ap (λ ls. flat_map spelled old ++ flat_map spelled ls) (drop-append_seam old more)
    ∙ sym (flat_map-append spelled old more)
    ∙ ap (flat_map spelled) (sym e)

abbrev TellsText : State → Entry → Reply → State → Type 0
TellsText old entry reply new =
    flat_map spelled old.lines ++ flat_map spelled (said old entry new) ≡ taken_text (Enters entry reply) ++ flat_map spelled new.lines

entry_text : (old : State) (entry : Entry) (reply : Reply) (new : State) → Steps old entry reply new → TellsText old entry reply new
entry_text old entries.TakeReport reply new (inl (r, e)) =
    sym (ap (λ s. taken_text (Enters entries.TakeReport s) ++ flat_map spelled new.lines) r ∙ ap (λ (n : State). flat_map spelled old.lines ++ flat_map spelled n.lines) e)
entry_text old entries.TakeReport reply new (inr (r, e)) =
    append-nil (flat_map spelled old.lines)
    ∙ sym (ap (λ s. taken_text (Enters entries.TakeReport s) ++ flat_map spelled new.lines) r ∙ ap (λ (n : State). flat_map spelled n.lines) e)
entry_text old other reply new steps = ⊎_elim (λ e. absurd (cc)) (λ x. text_behind old.lines new.lines x.more x.are) (changes old other reply new steps).lines

-- what was taken by the entries of these turns
abbrev pub taken_by_turn : Turn → List ℕ
taken_by_turn t = taken_text (Enters t.entry t.reply)

abbrev pub taken_by_turns : List Turn → List ℕ
taken_by_turns ts = flat_map taken_by_turn ts

told_along : (m : State) (ts : List Turn) (last : State) → Leads m ts last
    → flat_map spelled m.lines ++ flat_map spelled (report_of ts) ≡ taken_by_turns ts ++ flat_map spelled last.lines
told_along m [] last e = append-nil (flat_map spelled m.lines) ∙ ap (λ (x : State). flat_map spelled x.lines) (sym e)
told_along m (t ∷ ts) last (same, turn, rest) =
    let now = said t.before t.entry t.behind in
    let later = report_of ts in
    let taken = taken_by_turn t in
    let lines = flat_map spelled last.lines in
    ap (λ (x : State). flat_map spelled x.lines ++ flat_map spelled (now ++ later)) (sym same)
    ∙ ap (λ s. flat_map spelled t.before.lines ++ s) (flat_map-append spelled now later)
    ∙ sym (append_assoc (flat_map spelled t.before.lines) (flat_map spelled now) (flat_map spelled later))
    ∙ ap (λ s. s ++ flat_map spelled later) (entry_text t.before t.entry t.reply t.behind turn.steps)
    ∙ append_assoc taken (flat_map spelled t.behind.lines) (flat_map spelled later)
    ∙ ap (λ s. taken ++ s) (told_along t.behind ts last rest)
    ∙ sym (append_assoc taken (taken_by_turns ts) lines)

-- by what its turns took
pub told_of : {X : Type 0} (turns : X → List Turn) (taken : X → List ℕ) → ((x : X) → taken x ≡ taken_by_turns (turns x)) → ReportIsTold turns taken
told_of turns taken is x policy settings last leads =
    told_along (opening policy settings) (turns x) last leads ∙ ap (λ s. s ++ flat_map spelled last.lines) (sym (is x))
