-- The report of a run grows with its parts.
use Rattle.std.proofs.Common.{◌≡◌, ℕ, List, [], ◌∷◌, ◌++◌, append-nil, append_assoc, sym, ap, ◌∙◌, subst}
use Rattle.std.specs.List.{flat_map}
use Rattle.std.proofs.lemmas.Grind.{flat_map-append}
use Rattle.maple_io.specs.declared.act.Act.TheVariants as acts
use Rattle.maple_io.specs.Fronts.{IsFront}
use Rattle.report_text.specs.declared.line.ScriptRefusal.{ScriptRefusal}
use Rattle.report_text.specs.Report.{spelled}
use Rattle.machine_steps.specs.Histories.{Turn, report_of, said}
use Rattle.serve_steps.specs.Deeds.{Past, turn_in, turns_of}
use Rattle.serve_steps.specs.Deeds.Deed.{Does}
use Rattle.serve_steps.specs.Parts.{Given, Part, deeds_of}
use Rattle.serve_steps.specs.Runs.{AreParts, ArePartsButLast, IsBrokenOff, IsWrittenButLast, report, IsDone, IsRefused, IsScriptOnly}
use Rattle.serve_channels.proofs.Stretching.{gathered_then}

pub front_then : (a b c : List ℕ) → IsFront a b → IsFront b c → IsFront a c
front_then a b c h k = (h.0 ++ k.0, sym (append_assoc a h.0 k.0) ∙ ap (λ (xs : List ℕ). xs ++ k.0) h.1 ∙ k.1)

-- what was done behind adds its lines
report_behind : (past more : Past) → report (more ++ past) ≡ report past ++ flat_map spelled (report_of (turns_of more))
report_behind past more =
    ap (λ (ts : List Turn). flat_map spelled (report_of ts)) (gathered_then turn_in past more)
    ∙ ap (flat_map spelled) (flat_map-append (λ (t : Turn). said t.before t.entry t.behind) (turns_of past) (turns_of more))
    ∙ flat_map-append spelled (report_of (turns_of past)) (report_of (turns_of more))

-- that of the parts ahead stands at its front
pub report_grows : (first : Past) (ahead : List Part) (p : Part) → IsFront (report (deeds_of first ahead)) (report (deeds_of first (p ∷ ahead)))
report_grows first ahead p =
    let past = deeds_of first ahead in
    let turned = Does (acts.Gives p.given p.bytes) ∷ past in
    let later = flat_map spelled (report_of (turns_of p.done)) in
    let same : report past ≡ report turned = ap (λ (ts : List Turn). flat_map spelled (report_of ts)) (sym (append-nil (turns_of past))) in
    (later, ap (λ (text : List ℕ). text ++ later) same ∙ sym (report_behind turned p.done))

-- where the whole report was written, and maybe more
pub written_behind : (first : Past) (parts : List Part) (more text : List ℕ) → report (deeds_of first parts) ++ more ≡ text → IsWrittenButLast first parts text
written_behind first [] more text e = tt
written_behind first (p ∷ ahead) more text e =
    front_then (report (deeds_of first ahead)) (report (deeds_of first (p ∷ ahead))) text (report_grows first ahead p) (more, e)

-- where the whole report was written, that of the parts but the last was
pub written_by : (first : Past) (parts : List Part) (text : List ℕ) → text ≡ report (deeds_of first parts) → IsWrittenButLast first parts text
written_by first parts text is = written_behind first parts [] text (append-nil (report (deeds_of first parts)) ∙ sym is)

-- ---- a run that came to its end, as one that broke off

pub but_last : (g : Given) (first : Past) (parts : List Part) → AreParts g first parts → ArePartsButLast g first parts
but_last g first [] are = tt
but_last g first (p ∷ ahead) are = are.1

pub done_broken : (g : Given) (first : Past) (parts : List Part) (text : List ℕ) → IsDone g first parts text → IsBrokenOff g first parts text
done_broken g first parts text h = record {
  ahead = but_last g first parts h.all;
  written = written_by first parts text h.text_is;
  front = ([], append-nil text ∙ h.text_is);
}

-- a script that was refused has no part but the first
pub report_only : (g : Given) (first : Past) (parts : List Part) → IsScriptOnly g first parts → report first ≡ report (deeds_of first parts)
report_only g first parts only = ap (λ (ps : List Part). report (deeds_of first ps)) (sym only.no_turn)

pub script_broken : (line : ℕ) (kind : ScriptRefusal) (g : Given) (first : Past) (parts : List Part) (text : List ℕ) → IsRefused g line kind first parts text
    → IsBrokenOff g first parts text
script_broken line kind g first parts text h =
    let is = h.text_is ∙ report_only g first parts h.only in
    record {
      ahead = subst (ArePartsButLast g first) (sym h.only.no_turn) tt;
      written = written_by first parts text is;
      front = ([], append-nil text ∙ is);
    }
