-- What is taken of the report.
use Rattle.std.proofs.Common.{◌≡◌, ℕ, List, [], ◌∷◌, ◌++◌, append-nil, map, refl, ap, ◌∙◌}
use Rattle.history_lock.specs.Histories.{AreAllowed}
use Rattle.machine_sharing.specs.Legal.{call_of}
use Rattle.machine_sharing.specs.Sharing.{Allows, Call}
use Rattle.machine_steps.specs.declared.entry.Entry.{Entry}
use Rattle.machine_steps.specs.declared.entry.Entry.TheVariants as entries
use Rattle.machine_steps.specs.declared.reply.Reply.{Reply}
use Rattle.machine_steps.specs.Histories.{Turn}
use Rattle.sim_steps.specs.Agreeing.{taken_text}
use Rattle.sim_steps.specs.Deeds.Deed.{Enters as EntersAtBench}
use Rattle.serve_steps.specs.Deeds.{Past}
use Rattle.serve_steps.specs.Deeds.Deed.{Enters}
use Rattle.serve_steps.specs.Laws.{entered}
use Rattle.serve_steps.specs.Runs.{taken_report}

others_take_none : (log : List Call) (entry : Entry) (reply : Reply) → Allows log entry → taken_text (EntersAtBench entry reply) ≡ []
others_take_none log entries.TakeReport reply allowed = absurd allowed
others_take_none log entry reply allowed = refl

-- others take nothing of it
pub taken_others : (log : List Call) (ts : List Turn) (past : Past) → AreAllowed Allows log (map call_of ts) → taken_report (entered ts past) ≡ taken_report past
taken_others log [] past allowed = refl
taken_others log (t ∷ ts) past allowed =
    taken_others (log ++ call_of t ∷ []) ts (Enters t ∷ past) allowed.1
    ∙ ap (λ (text : List ℕ). taken_report past ++ text) (others_take_none log t.entry t.reply allowed.0) ∙ append-nil (taken_report past)
