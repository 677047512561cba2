-- Two runs of one policy don't clash.
use Rattle.std.proofs.Common.{sym, ap, ◌∙◌, subst}
use Rattle.maple_base.specs.Questions.{meets}
use Rattle.policy_meaning.specs.Cells.{Gives}
use Rattle.policy_meaning.specs.Through.{through, nothing}
use Rattle.policy_meaning.specs.QuestionLaws.{NoClash, IsTrace}
use Rattle.trace_record.specs.Runs.{meaning_of}
use Rattle.trace_record.specs.Laws.{NeverClash}

-- each is the trace of its own key in the environment
pub never_clash : NoClash → NeverClash
never_clash law a b env r s alike g h apart =
    let c = meaning_of a in
    let t : IsTrace c b.key b.items b.cells b.outcome = rw (alike.policy, alike.budget, alike.switch) s.trace in
    let p = r.trace.law a.key r.trace.valid r.trace.own env g in
    let q = t.law b.key t.valid t.own env h in
    let w = law (through c nothing) a.key b.key env env env (subst (Gives env) (sym p.cells) g) (subst (Gives env) (sym q.cells) h) (ap (meets b.key) p.items ∙ apart) in
    let free = rw (p.items, q.items) at w in
    record { before = free.0; behind = free.1 }
