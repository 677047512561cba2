-- A session that ended is put as closed.
use Rattle.std.proofs.Common.{◌≡◌, ℕ, ◌==◌, not, List, [], ◌∷◌, ◌++◌, set, map, sym, ap, ◌∙◌}
use Rattle.std.specs.List.{AllPairs, filter}
use Rattle.report_text.specs.declared.line.Line.{Line}
use Rattle.report_text.specs.declared.line.Line.TheVariants.{Closed}
use Rattle.switch_session.specs.declared.told.End.{End}
use Rattle.machine_parts.specs.declared.connection.Connection.{Connection}
use Rattle.machine_steps.specs.declared.job.Job.{Job}
use Rattle.machine_parts.specs.declared.parts.Parts.TheInside.{Inside}
use Rattle.machine_steps.specs.Machine.{Session, State, with_session}
use Rattle.machine_parts.specs.Seen.{seen}
use Rattle.machine_parts.specs.Sessions.{session_of}
use Rattle.machine_steps.specs.Sound.{AreOthers}
use Rattle.machine_steps.specs.Steps.{closes, why_of}
use Rattle.machine_parts.proofs.Sessions.{StandsAt, changed}

-- behind the change the fields are seen as the state in which the session is closed
pub closed_is : (a : Inside) (m : State) (view : seen a ≡ m) (c at : ℕ) (s e : Session) (is : StandsAt m c at s) (end : End) (t : Connection) (jobs : List Job) (lines : List Line)
    → AllPairs AreOthers m.sessions → e.connection ≡ c → session_of t ≡ e
    → jobs ≡ filter (λ (j : Job). not (j.connection == c)) a.jobs.items → lines ≡ a.lines.items ++ Closed c (why_of end) ∷ []
    → record (seen a) { sessions = map session_of (set a.sessions.items at t); jobs = jobs; lines = lines } ≡ closes e end m
closed_is a m view c at s e is end t jobs lines others of te je le =
    let put : map session_of (set a.sessions.items at t) ≡ (with_session e m).sessions =
    changed a.sessions.items m (ap (λ (n : State). n.sessions) view) c at s is others t (ap (λ (u : Session). u.connection) te ∙ of) ∙ ap (λ (u : Session). (with_session u m).sessions) te in
    let left : jobs ≡ filter (λ (j : Job). not (j.connection == e.connection)) m.jobs =
    je ∙ ap (λ (n : State). filter (λ (j : Job). not (j.connection == c)) n.jobs) view ∙ ap (λ n. filter (λ (j : Job). not (j.connection == n)) m.jobs) (sym of) in
    let told : lines ≡ m.lines ++ Closed e.connection (why_of end) ∷ [] =
    le ∙ ap (λ (n : State). n.lines ++ Closed c (why_of end) ∷ []) view ∙ ap (λ n. m.lines ++ Closed n (why_of end) ∷ []) (sym of) in
    λ i. record (view i) { sessions = put i; jobs = left i; lines = told i }
