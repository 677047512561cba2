-- What each entry does to the traces of each switch.
use Rattle.std.proofs.Common.{◌≡◌, true, false, List, [], refl, sym, ap, ◌∙◌, subst, inl, inr, ⊎_elim}
use Rattle.std.specs.Prelude.{None}
use Rattle.std.proofs.lemmas.Option.{none-some}
use Rattle.report_text.specs.declared.line.Line.{Line}
use Rattle.report_text.specs.declared.line.Line.TheVariants as lines
use Rattle.switch_session.specs.declared.told.End.{End}
use Rattle.switch_session.specs.declared.told.Heard.{Heard}
use Rattle.switch_session.specs.declared.told.Heard.TheVariants as heard
use Rattle.machine_steps.specs.declared.entry.Entry.{Entry}
use Rattle.machine_steps.specs.declared.entry.Entry.TheVariants as entries
use Rattle.machine_steps.specs.declared.reply.Reply.{Reply}
use Rattle.machine_steps.specs.declared.reply.Reply.TheVariants.{Answered}
use Rattle.machine_steps.specs.Admitting.{Admits}
use Rattle.machine_steps.specs.Effects.{tells_run, job_in, only_moves, Hearing, Ending, shuts, Effect}
use Rattle.machine_steps.specs.Effects.Effect.{RunsOut, Rests as RestsAll, Misses, Outdates, Tells, Reports, OpensSession, TurnsAway, Empties, Moves, Quiets, Ends, Advances, Renews, Accepts, Overflows, Waits, Spends, AnswersJob}
use Rattle.machine_steps.specs.Histories.{Turn, IsTurn}
use Rattle.machine_steps.specs.Machine.{Session, State, is_of, with_session, tells, tells_all}
use Rattle.machine_steps.specs.Sound.{IsInOrder, IsSound}
use Rattle.machine_steps.specs.Steps.{switch_of, quiets, job_of, Steps}
use Rattle.machine_steps.proofs.Changes.{changes}
use Rattle.machine_steps.proofs.Effects.{effect_of}
use Rattle.machine_steps.proofs.Sound.Zipped.{find_all}
use Rattle.machine_history.specs.Live.{asked_at}
use Rattle.machine_history.proofs.Answering.{Laws, IsUnanswered, commits, decides, tells_learned, none_put, silent_learns}
use Rattle.machine_history.proofs.Answers.{rests_goes, goes_answered}
use Rattle.machine_history.proofs.Hearing.{IsAsQuiet, hears_so}
use Rattle.machine_history.proofs.Learning.{Goes, goes_renewed, goes_broken, turn}
use Rattle.machine_history.proofs.Quiet.{turns_same, turns_push}
use Rattle.machine_history.proofs.Resting.{Rests, rests_idle, rests_same, rests_told, rests_with, rests_closed, rests_reached, rests_joins, rests_taught, rests_waits, rests_takes}

-- what moves a session leaves it as quiet as it was
as_quiet : (x : Heard) (s t : Session) → only_moves x ≡ true → IsAsQuiet x s t → (t.connection ≡ s.connection) × (t.quiet ≡ s.quiet)
as_quiet (heard.Features dpid ports) s t moves q = (q.0, q.1)
as_quiet (heard.Refused kind code true) s t moves q = absurd (cc)
as_quiet x s t moves q = q

unlearned : (r : Reply) → tells_run r ≡ false → tells_learned r ≡ false
unlearned (Answered d l) untold = absurd (cc)
unlearned other untold = refl

module _ (laws : Laws) (old : State) (h : IsSound old) (entry : Entry) (reply : Reply) (new : State) where
  -- nothing is learned
  rested : tells_run reply ≡ false → Rests old reply new → Goes (turn old entry reply new)
  rested untold r = rests_goes laws old h entry reply new r (unlearned reply untold)

  quiet_of : (x : Heard) (t : Session) (from : Hearing old entry x t) → IsAsQuiet x from.session t
  quiet_of x t from =
      let s = from.session in
      hears_so old s (find_all (IsInOrder old) (is_of from.connection) old.sessions s h.sessions from.there) from.message.xid from.message.body x t from.hears

  ends : (t : Session) (end : End) (more : List Line) → Ending old entry t → Rests old reply (tells_all more (shuts t old))
  ends t end more (inl (c, s, is, found, same)) =
      rests_closed laws.same old h reply (is_of c) s t _ found (ap (λ (y : Session). y.connection) same) (ap (λ (y : Session). y.quiet) same)
  ends t end more (inr (inl (u, dpid, ports, from, same))) =
      let q = quiet_of (heard.Features dpid ports) u from in
      rests_closed laws.same old h reply (is_of from.connection) from.session t _ from.there (ap (λ (y : Session). y.connection) same ∙ q.0) (ap (λ (y : Session). y.quiet) same ∙ q.1)
  ends t end more (inr (inr (last, from))) =
      let q = quiet_of (heard.Ended last) t from in rests_closed laws.same old h reply (is_of from.connection) from.session t _ from.there q.0 q.1

  by_effect : tells_run reply ≡ false → job_in entry ≡ None → Effect old entry reply new → Goes (turn old entry reply new)
  by_effect untold free (RunsOut l) = rested untold (rests_same laws.same old h reply new l.1)
  by_effect untold free (RestsAll p e) = rested untold (rests_same laws.same old h reply new e)
  by_effect untold free (Misses number is r e) = absurd (none-some number (sym free ∙ is))
  by_effect untold free (Outdates number is differs r more e) = absurd (none-some number (sym free ∙ is))
  by_effect untold free (Tells p more e) = rested untold (subst (Rests old reply) (sym e) (rests_told laws.same old h reply _))
  by_effect untold free (Reports is r e) = rested untold (subst (Rests old reply) (sym e) (rests_told laws.same old h reply []))
  by_effect untold free (OpensSession c is fresh few r e) =
      rested untold (subst (Rests old reply) (sym e) (rests_idle laws.same old h reply _ refl refl refl refl (turns_push old.sessions _ refl) (λ j d. inl d)))
  by_effect untold free (TurnsAway c is fresh full r e) =
      rested untold (subst (Rests old reply) (sym e) (rests_idle laws.same old h reply _ refl refl refl refl (turns_same old.sessions) (λ j d. inl d)))
  by_effect untold free (Empties c s t bytes is found out r e) = rested untold (rests_takes laws.same old h reply c s t bytes new found out e)
  by_effect untold free (Moves x t from still p more e) =
      let q = as_quiet x from.session t still (quiet_of x t from) in
      rested untold (subst (Rests old reply) (sym e) (rests_with laws.same old h reply (is_of from.connection) from.session t _ from.there q.0 q.1))
  by_effect untold free (Quiets kind code t from p e) =
      let q = quiet_of (heard.Refused kind code true) t from in
      subst (λ x. Goes (turn old entry reply x)) (sym (e ∙ ap (λ x. quiets x (tells (lines.Error x.connection kind code) (with_session x old))) q.0))
      (goes_broken laws.same old h entry reply (λ n x. none_put n (asked_at old entry) reply (unlearned reply untold)) (is_of from.connection) from.session _ from.there q.2 q.1)
  by_effect untold free (Ends t end ending r more e) = rested untold (subst (Rests old reply) (sym e) (ends t end more ending))
  by_effect untold free (Advances u may allowed r a) = rested untold (rests_reached laws.same old h reply u new a)
  by_effect untold free (Renews p is r a) = goes_renewed p old entry reply new a (λ n. none_put n (asked_at old entry) reply (unlearned reply untold))
  by_effect untold free (Accepts t dpid ports from r j) =
      let q = quiet_of (heard.Features dpid ports) t from in
      rested untold (rests_joins laws.same old h reply (is_of from.connection) from.session t from.there q.0 q.1 q.2 dpid ports new j)
  by_effect untold free (Overflows t buffer frame k m p many r e) =
      let a = rests_taught laws.same old h reply (switch_of t) k m p.teaches in
      rested untold (subst (Rests old reply) (sym e) (record { policy = a.policy; traces = a.traces; quiet = a.quiet; count = a.count; jobs = a.jobs }))
  by_effect untold free (Waits t buffer frame k m p few r e) =
      rested untold (subst (Rests old reply) (sym e) (rests_waits laws.same old h reply m (job_of t buffer frame k m) (rests_taught laws.same old h reply (switch_of t) k m p.teaches) r))
  by_effect untold free (Spends j run r e) = absurd (none-some run.number (sym free ∙ run.is))
  by_effect untold free (AnswersJob j items cells d run a) = absurd (none-some run.number (sym free ∙ run.is))

  unanswered : IsUnanswered old reply new → Goes (turn old entry reply new)
  unanswered u = rests_goes laws old h entry reply new u.rests (silent_learns reply u.silent)

  -- an entry for no job
  jobless : job_in entry ≡ None → Steps old entry reply new → Goes (turn old entry reply new)
  jobless free d = by_effect (⊎_elim (λ (number, is). absurd (none-some number (sym free ∙ is))) (λ f. f) (changes old entry reply new d).run) free (effect_of old reply new entry d)

goes : (laws : Laws) (old : State) → IsSound old → (entry : Entry) (reply : Reply) (new : State) → Admits old entry → Steps old entry reply new → Goes (turn old entry reply new)
goes laws old h (entries.Commit number run) reply new a d =
    ⊎_elim (unanswered laws old h (entries.Commit number run) reply new) (goes_answered laws old h (entries.Commit number run) reply new number) (commits laws old h number reply new run a d)
goes laws old h (entries.Decide number) reply new a d =
    ⊎_elim (unanswered laws old h (entries.Decide number) reply new) (goes_answered laws old h (entries.Decide number) reply new number) (decides laws old h number reply new d)
goes laws old h other reply new a d = jobless laws old h other reply new refl d

pub goes_turn : Laws → (t : Turn) → IsSound t.before → IsTurn t → Goes t
goes_turn laws t h is = goes laws t.before h t.entry t.reply t.behind is.admitted is.steps
