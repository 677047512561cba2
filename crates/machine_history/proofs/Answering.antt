-- A turn that answers a packet: what was asked for it, and of whom.
use Rattle.std.proofs.Common.{◌≡◌, ◌≢◌, ◌⊎◌, ℕ, Bool, true, false, [], refl, sym, ap, ◌∙◌, subst, subst₂, inl, inr, ⊎_elim}
use Rattle.std.specs.Prelude.{◌==◌, find, Contains, Option, Some, None, option_map}
use Rattle.std.proofs.lemmas.Bool.{eq-eqb, eqb-true}
use Rattle.maple_base.specs.declared.decision.Outcome.{Outcome}
use Rattle.policy_meaning.specs.QuestionLaws.{OwnTrace}
use Rattle.policy_meaning.specs.Readings.{items_of, cells_of}
use Rattle.topo_paths.specs.Scenes.{cell_in}
use Rattle.trace_record.specs.Runs.{Recorded}
use Rattle.report_text.specs.declared.line.Learnt.TheVariants.{Learned}
use Rattle.tree_prune.specs.Laws.{SameIsEqual}
use Rattle.machine_steps.specs.declared.job.Job.{Job}
use Rattle.machine_steps.specs.declared.entry.Entry.TheVariants.{Commit, Decide}
use Rattle.machine_steps.specs.declared.reply.Reply.{Reply}
use Rattle.machine_steps.specs.declared.reply.Reply.TheVariants.{Answered}
use Rattle.machine_steps.specs.Machine.{State, policy_number}
use Rattle.machine_steps.specs.Steps.{Concludes, Commits, Decides, asked_now}
use Rattle.machine_steps.specs.Histories.{Turn}
use Rattle.machine_steps.specs.Admitting.{IsOfHistory}
use Rattle.machine_steps.specs.Running.{IsRunNow, CurrentRunsAreNow, RunsAreAsked}
use Rattle.machine_steps.specs.Sound.{IsSound}
use Rattle.machine_history.specs.Live.{Asked, asked_for, asked_at, put_in}
use Rattle.machine_history.specs.Jobs.{outcome_of, eval_now}
use Rattle.machine_history.proofs.Filters.{same_or_apart, find_only}
use Rattle.machine_history.proofs.Learning.{turn}
use Rattle.machine_history.proofs.Resting.{Rests, rests_same, rests_told}

-- what other crates prove
pub record Laws : Type 0 where
  pub same : SameIsEqual
  pub own : OwnTrace
  pub now : CurrentRunsAreNow
  pub asked : RunsAreAsked

-- the job of this number is answered with this outcome: it is plain evaluation's, and what was asked is what the policy in force asks now
pub record IsAnswer (t : Turn) (number : ℕ) : Type 0 where
  pub job : Job
  pub there : Contains t.before.jobs job
  pub of_number : job.number ≡ number
  pub asked : Asked
  pub brought : asked_at t.before t.entry ≡ Some asked
  pub switch : asked.switch ≡ job.switch
  pub key : asked.key ≡ job.key
  pub policy : asked.policy ≡ policy_number t.before
  pub items : asked.items ≡ items_of (asked_now job t.before) job.key (cell_in t.before.scene)
  pub cells : asked.cells ≡ cells_of (asked_now job t.before) job.key (cell_in t.before.scene)
  pub outcome : Outcome
  pub evaluated : eval_now t.before job.switch job.key ≡ outcome
  pub concludes : Concludes job asked.items asked.cells outcome t.before t.reply t.behind

-- or nothing is answered
pub record IsUnanswered (old : State) (reply : Reply) (new : State) : Type 0 where
  pub silent : outcome_of reply ≡ None
  pub rests : Rests old reply new

module _ (laws : Laws) (old : State) (h : IsSound old) (number : ℕ) (reply : Reply) (new : State) where
  unanswered : outcome_of reply ≡ None → new ≡ old → IsUnanswered old reply new
  unanswered silent e = record { silent = silent; rests = rests_same laws.same old h reply new e }

  pub commits : (run : Recorded) → IsOfHistory run old → Commits number run old reply new → IsUnanswered old reply new ⊎ IsAnswer (turn old (Commit number run) reply new) number
  commits run a (inl (not_there, r, e)) = inl (unanswered (ap outcome_of r) e)
  commits run a (inr (inl (j, is, other, r, e))) = inl (record { silent = ap outcome_of r; rests = subst (Rests old reply) (sym e) (rests_told laws.same old h reply _) })
  commits run a (inr (inr (inl (j, c, recorded, current, is, same, stale, r, e)))) = inl (record { silent = ap outcome_of r; rests = subst (Rests old reply) (sym e) (rests_told laws.same old h reply _) })
  commits run a (inr (inr (inr (inl (j, is, same, fresh, d))))) =
      let now = subst₂ (λ s k. IsRunNow old s k run) (sym is.switch) (sym is.key) (laws.now old run a same fresh) in
      let asks = laws.asked old j run now in
      inr (record {
        job = j;
        there = is.there;
        of_number = is.number;
        asked = record { switch = run.switch; key = run.key; policy = run.number; items = run.items; cells = run.cells };
        brought = refl;
        switch = sym is.switch;
        key = sym is.key;
        policy = same;
        items = asks.items;
        cells = asks.cells;
        outcome = run.outcome;
        evaluated = sym asks.outcome;
        concludes = d;
      })
  commits run a (inr (inr (inr (inr l)))) = inl (unanswered (ap outcome_of l.0) l.1)

  -- the open job of a number is the first of it
  job_found : (j : Job) → Contains old.jobs j → j.number ≡ number → find (λ (i : Job). i.number == number) old.jobs ≡ Some j
  job_found j there is =
      find_only (λ (i : Job). i.number == number) j old.jobs there (eq-eqb j.number number is)
      (λ i c e. ⊎_elim (λ s. s) (λ o. absurd (⊎_elim (λ x. x (eqb-true i.number number e ∙ sym is)) (λ x. x (is ∙ sym (eqb-true i.number number e))) o))
      (same_or_apart (λ (x y : Job). x.number ≢ y.number) old.jobs h.numbers i j c there))

  pub decides : Decides number old reply new → IsUnanswered old reply new ⊎ IsAnswer (turn old (Decide number) reply new) number
  decides (inl (not_there, r, e)) = inl (unanswered (ap outcome_of r) e)
  decides (inr (inl (j, is, d))) = inr (record {
    job = j;
    there = is.there;
    of_number = is.number;
    asked = asked_for old j;
    brought = ap (option_map (asked_for old)) (job_found j is.there is.number);
    switch = refl;
    key = refl;
    policy = refl;
    items = refl;
    cells = refl;
    outcome = eval_now old j.switch j.key;
    evaluated = refl;
    concludes = d;
  })
  decides (inr (inr l)) = inl (unanswered (ap outcome_of l.0) l.1)

-- ---- where nothing is learned

abbrev pub tells_learned : Reply → Bool
tells_learned (Answered d Learned) = true
tells_learned reply = false

pub none_put : (n : ℕ) (asked : Option Asked) (reply : Reply) → tells_learned reply ≡ false → put_in n asked reply ≡ []
none_put n None reply e = refl
none_put n (Some a) (Answered d Learned) e = absurd (cc)
none_put n (Some a) other e = refl

pub silent_learns : (reply : Reply) → outcome_of reply ≡ None → tells_learned reply ≡ false
silent_learns (Answered d l) e = absurd (cc)
silent_learns other e = refl
