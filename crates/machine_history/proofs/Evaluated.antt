-- Each answer is plain evaluation's.
use Rattle.std.proofs.Common.{◌≡◌, ◌⊎◌, ℕ, List, [], ◌∷◌, ◌++◌, refl, sym, ap, ◌∙◌, subst, inl, inr, ⊎_elim}
use Rattle.std.specs.Prelude.{Contains, Some}
use Rattle.std.proofs.lemmas.Option.{same_Some, none-some}
use Rattle.maple_base.specs.declared.key.Key.{Key}
use Rattle.maple_base.specs.declared.cells.Cell.{Cell}
use Rattle.maple_base.specs.declared.cells.Value.{Value}
use Rattle.maple_base.specs.declared.items.Item.{Item}
use Rattle.maple_base.specs.declared.decision.Outcome.{Outcome}
use Rattle.maple_base.specs.declared.decision.Outcome.TheVariants.{Decided, Spent as SpentRun}
use Rattle.update_plan.proofs.Members.{none_in}
use Rattle.machine_steps.specs.declared.job.Job.{Job}
use Rattle.machine_steps.specs.declared.entry.Entry.{Entry}
use Rattle.machine_steps.specs.declared.entry.Entry.TheVariants.{Commit, Decide}
use Rattle.machine_steps.specs.declared.reply.Reply.{Reply}
use Rattle.machine_steps.specs.Admitting.{Admits}
use Rattle.machine_steps.specs.Histories.{Turn, IsTurn, Leads}
use Rattle.machine_steps.specs.Laws.{OpensSound, KeepsSound}
use Rattle.machine_steps.specs.Machine.{State, opening}
use Rattle.machine_steps.specs.Sound.{IsSound}
use Rattle.machine_steps.specs.Steps.{Concludes, Steps}
use Rattle.machine_steps.proofs.Changes.{kept_rest}
use Rattle.machine_history.specs.Jobs.{job_of, outcome_of, eval_now, WasOpened}
use Rattle.machine_history.specs.Laws.{IsLegal, AnswersAreEvaluation}
use Rattle.machine_history.proofs.Along.{sound_last, jobs_along}
use Rattle.machine_history.proofs.Answering.{Laws, IsUnanswered, IsAnswer, commits, decides}
use Rattle.machine_history.proofs.Learning.{turn}
use Rattle.machine_history.proofs.Silent.{silent}

-- the last turn of a history
pub last_turn : (m : State) (ts : List Turn) (t : Turn) (last : State) → Leads m (ts ++ t ∷ []) last → Leads m ts t.before × IsTurn t × (last ≡ t.behind)
last_turn m [] t last (e, is, f) = (e, is, f)
last_turn m (u ∷ us) t last (e, is, rest) = let r = last_turn u.behind us t last rest in ((e, is, r.0), r.1, r.2)

-- ---- a turn whose reply tells an outcome answers a job

module _ (laws : Laws) (old : State) (h : IsSound old) (reply : Reply) (new : State) (o : Outcome) (tells : outcome_of reply ≡ Some o) where
  answered : (number : ℕ) (entry : Entry) → IsUnanswered old reply new ⊎ IsAnswer (turn old entry reply new) number → IsAnswer (turn old entry reply new) number
  answered number entry (inl u) = absurd (none-some o (sym u.silent ∙ tells))
  answered number entry (inr a) = a

  pub answers_job : (entry : Entry) → Admits old entry → Steps old entry reply new → (number : ℕ) × (job_of entry ≡ Some number) × IsAnswer (turn old entry reply new) number
  answers_job (Commit number run) a d = (number, refl, answered number (Commit number run) (commits laws old h number reply new run a d))
  answers_job (Decide number) a d = (number, refl, answered number (Decide number) (decides laws old h number reply new d))
  answers_job other a d = absurd (none-some o (sym (silent old reply new other refl d) ∙ tells))

-- ---- what the answer is

module _ (j : Job) (items : List Item) (cells : List (Cell × Value)) (old : State) (reply : Reply) (new : State) where
  pub concludes_so : (o : Outcome) → Concludes j items cells o old reply new → outcome_of reply ≡ Some o
  concludes_so SpentRun (r, e) = ap outcome_of r
  concludes_so (Decided d) a = ap outcome_of a.replies

  -- plain evaluation stays
  pub concludes_same : (switch : ℕ) (key : Key) (o : Outcome) → Concludes j items cells o old reply new → eval_now new switch key ≡ eval_now old switch key
  concludes_same switch key SpentRun (r, e) = ap (λ m. eval_now m switch key) e
  concludes_same switch key (Decided d) a = ap (λ m. eval_now m switch key) a.now_is ∙ ap (λ m. eval_now m switch key) (kept_rest a.learns j _ _ old a.kept a.keeps)

module _ (opens : OpensSound) (keeps : KeepsSound) (laws : Laws) where
  pub sound_at : (ts : List Turn) (m : State) → IsLegal ts m → IsSound m
  sound_at ts m legal = sound_last keeps laws (opening legal.policy legal.settings) ts m legal.leads (opens legal.policy legal.settings legal.ranges)

  -- a history without its last turn
  pub shorter : (ts : List Turn) (t : Turn) (m : State) → IsLegal (ts ++ t ∷ []) m → IsLegal ts t.before
  shorter ts t m legal = record { policy = legal.policy; settings = legal.settings; ranges = legal.ranges; leads = (last_turn (opening legal.policy legal.settings) ts t m legal.leads).0 }

  pub last_answer : (ts : List Turn) (t : Turn) (m : State) → IsLegal (ts ++ t ∷ []) m → (o : Outcome) → outcome_of t.reply ≡ Some o → (number : ℕ) × (job_of t.entry ≡ Some number) × IsAnswer t number
  last_answer ts t m legal o tells =
      let is = (last_turn (opening legal.policy legal.settings) ts t m legal.leads).1 in
      answers_job laws t.before (sound_at ts t.before (shorter ts t m legal)) t.reply t.behind o tells t.entry is.admitted is.steps

  -- an open job was opened
  opened_in : (ts : List Turn) (m : State) → IsLegal ts m → (j : Job) → Contains m.jobs j → WasOpened ts j.number j.switch j.key
  opened_in ts m legal j c =
      ⊎_elim (λ d. absurd (none_in j d)) (λ w. w)
      (jobs_along keeps laws (opening legal.policy legal.settings) ts m legal.leads (opens legal.policy legal.settings legal.ranges) j c)

  pub answers_evaluated : AnswersAreEvaluation
  answers_evaluated ts t m legal o tells =
      let (number, of, a) = last_answer ts t m legal o tells in
      record {
        number = number;
        of_job = of;
        switch = a.job.switch;
        key = a.job.key;
        opened = subst (λ n. WasOpened ts n a.job.switch a.job.key) a.of_number (opened_in ts t.before (shorter ts t m legal) a.job a.there);
        outcome = concludes_same a.job a.asked.items a.asked.cells t.before t.reply t.behind a.job.switch a.job.key a.outcome a.concludes
            ∙ a.evaluated
            ∙ same_Some a.outcome o (sym (concludes_so a.job a.asked.items a.asked.cells t.before t.reply t.behind a.outcome a.concludes) ∙ tells);
      }
