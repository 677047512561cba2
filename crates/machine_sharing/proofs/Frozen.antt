-- With no job open allowed entries change nothing. What is asked for a job needs the job, which an entry's effect doesn't say of each reply.
use Rattle.std.proofs.Common.{◌≡◌, ℕ, List, [], ◌∷◌, ◌++◌, ap, ◌∙◌, subst, inl, inr}
use Rattle.std.specs.Prelude.{Contains}
use Rattle.trace_record.specs.Runs.{Recorded}
use Rattle.update_plan.proofs.Members.{none_in}
use Rattle.machine_steps.specs.declared.entry.Entry.{Entry}
use Rattle.machine_steps.specs.declared.entry.Entry.TheVariants as entries
use Rattle.machine_steps.specs.declared.job.Job.{Job}
use Rattle.machine_steps.specs.declared.reply.Reply.{Reply}
use Rattle.machine_steps.specs.declared.reply.Reply.TheVariants.{NoMemory, Policy as PolicyLent}
use Rattle.machine_steps.specs.Machine.{State}
use Rattle.machine_steps.specs.Steps.{Commits, Decides, LendsPolicy, Steps}
use Rattle.machine_sharing.specs.Between.{NothingChanges}
use Rattle.machine_sharing.specs.Sharing.{Allows, Call}

module _ (old : State) (none : old.jobs ≡ []) (reply : Reply) (new : State) where
  no_job : (j : Job) → Contains old.jobs j → ⊥
  no_job j there = none_in j (subst (λ (js : List Job). Contains js j) none there)

  lends : (r : Reply) → LendsPolicy old r new → new ≡ old
  lends (PolicyLent number lent) e = e.2
  lends NoMemory e = e
  lends other e = absurd e

  commits : (number : ℕ) (run : Recorded) → Commits number run old reply new → new ≡ old
  commits number run (inl (none_such, r, e)) = e
  commits number run (inr (inl (j, is, other, r, e))) = absurd (no_job j is.there)
  commits number run (inr (inr (inl (j, cell, recorded, current, is, n, stale, r, e)))) = absurd (no_job j is.there)
  commits number run (inr (inr (inr (inl (j, is, n, fresh, a))))) = absurd (no_job j is.there)
  commits number run (inr (inr (inr (inr l)))) = l.1

  decides : (number : ℕ) → Decides number old reply new → new ≡ old
  decides number (inl (none_such, r, e)) = e
  decides number (inr (inl (j, is, a))) = absurd (no_job j is.there)
  decides number (inr (inr l)) = l.1

  rests : (log : List Call) (entry : Entry) → Allows log entry → Steps old entry reply new → new ≡ old
  rests log entries.ReadPolicy is s = lends reply s
  rests log (entries.ReadCell cell) is s = s.1
  rests log entries.OpenJobs is s = s.1
  rests log (entries.Commit job run) is s = commits job run s
  rests log (entries.Decide job) is s = decides job s
  rests log entry is s = absurd is

pub nothing_changes : NothingChanges
nothing_changes log [] old new none same all = same
nothing_changes log (e ∷ es) old new none (turn, rest) (is, all) =
    let one : e.behind ≡ old = rests old none e.reply e.behind log e.entry is turn.steps in
    nothing_changes (log ++ e ∷ []) es e.behind new (ap (λ (m : State). m.jobs) one ∙ none) rest all ∙ one
