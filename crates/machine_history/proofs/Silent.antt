-- Entries that answer no packet.
use Rattle.std.proofs.Common.{◌≡◌, ◌⊎◌, ℕ, false, refl, sym, ◌∙◌, inl, inr}
use Rattle.std.specs.Prelude.{Some, None}
use Rattle.std.proofs.lemmas.Option.{none-some}
use Rattle.machine_steps.specs.declared.entry.Entry.{Entry}
use Rattle.machine_steps.specs.declared.entry.Entry.TheVariants.{Commit, Decide}
use Rattle.machine_steps.specs.declared.reply.Reply.{Reply}
use Rattle.machine_steps.specs.declared.reply.Reply.TheVariants.{Answered, Spent}
use Rattle.machine_steps.specs.Effects.{tells_run, job_in}
use Rattle.machine_steps.specs.Machine.{State}
use Rattle.machine_steps.specs.Steps.{Steps}
use Rattle.machine_steps.proofs.Changes.{changes}
use Rattle.machine_history.specs.Jobs.{job_of, outcome_of}

-- a reply of no run tells no outcome
no_outcome : (r : Reply) → tells_run r ≡ false → outcome_of r ≡ None
no_outcome (Answered d l) f = absurd (cc)
no_outcome Spent f = absurd (cc)
no_outcome other f = refl

same_job : (entry : Entry) → job_in entry ≡ job_of entry
same_job (Commit number run) = refl
same_job (Decide number) = refl
same_job other = refl

-- where an entry is for no job, its reply tells no outcome
pub silent : (old : State) (reply : Reply) (new : State) (entry : Entry) → job_of entry ≡ None → Steps old entry reply new → outcome_of reply ≡ None
silent old reply new entry none steps = go (changes old entry reply new steps).run
  where
    go : ((number : ℕ) × (job_in entry ≡ Some number)) ⊎ (tells_run reply ≡ false) → outcome_of reply ≡ None
    go (inl (number, is)) = absurd (none-some number (sym (same_job entry ∙ none) ∙ is))
    go (inr untold) = no_outcome reply untold
