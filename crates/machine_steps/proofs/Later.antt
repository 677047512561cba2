-- What every step keeps: the settings, and each policy that there was; and how jobs are numbered.
use Rattle.std.proofs.Common.{◌≡◌, ℕ, zero, suc, ◌+◌, false, List, [], ◌∷◌, ◌++◌, append-nil, refl, sym, ap, ◌∙◌, subst}
use Rattle.std.specs.Prelude.{Option, Some, None}
use Rattle.std.specs.List.{slice_get}
use Rattle.std.specs.Option.{option_map}
use Rattle.maple_base.specs.declared.decision.Settings.{Settings}
use Rattle.policy_lang.specs.declared.Policy.{Policy}
use Rattle.policy_lang.specs.PolicyTree.{policy_tree}
use Rattle.machine_steps.specs.Waiting.{Waiting}
use Rattle.machine_steps.specs.declared.entry.Entry.{Entry}
use Rattle.machine_steps.specs.declared.reply.Reply.{Reply}
use Rattle.machine_steps.specs.declared.reply.Reply.TheVariants.{Job as JobOpened}
use Rattle.machine_steps.specs.Effects.{tells_packet}
use Rattle.machine_steps.specs.Machine.{State}
use Rattle.machine_steps.specs.Steps.{Steps}
use Rattle.machine_steps.specs.Laws.{RunsStay, LentRuns}
use Rattle.machine_steps.proofs.Changes.{Network, network, Follows, JobsBy, changes}
use Rattle.machine_steps.proofs.Changes.Follows.{Stays, Next, Renewed}
use Rattle.machine_steps.proofs.Changes.JobsBy.{Left, AreMany, Added}
use Rattle.machine_steps.proofs.Running.{policy_last}

-- the policies so far, by their numbers
abbrev policies : State → List Policy
policies m = m.earlier ++ m.policy ∷ []

-- the packet that a reply tells of as waiting
abbrev pub opened_by : Reply → Option Waiting
opened_by (JobOpened w) = Some w
opened_by reply = None

-- how many packets ever waited, before and behind: one that waits from now on has the next number
abbrev pub Counts : Option Waiting → ℕ → ℕ → Type 0
Counts None before behind = behind ≡ before
Counts (Some w) before behind = (behind ≡ before + 1) × (w.job ≡ before + 1)

pub record IsLater (old : State) (reply : Reply) (new : State) : Type 0 where
  pub settings : new.settings ≡ old.settings
  pub more : List Policy
  pub policies_are : policies new ≡ policies old ++ more
  pub jobs : Counts (opened_by reply) old.job_count new.job_count

-- a reply that tells of no packet
unopened : (r : Reply) → tells_packet r ≡ false → opened_by r ≡ None
unopened (JobOpened w) f = absurd (cc)
unopened other f = refl

module _ (old : State) (entry : Entry) (reply : Reply) (new : State) where
  more_policies : (n : Network) → Follows old entry reply n → (more : List Policy) × (n.0 ++ n.1 ∷ [] ≡ policies old ++ more)
  more_policies n (Stays untold e) = ([], ap (λ (n : Network). n.0 ++ n.1 ∷ []) e ∙ sym (append-nil (policies old)))
  more_policies n (Next scene may told e) = ([], ap (λ (n : Network). n.0 ++ n.1 ∷ []) e ∙ sym (append-nil (policies old)))
  more_policies n (Renewed scene p is told e) = (p ∷ [], ap (λ (n : Network). n.0 ++ n.1 ∷ []) e)

  counts : JobsBy old entry reply new → Counts (opened_by reply) old.job_count new.job_count
  counts (Left untold e left) = subst (λ o. Counts o old.job_count new.job_count) (sym (unopened reply untold)) e
  counts (AreMany r e many jobs) = subst (λ o. Counts o old.job_count new.job_count) (sym (ap opened_by r)) e
  counts (Added h t j from r its number e jobs) = subst (λ o. Counts o old.job_count new.job_count) (sym (ap opened_by r)) (e, number)

pub is_later : (old : State) (reply : Reply) (new : State) (entry : Entry) → Steps old entry reply new → IsLater old reply new
is_later old reply new entry steps =
    let c = changes old entry reply new steps in
    let p = more_policies old entry reply new (network new) c.follows in
    record { settings = c.settings; more = p.0; policies_are = p.1; jobs = counts old entry reply new c.jobs }

-- what stands at a place stays there
found_more : {A B : Type 0} (f : A → B) (xs ys : List A) (n : ℕ) (y : B) → option_map f (slice_get xs n) ≡ Some y → option_map f (slice_get (xs ++ ys) n) ≡ Some y
found_more f [] ys n y e = cc
found_more f (x ∷ xs) ys zero y e = e
found_more f (x ∷ xs) ys (suc n) y e = found_more f xs ys n y e

pub runs_stay : RunsStay
runs_stay old entry reply new run steps h =
    let later = is_later old reply new entry steps in
    record {
      law = h.law;
      budget = h.budget ∙ sym (ap (λ (s : Settings). s.budget) later.settings);
      policy = ap (λ ps. option_map policy_tree (slice_get ps run.number)) later.policies_are ∙ found_more policy_tree (policies old) later.more run.number (policy_tree run.policy) h.policy;
    }

pub lent_runs : LentRuns
lent_runs m run law budget number policy = record {
  law = law;
  budget = budget;
  policy = ap (λ n. option_map policy_tree (slice_get (policies m) n)) number ∙ ap (option_map policy_tree) (policy_last m.earlier m.policy) ∙ ap (λ p. Some (policy_tree p)) (sym policy);
}
