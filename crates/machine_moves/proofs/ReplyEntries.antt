-- What each entry leaves of the policy, the states and the packets that wait.
use Rattle.std.proofs.Common.{◌≡◌, true, false, List, [], length, refl, sym, ap, ◌∙◌, inl, inr}
use Rattle.std.specs.Prelude.{filter}
use Rattle.policy_lang.specs.declared.Policy.{Policy}
use Rattle.machine_steps.specs.declared.entry.Entry.{Entry}
use Rattle.machine_steps.specs.declared.entry.Entry.TheVariants as entries
use Rattle.machine_steps.specs.declared.job.Job.{Job}
use Rattle.machine_steps.specs.declared.reply.Reply.{Reply}
use Rattle.machine_steps.specs.declared.reply.Reply.TheVariants.{NewState}
use Rattle.machine_steps.specs.Effects.{tells_state, may_advance}
use Rattle.machine_steps.specs.Machine.{State}
use Rattle.machine_steps.proofs.Changes.{Network, network, Follows, AreLeft, JobsBy, changes}
use Rattle.machine_steps.proofs.Changes.Follows.{Stays, Next, Renewed}
use Rattle.machine_steps.proofs.Changes.JobsBy.{Left, AreMany, Added}
use Rattle.machine_moves.specs.Told.{is_new_state, policy_behind, is_heard, PolicyIsTold, StatesAreTold, NoneElseWaits}

-- ---- the policy

still_in_force : (entry : Entry) (reply : Reply) (p : Policy) → tells_state reply ≡ false → policy_behind entry reply p ≡ p
still_in_force (entries.NewPolicy q) (NewState state gone) p f = absurd (cc)
still_in_force entry reply p f = refl

advance_keeps : (entry : Entry) (reply : Reply) (p : Policy) → may_advance entry ≡ true → policy_behind entry reply p ≡ p
advance_keeps (entries.NewPolicy q) reply p may = absurd (cc)
advance_keeps entry reply p may = refl

renewed_by : (p q : Policy) (reply : Reply) → tells_state reply ≡ true → policy_behind (entries.NewPolicy p) reply q ≡ p
renewed_by p q (NewState state gone) told = refl
renewed_by p q other told = absurd (cc)

policy_told : (old : State) (entry : Entry) (reply : Reply) (n : Network) → Follows old entry reply n → n.1 ≡ policy_behind entry reply old.policy
policy_told old entry reply n (Stays untold e) = ap (λ (n : Network). n.1) e ∙ sym (still_in_force entry reply old.policy untold)
policy_told old entry reply n (Next scene may told e) = ap (λ (n : Network). n.1) e ∙ sym (advance_keeps entry reply old.policy may)
policy_told old entry reply n (Renewed scene p is told e) =
    ap (λ (n : Network). n.1) e ∙ sym (ap (λ x. policy_behind x reply old.policy) is ∙ renewed_by p old.policy reply told)

pub policy_is_told : PolicyIsTold
policy_is_told old entry reply new steps = policy_told old entry reply (network new) (changes old entry reply new steps).follows

-- ---- states

told_so : (reply : Reply) → tells_state reply ≡ true → is_new_state reply ≡ false → ⊥
told_so (NewState state gone) told f = absurd (cc)
told_so other told f = absurd (cc)

pub states_are_told : StatesAreTold
states_are_told old entry reply new steps no_hosts untold = go (network new) (changes old entry reply new steps).follows
  where
    go : (n : Network) → Follows old entry reply n → length n.2 ≡ length old.states
    go n (Stays none e) = ap (λ (n : Network). length n.2) e
    go n (Next scene may (inl told) e) = absurd (told_so reply told untold)
    go n (Next scene may (inr learns) e) = absurd (cc)
    go n (Renewed scene p is told e) = absurd (told_so reply told untold)

-- ---- packets

pub left_none : (js ks : List Job) → AreLeft js ks → js ≡ [] → ks ≡ []
left_none js ks (inl e) none = e ∙ none
left_none js ks (inr (p, e)) none = e ∙ ap (filter p) none

pub none_else_waits : NoneElseWaits
none_else_waits old entry reply new none other steps = go (changes old entry reply new steps).jobs
  where
    go : JobsBy old entry reply new → new.jobs ≡ []
    go (Left untold count left) = left_none old.jobs new.jobs left none
    go (AreMany r count many e) = e ∙ none
    go (Added h t j from r its number count e) = (let is = ap is_heard from.is in absurd (cc))
