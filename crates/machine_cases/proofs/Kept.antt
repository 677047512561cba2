-- Runs that are kept may be committed at any later moment.
use Rattle.std.proofs.Common.{◌≡◌, sym, ◌⊎◌, ⊎_elim, inl, inr, ℕ, ◌<◌, List, [], ◌∷◌, ◌++◌, length, ap, subst, ◌∙◌}
use Rattle.std.specs.Prelude.{Contains, slice_index_or}
use Rattle.std.specs.List.{swap_remove}
use Rattle.std.proofs.lemmas.List.Elements.{Contains-append_cases}
use Rattle.std.proofs.lemmas.List.Sorted.{Contains-permutation, IsPermutation-sym, IsPermutation-swap_remove}
use Rattle.maple_base.specs.declared.decision.Settings.{Settings}
use Rattle.policy_lang.specs.declared.Policy.{Policy}
use Rattle.update_plan.proofs.Members.{none_in, in_cons, there}
use Rattle.trace_record.specs.Runs.{Recorded}
use Rattle.machine_steps.specs.declared.entry.Entry.{Entry}
use Rattle.machine_steps.specs.declared.reply.Reply.{Reply}
use Rattle.machine_steps.specs.declared.reply.Reply.TheVariants.{Policy as PolicyLent, NoMemory}
use Rattle.machine_steps.specs.Machine.{State, policy_number}
use Rattle.machine_steps.specs.Steps.{Steps, LendsPolicy}
use Rattle.machine_steps.specs.Admitting.{IsOfHistory}
use Rattle.machine_steps.proofs.Later.{is_later, runs_stay, lent_runs}
use Rattle.machine_cases.specs.Driving.{IsDriven, IsRunOf}

-- whatever comes
pub driven_stays : (m n : State) (entry : Entry) (reply : Reply) (budget : ℕ) (runs : List (ℕ × Recorded)) → Steps m entry reply n → IsDriven m budget runs → IsDriven n budget runs
driven_stays m n entry reply budget runs steps h = record {
  within = ap (λ (s : Settings). s.budget) (is_later m reply n entry steps).settings ∙ h.within;
  range = h.range;
  kept = λ job run c. runs_stay m entry reply n run steps (h.kept job run c);
}

-- a run that is kept besides
pub driven_more : (m : State) (budget : ℕ) (runs : List (ℕ × Recorded)) (job : ℕ) (run : Recorded) → IsOfHistory run m → IsDriven m budget runs → IsDriven m budget (runs ++ (job, run) ∷ [])
driven_more m budget runs job run fresh h = record {
  within = h.within;
  range = h.range;
  kept = λ other q c. ⊎_elim (λ d. h.kept other q d) (λ d. newest other q d) (Contains-append_cases runs ((job, run) ∷ []) (other, q) c);
}
  where
    same : (other : ℕ) (q : Recorded) → ◌≡◌ {A = ℕ × Recorded} (job, run) (other, q) ⊎ Contains {X = ℕ × Recorded} [] (other, q) → IsOfHistory q m
    same other q (inl e) = subst (λ (r : ℕ × Recorded). IsOfHistory r.1 m) e fresh
    same other q (inr d) = absurd (none_in (other, q) d)

    newest : (other : ℕ) (q : Recorded) → Contains {X = ℕ × Recorded} ((job, run) ∷ []) (other, q) → IsOfHistory q m
    newest other q c = same other q (in_cons (job, run) [] (other, q) c)

-- those that are left when some are taken out
pub driven_fewer : (m : State) (budget : ℕ) (runs fewer : List (ℕ × Recorded)) → ((job : ℕ) (run : Recorded) → Contains {X = ℕ × Recorded} fewer (job, run) → Contains {X = ℕ × Recorded} runs (job, run)) → IsDriven m budget runs → IsDriven m budget fewer
driven_fewer m budget runs fewer among h = record { within = h.within; range = h.range; kept = λ job run c. h.kept job run (among job run c) }

-- what is left behind one that is taken out was there before
pub left_within : {X : Type 0} (xs : List X) (at : ℕ) (x y : X) → at < length xs → x ≡ slice_index_or xs at x → Contains (swap_remove xs at x) y → Contains xs y
left_within xs at x y within is c =
    Contains-permutation (x ∷ swap_remove xs at x) xs y (IsPermutation-sym xs (x ∷ swap_remove xs at x) (IsPermutation-swap_remove xs at x within is)) (there x (swap_remove xs at x) y c)

-- lending the policy changes nothing
pub lending_keeps : (old : State) (reply : Reply) (new : State) → LendsPolicy old reply new → new ≡ old
lending_keeps old (PolicyLent number lent) new e = e.2
lending_keeps old NoMemory new e = e
lending_keeps old other new e = absurd e

-- a run of the policy in force may be committed
pub lent_run : (m : State) (policy : Policy) (number budget : ℕ) (run : Recorded) → policy ≡ m.policy → number ≡ policy_number m → m.settings.budget ≡ budget → IsRunOf policy number budget run → IsOfHistory run m
lent_run m policy number budget run is at within h = lent_runs m run h.law (h.budget_is ∙ sym within) (h.number_is ∙ at) (h.policy_is ∙ is)
