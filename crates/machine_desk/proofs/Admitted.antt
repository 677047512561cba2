-- What may be entered now may be behind all that others do.
use Rattle.std.proofs.Common.{◌≡◌, ℕ, Bool, [], ◌∷◌, ◌++◌, Some, ap, ap₂, subst, sym, ◌∙◌}
use Rattle.std.specs.List.{slice_get}
use Rattle.std.specs.Option.{option_map}
use Rattle.policy_lang.specs.PolicyTree.{policy_tree}
use Rattle.history_lock.specs.declared.view.Known.{Known}
use Rattle.history_lock.specs.Histories.{IsAdmitted, state_behind}
use Rattle.machine_steps.specs.declared.entry.Entry.{Entry}
use Rattle.machine_steps.specs.declared.entry.Entry.TheVariants as entries
use Rattle.machine_steps.specs.declared.reply.Reply.{Reply}
use Rattle.machine_steps.specs.Admitting.{Admits, IsOfHistory}
use Rattle.machine_steps.specs.Machine.{State, policy_at}
use Rattle.trace_record.specs.Runs.{Recorded}
use Rattle.machine_sharing.specs.Between.{SinceStays, Stays}
use Rattle.machine_sharing.specs.Sharing.{Allows, Turns}
use Rattle.machine_desk.specs.Desks.{IsDesk}

policies : (m n : State) → n.earlier ≡ m.earlier → n.policy ≡ m.policy → (number : ℕ) → policy_at m number ≡ policy_at n number
policies m n earlier policy number = sym (ap₂ (λ ps p. slice_get (ps ++ p ∷ []) number) earlier policy)

run_stays : (run : Recorded) (m n : State) → Stays m n → IsOfHistory run m → IsOfHistory run n
run_stays run m n s h =
    let earlier = s.earlier in
    let policy = s.policy in
    record {
      law = h.law;
      budget = h.budget ∙ ap (λ x. x.budget) (sym s.settings);
      policy = subst (λ p. option_map policy_tree p ≡ Some (policy_tree run.policy)) (policies m n earlier policy run.number) h.policy;
    }

admits_stays : (entry : Entry) (m n : State) → Stays m n → Admits m entry → Admits n entry
admits_stays (entries.Commit job run) m n s h = run_stays run m n s h
admits_stays (entries.Open c) m n s h = h
admits_stays (entries.Heard c input) m n s h = h
admits_stays (entries.Gone c fault) m n s h = h
admits_stays (entries.Change update) m n s h = h
admits_stays (entries.NewPolicy policy) m n s h = h
admits_stays (entries.ReadCell cell) m n s h = h
admits_stays entries.ReadPolicy m n s h = h
admits_stays (entries.ReadRules switch) m n s h = h
admits_stays entries.OpenJobs m n s h = h
admits_stays (entries.Decide job) m n s h = h
admits_stays (entries.TakeOut c) m n s h = h
admits_stays entries.TakeReport m n s h = h
admits_stays (entries.Note note) m n s h = h

module _ (since : SinceStays) (k : Known State Entry Reply) (start : State) (worn : Bool) (h : IsDesk k start worn) where
  -- the condition of a call at the desk
  pub admitted : (entry : Entry) → Admits (state_behind start k.seen) entry → IsAdmitted Turns Allows Admits k entry
  admitted entry now opening m log opens later run led alone =
      let begun = h.opens in
      let is : opening ≡ start = cc in
      let P : State → Type 0 = λ x. Stays (state_behind x k.seen) m in
      admits_stays entry (state_behind start k.seen) m (subst P is (since opening m log k.seen run (led h.leads))) now
