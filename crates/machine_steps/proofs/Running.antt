-- What holds of the runs that answer packets.
use Rattle.std.proofs.Common.{◌≡◌, ℕ, ◌+◌, true, List, [], ◌∷◌, ◌++◌, length, Some, refl, sym, ap, ◌∙◌, subst, arith}
use Rattle.std.specs.Prelude.{is_none}
use Rattle.std.specs.List.{slice_get}
use Rattle.std.specs.Option.{option_map}
use Rattle.std.proofs.Math.Seq.{get_or-append_seam}
use Rattle.std.proofs.lemmas.List.{length_push}
use Rattle.std.proofs.lemmas.Option.{same_Some, slice_get_read}
use Rattle.maple_base.specs.declared.key.Key.{Key}
use Rattle.maple_base.specs.declared.decision.Decision.{Decision}
use Rattle.maple_base.specs.declared.decision.Outcome.TheVariants.{Decided}
use Rattle.policy_lang.specs.declared.Policy.{Policy}
use Rattle.policy_lang.specs.Tree.{Acts}
use Rattle.policy_lang.specs.PolicyTree.{policy_tree}
use Rattle.policy_meaning.specs.QuestionLaws.{IsTrace, IsTraceOf}
use Rattle.policy_meaning.specs.Meaning.{meaning}
use Rattle.policy_meaning.specs.PolicyLaws.{begins_at, decides_ports}
use Rattle.topo_paths.specs.Scenes.{cell_in}
use Rattle.trace_record.specs.Runs.{Recorded}
use Rattle.tree_prune.specs.Laws.{SameIsEqual}
use Rattle.tree_prune.proofs.Values.{none_differs}
use Rattle.machine_steps.specs.Machine.{State, in_force, policy_number}
use Rattle.machine_steps.specs.Steps.{next_trace}
use Rattle.machine_steps.specs.Sound.{IsCurrent}
use Rattle.machine_steps.specs.Running.{IsRunNow, CurrentRunsAreNow, RunsAreAsked, RunsCanBeLearned}
use Rattle.machine_steps.proofs.Learning.{counted, fit_more, takes_one}
use Rattle.machine_steps.proofs.Sound.Kept.{TakingLaws, gives_of}

-- the policy of the number in force
pub policy_last : (ps : List Policy) (p : Policy) → slice_get (ps ++ p ∷ []) (length ps) ≡ Some p
policy_last ps p =
    let n = length_push ps p in
    slice_get_read (ps ++ p ∷ []) (length ps + 1) (length ps) p (sym n) (omega arith) (sym (get_or-append_seam ps p [] p))

pub current_runs_are_now : SameIsEqual → CurrentRunsAreNow
current_runs_are_now same m run h number stale =
    let at : option_map policy_tree (slice_get (m.earlier ++ m.policy ∷ []) (policy_number m)) ≡ Some (policy_tree run.policy) =
    ap (λ n. option_map policy_tree (slice_get (m.earlier ++ m.policy ∷ []) n)) (sym number) ∙ h.policy in
    record {
      law = h.law;
      policy = same_Some (policy_tree run.policy) (in_force m) (sym at ∙ ap (option_map policy_tree) (policy_last m.earlier m.policy));
      budget = h.budget;
      switch_is = refl;
      key_is = refl;
      cells = gives_of same (cell_in m.scene) run.cells (sym (none_differs (cell_in m.scene) run.cells) ∙ ap is_none stale);
    }

module _ (m : State) (switch : ℕ) (key : Key) (run : Recorded) (now : IsRunNow m switch key run) where
  -- the run's trace is one of the policy in force
  pub trace_now : IsTrace (meaning (in_force m).body m.settings.budget switch) key run.items run.cells run.outcome
  trace_now =
      subst (λ (b : Acts). IsTrace (meaning b m.settings.budget switch) key run.items run.cells run.outcome) (ap (λ p. p.body) now.policy)
      (subst (λ n. IsTrace (meaning (policy_tree run.policy).body n switch) key run.items run.cells run.outcome) now.budget
      (subst (λ s. IsTrace (meaning (policy_tree run.policy).body run.budget s) key run.items run.cells run.outcome) now.switch_is
      (subst (λ k. IsTrace (meaning (policy_tree run.policy).body run.budget run.switch) k run.items run.cells run.outcome) now.key_is now.law.trace)))

  asked_so : IsTraceOf (meaning (in_force m).body m.settings.budget switch) key (cell_in m.scene) run.items run.cells run.outcome
  asked_so = trace_now.law key trace_now.valid trace_now.own (cell_in m.scene) now.cells

  -- where it decides, its trace is current
  abbrev pub current_next : (d : Decision) → run.outcome ≡ Decided d → IsCurrent (counted m) switch (next_trace run.items run.cells d m)
  current_next d decided = record {
    key = key;
    run = subst (IsTrace (meaning (in_force m).body m.settings.budget switch) key run.items run.cells) decided trace_now;
    cells = now.cells;
    begins = subst (λ o. begins_at switch o ≡ true) decided (subst (λ s. begins_at s run.outcome ≡ true) now.switch_is now.law.begins);
    ports = subst (λ o. decides_ports o ≡ true) decided now.law.ports;
    number = omega arith;
  }

pub runs_are_asked : RunsAreAsked
runs_are_asked m j run now = let a = asked_so m j.switch j.key run now in record { items = sym a.items; cells = sym a.cells; outcome = sym a.outcome }

pub runs_can_be_learned : TakingLaws → RunsCanBeLearned
runs_can_be_learned laws m switch key run d h now decided unfound =
    let r = next_trace run.items run.cells d m in
    let current = current_next m switch key run now d decided in
    let few = now.law.few in
    let budget = now.law.budget.few in
    record {
      takes = takes_one laws m h switch r current unfound (omega (arith, few, budget)) refl;
      fit = fit_more laws m h switch r current unfound;
    }
