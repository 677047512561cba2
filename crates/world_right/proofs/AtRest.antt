-- With no barrier outstanding a hit shows the state now.
use Rattle.std.proofs.Common.{◌≡◌, ℕ, sym, ap, ◌∙◌, subst, subst₂, inl, inr, arith}
use Rattle.std.proofs.lemmas.Option.{same_Some}
use Rattle.maple_base.specs.declared.decision.Outcome.TheVariants.{Decided}
use Rattle.maple_base.specs.declared.decision.Rule.{Rule}
use Rattle.maple_base.specs.declared.key.Key.{Key}
use Rattle.policy_lang.specs.declared.Policy.{Policy}
use Rattle.policy_lang.specs.PolicyTree.{policy_tree}
use Rattle.policy_meaning.specs.Meaning.{eval_of}
use Rattle.topo_paths.specs.Scenes.{cell_in}
use Rattle.machine_history.specs.Jobs.{eval_now}
use Rattle.machine_steps.specs.Machine.{PolicyState, State, policy_at, state_number, this_state}
use Rattle.machine_steps.proofs.Running.{policy_last}
use Rattle.world_steps.specs.Right.{IsRightHit, state_at}
use Rattle.world_steps.specs.Runs.{turns_of}
use Rattle.world_steps.specs.Since.{marks_of}
use Rattle.world_stages.proofs.Backing.{state_last}
use Rattle.world_right.specs.Laws.{HitsAtRestAreNow, IsRightNow}
use Rattle.world_right.proofs.Marked.{since_at_rest}
use Rattle.world_right.proofs.Runs.{RunLaws, ready_placed}

-- from now to now there is this state alone
right_now : (m : State) (switch : ℕ) (k : Key) (r : Rule) → IsRightHit m (state_number m) switch k r → IsRightNow m switch k r
right_now m switch k r (inl barrier) = inl barrier
right_now m switch k r (inr is) = inr (is.decision, decides, is.does)
  where
    now : is.state ≡ state_number m
    now = let after = is.since_then in let before = is.until_now in omega arith

    state : is.decides.state ≡ this_state m
    state = same_Some is.decides.state (this_state m) (sym is.decides.reached ∙ ap (state_at m) now ∙ state_last m.states (this_state m))

    policy : is.decides.policy ≡ m.policy
    policy = same_Some is.decides.policy m.policy (sym is.decides.in_force ∙ ap (λ (p : PolicyState). policy_at m p.policy) state ∙ policy_last m.earlier m.policy)

    decides : eval_now m switch k ≡ Decided is.decision
    decides = subst₂ (λ (p : Policy) (n : PolicyState). eval_of (policy_tree p).body m.settings.budget (cell_in n.scene) switch k ≡ Decided is.decision) policy state is.decides.decides

pub hits_at_rest_are_now : RunLaws → HitsAtRestAreNow
hits_at_rest_are_now laws policy settings es w run c s l ready rest k r valid may =
    right_now w.machine l.switch.dpid k r
    (subst (λ since. IsRightHit w.machine since l.switch.dpid k r) (since_at_rest s (state_number w.machine) (marks_of c (turns_of es)) rest)
    (laws.hits c w.machine (marks_of c (turns_of es)) s l (ready_placed laws policy settings es w run c s l ready) ready.ready k r valid may))
