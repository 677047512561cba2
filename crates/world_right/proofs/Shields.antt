-- What a switch may choose of a table that is shielded by rules of its traces is plain evaluation's decision in their state, or sends to the controller.
use Rattle.std.proofs.Common.{◌≡◌, ◌⊎◌, ℕ, true, List, [], ◌∷◌, refl, ap, ◌∙◌, inl, inr}
use Rattle.std.specs.Prelude.{Contains, MatchOption, Option, Some, None}
use Rattle.std.proofs.lemmas.Bool.{eqb-true}
use Rattle.std.proofs.lemmas.List.Sorted.{IsPermutation-sym, Contains-permutation}
use Rattle.maple_base.specs.declared.key.Key.{Key}
use Rattle.maple_base.specs.declared.decision.Rule.{Rule}
use Rattle.maple_base.specs.declared.decision.Decision.{Decision}
use Rattle.maple_base.specs.declared.decision.Decision.TheVariants.{Drop, Out, Flood, Path}
use Rattle.maple_base.specs.declared.decision.Outcome.TheVariants.{Decided}
use Rattle.maple_base.specs.Decisions.{actions_at, hop_actions}
use Rattle.maple_base.specs.Choice.{MayChoose}
use Rattle.maple_base.specs.Keys.{anything, valid_key}
use Rattle.maple_base.specs.RuleLists.{Rules}
use Rattle.flow_table.specs.Shielding.{IsBarrier, IsShieldedBy}
use Rattle.policy_lang.specs.PolicyTree.{policy_tree}
use Rattle.policy_meaning.specs.PolicyLaws.{begins_at}
use Rattle.topo_paths.specs.Scenes.{cell_in}
use Rattle.trace_tree.specs.declared.node.Trace.{Trace}
use Rattle.trace_tree.specs.Growth.{found, scratch}
use Rattle.priority_plan.specs.Rules.{facts_of, barriers_of, fact_actions}
use Rattle.rule_builder.specs.Chosen.{ChoiceLaw, IsFactOf, list_of}
use Rattle.update_plan.specs.Batches.{no_rules}
use Rattle.update_plan.proofs.Members.{none_in}
use Rattle.switch_traces.specs.Lists.{AreRulesOf}
use Rattle.machine_history.proofs.Exactly.{found_all}
use Rattle.machine_steps.specs.Machine.{State}
use Rattle.world_steps.specs.Right.{IsRightHit}
use Rattle.world_stages.specs.Backed.{IsTraceIn, IsBackedSince}

-- the rule of a decision that begins at a switch does what the decision says there
begins_there : (d : Decision) (switch : ℕ) → begins_at switch (Decided d) ≡ true → fact_actions d ≡ actions_at d switch
begins_there Drop switch h = refl
begins_there (Out ports) switch h = refl
begins_there Flood switch h = refl
begins_there (Path []) switch h = absurd (cc)
begins_there (Path (hop ∷ hops)) switch h = ap (hop_actions (hop ∷ hops)) (eqb-true hop.switch switch h)

-- a list of their rules shields what the traces' tree does
shielded_by_tree : (traces : List Trace) (X : Rules) (table : List Rule) → AreRulesOf traces X → IsShieldedBy X table → IsShieldedBy (list_of (scratch traces)) table
shielded_by_tree traces X table are h = record {
  barriers = λ b c. h.barriers b (Contains-permutation (barriers_of (scratch traces) anything 0) X.barriers b are.barriers c);
  rest = λ r c. go r (h.rest r c);
}
  where
    go : (r : Rule) → IsBarrier r ⊎ Contains X.facts r → IsBarrier r ⊎ Contains (facts_of (scratch traces) anything 0) r
    go r (inl e) = inl e
    go r (inr c) = inr (Contains-permutation X.facts (facts_of (scratch traces) anything 0) r (IsPermutation-sym (facts_of (scratch traces) anything 0) X.facts are.facts) c)

-- where only the empty list shields a table each rule is a barrier
pub bare_hit : (m : State) (since switch : ℕ) (table : List Rule) (k : Key) (r : Rule) → IsShieldedBy no_rules table → MayChoose table k r → IsRightHit m since switch k r
bare_hit m since switch table k r h may = go (h.rest r may.there)
  where
    go : IsBarrier r ⊎ Contains no_rules.facts r → IsRightHit m since switch k r
    go (inl e) = inl e
    go (inr c) = absurd (none_in r c)

module _ (choice : ChoiceLaw) (m : State) (since switch : ℕ) (X : Rules) (table : List Rule) (k : Key) (r : Rule) where
  pub backed_hit : IsBackedSince m since switch X → IsShieldedBy X table → valid_key k ≡ true → MayChoose table k r → IsRightHit m since switch k r
  backed_hit b h valid may =
      go (found b.backed.traces k) refl
      ((choice b.backed.traces k b.backed.fit.admitted b.backed.fit.once).between table r (shielded_by_tree b.backed.traces X table b.backed.rules h) may)
    where
      go : (o : Option Trace) → found b.backed.traces k ≡ o → MatchOption o (IsBarrier r) (λ x. IsBarrier r ⊎ IsFactOf (scratch b.backed.traces) x r) → IsRightHit m since switch k r
      go None e barrier = inl barrier
      go (Some x) e (inl barrier) = inl barrier
      go (Some x) e (inr fact) =
          let (is, met) = found_all (IsTraceIn m.settings.budget (policy_tree b.backed.policy) b.backed.state.scene switch) b.backed.traces k x b.backed.each e in
          inr (record {
            state = b.state;
            since_then = b.since_then;
            until_now = b.until_now;
            decision = x.decision;
            decides = record {
              state = b.backed.state;
              reached = b.backed.reached;
              policy = b.backed.policy;
              in_force = b.backed.in_force;
              decides = (is.run.law k valid met (cell_in b.backed.state.scene) is.cells).outcome;
            };
            does = fact.does ∙ begins_there x.decision switch is.begins;
          })
