-- What a stage promises of the switch's table.
use Rattle.std.proofs.Common.{◌⊎◌, ℕ, List, sym, subst, inl, inr}
use Rattle.std.proofs.lemmas.List.Sorted.{IsPermutation-append, IsPermutation-trans}
use Rattle.maple_base.specs.Keys.{anything}
use Rattle.maple_base.specs.RuleLists.{Rules}
use Rattle.flow_table.specs.Shielding.{IsShieldedBy}
use Rattle.trace_tree.specs.declared.node.Trace.{Trace}
use Rattle.trace_tree.specs.Growth.{scratch}
use Rattle.priority_plan.specs.Rules.{facts_of, barriers_of, rules_of as rules_of_tree}
use Rattle.rule_builder.specs.Chosen.{ChoiceLaw}
use Rattle.update_plan.specs.Batches.{rules_of, no_rules}
use Rattle.update_plan.specs.Laws.{StepLaw}
use Rattle.switch_session.specs.Sessions.{next_rules}
use Rattle.switch_traces.specs.Lists.{AreRulesOf}
use Rattle.machine_steps.specs.Machine.{state_number, traces_of}
use Rattle.machine_steps.specs.Steps.{switch_of}
use Rattle.world_steps.specs.Right.{IsRightHit}
use Rattle.world_steps.specs.Since.{since_by}
use Rattle.world_stages.specs.Backed.{IsBackedSince}
use Rattle.world_stages.specs.Stages.{IsAtRest, IsInStage}
use Rattle.world_right.specs.Hits.{HitsAreRight, TablesHaveRoom, RestIsNewest}
use Rattle.world_right.proofs.Shields.{bare_hit, backed_hit}
use Rattle.world_right.proofs.Tables.{heads_right, placed_held, ready_is_live}

pub hits_are_right : ChoiceLaw → StepLaw → HitsAreRight
hits_are_right choice step c m marks s l placed ready k r valid may =
    subst (λ switch. IsRightHit m since switch k r) (sym (placed.linked.live (ready_is_live c m s placed.sound placed.there ready)).dpid)
    (go (placed_held step m c marks s l placed ready).shielded)
  where
    since : ℕ
    since = since_by s (state_number m) marks

    go : ((X : Rules) × IsBackedSince m since (switch_of s) X × IsShieldedBy X l.switch.table) ⊎ IsShieldedBy no_rules l.switch.table → IsRightHit m since (switch_of s) k r
    go (inl (X, backed, shielded)) = backed_hit choice m since (switch_of s) X l.switch.table k r backed shielded valid may
    go (inr shielded) = bare_hit m since (switch_of s) l.switch.table k r shielded may

pub tables_have_room : StepLaw → TablesHaveRoom
tables_have_room step c m marks s l placed ready = (placed_held step m c marks s l placed ready).room

-- at rest the target's rules are those of the traces that the session heads for
pub rest_is_newest : RestIsNewest
rest_is_newest c m marks s l placed ready none =
    IsPermutation-trans (rules_of_tree (scratch traces)) (rules_of s.target) l.switch.table
    (IsPermutation-append (facts_of (scratch traces) anything 0) s.target.facts (barriers_of (scratch traces) anything 0) s.target.barriers are.facts are.barriers)
    rest.table
  where
    traces : List Trace
    traces = traces_of (switch_of s) m

    rest : IsAtRest s l
    rest = subst (λ way. IsInStage way m marks s l) none (placed.linked.live (ready_is_live c m s placed.sound placed.there ready)).stage

    are : AreRulesOf traces s.target
    are = subst (λ next. AreRulesOf traces (next_rules next s.target)) rest.next (heads_right c m s placed.sound placed.there ready).rules
