use Rattle.std.proofs.Common.{List, sym, subst, ◌∙◌}
use Rattle.trace_tree.specs.declared.node.Trace.{Trace}
use Rattle.switch_traces.specs.Traces.{those}
use Rattle.switch_traces.specs.Lists.{AreRulesOf}
use Rattle.machine_parts.specs.declared.aims.Left.{Left}
use Rattle.machine_parts.specs.Aiming.{keeps}
use Rattle.machine_parts.proofs.Aiming.{none_kept, rules_none}
use Rattle.machine_parts.proofs.aims.Left.rules.Goals as goal

pub returns-in-Nothing : goal.returns-in-Nothing
returns-in-Nothing c =
    let ts = c.args.traces.now.traces in
    let r = c.new-in-Nothing-2.result in
    let e = c.new-in-Nothing-2.ensures in
    let none = rules_none r.facts r.barriers (e.facts ∙ c.new.ensures.items) (e.barriers ∙ c.new-in-Nothing.ensures.items) c.traces_laws.ensures.none in
    subst (λ (x : Left). AreRulesOf (those (keeps x) ts) r) (sym c.in-Nothing.is) (subst (λ (us : List Trace). AreRulesOf us r) (sym (none_kept ts)) none)
