use Rattle.std.proofs.Common.{◌≤◌, IfOk, ap, sym, ◌∙◌, subst}
use Rattle.trace_tree.specs.Growth.{scratch}
use Rattle.tree_prune.specs.Current.{is_current}
use Rattle.priority_plan.specs.Rules.{level_limit, levels_of}
use Rattle.switch_traces.specs.Traces.{those}
use Rattle.switch_traces.specs.Lists.{AreRulesOf}
use Rattle.machine_parts.proofs.lists.rules_left.Goals as goal

pub rules_where-requires : goal.rules_where-requires
rules_where-requires g c = record { levels = subst (λ ts. levels_of (scratch ts) ≤ level_limit) (sym c.in-Some.ensures) c.requires.levels }

pub returns-in-Some : goal.returns-in-Some
returns-in-Some g c = subst (λ ts. IfOk c.rules_where.result (λ rules. AreRulesOf (those (is_current (g.E.EnvNow.has c.args.env.now)) ts) rules)) c.in-Some.ensures c.rules_where.ensures

pub returns-in-None : goal.returns-in-None
returns-in-None g c =
    let same = ap (λ l. l.traces) c.new.ensures ∙ sym c.in-None.ensures in
    subst (λ ts. IfOk c.rules_where-in-None-2.result (λ rules. AreRulesOf (those (is_current (g.E.EnvNow.has c.args.env.now)) ts) rules)) same c.rules_where-in-None-2.ensures
