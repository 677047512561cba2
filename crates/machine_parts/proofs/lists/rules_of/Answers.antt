use Rattle.std.proofs.Common.{[], ◌≤◌, sym, subst}
use Rattle.std.specs.List.Sorted.{IsPermutation}
use Rattle.std.specs.Prelude.{IfOk}
use Rattle.std.proofs.lemmas.List.Sorted.{IsPermutation-refl}
use Rattle.priority_plan.specs.Rules.{level_limit, levels_of, rules_of}
use Rattle.trace_tree.specs.Growth.{scratch}
use Rattle.machine_parts.proofs.lists.rules_of.Goals as goal

pub all_rules-requires : goal.all_rules-requires
all_rules-requires c = record { levels = subst (λ rs. levels_of (scratch rs) ≤ level_limit) (sym c.in-Some.ensures) c.requires.levels }

pub returns-in-None : goal.returns-in-None
returns-in-None c =
    subst (λ ts. IsPermutation (rules_of (scratch ts)) c.new.result.items) (sym c.in-None.ensures) (subst (λ l. IsPermutation [] l) (sym c.new.ensures.items) (IsPermutation-refl []))

pub returns-in-Some : goal.returns-in-Some
returns-in-Some c = subst (λ rs. IfOk c.all_rules.result (λ list. IsPermutation (rules_of (scratch rs)) list.items)) c.in-Some.ensures c.all_rules.ensures
