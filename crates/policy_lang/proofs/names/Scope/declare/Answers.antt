use Rattle.std.proofs.Common.{sym, ◌∙◌}
use Rattle.indexmap.proofs.CallerLemmas.{insert_entry-new}
use Rattle.policy_lang.specs.Scopes.{meaning_of_value}
use Rattle.policy_lang.proofs.SameNames.{same_names}
use Rattle.policy_lang.proofs.Scopes.{declared_before, declared_now, none_there}
use Rattle.policy_lang.proofs.names.Scope.declare.Goals as goal

pub returns-else-not-contains_key-clause-names : goal.returns-else-not-contains_key-clause-names
returns-else-not-contains_key-clause-names c =
    declared_before c.args.name.now (meaning_of_value c.args.meaning) _ c.args.self.now.names.entries (same_names 31 c.args.name.now)
    (sym c.contains_key.ensures ∙ c.if-not-contains_key.false)

pub returns-in_ok-insert-clause-names : goal.returns-in_ok-insert-clause-names
returns-in_ok-insert-clause-names c =
    let none = sym c.contains_key.ensures ∙ c.if-not-contains_key.true in
    declared_now c.args.name.now c.args.meaning _ c.args.self.now.names.entries c.insert.new.self.entries (same_names 31 c.args.name.now) none
    (c.in_ok-insert.ensures.entries ∙ insert_entry-new _ c.args.self.now.names c.args.name.now c.args.meaning (none_there _ none))
