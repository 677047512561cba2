use Rattle.std.proofs.Common.{ap, ◌∙◌}
use Rattle.policy_lang.specs.Scopes.{meaning_known}
use Rattle.policy_lang.proofs.SameNames.{same_names}
use Rattle.policy_lang.proofs.Scopes.{meaning_found}
use Rattle.policy_lang.proofs.names.Scope.meaning.Goals as goal

pub returns-clause-meaning : goal.returns-clause-meaning
returns-clause-meaning c =
    ap meaning_known (c.copied.ensures ∙ c.get.ensures.value)
    ∙ meaning_found c.args.name.now _ c.args.self.now.names.entries (same_names 31 c.args.name.now)
