use Rattle.policy_text.proofs.Telling.{error_refused}
use Rattle.policy_text.proofs.reading.read_policy.Goals as goal

pub returns-in-Ok-clause-refused : goal.returns-in-Ok-clause-refused
returns-in-Ok-clause-refused c =
    error_refused c.one_file.ensures c.outline_laws.ensures.outline c.args.text.now c.in-Ok.tokens c.policy_of.result c.in-Ok.ensures.faultless c.in-Ok.ensures.tokens c.policy_of.ensures.wrong
