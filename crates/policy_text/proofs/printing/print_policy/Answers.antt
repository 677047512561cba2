use Rattle.policy_text.proofs.ReadBack.{read_back}
use Rattle.policy_text.proofs.printing.print_policy.Goals as goal

pub returns-clause-reads_back : goal.returns-clause-reads_back
returns-clause-reads_back c = read_back c.grammar_law.ensures.grammar c.grammar_law.ensures.tree c.limit_law.ensures.limits c.spelling_law.ensures.spelled c.args.policy.now
