use Rattle.policy_grammar.proofs.Readable.{texts_read, beginnings_read}
use Rattle.policy_grammar.proofs.Complete.{traced}
use Rattle.policy_grammar.proofs.laws.grammar_laws.Goals as goal

pub returns : goal.returns
returns c = record { texts = texts_read; beginnings = beginnings_read; events = traced }
