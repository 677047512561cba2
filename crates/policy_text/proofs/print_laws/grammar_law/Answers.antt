use Rattle.policy_text.proofs.Dropped.{none_can_be_dropped}
use Rattle.policy_text.proofs.Lawful.{of_grammar, is_tree}
use Rattle.policy_text.proofs.Levels.{must_stand}
use Rattle.policy_text.proofs.print_laws.grammar_law.Goals as goal

pub returns : goal.returns
returns c = record { parentheses = must_stand; dropped = none_can_be_dropped; grammar = of_grammar; tree = is_tree }
