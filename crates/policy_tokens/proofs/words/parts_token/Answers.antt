use Rattle.std.proofs.Common.{rules, ◌∙◌}
use Rattle.policy_tokens.proofs.Parts.{other_parts}
use Rattle.policy_tokens.proofs.words.parts_token.Goals as goal

pub returns-else-eq : goal.returns-else-eq
returns-else-eq c = c.part_of_name.ensures ∙ other_parts _ _ _ c.in_ok-front.ensures (search rules)
