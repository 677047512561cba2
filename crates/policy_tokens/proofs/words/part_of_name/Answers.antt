use Rattle.std.proofs.Common.{refl}
use Rattle.policy_tokens.proofs.Parts.{unnamed}
use Rattle.policy_tokens.proofs.words.part_of_name.Goals as goal

pub returns-in-None : goal.returns-in-None
returns-in-None c = rw (unnamed c.args.front.now c.in-None.ensures.accepted) refl
