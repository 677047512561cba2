use Rattle.gen_laws.proofs.Refusals.{places_decide}
use Rattle.gen_laws.proofs.script_law.Goals as goal

pub returns : goal.returns
returns c = places_decide c.grammar_laws.ensures.read c.round_law.ensures
