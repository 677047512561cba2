use Rattle.gen_script.proofs.Drawn.{rounds_in_range}
use Rattle.gen_script.proofs.laws.round_law.Goals as goal

pub returns : goal.returns
returns c = rounds_in_range
