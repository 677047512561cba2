use Rattle.gen_script.proofs.Lengths.{short_script}
use Rattle.gen_script.proofs.laws.length_law.Goals as goal

pub returns : goal.returns
returns c = short_script
