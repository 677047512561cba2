use Rattle.serve_channels.proofs.Fresh.{fresh_is_kept}
use Rattle.serve_channels.proofs.laws.fresh_law.Goals as goal

pub returns : goal.returns
returns c = fresh_is_kept
