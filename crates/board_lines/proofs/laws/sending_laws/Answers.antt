use Rattle.board_lines.proofs.Sends.{nothing_else}
use Rattle.board_lines.proofs.laws.sending_laws.Goals as goal

pub returns : goal.returns
returns c = nothing_else
