use Rattle.machine_desk.proofs.Rounds.{rounds_close, rounds_plain}
use Rattle.machine_desk.proofs.laws.working_laws.Goals as goal

pub returns : goal.returns
returns c = record { plain = rounds_plain; close = rounds_close }
