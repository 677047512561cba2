use Rattle.machine_moves.proofs.MoveEntries.{sessions_move, sessions_open}
use Rattle.machine_moves.proofs.Kept.{open_is_kept}
use Rattle.machine_moves.proofs.moves.session_laws.Goals as goal

pub returns-clause-moves : goal.returns-clause-moves
returns-clause-moves c = sessions_move

pub returns-clause-opens : goal.returns-clause-opens
returns-clause-opens c = sessions_open

pub returns-clause-kept : goal.returns-clause-kept
returns-clause-kept c = open_is_kept
