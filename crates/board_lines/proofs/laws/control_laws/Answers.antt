use Rattle.board_lines.proofs.Bytewise.{any_first_line, any_pieces, begins_at, ends_at, goes_on_at}
use Rattle.board_lines.proofs.Orders.{begins_as_ordered}
use Rattle.board_lines.proofs.laws.control_laws.Goals as goal

pub returns-clause-begins : goal.returns-clause-begins
returns-clause-begins c = begins_at

pub returns-clause-goes_on : goal.returns-clause-goes_on
returns-clause-goes_on c = goes_on_at

pub returns-clause-ends : goal.returns-clause-ends
returns-clause-ends c = ends_at

pub returns-clause-pieces : goal.returns-clause-pieces
returns-clause-pieces c = any_pieces

pub returns-clause-numbered : goal.returns-clause-numbered
returns-clause-numbered c = any_first_line

pub returns-clause-ordered : goal.returns-clause-ordered
returns-clause-ordered c = begins_as_ordered
