use Rattle.board_lines.proofs.Pieces.{empty_queue}
use Rattle.board_lines.proofs.send_queue.SendQueue.is_empty.Goals as goal

pub returns : goal.returns
returns c = rw (← c.self.view_is) (empty_queue c.self.inside.pieces.items c.self.inside.at _ c.is_empty.result c.self.inside.pieces.ok.0 c.is_empty.ensures c.self.invariant)
