use Rattle.socket_board.proofs.Kept.{kept_close}
use Rattle.socket_board.proofs.board.SocketBoardBoard.close.Goals as goal

pub invariant_of-self : goal.invariant_of-self
invariant_of-self g c = kept_close _ _ _ _ _ c.self.invariant c.close_on.ensures.next c.close_on.ensures.started c.closing-self-inside.ensures
