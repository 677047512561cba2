use Rattle.socket_board.proofs.Kept.{kept_send}
use Rattle.socket_board.proofs.board.SocketBoardBoard.send.Goals as goal

pub invariant_of-self : goal.invariant_of-self
invariant_of-self g c =
    kept_send _ _ _ _ _ _ _ c.self.invariant c.send_on-sent.ensures.next c.send_on-sent.ensures.started c.taking-self-inside.ensures

pub invariant_of-self-in_default : goal.invariant_of-self-in_default
invariant_of-self-in_default g c =
    kept_send _ _ _ _ _ _ _ c.self.invariant c.send_on-sent.ensures.next c.send_on-sent.ensures.started c.taking-self-inside.ensures
