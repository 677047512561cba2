use Rattle.socket_board.proofs.Kept.{kept_start}
use Rattle.socket_board.proofs.board.SocketBoardBoard.start.Goals as goal

pub invariant_of-self : goal.invariant_of-self
invariant_of-self g c =
    kept_start _ _ _ _ _ _ _ c.self.invariant c.start_on-started.ensures.next c.start_on-started.ensures.ready c.start_on-started.ensures.failed
    c.starting-self-inside.ensures

pub invariant_of-self-in_default : goal.invariant_of-self-in_default
invariant_of-self-in_default g c =
    kept_start _ _ _ _ _ _ _ c.self.invariant c.start_on-started.ensures.next c.start_on-started.ensures.ready c.start_on-started.ensures.failed
    c.starting-self-inside.ensures
