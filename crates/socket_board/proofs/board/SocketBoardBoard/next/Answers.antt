use Rattle.socket_board.proofs.Kept.{kept_turn, told_still}
use Rattle.socket_board.proofs.board.SocketBoardBoard.next.Goals as goal

pub invariant_of-self : goal.invariant_of-self
invariant_of-self g c =
    kept_turn _ _ _ _ _ _ c.self.invariant c.turn_of-turn.ensures.number c.turn_of-turn.ensures.started c.giving-self-inside.ensures

pub invariant_of-self-in-Broken : goal.invariant_of-self-in-Broken
invariant_of-self-in-Broken g c =
    kept_turn _ _ _ _ _ _ c.self.invariant c.turn_of-turn.ensures.number c.turn_of-turn.ensures.started c.giving-self-inside.ensures

pub invariant_of-self-in_default : goal.invariant_of-self-in_default
invariant_of-self-in_default g c =
    kept_turn _ _ _ _ _ _ c.self.invariant c.turn_of-turn.ensures.number c.turn_of-turn.ensures.started c.giving-self-inside.ensures

pub returns-in_default-clause-kept : goal.returns-in_default-clause-kept
returns-in_default-clause-kept g c = told_still _ _ _ _ _ _ _ c.self.view_is c.giving-self-inside.ensures
