use Rattle.std.proofs.Common.{◌≡◌, ◌+◌, ◌<◌, ◌≤◌, ℕ, List, get_or, length, subst, sym, arith}
use Rattle.board_lines.specs.Queues.{QueueView, unsent}
use Rattle.board_lines.proofs.Pieces.{part_sent}
use Rattle.board_lines.proofs.Sends.{answers_one}
use Rattle.board_lines.proofs.send_queue.SendQueue.send_once.Goals as goal

pub returns-else-self-bytes-clause-steps : goal.returns-else-self-bytes-clause-steps
returns-else-self-bytes-clause-steps g c =
    let some : 0 < length (unsent c.self.inside.pieces.items c.self.inside.at) = subst (λ (q : QueueView). 0 < length q.rest) (sym c.self.view_is) c.requires in
    let few : c.self.inside.at + c.in-Took.count ≤ length c.items-bytes.result.now = omega (arith, c.in-Took.ensures.room) in
    let first : c.items-bytes.result.now ≡ get_or c.self.inside.pieces.items 0 c.items-bytes.result.now = subst (λ (x : List ℕ). x ≡ get_or c.self.inside.pieces.items 0 x) (sym c.items-bytes.ensures) c.index.ensures in
    rw (← c.self.view_is) (part_sent c.self.inside.pieces.items c.self.inside.at c.in-Took.count c.items-bytes.result.now c.self.inside.number c.self.inside.failed _ _ c.self.invariant some first c.in-Took.ensures.log few)

pub returns-in_default-clause-answers : goal.returns-in_default-clause-answers
returns-in_default-clause-answers g c = rw (← c.self.view_is) (answers_one c.self.inside.number c.send-sent.result _ (g.B.Board.tells c.args.board.now).log (g.B.Board.tells c.send-sent.new.self).log c.send-sent.ensures.log)
