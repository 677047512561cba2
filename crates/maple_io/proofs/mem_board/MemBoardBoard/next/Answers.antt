use Rattle.std.proofs.Common.{ap, length}
use Rattle.maple_io.specs.Schedules.{Schedule}
use Rattle.maple_io.specs.Kept.{left_at}
use Rattle.maple_io.proofs.Sounds.{gives, opens_anew}
use Rattle.maple_io.proofs.mem_board.MemBoardBoard.next.Goals as goal

pub invariant_of-self-2 : goal.invariant_of-self-2
invariant_of-self-2 c =
    gives (left_at c.self.inside.cursor c.self.inside.turns.items) (left_at c.give_next-turn.result.1 c.self.inside.turns.items) c.self.inside.taken.items c.self.inside.links.items
    c.self.inside.log.value c.giving-self-inside.result.value (length c.args.into.now) c.give_next-turn.result.0 c.give_next-turn.new.into
    (rw c.deref-2.ensures.value at c.give_next-turn.ensures.turn) (rw c.deref-2.ensures.value at c.give_next-turn.ensures.left) c.giving-self-inside.ensures c.self.invariant

pub returns-clause-anew : goal.returns-clause-anew
returns-clause-anew c =
    opens_anew (left_at c.self.inside.cursor c.self.inside.turns.items) c.self.inside.taken.items c.self.inside.links.items c.self.inside.log.value c.args.self.now.log
    (length c.args.into.now) c.give_next-turn.result.0 (rw c.deref-2.ensures.value at c.give_next-turn.ensures.turn) (ap (λ (s : Schedule). s.log) c.self.view_is) c.self.invariant
