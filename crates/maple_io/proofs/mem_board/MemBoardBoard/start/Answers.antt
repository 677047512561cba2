use Rattle.std.proofs.Common.{refl, sym, append-nil}
use Rattle.maple_io.specs.declared.act.Act.TheVariants as acts
use Rattle.maple_io.specs.Kept.{left_at}
use Rattle.maple_io.proofs.Sounds.{keeps_on}
use Rattle.maple_io.proofs.mem_board.MemBoardBoard.start.Goals as goal

pub invariant_of-self-2 : goal.invariant_of-self-2
invariant_of-self-2 c = keeps_on (left_at c.self.inside.cursor c.self.inside.turns.items) c.self.inside.taken.items c.self.inside.taken.items c.self.inside.links.items c.self.inside.log.value c.starting-self-inside.result.value (acts.Starts c.args.listen c.args.control) (λ d. refl) (λ d. refl) (λ d. sym (append-nil _)) c.starting-self-inside.ensures c.self.invariant
