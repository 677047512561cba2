use Rattle.std.proofs.Common.{take, length, refl, []}
use Rattle.std.proofs.Math.Seq.{take-length}
use Rattle.maple_io.specs.declared.act.Act.TheVariants as acts
use Rattle.maple_io.specs.declared.board.Sent.TheVariants as sends
use Rattle.maple_io.specs.Kept.{left_at}
use Rattle.maple_io.proofs.Sounds.{keeps_on, sends_more, sends_none}
use Rattle.maple_io.proofs.mem_board.MemBoardBoard.send.Goals as goal

pub invariant_of-self : goal.invariant_of-self
invariant_of-self c = keeps_on (left_at c.self.inside.cursor c.self.inside.turns.items) c.self.inside.taken.items c.self.inside.taken.items c.self.inside.links.items c.self.inside.log.value c.taking-self-inside.result.value (acts.Takes c.args.connection [] sends.Failed) (λ d. refl) (λ d. refl) (λ d. sends_none c.args.connection d sends.Failed c.self.inside.taken.items) c.taking-self-inside.ensures c.self.invariant

pub invariant_of-self-2 : goal.invariant_of-self-2
invariant_of-self-2 c = keeps_on (left_at c.self.inside.cursor c.self.inside.turns.items) c.self.inside.taken.items c.keep.new.taken.items c.self.inside.links.items c.self.inside.log.value c.taking-self-inside-2.result.value (acts.Takes c.args.connection (take (length c.args.piece.now) c.args.piece.now) (sends.Took (length c.args.piece.now))) (λ d. refl) (λ d. refl) (λ d. sends_more c.args.connection d (length c.args.piece.now) c.args.piece.now (sends.Took (length c.args.piece.now)) c.self.inside.taken.items c.keep.new.taken.items (take-length c.args.piece.now) c.in-Ok.ensures.kept) c.taking-self-inside-2.ensures c.self.invariant
