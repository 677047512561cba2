use Rattle.std.proofs.Common.{refl, sym, ◌∙◌, inr}
use Rattle.serve_channels.proofs.Numbered.{numbers_at, there_at}
use Rattle.serve_channels.proofs.Rounds.{sends_quietly}
use Rattle.serve_channels.proofs.server.Server.send_out.Goals as goal

pub returns-in_err-reach-clause-numbers : goal.returns-in_err-reach-clause-numbers
returns-in_err-reach-clause-numbers g c =
    numbers_at c.args.self.now.connections.items c.args.self.now.connections.items c.args.at c.index_mut.result.now
    (record c.index_mut.result.now { queue = c.send_all.new.queue }) refl c.requires.within c.index_mut.ensures.value refl

pub returns-in_err-reach-clause-quietly : goal.returns-in_err-reach-clause-quietly
returns-in_err-reach-clause-quietly g c =
    sends_quietly c.index_mut.result.now.queue.number (g.B.Board.tells c.args.board.now).log (g.B.Board.tells c.send_all.new.board).log c.in_err-reach.ensures.sends.acts

pub returns-clause-sends : goal.returns-clause-sends
returns-clause-sends g c = record {
  connection = c.index_mut.result.now;
  there = there_at c.args.self.now.connections.items c.args.at c.index_mut.result.now c.requires.within c.index_mut.ensures.value;
  queue = c.send_all.new.queue;
  how = inr (sym c.failed.ensures ∙ c.if-failed.false, c.in_ok-reach.reach, c.has_failed.ensures, c.in_ok-reach.ensures.sends);
  rest = refl;
  connections = refl;
}

pub returns-clause-numbers : goal.returns-clause-numbers
returns-clause-numbers g c =
    numbers_at c.args.self.now.connections.items c.args.self.now.connections.items c.args.at c.index_mut.result.now
    (record c.index_mut.result.now { queue = c.send_all.new.queue }) refl c.requires.within c.index_mut.ensures.value refl

pub returns-clause-quietly : goal.returns-clause-quietly
returns-clause-quietly g c =
    sends_quietly c.index_mut.result.now.queue.number (g.B.Board.tells c.args.board.now).log (g.B.Board.tells c.send_all.new.board).log c.in_ok-reach.ensures.sends.acts
