use Rattle.std.proofs.Common.{refl, subst, sym, ◌≡◌, ℕ, true}
use Rattle.maple_io.specs.Boards.{was_opened}
use Rattle.serve_channels.proofs.Numbered.{there_at}
use Rattle.serve_channels.proofs.Shutting.{closes_at, was_opened_at}
use Rattle.serve_channels.proofs.server.Server.close_at.Goals as goal

pub close-requires : goal.close-requires
close-requires g c =
    subst (λ (n : ℕ). was_opened n (g.B.Board.tells c.args.board.now).log ≡ true) (sym c.connection.ensures)
    (was_opened_at (g.B.Board.tells c.args.board.now).log c.args.self.now c.args.at c.index.result.now c.requires.serving
    (there_at c.args.self.now.connections.items c.args.at c.index.result.now c.requires.within c.index.ensures))

pub returns-clause-closes : goal.returns-clause-closes
returns-clause-closes g c =
    closes_at c.args.at c.connection.result c.args.self.now _ (g.B.Board.tells c.args.board.now).log (g.B.Board.tells c.close.new.self).log c.index.result.now
    c.requires.within c.index.ensures c.requires.over c.connection.ensures c.close.ensures.log refl c.remove.ensures.items
