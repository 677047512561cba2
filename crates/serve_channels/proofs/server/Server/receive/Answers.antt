use Rattle.std.proofs.Common.{take, refl}
use Rattle.maple_io.specs.declared.board.Turn.TheVariants as turn
use Rattle.machine_desk.proofs.Tended.{same_self}
use Rattle.serve_channels.specs.Delivering.{bytes_in}
use Rattle.serve_channels.proofs.Numbered.{numbers_same}
use Rattle.serve_channels.proofs.Taking.{fails_by, given_so, gives_bytes, not_fed, receives}
use Rattle.serve_channels.proofs.server.Server.receive.Goals as goal
use Rattle.serve_channels.specs.Servers.{home}

pub returns-in_ok-feed-clause-receives : goal.returns-in_ok-feed-clause-receives
returns-in_ok-feed-clause-receives g c = λ given before past kept.
    receives kept (turn.Bytes c.in-Bytes.number c.in-Bytes.count) (take c.in-Bytes.count c.next-turn.new.into) c.in-Bytes.ensures.log c.in-Bytes.ensures.anew c.in_ok-feed.ensures.feeds

pub returns-in_default : goal.returns-in_default
returns-in_default g c =
    let old = c.args.self.now in
    let t = c.next-turn.result in
    let into = c.next-turn.new.into in
    record {
      receives = λ given before past kept.
          receives kept t (bytes_in t into) (given_so (g.B.Board.tells c.args.board.now).log t into c.next-turn.ensures.log) c.next-turn.ensures.anew (not_fed t (bytes_in t into) old c.in_default.not-Bytes);
      within = c.next-turn.ensures.room;
      faults = fails_by t (g.B.Board.tells c.args.board.now) (g.B.Board.tells c.next-turn.new.self) c.next-turn.ensures.cause c.next-turn.ensures.spared;
      stopped = tt;
      numbers = numbers_same old;
      desk = refl;
      same = same_self home old;
    }

pub returns-in_ok-feed-clause-faults : goal.returns-in_ok-feed-clause-faults
returns-in_ok-feed-clause-faults g c =
    fails_by (turn.Bytes c.in-Bytes.number c.in-Bytes.count) (g.B.Board.tells c.args.board.now) (g.B.Board.tells c.next-turn.new.self) c.in-Bytes.ensures.cause c.in-Bytes.ensures.spared

pub returns-in_err-feed-clause-stopped : goal.returns-in_err-feed-clause-stopped
returns-in_err-feed-clause-stopped g c =
    gives_bytes c.from_residual.result c.in-Bytes.number c.in-Bytes.count (take c.in-Bytes.count c.next-turn.new.into) (g.B.Board.tells c.args.board.now) (g.B.Board.tells c.next-turn.new.self)
    c.in-Bytes.ensures.log c.in-Bytes.ensures.spared
