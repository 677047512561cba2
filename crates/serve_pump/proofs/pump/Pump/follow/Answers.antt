use Rattle.serve_channels.specs.Delivering.{bytes_in}
use Rattle.serve_pump.specs.Turning.{Entered}
use Rattle.serve_pump.proofs.Followed.{followed, serving_behind}
use Rattle.serve_pump.proofs.pump.Pump.follow.Goals as goal

pub deliver-requires : goal.deliver-requires
deliver-requires g c =
    let old = c.args.self.now in
    let log = (g.B.Board.tells c.args.board.now).log in
    record {
      serving =
          serving_behind c.args.turn (Entered c.args.turn (bytes_in c.args.turn old.room.items) old.reader) old.server c.enter_all.new.self.server log log c.requires.turned
          (c.in_ok-ended.ensures.enters log);
    }

pub returns-clause-follows : goal.returns-clause-follows
returns-clause-follows g c =
    let old = c.args.self.now in
    let log = (g.B.Board.tells c.args.board.now).log in
    followed c.args.turn (bytes_in c.args.turn old.room.items) old.reader old.server c.enter_all.new.self.server c.deliver.new.self.server log _
    (c.in_ok-ended.ensures.enters log) c.in_ok-deliver.ensures.delivers
