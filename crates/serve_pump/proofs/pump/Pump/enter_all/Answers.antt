use Rattle.serve_channels.specs.Delivering.{bytes_in}
use Rattle.serve_pump.specs.Turning.{Entered}
use Rattle.serve_pump.proofs.Followed.{awaited, serving_behind}
use Rattle.serve_pump.proofs.pump.Pump.enter_all.Goals as goal

pub await_all-requires : goal.await_all-requires
await_all-requires g c =
    let old = c.args.self.now in
    let log = c.requires.turned.0 in
    record {
      serving = (
        log,
        serving_behind c.args.turn (Entered c.args.turn (bytes_in c.args.turn old.room.items) old.reader) old.server c.enter.new.self.server log log c.requires.turned.1
            (c.in_ok-ended.ensures.enters log),
      );
    }

pub returns-in_ok-await_all-clause-enters : goal.returns-in_ok-await_all-clause-enters
returns-in_ok-await_all-clause-enters g c = λ log.
    let old = c.args.self.now in
    awaited c.args.turn (bytes_in c.args.turn old.room.items) old.reader old.server c.enter.new.self.server c.await_all.new.self log
    c.in_ok-await_all.ensures.connections (c.in_ok-ended.ensures.enters log) (c.in_ok-await_all.ensures.goes log)
