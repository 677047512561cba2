use Rattle.std.proofs.Common.{map}
use Rattle.maple_top.specs.Outcomes.{switches}
use Rattle.maple_top.specs.Running.{read_texts}
use Rattle.maple_top.proofs.Commands.{printed}
use Rattle.maple_top.proofs.running.run_policy.Goals as goal

pub returns-in-Sim-clause-run : goal.returns-in-Sim-clause-run
returns-in-Sim-clause-run g c = rw (← c.in-Sim.is) at (c.simulate.ensures.run (g.B.Board.tells c.args.board.now))

pub returns-in-Check-clause-run : goal.returns-in-Check-clause-run
returns-in-Check-clause-run g c =
    rw (← c.in-Check.is) at
    (printed c.args.policy (read_texts c.args.texts.now) (switches (map g.D.Device.meaning c.args.all.now) (g.B.Board.tells c.args.board.now)) (g.O.Sink.tells c.args.to.now)
    (g.O.Sink.tells c.put_policy.new.output) c.put_policy.result c.put_policy.ensures.ends)

pub returns-in-Gen-clause-run : goal.returns-in-Gen-clause-run
returns-in-Gen-clause-run g c = rw (← c.in-Gen.is) at (c.sum_up.ensures.run c.in-Gen.number (g.B.Board.tells c.args.board.now))

pub returns-in-Serve-clause-run : goal.returns-in-Serve-clause-run
returns-in-Serve-clause-run g c = rw (← c.in-Serve.is) at (c.serve.ensures.run (map g.D.Device.meaning c.args.all.now))
