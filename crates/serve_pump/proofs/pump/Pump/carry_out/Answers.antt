use Rattle.std.proofs.Common.{[]}
use Rattle.serve_steps.specs.Texts.{script_asks}
use Rattle.serve_channels.specs.Controlling.{AnswersAhead}
use Rattle.serve_pump.proofs.Started.{carried_then, serving_fresh}
use Rattle.serve_pump.proofs.Followed.{serving_then}
use Rattle.serve_pump.proofs.pump.Pump.carry_out.Goals as goal

pub await_all-requires : goal.await_all-requires
await_all-requires g c =
    let a = c.args.self.now.server in
    record {
      serving = (
        [],
        serving_then (AnswersAhead (script_asks c.args.startup.now.first_line c.args.startup.now.script.now)) a c.script.new.self [] []
            (serving_fresh c.begin_laws.ensures.fresh [] a c.requires.fresh) (c.in_ok-end.ensures.goes []),
      );
    }

pub returns-clause-goes : goal.returns-clause-goes
returns-clause-goes g c = λ log.
    carried_then (script_asks c.args.startup.now.first_line c.args.startup.now.script.now) c.args.self.now.server c.script.new.self c.await_all.new.self log
    c.in_ok-await_all.ensures.connections (c.in_ok-end.ensures.goes log) (c.in_ok-await_all.ensures.goes log)
