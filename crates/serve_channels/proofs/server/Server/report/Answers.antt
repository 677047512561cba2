use Rattle.std.proofs.lemmas.Result.{on_ok_weaker}
use Rattle.serve_channels.proofs.TakenReport.{reported, still_reported, where_reported}
use Rattle.serve_channels.proofs.server.Server.report.Goals as goal

pub returns-clause-goes : goal.returns-clause-goes
returns-clause-goes g c =
    let a = c.args.self.now in
    let d = c.write_report.new.self in
    let old = g.O.Sink.tells c.args.out.now in
    let new = g.O.Sink.tells c.write_report.new.out in
    on_ok_weaker c.write_report.result (reported c.serving_laws.ensures a d old new c.law.ensures)
    (where_reported c.write_report.result a.desk d old new c.write_report.ensures.reports)

pub returns-clause-still : goal.returns-clause-still
returns-clause-still g c =
    let a = c.args.self.now in
    let d = c.write_report.new.self in
    let old = g.O.Sink.tells c.args.out.now in
    let new = g.O.Sink.tells c.write_report.new.out in
    on_ok_weaker c.write_report.result (still_reported c.serving_laws.ensures a d old new c.law.ensures)
    (where_reported c.write_report.result a.desk d old new c.write_report.ensures.reports)
