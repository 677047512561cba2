use Rattle.std.proofs.Common.{ap, refl}
use Rattle.std.specs.Prelude.{is_some}
use Rattle.machine_desk.proofs.Tended.{attends_alone}
use Rattle.serve_channels.specs.Servers.{home}
use Rattle.serve_channels.proofs.server.Server.attend.Goals as goal

pub returns-in-None-clause-attends : goal.returns-in-None-clause-attends
returns-in-None-clause-attends g c =
    let old = c.args.self.now in
    let w = c.work.ensures in
    attends_alone home old (record old { desk = c.work.new.self }) refl w.footing (ap is_some c.in-None.is) refl c.args.item c.work.result w.works
    c.answered.result c.answered.ensures.whole
