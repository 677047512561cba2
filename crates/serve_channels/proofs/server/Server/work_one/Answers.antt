use Rattle.machine_desk.proofs.Tended.{tends_still}
use Rattle.std.proofs.Common.{refl}
use Rattle.serve_channels.proofs.server.Server.work_one.Goals as goal
use Rattle.serve_channels.specs.Servers.{home}

pub returns-in_default-clause-tends : goal.returns-in_default-clause-tends
returns-in_default-clause-tends g c = tends_still home c.args.self.now refl
