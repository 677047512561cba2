use Rattle.std.proofs.Common.{◌||◌, ap, refl}
use Rattle.machine_desk.specs.declared.inbound.Inbound.{Inbound}
use Rattle.serve_channels.proofs.Numbered.{numbers_at}
use Rattle.serve_channels.proofs.server.Server.leave.Goals as goal

pub returns-clause-numbers : goal.returns-clause-numbers
returns-clause-numbers g c =
    let k = c.index_mut-connection.result.now in
    numbers_at c.args.self.now.connections.items c.args.self.now.connections.items c.args.at k (record k { inbound = c.close.new.inbound; cut = k.cut || c.eq-was_live.result }) refl
    c.requires.within c.index_mut-connection.ensures.value (ap (λ (i : Inbound). i.connection) c.in_ok-close.ensures.ok.stage)
