use Rattle.std.proofs.Common.{ap, refl}
use Rattle.machine_desk.specs.declared.inbound.Inbound.{Inbound}
use Rattle.serve_channels.proofs.Numbered.{numbers_at, there_at}
use Rattle.serve_channels.specs.Servers.{with_inbound}
use Rattle.serve_channels.proofs.server.Server.hear_input.Goals as goal

pub returns-clause-hears : goal.returns-clause-hears
returns-clause-hears g c = record {
  connection = c.index_mut.result.now;
  there = there_at c.args.self.now.connections.items c.args.at c.index_mut.result.now c.requires.within c.index_mut.ensures.value;
  number = refl;
  behind = c.hear.new.inbound;
  does = (c.in_ok-hear.ensures.ok, c.in_ok-hear.ensures.staged);
  rest = refl;
  all = refl;
}

pub returns-clause-numbers : goal.returns-clause-numbers
returns-clause-numbers g c =
    numbers_at c.args.self.now.connections.items c.args.self.now.connections.items c.args.at c.index_mut.result.now (with_inbound c.hear.new.inbound c.index_mut.result.now) refl
    c.requires.within c.index_mut.ensures.value (ap (λ (i : Inbound). i.connection) c.in_ok-hear.ensures.ok.stage)
