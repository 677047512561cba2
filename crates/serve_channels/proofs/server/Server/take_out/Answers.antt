use Rattle.std.proofs.Common.{refl, ap}
use Rattle.serve_channels.specs.declared.server.Server.{Server}
use Rattle.serve_channels.proofs.Numbered.{numbers_at}
use Rattle.serve_channels.proofs.server.Server.take_out.Goals as goal

pub returns-clause-numbers : goal.returns-clause-numbers
returns-clause-numbers g c =
    numbers_at c.args.self.now.connections.items c.ask_for.new.self.connections.items c.args.at c.index_mut.result.now
    (record c.index_mut.result.now { queue = c.put.new.self }) (ap (λ (s : Server). s.connections.items) c.in_ok-bytes.ensures.rest) c.requires.within
    c.index_mut.ensures.value refl
