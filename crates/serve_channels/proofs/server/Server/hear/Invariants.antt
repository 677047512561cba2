use Rattle.serve_channels.specs.Passing.{rest_at}
use Rattle.serve_channels.proofs.InOrder.{HearsOn}
use Rattle.serve_channels.proofs.server.Server.hear.Given as goal

abbrev pub invariant-loop-came : goal.invariant-loop-came
invariant-loop-came g l = HearsOn l.number l.at l.fn.self l.self

abbrev pub decreases-loop-came : goal.decreases-loop-came
decreases-loop-came g l = rest_at l.at l.self
