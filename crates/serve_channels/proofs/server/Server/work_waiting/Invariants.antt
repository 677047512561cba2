use Rattle.serve_channels.proofs.Attended.{TendsOn}
use Rattle.serve_channels.proofs.server.Server.work_waiting.Given as goal

-- some packets were worked so far
abbrev pub invariant-loop : goal.invariant-loop
invariant-loop g l = TendsOn l.fn.self l.self
