use Rattle.std.proofs.Common.{arith}
use Rattle.history_lock.specs.Passes.{known}
use Rattle.packet_workers.proofs.Reading.{read_at_start}
use Rattle.packet_workers.proofs.view.HallView.new.Goals as goal

pub invariant_of-result : goal.invariant_of-result
invariant_of-result g c = (c.requires.hall, c.requires.name, (read_at_start g.J.Start.start (known c.args.pass.now) c.requires.start, (λ none. c.requires.small, λ some. absurd (omega arith)), c.requires.halls))
