use Rattle.std.proofs.Common.{◌-◌, arith}
use Rattle.history_lock.specs.Passes.{known}
use Rattle.packet_workers.proofs.Rounding.{does_end, does_more}
use Rattle.packet_workers.proofs.Turning.{err_at, ok_at}
use Rattle.packet_workers.proofs.working.Task.+rounds.Goals as goal

pub returns-in-Err-clause-does : goal.returns-in-Err-clause-does
returns-in-Err-clause-does g t c =
    does_end c.args.self.now.item c.args.self.now.budget (known c.args.pass.now) (known c.round-outcome.new.pass) _ c.args.left (c.args.left - 1) (omega arith) (err_at c.round-outcome.result.0 _ _ c.in-Err.is c.round-outcome.ensures.ends)

pub returns-in-Ok-clause-does : goal.returns-in-Ok-clause-does
returns-in-Ok-clause-does g t c =
    does_more c.args.self.now.item c.args.self.now.budget (known c.args.pass.now) (known c.round-outcome.new.pass) (known c.rounds.new.pass) _ c.args.left (c.args.left - 1) (omega arith)
    (ok_at c.round-outcome.result.0 _ _ c.in-Ok.is c.round-outcome.ensures.back) c.rounds.ensures.does
