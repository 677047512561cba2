use Rattle.std.proofs.Common.{arith}
use Rattle.report_text.proofs.Lengths.{short_ready}
use Rattle.report_text.proofs.spelling.ready.Goals as goal

pub returns-clause-short : goal.returns-clause-short
returns-clause-short g c = short_ready c.args.device c.args.switch (omega arith) (omega arith)
