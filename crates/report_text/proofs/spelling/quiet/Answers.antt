use Rattle.std.proofs.Common.{arith}
use Rattle.report_text.proofs.Lengths.{short_quiet}
use Rattle.report_text.proofs.spelling.quiet.Goals as goal

pub returns-clause-short : goal.returns-clause-short
returns-clause-short g c = short_quiet c.args.switch c.args.retired (omega arith) (omega arith)
