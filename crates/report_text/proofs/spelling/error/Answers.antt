use Rattle.std.proofs.Common.{arith}
use Rattle.report_text.proofs.Lengths.{short_error}
use Rattle.report_text.proofs.spelling.error.Goals as goal

pub returns-clause-short : goal.returns-clause-short
returns-clause-short g c = short_error c.args.device c.args.kind c.args.code (omega arith) (omega arith) (omega arith)
