use Rattle.std.proofs.Common.{codes, arith, rules}
use Rattle.report_text.specs.Report.{spelled_why}
use Rattle.report_text.proofs.Lengths.{short_bad, short_twice, short_early, short_word}
use Rattle.report_text.proofs.spelling.closed.Goals as goal

pub returns-in-Bad-clause-short : goal.returns-in-Bad-clause-short
returns-in-Bad-clause-short g c = rw c.in-Bad.is (short_bad c.args.device c.in-Bad.place c.in-Bad.cause (omega arith) (search rules) (search rules))

pub returns-in-Twice-clause-short : goal.returns-in-Twice-clause-short
returns-in-Twice-clause-short g c = rw c.in-Twice.is (short_twice c.args.device c.in-Twice.dpid (omega arith) (search rules))

pub returns-in-Early-clause-short : goal.returns-in-Early-clause-short
returns-in-Early-clause-short g c = rw c.in-Early.is (short_early c.args.device c.in-Early.xid (omega arith) (search rules))

pub returns-in-Version-clause-short : goal.returns-in-Version-clause-short
unfolding spelled_why
returns-in-Version-clause-short g c = rw c.in-Version.is (short_word c.args.device (codes "version") (omega arith) (omega arith))

pub returns-in-Full-clause-short : goal.returns-in-Full-clause-short
unfolding spelled_why
returns-in-Full-clause-short g c = rw c.in-Full.is (short_word c.args.device (codes "full") (omega arith) (omega arith))

pub returns-in-Clear-clause-short : goal.returns-in-Clear-clause-short
unfolding spelled_why
returns-in-Clear-clause-short g c = rw c.in-Clear.is (short_word c.args.device (codes "clear") (omega arith) (omega arith))

pub returns-in-Xids-clause-short : goal.returns-in-Xids-clause-short
unfolding spelled_why
returns-in-Xids-clause-short g c = rw c.in-Xids.is (short_word c.args.device (codes "xids") (omega arith) (omega arith))

pub returns-in-Link-clause-short : goal.returns-in-Link-clause-short
unfolding spelled_why
returns-in-Link-clause-short g c = rw c.in-Link.is (short_word c.args.device (codes "link") (omega arith) (omega arith))

pub returns-in-Fault-clause-short : goal.returns-in-Fault-clause-short
unfolding spelled_why
returns-in-Fault-clause-short g c = rw c.in-Fault.is (short_word c.args.device (codes "fault") (omega arith) (omega arith))
