use Rattle.report_text.proofs.Flat.{ethernet_of}
use Rattle.report_text.proofs.match_text.ethernet_text.Goals as goal

pub returns : goal.returns
returns g c = rw (← ethernet_of c.args.address c.low_six.result c.six_pairs.result c.low_six.ensures c.six_pairs.ensures) c.text.ensures
