use Rattle.report_text.specs.Report.{spelled_hop}
use Rattle.report_text.proofs.Flat.{joined_first}
use Rattle.report_text.proofs.spelling.path_text.Goals as goal

pub returns-in-len1-up : goal.returns-in-len1-up
returns-in-len1-up g c =
    let joined = g.met.S.Sheet.joined in
    rw (joined_first spelled_hop c.args.hops.now (record { switch = 0; port = 0 }) c.in-len1-up.len_at_least)
    (joined _ _ _ _ _ c.text.ensures (joined _ _ _ _ _ c.hop_text.ensures c.further_hops.ensures))
