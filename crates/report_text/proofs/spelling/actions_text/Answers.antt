use Rattle.std.proofs.Common.{decimal, arith}
use Rattle.report_text.proofs.Flat.{joined_first, actions_joined}
use Rattle.report_text.proofs.spelling.actions_text.Goals as goal

pub returns-in-len1-up : goal.returns-in-len1-up
returns-in-len1-up g c =
    let joined = g.met.S.Sheet.joined in
    rw (actions_joined c.args.ports.now c.in-len1-up.len_at_least, joined_first decimal c.args.ports.now 0 (omega (arith, c.in-len1-up.len_at_least)))
    (joined _ _ _ _ _ c.text-in-len1-up.ensures (joined _ _ _ _ _ c.number.ensures c.further_ports.ensures))
