use Rattle.std.proofs.Common.{decimal, subst}
use Rattle.report_text.proofs.Flat.{flat_dotted}
use Rattle.report_text.proofs.match_text.four_numbers.Goals as goal

pub returns : goal.returns
returns g c =
    let joined = g.met.S.Sheet.joined in
    let all = joined _ _ _ _ _ c.one.ensures (joined _ _ _ _ _ c.one-2.ensures (joined _ _ _ _ _ c.one-3.ensures c.number.ensures)) in
    subst (λ t. g.S.Sheet.takes c.args.sheet.now t c.number.new.sheet) (flat_dotted (decimal c.args.a) (decimal c.args.b) (decimal c.args.c) (decimal c.args.d)) all
