use Rattle.std.proofs.Common.{codes, decimal, ◌++◌, subst}
use Rattle.report_text.specs.Report.{spelled_actions}
use Rattle.report_text.proofs.Flat.{flat_two}
use Rattle.report_text.proofs.spelling.hit.Goals as goal

pub returns : goal.returns
returns g c =
    let rest = g.met.S.Sheet.joined _ _ _ _ _ c.two.ensures (g.met.S.Sheet.joined _ _ _ _ _ (rw c.items.ensures at c.actions_text.ensures) c.text.ensures) in
    subst (λ t. g.S.Sheet.takes c.args.sheet.now t c.text.new.self)
    (flat_two (codes "hit c") (decimal c.args.device) (codes " ") (decimal c.args.port) (codes " ") (spelled_actions c.args.actions ++ codes "\n")) rest
